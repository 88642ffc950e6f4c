-- The native list of a program whose statements aren't refused is valid.
use Rattle.std.proofs.Common.{◌≡◌, ℕ, List, [], ◌∷◌, ◌++◌, refl, sym, ◌∙◌, subst, append_assoc}
use Rattle.std.specs.List.{AllByRecursion}
use Rattle.zac_gates.specs.Ops.{IsValid}
use Rattle.qasm_form.specs.declared.stmt.Stmt.{Stmt}
use Rattle.qasm_names.specs.Names.{Environment}
use Rattle.qasm_names.specs.Environment.{enter, environment, opening_names}
use Rattle.qasm_names.specs.Accepted.{AreAdmissible}
use Rattle.qasm_expand.specs.Items.{Item, qubit_count, bit_count, items_of, items_behind, program_items}
use Rattle.qasm_expand.specs.Native.{native_circuit}
use Rattle.qasm_expand.specs.Replacing.{Expands}
use Rattle.qasm_names.specs.Bound.{IsWellBound}
use Rattle.qasm_expand.proofs.EnvironmentLemmas.{IsBare, after-append}
use Rattle.qasm_expand.proofs.MeasureLemmas.{statement_good}
use Rattle.qasm_expand.proofs.ApplicationsLemmas.{IsFresh, fresh_cross, fresh_before}
use Rattle.qasm_expand.proofs.SoundItems.{IsSound, AllSpare, AreSound, all_join, all_mapped, spare_join, expanded_sound}
use Rattle.qasm_expand.proofs.SoundOps.{sound_valid}
use Rattle.qasm_expand.proofs.StatementLemmas.{AreGood}

-- the calls of the statements behind these
pub record AreGoodBehind (header pre all : List Stmt) (items : List Item) : Type 0 where
  pub each : AllByRecursion (IsSound (environment header all).gates (qubit_count all) (bit_count all)) items
  pub spare : AllSpare items
  pub fresh : AllByRecursion (IsFresh (environment header pre) pre all) items

one_more : (header pre : List Stmt) (s : Stmt) (all : List Stmt) (xs ys : List Item) → IsBare header → AreGood header pre s all xs → AreGoodBehind header (pre ++ s ∷ []) all ys → AreGoodBehind header pre all (xs ++ ys)
one_more header pre s all xs ys bare good rest =
    let e = environment header pre in
    let later : AllByRecursion (IsFresh (enter e s) (pre ++ s ∷ []) all) ys = subst (λ (x : Environment). AllByRecursion (IsFresh x (pre ++ s ∷ []) all) ys) (after-append (opening_names header) pre (s ∷ [])) rest.fresh in
    record {
      each = all_join (IsSound (environment header all).gates (qubit_count all) (bit_count all)) xs ys good.each rest.each;
      spare = spare_join xs ys good.spare rest.spare (fresh_cross (enter e s) (pre ++ s ∷ []) all xs ys good.reads later);
      fresh = all_join (IsFresh e pre all) xs ys good.fresh (all_mapped (IsFresh (enter e s) (pre ++ s ∷ []) all) (IsFresh e pre all) (λ y f. fresh_before header pre all s y bare f) ys later);
    }

behind_good : (header pre suf all : List Stmt) → all ≡ pre ++ suf → IsBare header → AreAdmissible header pre suf → AreGoodBehind header pre all (items_behind (environment header pre) all suf)
behind_good header pre [] all is bare admissible = record { each = tt; spare = tt; fresh = tt }
behind_good header pre (s ∷ suf) all is bare admissible =
    let e = environment header pre in
    let here : AreGood header pre s all (items_of e all s) = subst (λ ss. AreGood header pre s ss (items_of e ss s)) (sym is) (statement_good header pre (s ∷ suf) s bare admissible.0) in
    let there = behind_good header (pre ++ s ∷ []) suf all (is ∙ sym (append_assoc pre (s ∷ []) suf)) bare admissible.1 in
    let rest : AreGoodBehind header (pre ++ s ∷ []) all (items_behind (enter e s) all suf) = subst (λ (x : Environment). AreGoodBehind header (pre ++ s ∷ []) all (items_behind x all suf)) (after-append (opening_names header) pre (s ∷ [])) there in
    one_more header pre s all (items_of e all s) (items_behind (enter e s) all suf) bare here rest

pub program_sound : (header ss : List Stmt) → IsBare header → AreAdmissible header [] ss → AreSound (environment header ss).gates (qubit_count ss) (bit_count ss) (program_items header ss)
program_sound header ss bare admissible =
    let good = behind_good header [] ss ss refl bare admissible in
    record { each = good.each; spare = good.spare }

pub expansion_valid : (header ss : List Stmt) (items : List Item) → IsBare header → AreAdmissible header [] ss → ((place : ℕ) → IsWellBound (environment header ss).gates place) → Expands (environment header ss).gates (program_items header ss) items → IsValid (native_circuit ss items)
expansion_valid header ss items bare admissible bound expands =
    let gates = (environment header ss).gates in
    let plain = expanded_sound gates (qubit_count ss) (bit_count ss) (program_items header ss) items bound expands (program_sound header ss bare admissible) in
    sound_valid gates ss items plain.sound
