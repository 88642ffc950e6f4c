-- The calls of a measurement that isn't refused, and of each statement.
use Rattle.std.proofs.Common.{◌≡◌, ℕ, zero, suc, ◌+◌, ◌<◌, List, [], ◌∷◌, ◌++◌, map, Option, Some, None, refl, ap, ◌∙◌, subst, inl, inr, arith}
use Rattle.std.specs.List.{range_with_len}
use Rattle.qasm_form.specs.declared.stmt.Arg.{Arg}
use Rattle.qasm_form.specs.declared.stmt.Stmt.{Stmt}
use Rattle.qasm_form.specs.declared.stmt.Stmt.TheVariants as stmt
use Rattle.qasm_names.specs.declared.fault.ScopeKind.TheVariants as kind
use Rattle.qasm_names.specs.Names.{Environment, qubit_size, bit_size, value_or}
use Rattle.qasm_names.specs.Environment.{enter, environment}
use Rattle.qasm_names.specs.Applications.{Place, times_by, applications, applied}
use Rattle.qasm_names.specs.Refusals.{SomeTwo, DifferInSize, ReadsUnevenly}
use Rattle.qasm_names.specs.Accepted.{IsAdmissible}
use Rattle.qasm_expand.specs.declared.kind.RegisterKind.TheVariants as register
use Rattle.qasm_expand.specs.Items.{qubit_count, bit_count, measurement, items_of}
use Rattle.qasm_expand.specs.RegisterKinds.{IsPlaceIn}
use Rattle.qasm_expand.proofs.EnvironmentLemmas.{IsBare}
use Rattle.qasm_expand.proofs.AdmissibleLemmas.{fine_args, place_of, same_size, places_of}
use Rattle.qasm_expand.proofs.NumberingLemmas.{number-below, number-one}
use Rattle.qasm_expand.proofs.ApplicationsLemmas.{IsFresh, ReadsSoFar, now_read}
use Rattle.qasm_expand.proofs.SoundItems.{IsSound, Spares, AllSpare}
use Rattle.qasm_expand.proofs.StatementLemmas.{AreGood, all_range, all_map, numbers_fresh, call_good}

no_two_in_one : {X : Type 0} (R : X → X → Type 0) (x : X) → SomeTwo R (x ∷ []) → ⊥
no_two_in_one R x (i, zero, a, b, less, at_i, at_j, r) = omega (arith, less)
no_two_in_one R x (i, suc j, a, b, less, at_i, at_j, r) = cc (at_j)

-- a measurement of a register into one is as large as both
bits_within : (e : Environment) (from into : Arg) (k s t : ℕ) (a b : Option ℕ) → qubit_size e from.word ≡ Some s → bit_size e into.word ≡ Some t → (ReadsUnevenly e from into a b → ⊥) → k < times_by e from a 1 → b ≡ None → k < t
bits_within e from into k s t (Some i) None qubits bits not less none = absurd (not tt)
bits_within e from into k s t a (Some j) qubits bits not less none = absurd (cc (none))
bits_within e from into k s t None None qubits bits not less none =
    let same : qubit_size e from.word ≡ bit_size e into.word = same_size (qubit_size e from.word) (bit_size e into.word) not in
    subst (λ o. k < value_or o 0) (same ∙ bits) less

-- one application of a measurement
pub record IsGoodReading (header pre all : List Stmt) (from into : Arg) (k : ℕ) : Type 0 where
  pub qubit : IsPlaceIn register.Qubit all (applied from k)
  pub bit : IsPlaceIn register.Bit all (applied into k)

pub good_reading : (header pre suf : List Stmt) (from into : Arg) (at k : ℕ) → IsBare header → IsAdmissible header pre (stmt.Measure from into at) → k < applications (environment header pre) (from ∷ []) → IsGoodReading header pre (pre ++ suf) from into k
good_reading header pre suf from into at k bare admissible less =
    let e = environment header pre in
    let froms = fine_args register.Qubit e (from ∷ []) (λ at h. admissible kind.NotDeclared at (inl h)) (λ at h. admissible kind.Index at (inl h)) in
    let intos = fine_args register.Bit e (into ∷ []) (λ at h. admissible kind.NotDeclared at (inr h)) (λ at h. admissible kind.Index at (inr h)) in
    let places = places_of header pre suf (from ∷ []) k bare froms (no_two_in_one (DifferInSize e) from) less in
    record {
      qubit = places.0;
      bit = place_of register.Bit header pre suf into k bare intos.0 (bits_within e from into k froms.0.size intos.0.size from.index into.index froms.0.is intos.0.is (λ h. admissible kind.Sizes at (h, refl)) less);
    }

-- two applications read two qubits
apart_readings : (e : Environment) (from : Arg) (i j : ℕ) (index : Option ℕ) → i < j → j < times_by e from index 1 → value_or index i ≡ value_or index j → ⊥
apart_readings e from i j None less within same = omega (arith, less, same)
apart_readings e from i j (Some at) less within same = omega (arith, less, within)

reading_spares : (e : Environment) (all : List Stmt) (from into : Arg) (i j : ℕ) → i < j → j < applications e (from ∷ []) → IsPlaceIn register.Qubit all (applied from i) → IsPlaceIn register.Qubit all (applied from j) → Spares (measurement all from into i) (measurement all from into j)
reading_spares e all from into i j less within p q (inl same) =
    apart_readings e from i j from.index less within (ap (λ (x : Place). x.1) (number-one register.Qubit all (applied from i) (applied from j) p q same))
reading_spares e all from into i j less within p q (inr a) = absurd a

readings_spare : (e : Environment) (all : List Stmt) (from into : Arg) (a n : ℕ) → ((k : ℕ) → k < a + n → k < applications e (from ∷ [])) → ((k : ℕ) → k < a + n → IsPlaceIn register.Qubit all (applied from k)) → AllSpare (map (measurement all from into) (range_with_len a n))
readings_spare e all from into a zero within at = tt
readings_spare e all from into a (suc n) within at =
    (all_map (Spares (measurement all from into a)) (measurement all from into) (range_with_len (a + 1) n) (all_range (λ k. Spares (measurement all from into a) (measurement all from into k)) (a + 1) n (λ k low high. reading_spares e all from into a k (omega arith) (within k (omega arith)) (at a (omega arith)) (at k (omega arith)))), readings_spare e all from into (a + 1) n (λ k high. within k (omega arith)) (λ k high. at k (omega arith)))

measure_good : (header pre suf : List Stmt) (from into : Arg) (at : ℕ) → IsBare header → IsAdmissible header pre (stmt.Measure from into at) → AreGood header pre (stmt.Measure from into at) (pre ++ suf) (items_of (environment header pre) (pre ++ suf) (stmt.Measure from into at))
measure_good header pre suf from into at bare admissible =
    let e = environment header pre in
    let all = pre ++ suf in
    let s = stmt.Measure from into at in
    let n = applications e (from ∷ []) in
    let good = λ (k : ℕ) (less : k < n). good_reading header pre suf from into at k bare admissible less in
    let fresh = λ (k : ℕ) (less : k < n). numbers_fresh e pre all k (from ∷ []) ((good k less).qubit, tt) (λ r. admissible kind.AfterRead at ((k, less, r), refl)) in
    record {
      each = all_map (IsSound (environment header all).gates (qubit_count all) (bit_count all)) (measurement all from into) (range_with_len 0 n) (all_range (λ k. IsSound (environment header all).gates (qubit_count all) (bit_count all) (measurement all from into k)) 0 n (λ k low high. (number-below register.Qubit all (applied from k) (good k (omega arith)).qubit, number-below register.Bit all (applied into k) (good k (omega arith)).bit)));
      spare = readings_spare e all from into 0 n (λ k high. omega arith) (λ k high. (good k (omega arith)).qubit);
      fresh = all_map (IsFresh e pre all) (measurement all from into) (range_with_len 0 n) (all_range (λ k. IsFresh e pre all (measurement all from into k)) 0 n (λ k low high. fresh k (omega arith)));
      reads = all_map (ReadsSoFar (enter e s) (pre ++ s ∷ []) all) (measurement all from into) (range_with_len 0 n) (all_range (λ k. ReadsSoFar (enter e s) (pre ++ s ∷ []) all (measurement all from into k)) 0 n (λ k low high. record { place = applied from k; at = (good k (omega arith)).qubit; number = refl; read = now_read header pre from into at k bare (omega arith) }));
    }

none_good : (header pre : List Stmt) (s : Stmt) (all : List Stmt) → AreGood header pre s all []
none_good header pre s all = record { each = tt; spare = tt; fresh = tt; reads = tt }

-- each statement
pub statement_good : (header pre suf : List Stmt) (s : Stmt) → IsBare header → IsAdmissible header pre s → AreGood header pre s (pre ++ suf) (items_of (environment header pre) (pre ++ suf) s)
statement_good header pre suf (stmt.Call call) bare admissible = call_good header pre suf call bare admissible
statement_good header pre suf (stmt.Measure from into at) bare admissible = measure_good header pre suf from into at bare admissible
statement_good header pre suf (stmt.Barrier args at) bare admissible = record { each = (tt, tt); spare = (tt, tt); fresh = (λ q a. absurd a, tt); reads = (tt, tt) }
statement_good header pre suf other bare admissible = none_good header pre other (pre ++ suf)
