-- The calls of a statement that isn't refused.
use Rattle.std.proofs.Common.{ℕ, zero, suc, ◌+◌, ◌<◌, ◌≤◌, List, [], ◌∷◌, ◌++◌, map, length, refl, sym, subst, inl, inr, arith}
use Rattle.std.specs.List.{AllByRecursion, Any, range_with_len}
use Rattle.std.proofs.lemmas.List.{length-map}
use Rattle.qasm_form.specs.declared.stmt.Arg.{Arg}
use Rattle.qasm_form.specs.declared.stmt.BodyOp.{BodyOp}
use Rattle.qasm_form.specs.declared.stmt.Stmt.{Stmt}
use Rattle.qasm_form.specs.declared.stmt.Stmt.TheVariants as stmt
use Rattle.qasm_names.specs.declared.fault.ScopeKind.TheVariants as kind
use Rattle.qasm_names.specs.declared.gate.Target.{Target}
use Rattle.qasm_names.specs.Names.{Environment}
use Rattle.qasm_names.specs.Environment.{enter, environment}
use Rattle.qasm_names.specs.Applications.{applications, applied, WasRead}
use Rattle.qasm_names.specs.Refusals.{SomeTwo, DifferInSize, RepeatsQubit, TouchesRead}
use Rattle.qasm_names.specs.Accepted.{IsAdmissible}
use Rattle.qasm_expand.specs.declared.kind.RegisterKind.TheVariants as register
use Rattle.qasm_expand.specs.Items.{Item, qubit_number, qubit_count, bit_count, application, items_of}
use Rattle.qasm_expand.specs.RegisterKinds.{IsPlaceIn}
use Rattle.qasm_expand.specs.Fit.{Suits}
use Rattle.qasm_expand.proofs.EnvironmentLemmas.{IsBare}
use Rattle.qasm_expand.proofs.AdmissibleLemmas.{IsAdmissibleArg, fine_args, any_head, any_tail, places_of, numbers_apart}
use Rattle.qasm_expand.proofs.GateLemmas.{target_in, call_suits}
use Rattle.qasm_expand.proofs.NumberingLemmas.{number-below}
use Rattle.qasm_expand.proofs.ApplicationsLemmas.{Untouched, IsFresh, ReadsSoFar}
use Rattle.qasm_expand.proofs.SoundItems.{Among, TakesQubits, IsSound, Spares, AllSpare, takes_qubits, all_of}

-- the numbers from one on
pub all_range : (P : ℕ → Type 0) (a n : ℕ) → ((k : ℕ) → a ≤ k → k < a + n → P k) → AllByRecursion P (range_with_len a n)
all_range P a zero h = tt
all_range P a (suc n) h = (h a (omega arith) (omega arith), all_range P (a + 1) n (λ k low high. h k (omega arith) (omega arith)))

pub all_map : {X Y : Type 0} (P : Y → Type 0) (f : X → Y) (xs : List X) → AllByRecursion (λ x. P (f x)) xs → AllByRecursion P (map f xs)
all_map P f [] h = tt
all_map P f (x ∷ xs) h = (h.0, all_map P f xs h.1)

-- the calls of a statement, behind pre, in a program of these statements
pub record AreGood (header pre : List Stmt) (s : Stmt) (all : List Stmt) (items : List Item) : Type 0 where
  pub each : AllByRecursion (IsSound (environment header all).gates (qubit_count all) (bit_count all)) items
  pub spare : AllSpare items
  pub fresh : AllByRecursion (IsFresh (environment header pre) pre all) items
  pub reads : AllByRecursion (ReadsSoFar (enter (environment header pre) s) (pre ++ s ∷ []) all) items

-- the number of an argument in an application
abbrev pub numbered : List Stmt → ℕ → Arg → ℕ
numbered all k arg = qubit_number all (applied arg k)

numbers_below : (all : List Stmt) (k : ℕ) (args : List Arg) → AllByRecursion (λ (arg : Arg). IsPlaceIn register.Qubit all (applied arg k)) args → AllByRecursion (λ q. q < qubit_count all) (map (numbered all k) args)
numbers_below all k [] h = tt
numbers_below all k (arg ∷ args) h = (number-below register.Qubit all (applied arg k) h.0, numbers_below all k args h.1)

pub numbers_fresh : (e : Environment) (before all : List Stmt) (k : ℕ) (args : List Arg) → AllByRecursion (λ (arg : Arg). IsPlaceIn register.Qubit all (applied arg k)) args → (Any (λ arg. WasRead e before (applied arg k)) args → ⊥) → (q : ℕ) → Among q (map (numbered all k) args) → Untouched e before all q
numbers_fresh e before all k [] h not q a = absurd a
numbers_fresh e before all k (arg ∷ args) h not q (inl is) = record {
  place = applied arg k;
  at = h.0;
  number = is;
  unread = λ r. not (any_head (λ arg. WasRead e before (applied arg k)) arg args r);
}
numbers_fresh e before all k (arg ∷ args) h not q (inr a) = numbers_fresh e before all k args h.1 (λ r. not (any_tail (λ arg. WasRead e before (applied arg k)) arg args r)) q a

-- one application of a call
pub record IsGoodCall (header pre : List Stmt) (all : List Stmt) (item : Item) : Type 0 where
  pub sound : IsSound (environment header all).gates (qubit_count all) (bit_count all) item
  pub fresh : IsFresh (environment header pre) pre all item

good_call : (header pre suf : List Stmt) (call : BodyOp) (k : ℕ) → IsBare header → AllByRecursion (IsAdmissibleArg register.Qubit (environment header pre)) call.args → (SomeTwo (DifferInSize (environment header pre)) call.args → ⊥) → (RepeatsQubit (environment header pre) call.args → ⊥) → (TouchesRead (environment header pre) pre call.args → ⊥) → Suits (environment header (pre ++ suf)).gates (target_in (environment header pre) call) (length call.exprs) (length call.args) → k < applications (environment header pre) call.args → IsGoodCall header pre (pre ++ suf) (application (pre ++ suf) (target_in (environment header pre) call) call k)
good_call header pre suf call k bare admissible sizes repeated touched suits less =
    let e = environment header pre in
    let all = pre ++ suf in
    let gates = (environment header all).gates in
    let t = target_in e call in
    let places = places_of header pre suf call.args k bare admissible sizes less in
    let takes = takes_qubits gates (length gates) (length call.exprs) (length call.args) t suits in
    record {
      sound = (numbers_below all k call.args places, (numbers_apart all call.args k places (λ two. repeated (k, less, two)), subst (TakesQubits gates t) (sym (length-map call.args (numbered all k))) takes));
      fresh = numbers_fresh e pre all k call.args places (λ r. touched (k, less, r));
    }

calls_spare : (all : List Stmt) (t : Target) (call : BodyOp) (ks : List ℕ) → AllSpare (map (application all t call) ks)
calls_spare all t call [] = tt
calls_spare all t call (k ∷ ks) = (all_of (Spares (application all t call k)) (λ y. tt) (map (application all t call) ks), calls_spare all t call ks)

pub call_good : (header pre suf : List Stmt) (call : BodyOp) → IsBare header → IsAdmissible header pre (stmt.Call call) → AreGood header pre (stmt.Call call) (pre ++ suf) (items_of (environment header pre) (pre ++ suf) (stmt.Call call))
call_good header pre suf call bare admissible =
    let e = environment header pre in
    let all = pre ++ suf in
    let s = stmt.Call call in
    let t = target_in e call in
    let n = applications e call.args in
    let args = fine_args register.Qubit e call.args (λ at h. admissible kind.NotDeclared at (inl h)) (λ at h. admissible kind.Index at (inl h)) in
    let suits = call_suits header pre suf call (λ h. admissible kind.Params call.at (0, call, omega arith, refl, (h, refl))) (λ h. admissible kind.Arity call.at (0, call, omega arith, refl, (h, refl))) in
    let good = λ (k : ℕ) (less : k < n). good_call header pre suf call k bare args (λ h. admissible kind.Sizes call.at (h, refl)) (λ h. admissible kind.Repeated call.at (h, refl)) (λ h. admissible kind.AfterRead call.at (h, refl)) suits less in
    record {
      each = all_map (IsSound (environment header all).gates (qubit_count all) (bit_count all)) (application all t call) (range_with_len 0 n) (all_range (λ k. IsSound (environment header all).gates (qubit_count all) (bit_count all) (application all t call k)) 0 n (λ k low high. (good k (omega arith)).sound));
      spare = calls_spare all t call (range_with_len 0 n);
      fresh = all_map (IsFresh e pre all) (application all t call) (range_with_len 0 n) (all_range (λ k. IsFresh e pre all (application all t call k)) 0 n (λ k low high. (good k (omega arith)).fresh));
      reads = all_map (ReadsSoFar (enter e s) (pre ++ s ∷ []) all) (application all t call) (range_with_len 0 n) (all_range (λ k. ReadsSoFar (enter e s) (pre ++ s ∷ []) all (application all t call k)) 0 n (λ k low high. tt));
    }
