-- The calls of each statement bring what the walk asks.
use Rattle.std.proofs.Common.{◌≡◌, ℕ, suc, ◌<◌, List, [], ◌∷◌, ◌++◌, map, length, take, drop, Some, None, refl, ap, sym, subst, arith}
use Rattle.std.specs.List.{AllByRecursion, slice_get, range_with_len}
use Rattle.qasm_form.specs.declared.stmt.Arg.{Arg}
use Rattle.qasm_form.specs.declared.stmt.BodyOp.{BodyOp}
use Rattle.qasm_form.specs.declared.stmt.Stmt.{Stmt}
use Rattle.qasm_form.specs.declared.stmt.Stmt.TheVariants as stmt
use Rattle.qasm_names.specs.declared.fault.ScopeKind.TheVariants as kind
use Rattle.qasm_names.specs.Environment.{environment}
use Rattle.qasm_names.specs.Applications.{applications, applied}
use Rattle.qasm_names.specs.Accepted.{AreAdmissible}
use Rattle.std.proofs.Common.{inl}
use Rattle.qasm_expand.specs.declared.kind.RegisterKind.TheVariants as register
use Rattle.qasm_expand.specs.AngleNodes.{HasNoNames}
use Rattle.qasm_expand.specs.Calls.{at_depth}
use Rattle.qasm_expand.specs.Items.{application, measurement, items_of}
use Rattle.qasm_expand.specs.Limits.{passed_before_calls}
use Rattle.qasm_expand.specs.RegisterKinds.{IsPlaceIn}
use Rattle.qasm_expand.specs.Sized.{sized}
use Rattle.qasm_expand.specs.Top.{visits_of, readings_of}
use Rattle.qasm_expand.specs.Fit.{Suits}
use Rattle.qasm_expand.proofs.BeforeLemmas.{small_before_calls}
use Rattle.qasm_expand.proofs.EnvironmentLemmas.{IsBare}
use Rattle.qasm_expand.proofs.AdmissibleLemmas.{fine_args, places_of}
use Rattle.qasm_expand.proofs.GateLemmas.{target_in, call_suits}
use Rattle.qasm_expand.proofs.MeasureLemmas.{IsGoodReading, good_reading}
use Rattle.qasm_expand.proofs.ReadyLemmas.{stands_at, call_closed, applications_same}

-- a call at the top
pub record IsReadyCall (header ss : List Stmt) (i : ℕ) (call : BodyOp) : Type 0 where
  pub closed : AllByRecursion HasNoNames call.exprs
  pub suits : Suits (environment header ss).gates (target_in (environment header (take i ss)) call) (length call.exprs) (length call.args)
  pub places : (k : ℕ) → k < applications (sized ss) call.args → AllByRecursion (λ (arg : Arg). IsPlaceIn register.Qubit ss (applied arg k)) call.args
  pub visits : visits_of ss (target_in (environment header (take i ss)) call) call ≡ at_depth 1 (items_of (environment header (take i ss)) ss (stmt.Call call))

pub ready_call : (header ss : List Stmt) (i : ℕ) (call : BodyOp) → IsBare header → AreAdmissible header [] ss → passed_before_calls ss ≡ None → slice_get ss i ≡ Some (stmt.Call call) → IsReadyCall header ss i call
ready_call header ss i call bare admissible before at =
    let s = stmt.Call call in
    let pre = take i ss in
    let suf = s ∷ drop (suc i) ss in
    let e = environment header pre in
    let stands = stands_at header ss i s admissible at in
    let good = stands.admissible in
    let args = fine_args register.Qubit e call.args (λ at h. good kind.NotDeclared at (inl h)) (λ at h. good kind.Index at (inl h)) in
    let back = sym stands.whole in
    let times : applications e call.args ≡ applications (sized ss) call.args = subst (λ all. applications e call.args ≡ applications (sized all) call.args) back (applications_same header pre suf call.args bare args) in
    let places : (k : ℕ) → k < applications e call.args → AllByRecursion (λ (arg : Arg). IsPlaceIn register.Qubit ss (applied arg k)) call.args = λ k less. subst (λ all. AllByRecursion (λ (arg : Arg). IsPlaceIn register.Qubit all (applied arg k)) call.args) back (places_of header pre suf call.args k bare args (λ h. good kind.Sizes call.at (h, refl)) less) in
    let suits : Suits (environment header (pre ++ suf)).gates (target_in e call) (length call.exprs) (length call.args) = call_suits header pre suf call (λ h. good kind.Params call.at (0, call, omega arith, refl, (h, refl))) (λ h. good kind.Arity call.at (0, call, omega arith, refl, (h, refl))) in
    record {
      closed = call_closed header ss i call good (small_before_calls ss before).literals at;
      suits = subst (λ all. Suits (environment header all).gates (target_in e call) (length call.exprs) (length call.args)) back suits;
      places = λ k less. places k (subst (λ n. k < n) (sym times) less);
      visits = ap (λ n. at_depth 1 (map (application ss (target_in e call) call) (range_with_len 0 n))) (sym times);
    }

-- and a measurement
pub record IsReadyReading (header ss : List Stmt) (i : ℕ) (from into : Arg) (at : ℕ) : Type 0 where
  pub qubits : (k : ℕ) → k < applications (sized ss) (from ∷ []) → IsPlaceIn register.Qubit ss (applied from k)
  pub bits : (k : ℕ) → k < applications (sized ss) (from ∷ []) → IsPlaceIn register.Bit ss (applied into k)
  pub visits : readings_of ss from into ≡ at_depth 1 (items_of (environment header (take i ss)) ss (stmt.Measure from into at))

pub ready_reading : (header ss : List Stmt) (i : ℕ) (from into : Arg) (start : ℕ) → IsBare header → AreAdmissible header [] ss → slice_get ss i ≡ Some (stmt.Measure from into start) → IsReadyReading header ss i from into start
ready_reading header ss i from into start bare admissible at =
    let s = stmt.Measure from into start in
    let pre = take i ss in
    let suf = s ∷ drop (suc i) ss in
    let e = environment header pre in
    let stands = stands_at header ss i s admissible at in
    let good = stands.admissible in
    let args = fine_args register.Qubit e (from ∷ []) (λ at h. good kind.NotDeclared at (inl h)) (λ at h. good kind.Index at (inl h)) in
    let back = sym stands.whole in
    let times : applications e (from ∷ []) ≡ applications (sized ss) (from ∷ []) = subst (λ all. applications e (from ∷ []) ≡ applications (sized all) (from ∷ [])) back (applications_same header pre suf (from ∷ []) bare args) in
    let one : (k : ℕ) → k < applications (sized ss) (from ∷ []) → IsGoodReading header pre (pre ++ suf) from into k = λ k less. good_reading header pre suf from into start k bare good (subst (λ n. k < n) (sym times) less) in
    record {
      qubits = λ k less. subst (λ all. IsPlaceIn register.Qubit all (applied from k)) back (one k less).qubit;
      bits = λ k less. subst (λ all. IsPlaceIn register.Bit all (applied into k)) back (one k less).bit;
      visits = ap (λ n. at_depth 1 (map (measurement ss from into) (range_with_len 0 n))) (sym times);
    }
