-- Entries that are performed behind a log, one after another.
use Rattle.std.proofs.Common.{◌≡◌, ℕ, zero, suc, ◌+◌, ◌<◌, inl, inr, List, [], ◌∷◌, ◌++◌, Some, length, map, take, get_or, slice_get, refl, ap, sym, ◌∙◌, subst, arith, append_assoc}
use Rattle.std.proofs.lemmas.Bool.{cases_lt}
use Rattle.std.proofs.lemmas.List.{append-nil, get_or-map, length-append, length-map, take-append-le, take_at, take_more}
use Rattle.std.proofs.lemmas.Option.{same_Some, slice_get-get_or, slice_get_within}
use Rattle.zac_gates.specs.declared.circuit.Op.{Op}
use Rattle.zac_gates.specs.declared.checklist.CheckFault.{CheckFault}
use Rattle.zac_gates.specs.Checklist.{Checking, CanPerform, IsPerformable, IsRefused}
use Rattle.zac_gates.specs.Ops.{NativeCircuit}
use Rattle.zac_gates.specs.Log.{Entry}
use Rattle.zac_watch.specs.Judging.{ArePerformed, AreRefused}

get_before : {X : Type 0} (xs ys : List X) (k : ℕ) → k < length xs → slice_get (xs ++ ys) k ≡ slice_get xs k
get_before [] ys k lt = absurd (omega arith)
get_before (x ∷ xs) ys zero lt = refl
get_before (x ∷ xs) ys (suc k) lt = get_before xs ys k (omega arith)

get_last : {X : Type 0} (xs : List X) (x : X) → slice_get (xs ++ x ∷ []) (length xs) ≡ Some x
get_last [] x = refl
get_last (y ∷ xs) x = get_last xs x

-- one entry more can be performed
performable_more : (ops : List Op) (log : List Entry) (e : Entry) → IsPerformable ops log → CanPerform ops log e.op e.what → IsPerformable ops (log ++ e ∷ [])
performable_more ops log e performable can k d d_is = elim (cases_lt k (length log)) as (λ _. CanPerform ops (take k (log ++ e ∷ [])) d.op d.what) [
  | inl lt ↦
      let own = performable k d (sym (get_before log (e ∷ []) k lt) ∙ d_is) in
      subst (λ (l : List Entry). CanPerform ops l d.op d.what) (sym (take-append-le k log (e ∷ []) (omega arith))) own
  | inr ge ↦
      let within = slice_get_within (log ++ e ∷ []) k d d_is in
      let last : length log ≡ k = omega (arith, within, length-append log (e ∷ [])) in
      let same : e ≡ d = same_Some e d (sym (get_last log e) ∙ ap (slice_get (log ++ e ∷ [])) last ∙ d_is) in
      let here = subst (λ (x : Entry). CanPerform ops log x.op x.what) same can in
      subst (λ (l : List Entry). CanPerform ops l d.op d.what) (sym (take_at log (e ∷ []) k last)) here
]

pub none_performed : (ops : List Op) (log : List Entry) → IsPerformable ops log → ArePerformed ops log [] log
none_performed ops log performable = record { log_is = sym (append-nil log); performable = performable }

pub one_more_performed : (ops : List Op) (log wanted mid new : List Entry) (e : Entry) → ArePerformed ops log wanted mid → CanPerform ops mid e.op e.what →
    new ≡ mid ++ e ∷ [] → ArePerformed ops log (wanted ++ e ∷ []) new
one_more_performed ops log wanted mid new e so_far can new_is = record {
  log_is = new_is ∙ ap (λ (l : List Entry). l ++ e ∷ []) so_far.log_is ∙ append_assoc log wanted (e ∷ []);
  performable = subst (λ (l : List Entry). IsPerformable ops l) (sym new_is) (performable_more ops mid e so_far.performable can);
}

pub one_refused : (ops : List Op) (log wanted mid : List Entry) (k : ℕ) (e : Entry) (fault : CheckFault) → ArePerformed ops log (take k wanted) mid →
    slice_get wanted k ≡ Some e → IsRefused ops mid e.op e.what fault → AreRefused ops log wanted fault
one_refused ops log wanted mid k e fault so_far here refused = record {
  place = k;
  entry = e;
  here = here;
  before = subst (λ (l : List Entry). IsPerformable ops l) so_far.log_is so_far.performable;
  refused = subst (λ (l : List Entry). IsRefused ops l e.op e.what fault) so_far.log_is refused;
}

-- the entry at a place of a mapped list
entry_here : {X : Type 0} (f : X → Entry) (xs : List X) (k : ℕ) (d : X) → k < length xs → slice_get (map f xs) k ≡ Some (f (get_or xs k d))
entry_here f xs k d within =
    slice_get-get_or (map f xs) k (f d) (subst (λ (n : ℕ). k < n) (sym (length-map xs f)) within)
    ∙ ap (λ (e : Entry). Some e) (get_or-map f xs k d (f d) within)

one_more_entry : {X : Type 0} (f : X → Entry) (xs : List X) (k : ℕ) (d : X) → k < length xs → take (k + 1) (map f xs) ≡ take k (map f xs) ++ f (get_or xs k d) ∷ []
one_more_entry f xs k d within =
    take_more (map f xs) k (f d) (subst (λ (n : ℕ). k < n) (sym (length-map xs f)) within)
    ∙ ap (λ (e : Entry). take k (map f xs) ++ e ∷ []) (get_or-map f xs k d (f d) within)

-- A list whose items each have an entry, of which those before a place were performed behind the log of a circuit.
module _ {X : Type 0} (entry_of : X → Entry) (xs : List X) (none : X) (k : ℕ) (within : k < length xs) (circuit : NativeCircuit) (log : List Entry) (mid : Checking)
    (same : mid.circuit ≡ circuit) (so_far : ArePerformed circuit.ops log (take k (map entry_of xs)) mid.log) where
  same_ops : mid.circuit.ops ≡ circuit.ops
  same_ops = ap (λ (n : NativeCircuit). n.ops) same

  -- the next is performed
  pub next_performed : (new : Checking) → CanPerform mid.circuit.ops mid.log (entry_of (get_or xs k none)).op (entry_of (get_or xs k none)).what → new.log ≡ mid.log ++ entry_of (get_or xs k none) ∷ []
      → ArePerformed circuit.ops log (take (k + 1) (map entry_of xs)) new.log
  next_performed new can new_is =
      let e = entry_of (get_or xs k none) in
      subst (λ (l : List Entry). ArePerformed circuit.ops log l new.log) (sym (one_more_entry entry_of xs k none within))
      (one_more_performed circuit.ops log (take k (map entry_of xs)) mid.log new.log e so_far (subst (λ (os : List Op). CanPerform os mid.log e.op e.what) same_ops can) new_is)

  -- the next is refused
  pub next_refused : (fault : CheckFault) → IsRefused mid.circuit.ops mid.log (entry_of (get_or xs k none)).op (entry_of (get_or xs k none)).what fault
      → AreRefused circuit.ops log (map entry_of xs) fault
  next_refused fault refused =
      let e = entry_of (get_or xs k none) in
      one_refused circuit.ops log (map entry_of xs) mid.log k e fault so_far (entry_here entry_of xs k none within)
      (subst (λ (os : List Op). IsRefused os mid.log e.op e.what fault) same_ops refused)
