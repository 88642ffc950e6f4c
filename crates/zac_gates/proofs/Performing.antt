-- Logs whose entries can be performed one after another, and logs that realise a list.
use Rattle.std.proofs.Common.{◌≡◌, ◌≢◌, ℕ, zero, suc, ◌<◌, ◌≤◌, List, [], ◌∷◌, length, get_or, take, Some, refl, sym, ap, ◌∙◌, subst, ⊎_elim, arith}
use Rattle.std.specs.List.{slice_get}
use Rattle.std.proofs.lemmas.Bool.{cases_lt}
use Rattle.std.proofs.lemmas.Option.{slice_get-get_or, get_or_from_slice_get, slice_get_within, same_Some}
use Rattle.std.proofs.Math.Nat.{eq-or-lt_of_le}
use Rattle.zac_gates.specs.declared.circuit.Op.{Op}
use Rattle.zac_gates.specs.declared.circuit.Op.TheVariants.{One, Two, Fence, Read}
use Rattle.zac_gates.specs.Ops.{MustFollow, IsGate, IsRead}
use Rattle.zac_gates.specs.Log.{Entry, Realises}
use Rattle.zac_gates.specs.Checklist.{IsPerformed, IsListedAs, CanPerform, IsPerformable, IsAllPerformed}

slice_get-take : {X : Type 0} (xs : List X) (k i : ℕ) → i < k → slice_get (take k xs) i ≡ slice_get xs i
slice_get-take [] zero i lt = refl
slice_get-take [] (suc k) i lt = refl
slice_get-take (x ∷ xs) zero i lt = absurd (omega arith)
slice_get-take (x ∷ xs) (suc k) zero lt = refl
slice_get-take (x ∷ xs) (suc k) (suc i) lt = slice_get-take xs k i (omega arith)

within_take : {X : Type 0} (xs : List X) (k i : ℕ) → i < length (take k xs) → i < k
within_take [] zero i lt = lt
within_take [] (suc k) i lt = absurd (omega arith)
within_take (x ∷ xs) zero i lt = lt
within_take (x ∷ xs) (suc k) zero lt = omega arith
within_take (x ∷ xs) (suc k) (suc i) lt = omega (arith, within_take xs k i (omega arith))

-- where an op stands in the log
pub record Place (log : List Entry) (n : ℕ) : Type 0 where
  pub place : ℕ
  pub entry : Entry
  pub is : slice_get log place ≡ Some entry
  pub op : entry.op ≡ n

pub place_of : (log : List Entry) (n : ℕ) → IsPerformed log n → Place log n
place_of log n (k, e, within, is, op) =
    record { place = k; entry = e; is = slice_get-get_or log k e within ∙ ap (λ (x : Entry). Some x) is; op = op }

pub performed_from : (log : List Entry) (n : ℕ) → Place log n → IsPerformed log n
performed_from log n p =
    (p.place, p.entry, slice_get_within log p.place p.entry p.is, get_or_from_slice_get log p.place p.entry p.entry p.is, p.op)

-- what stands among the first entries
pub performed_take : (log : List Entry) (k n : ℕ) (p : Place log n) → p.place < k → IsPerformed (take k log) n
performed_take log k n p lt =
    performed_from (take k log) n (record { place = p.place; entry = p.entry; is = slice_get-take log k p.place lt ∙ p.is; op = p.op })

pub place_take : (log : List Entry) (k n : ℕ) → IsPerformed (take k log) n → (p : Place log n) × (p.place < k)
place_take log k n h =
    let p = place_of (take k log) n h in
    let lt : p.place < k = within_take log k p.place (slice_get_within (take k log) p.place p.entry p.is) in
    (record { place = p.place; entry = p.entry; is = sym (slice_get-take log k p.place lt) ∙ p.is; op = p.op }, lt)

follows_no_fence : (ops : List Op) (first second : ℕ) (must : MustFollow ops first second) → must.a ≢ Fence
follows_no_fence ops first second must =
    ⊎_elim (λ gates. gate_no_fence must.a gates.0)
    (λ reads. ⊎_elim (gate_no_fence must.a) (λ both. read_no_fence must.a both.0) reads.1)
    must.reason
  where
    gate_no_fence : (op : Op) → IsGate op → op ≢ Fence
    gate_no_fence (One q angles) gate is = cc
    gate_no_fence (Two a b) gate is = cc
    gate_no_fence Fence gate is = gate
    gate_no_fence (Read q bit) gate is = gate

    read_no_fence : (op : Op) → IsRead op → op ≢ Fence
    read_no_fence (One q angles) read is = read
    read_no_fence (Two a b) read is = read
    read_no_fence Fence read is = read
    read_no_fence (Read q bit) read is = cc

-- no op must follow itself
pub not_itself : (ops : List Op) (n : ℕ) → ¬ MustFollow ops n n
not_itself ops n must =
    ⊎_elim (λ gates. omega (arith, gates.2))
    (λ reads. ⊎_elim
    (λ gate. both must.a gate (subst IsRead (same_Some must.b must.a (sym must.b_is ∙ must.a_is)) reads.0))
    (λ both. omega (arith, both.1)) reads.1)
    must.reason
  where
    both : (op : Op) → IsGate op → IsRead op → ⊥
    both (One q angles) gate read = read
    both (Two a b) gate read = read
    both Fence gate read = gate
    both (Read q bit) gate read = gate

-- the entry of an op has its content
entry_is : (ops : List Op) (e : Entry) (n : ℕ) (what : Op) → slice_get ops e.op ≡ Some e.what → slice_get ops n ≡ Some what → e.op ≡ n → e ≡ record { op = n; what = what }
entry_is ops e n what e_is is same =
    let content : e.what ≡ what = same_Some e.what what (sym e_is ∙ ap (slice_get ops) same ∙ is) in
    ap (λ (m : ℕ). record { op = m; what = e.what }) same ∙ ap (λ (w : Op). record { op = n; what = w }) content

pub realised_by_performing : (ops : List Op) (log : List Entry) → IsPerformable ops log → IsAllPerformed ops log → Realises ops log
realised_by_performing ops log performable all =
    let at : (k : ℕ) (d : Entry) → k < length log → CanPerform ops (take k log) (get_or log k d).op (get_or log k d).what =
    λ k d lt. performable k (get_or log k d) (slice_get-get_or log k d lt) in
    record {
      listed = λ k d lt. (at k d lt).listed;
      whole = λ n what is fence.
          let p = place_of log n (all n what (is, fence)) in
          let x : Entry = record { op = n; what = what } in
          (p.place, slice_get_within log p.place p.entry p.is, get_or_from_slice_get log p.place p.entry x p.is ∙ entry_is ops p.entry n what (performable p.place p.entry p.is).listed.0 is p.op);
      once = λ i j d lt in' same.
          let p : Place log (get_or log j d).op = record { place = i; entry = get_or log i d; is = slice_get-get_or log i d (omega arith); op = same } in
          (at j d in').once (performed_take log j (get_or log j d).op p lt);
      in_order = λ i j d lt in' must.
          let low : i < length log = omega arith in
          let later = (get_or log j d).op in
          let p = place_take log i later ((at i d low).ready later must) in
          (at j d in').once (performed_take log j later p.0 (omega (arith, p.1)));
    }

pub performable_by_realising : (ops : List Op) (log : List Entry) → Realises ops log → IsPerformable ops log
performable_by_realising ops log realised k e is =
    let within : k < length log = slice_get_within log k e is in
    let same : (d : Entry) → get_or log k d ≡ e = λ d. get_or_from_slice_get log k e d is in
    record {
      listed = subst (λ (x : Entry). IsListedAs ops x.op x.what) (same e) (realised.listed k e within);
      once = λ h.
          let p = place_take log k e.op h in
          realised.once p.0.place k e p.1 within (ap (λ (x : Entry). x.op) (get_or_from_slice_get log p.0.place p.0.entry e p.0.is) ∙ p.0.op ∙ sym (ap (λ (x : Entry). x.op) (same e)));
      ready = λ n must.
          let x : Entry = record { op = n; what = must.a } in
          let there = realised.whole n must.a must.a_is (follows_no_fence ops n e.op must) in
          let p : Place log n = record { place = there.0; entry = x; is = slice_get-get_or log there.0 x there.1 ∙ ap (λ (y : Entry). Some y) there.2; op = refl } in
          ⊎_elim
          (λ (lt : there.0 < k). performed_take log k n p lt)
          (λ (le : k ≤ there.0). absurd (⊎_elim
          (λ (e_is : k ≡ there.0).
          let here : e.op ≡ n = ap (λ (y : Entry). y.op) (sym (same x) ∙ ap (λ (i : ℕ). get_or log i x) e_is ∙ there.2) in
          not_itself ops n (subst (λ (m : ℕ). MustFollow ops n m) here must))
          (λ (lt : k < there.0).
          realised.in_order k there.0 x lt there.1
          (subst (λ (m : ℕ). MustFollow ops m (get_or log k x).op) (sym (ap (λ (y : Entry). y.op) there.2))
          (subst (λ (m : ℕ). MustFollow ops n m) (sym (ap (λ (y : Entry). y.op) (same x))) must)))
          (eq-or-lt_of_le le)))
          (cases_lt there.0 k);
    }

pub all_performed_by_realising : (ops : List Op) (log : List Entry) → Realises ops log → IsAllPerformed ops log
all_performed_by_realising ops log realised n what listed =
    let x : Entry = record { op = n; what = what } in
    let there = realised.whole n what listed.0 listed.1 in
    (there.0, x, there.1, there.2, refl)
