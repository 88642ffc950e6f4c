-- The moves of qubits to traps, the first to the first and so on.
use Rattle.std.proofs.Common.{◌≡◌, ◌≢◌, ℕ, suc, ◌<◌, ◌⊎◌, inl, inr, List, [], ◌∷◌, Some, length, refl, sym, ap, ◌∙◌, subst, arith, slice_get}
use Rattle.std.specs.List.{AllPairs, Contains}
use Rattle.zac_arch.specs.declared.place.TrapId.{TrapId}
use Rattle.zac_group.specs.declared.shift.Shift.{Shift}
use Rattle.zac_plan.specs.Plan.{after_shifts, shift_to, shifts_to, trap_of}
use Rattle.zac_plan.specs.Seats.{CanMake}
use Rattle.zac_plan.proofs.Lists.{contained_in_none, contains_at, contains_cases, contains_here, contains_later, pairs_cons, pairs_head, pairs_none, pairs_tail}
use Rattle.zac_plan.proofs.Resting.{moved_or_not, rests_there}

-- the trap of this number
abbrev pub numbered : ℕ → TrapId
numbered t = record { 0 = t }

-- a move takes the qubit at some place of a list to the trap at that place
pub record IsShiftTo (rests : List TrapId) (qs ts : List ℕ) (s : Shift) : Type 0 where
  pub place : ℕ
  pub qubit_at : slice_get qs place ≡ Some s.q
  pub trap_at : slice_get ts place ≡ Some s.to.0
  pub from : s.from ≡ trap_of rests s.q

shift_later : (rests : List TrapId) (q t : ℕ) (qs ts : List ℕ) (s : Shift) → IsShiftTo rests qs ts s → IsShiftTo rests (q ∷ qs) (t ∷ ts) s
shift_later rests q t qs ts s h = record { place = suc h.place; qubit_at = h.qubit_at; trap_at = h.trap_at; from = h.from }

-- each of the moves does
pub is_shift_to : (rests : List TrapId) (qs ts : List ℕ) (s : Shift) → Contains (shifts_to rests qs ts) s → IsShiftTo rests qs ts s
is_shift_to rests [] ts s listed = absurd (contained_in_none s listed)
is_shift_to rests (q ∷ qs) [] s listed = absurd (contained_in_none s listed)
is_shift_to rests (q ∷ qs) (t ∷ ts) s listed = elim (contains_cases (shift_to rests q (numbered t)) s (shifts_to rests qs ts) listed) [
  | inl same ↦ subst (IsShiftTo rests (q ∷ qs) (t ∷ ts)) same (record { place = 0; qubit_at = refl; trap_at = refl; from = refl })
  | inr later ↦ shift_later rests q t qs ts s (is_shift_to rests qs ts s later)
]

pub length-shifts_to : (rests : List TrapId) (qs ts : List ℕ) → length ts ≡ length qs → length (shifts_to rests qs ts) ≡ length qs
length-shifts_to rests [] ts long = refl
length-shifts_to rests (q ∷ qs) [] long = absurd (omega arith)
length-shifts_to rests (q ∷ qs) (t ∷ ts) long = ap suc (length-shifts_to rests qs ts (omega arith))

-- the qubit and the trap of a move are in the lists
pub shift_qubit : (rests : List TrapId) (qs ts : List ℕ) (s : Shift) → Contains (shifts_to rests qs ts) s → Contains qs s.q
shift_qubit rests qs ts s listed = let is = is_shift_to rests qs ts s listed in contains_at qs is.place s.q is.qubit_at

pub shift_trap : (rests : List TrapId) (qs ts : List ℕ) (s : Shift) → Contains (shifts_to rests qs ts) s → Contains ts s.to.0
shift_trap rests qs ts s listed = let is = is_shift_to rests qs ts s listed in contains_at ts is.place s.to.0 is.trap_at

-- each qubit of the list has a move
pub has_shift : (rests : List TrapId) (qs ts : List ℕ) → length ts ≡ length qs → (q : ℕ) → Contains qs q → (s : Shift) × Contains (shifts_to rests qs ts) s × (s.q ≡ q)
has_shift rests [] ts long q listed = absurd (contained_in_none q listed)
has_shift rests (r ∷ rs) [] long q listed = absurd (omega arith)
has_shift rests (r ∷ rs) (t ∷ ts) long q listed = elim (contains_cases r q rs listed) [
  | inl same ↦ (shift_to rests r (numbered t), contains_here (shift_to rests r (numbered t)) (shifts_to rests rs ts), same)
  | inr later ↦
      let found = has_shift rests rs ts (omega arith) q later in
      (found.0, contains_later (shift_to rests r (numbered t)) found.0 (shifts_to rests rs ts) found.1, found.2)
]

-- different qubits make different moves
pub shift_qubits_differ : (rests : List TrapId) (qs ts : List ℕ) → AllPairs (λ q r. q ≢ r) qs → AllPairs (λ (s t : Shift). s.q ≢ t.q) (shifts_to rests qs ts)
shift_qubits_differ rests [] ts differ = pairs_none (λ (s t : Shift). s.q ≢ t.q)
shift_qubits_differ rests (q ∷ qs) [] differ = pairs_none (λ (s t : Shift). s.q ≢ t.q)
shift_qubits_differ rests (q ∷ qs) (t ∷ ts) differ =
    pairs_cons (λ (s t : Shift). s.q ≢ t.q) (shift_to rests q (numbered t)) (shifts_to rests qs ts)
    (λ s listed. pairs_head (λ (x y : ℕ). x ≢ y) q qs differ s.q (shift_qubit rests qs ts s listed))
    (shift_qubits_differ rests qs ts (pairs_tail (λ (x y : ℕ). x ≢ y) q qs differ))

-- so do different traps
pub shift_traps_differ : (rests : List TrapId) (qs ts : List ℕ) → AllPairs (λ t u. t ≢ u) ts → AllPairs (λ (s t : Shift). s.to ≢ t.to) (shifts_to rests qs ts)
shift_traps_differ rests [] ts differ = pairs_none (λ (s t : Shift). s.to ≢ t.to)
shift_traps_differ rests (q ∷ qs) [] differ = pairs_none (λ (s t : Shift). s.to ≢ t.to)
shift_traps_differ rests (q ∷ qs) (t ∷ ts) differ =
    pairs_cons (λ (s t : Shift). s.to ≢ t.to) (shift_to rests q (numbered t)) (shifts_to rests qs ts)
    (λ s listed e. pairs_head (λ (x y : ℕ). x ≢ y) t ts differ s.to.0 (shift_trap rests qs ts s listed) (ap (λ (x : TrapId). x.0) e))
    (shift_traps_differ rests qs ts (pairs_tail (λ (x y : ℕ). x ≢ y) t ts differ))

-- different qubits can go to different traps in which none rests
pub can_shift_to : (rests : List TrapId) (qs ts : List ℕ) → AllPairs (λ q r. q ≢ r) qs → AllPairs (λ t u. t ≢ u) ts →
    ((q : ℕ) → Contains qs q → q < length rests) → ((t : ℕ) → Contains ts t → (q : ℕ) → slice_get rests q ≢ Some (numbered t)) → CanMake rests (shifts_to rests qs ts)
can_shift_to rests qs ts qubits traps within empty = record {
  each = λ s listed. record {
    rests =
        rests_there rests s.q (within s.q (shift_qubit rests qs ts s listed))
        ∙ ap (λ (x : TrapId). Some x) (sym (is_shift_to rests qs ts s listed).from);
    empty = empty s.to.0 (shift_trap rests qs ts s listed);
  };
  atoms = shift_qubits_differ rests qs ts qubits;
  targets = shift_traps_differ rests qs ts traps;
}

-- where a qubit rests after them: one of the list in one of the traps, and each other one where it has rested
pub shifted_or_not : (rests : List TrapId) (qs ts : List ℕ) → CanMake rests (shifts_to rests qs ts) → length ts ≡ length qs → (q : ℕ) (t : TrapId) →
    slice_get (after_shifts rests (shifts_to rests qs ts)) q ≡ Some t → (Contains qs q × Contains ts t.0) ⊎ ((¬ Contains qs q) × (slice_get rests q ≡ Some t))
shifted_or_not rests qs ts can_make long q t at = elim (moved_or_not rests (shifts_to rests qs ts) can_make q t at) [
  | inl moved ↦
      let s = moved.0 in
      inl (
        subst (Contains qs) moved.2 (shift_qubit rests qs ts s moved.1),
        subst (λ (x : TrapId). Contains ts x.0) moved.3 (shift_trap rests qs ts s moved.1),
      )
  | inr stays ↦ inr ((λ listed. let found = has_shift rests qs ts long q listed in stays.0 found.0 found.1 found.2), stays.1)
]
