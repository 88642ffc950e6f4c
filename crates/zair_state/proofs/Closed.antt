-- Lemmas on closed lists of beams and atoms, for the worked examples.
use Rattle.std.proofs.Common.{◌≡◌, ℕ, ◌+◌, ◌≤◌, ◌⊎◌, inl, inr, List, [], ◌∷◌, refl, arith, subst, zero, suc, ap, Some}
use Rattle.std.specs.List.{All, AllPairs, Contains, AllAdjacentBelow, slice_get}
use Rattle.std.proofs.lemmas.List.Elements.{All-nil, All-cons}
use Rattle.std.proofs.lemmas.List.Kept.{AllPairs-cons}
use Rattle.zac_arch.specs.Architecture.{Architecture, StandsAt}
use Rattle.zac_arch.specs.declared.place.Point.{Point}
use Rattle.zac_arch.specs.declared.place.TrapId.{TrapId}
use Rattle.zair_form.specs.declared.step.Beam.{Beam}
use Rattle.zair_state.specs.declared.place.Place.{Place}
use Rattle.zair_state.specs.declared.place.Place.TheVariants.{Trap}
use Rattle.zair_state.specs.Legal.{Picks}
use Rattle.zair_state.specs.State.{State, Beams, idle, IsAt, IsFreeOfOthers, EachCrossing, ArePlaced, crossing}

pub no_element : {X : Type 0} (x : X) → Contains [] x → ⊥
no_element x h = let lt = h.1 in absurd (omega arith)

pub each_crossing : (rows columns : List Beam) (P : Beam → Beam → Type 0) → All (λ row. All (P row) columns) rows → EachCrossing rows columns P
each_crossing rows columns P h row column r c =
    let first = subst (λ (x : Beam). All (P x) columns) r.2 (h r.0 row r.1) in
    subst (λ (y : Beam). P row y) c.2 (first c.0 column c.1)

pub all_one : {X : Type 0} (P : X → Type 0) (x : X) → P x → All P (x ∷ [])
all_one P x p = All-cons P x [] p (All-nil P)

pub all_two : {X : Type 0} (P : X → Type 0) (x y : X) → P x → P y → All P (x ∷ y ∷ [])
all_two P x y p q = All-cons P x (y ∷ []) p (all_one P y q)

pub pairs_none : {X : Type 0} (R : X → X → Type 0) → AllPairs R []
pairs_none R i j d lt below = absurd (omega arith)

pub pairs_one : {X : Type 0} (R : X → X → Type 0) (x : X) → AllPairs R (x ∷ [])
pairs_one R x = AllPairs-cons R x [] (All-nil (R x)) (pairs_none R)

pub pairs_two : {X : Type 0} (R : X → X → Type 0) (x y : X) → R x y → AllPairs R (x ∷ y ∷ [])
pairs_two R x y r = AllPairs-cons R x (y ∷ []) (all_one (R x) y r) (pairs_one R y)

-- one beam, or two at least gap apart, are placed
pub placed_one : (gap : ℕ) (b : Beam) → b.at ≤ 1000000 → ArePlaced gap (b ∷ [])
placed_one gap b h = record {
  on_the_field = all_one (λ b. b.at ≤ 1000000) b h;
  spaced = λ k d lt. absurd (omega arith);
}

adjacent_two : (gap : ℕ) (b c : Beam) → b.at + gap ≤ c.at → AllAdjacentBelow (λ (b c : Beam). b.at + gap ≤ c.at) (b ∷ c ∷ []) 2
adjacent_two gap b c h zero d lt = h
adjacent_two gap b c h (suc k) d lt = absurd (omega arith)

pub placed_two : (gap : ℕ) (b c : Beam) → b.at + gap ≤ c.at → c.at ≤ 1000000 → ArePlaced gap (b ∷ c ∷ [])
placed_two gap b c h top = record {
  on_the_field = all_two (λ b. b.at ≤ 1000000) b c (omega arith) top;
  spaced = adjacent_two gap b c h;
}

-- the second AOD has no beam
pub free_alone : (a : Architecture) (places : List Place) (b : Beams) (p : Point) → IsFreeOfOthers a (record { places = places; aods = b ∷ idle ∷ [] }) 0 p
free_alone a places b p zero ne row column r c = absurd (ne refl)
free_alone a places b p (suc zero) ne row column r c = absurd (no_element row r)
free_alone a places b p (suc (suc n)) ne row column r c = absurd (no_element row r)

-- an atom is caught where a new row crosses one of the columns
pub picks_in_row : (a : Architecture) (s : State) (columns : List Beam) (row column : Beam) (q : ℕ) (t : TrapId) →
    Contains columns column → IsAt s q (Trap t) → StandsAt a t.0 (crossing row column) → IsFreeOfOthers a s 0 (crossing row column) →
    Picks a s 0 (row ∷ []) columns (row ∷ []) columns (record { q = q; row = row.id; column = column.id })
picks_in_row a s columns row column q t active rests exact free = record {
  row = row;
  column = column;
  row_active = (0, omega arith, refl);
  column_active = active;
  row_named = refl;
  column_named = refl;
  new = inl (0, omega arith, refl);
  trap = t;
  rests = rests;
  exact = exact;
  free = free;
}

-- a qubit of two that is at a place is the one or the other
pub at_of_two : (s t : Place) (q : ℕ) (place : Place) → slice_get (s ∷ t ∷ []) q ≡ Some place → ((q ≡ 0) × (s ≡ place)) ⊎ ((q ≡ 1) × (t ≡ place))
at_of_two s t zero place e = inl (refl, cc)
at_of_two s t (suc zero) place e = inr (refl, cc)
at_of_two s t (suc (suc n)) place e = absurd (cc)

-- the crossings of one row and two columns
pub two_crossings : (row left right : Beam) (P : Beam → Beam → Type 0) → P row left → P row right → EachCrossing (row ∷ []) (left ∷ right ∷ []) P
two_crossings row left right P p q =
    each_crossing (row ∷ []) (left ∷ right ∷ []) P (all_one (λ (r : Beam). All (P r) (left ∷ right ∷ [])) row (all_two (P row) left right p q))

pub is_one : {X : Type 0} (x y : X) → Contains (x ∷ []) y → x ≡ y
is_one x y (zero, lt, e) = e
is_one x y (suc k, lt, e) = absurd (omega arith)

pub is_one_of_two : {X : Type 0} (x y z : X) → Contains (x ∷ y ∷ []) z → (x ≡ z) ⊎ (y ≡ z)
is_one_of_two x y z (zero, lt, e) = inl e
is_one_of_two x y z (suc zero, lt, e) = inr e
is_one_of_two x y z (suc (suc k), lt, e) = absurd (omega arith)

pub some_is : {X : Type 0} (x y : X) → Some x ≡ Some y → x ≡ y
some_is x y e = cc

-- the trap in which a qubit of two rests
pub trap_is : (s t : TrapId) → Some (Trap s) ≡ Some (Trap t) → s.0 ≡ t.0
trap_is s t e = let same : s ≡ t = cc in ap (λ (x : TrapId). x.0) same

pub one_crossing : (row column : Beam) (P : Beam → Beam → Type 0) → P row column → EachCrossing (row ∷ []) (column ∷ []) P
one_crossing row column P p = each_crossing (row ∷ []) (column ∷ []) P (all_one (λ (r : Beam). All (P r) (column ∷ [])) row (all_one (P row) column p))
