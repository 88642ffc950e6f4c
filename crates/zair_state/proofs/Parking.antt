-- Each step of the example with parked beams is legal where it stands.
use Rattle.std.proofs.Common.{◌≡◌, ℕ, ◌<◌, ◌≢◌, ◌⊎◌, inl, inr, [], ◌∷◌, refl, arith, zero, suc, ap, lit<, lit≤, Some}
use Rattle.std.specs.List.{AllPairs, Any, Contains}
use Rattle.zac_arch.specs.declared.place.TrapId.{TrapId}
use Rattle.zair_form.specs.declared.step.Beam.{Beam}
use Rattle.zair_form.specs.declared.step.Caught.{Caught}
use Rattle.zair_form.specs.declared.step.Dropped.{Dropped}
use Rattle.zair_state.specs.declared.place.Place.TheVariants.{Trap, Held}
use Rattle.zair_state.specs.State.{State, IsAt, HasId, IsClear, crossing}
use Rattle.zair_state.specs.Legal.{IsLegal, Picks, Drops, CarriesOverEmptyTrap, ListsActive}
use Rattle.zair_state.specs.Result.{after}
use Rattle.zair_state.specs.Examples.{trap, beam}
use Rattle.zair_state.specs.Parking.{square_card, filled, caught_at, dropped_into, catch_lower, park_lower, catch_upper, fly, drop_lower, lower_upper, drop_upper}
use Rattle.zair_state.proofs.Closed.{picks_in_row, no_element, is_one, all_one, all_two, pairs_none, pairs_one, pairs_two, placed_one, placed_two, free_alone}
use Rattle.zair_state.proofs.Entangling.{fresh}
use Rattle.zair_state.proofs.Recursion.{crossings_of, nobody_at, clear_by_test}

abbrev pub lower_caught : State
lower_caught = after filled catch_lower

abbrev pub lower_parked : State
lower_parked = after lower_caught park_lower

abbrev pub upper_caught : State
upper_caught = after lower_parked catch_upper

abbrev pub flown : State
flown = after upper_caught fly

abbrev pub lower_dropped : State
lower_dropped = after flown drop_lower

abbrev pub upper_lowered : State
upper_lowered = after lower_dropped lower_upper

differ : AllPairs (λ (i j : ℕ). i ≢ j) (0 ∷ 1 ∷ [])
differ = pairs_two (λ (i j : ℕ). i ≢ j) 0 1 (λ e. absurd (omega arith))

one : (n : ℕ) → AllPairs (λ (i j : ℕ). i ≢ j) (n ∷ [])
one n = pairs_one (λ (i j : ℕ). i ≢ j) n

-- a trap of smaller number isn't trap 6
other : (n : ℕ) → n < 6 → Trap (trap n) ≢ Trap (trap 6)
other n lt e = let same : trap n ≡ trap 6 = cc in let m = ap (λ (x : TrapId). x.0) same in absurd (omega arith)

pub catches_lower : IsLegal square_card filled catch_lower
catches_lower = record {
  known = lit< tt;
  rows_fresh = fresh _ (one 0);
  columns_fresh = fresh _ differ;
  few_rows = lit≤ tt;
  few_columns = lit≤ tt;
  rows_placed = placed_one 10 (beam 0 0) (lit≤ tt);
  columns_placed = placed_two 10 (beam 0 0) (beam 1 30) (lit≤ tt) (lit≤ tt);
  picks = all_two (Picks square_card filled 0 (beam 0 0 ∷ []) (beam 0 0 ∷ beam 1 30 ∷ []) (beam 0 0 ∷ []) (beam 0 0 ∷ beam 1 30 ∷ [])) (caught_at 0 0 0) (caught_at 1 0 1)
      (picks_in_row square_card filled (beam 0 0 ∷ beam 1 30 ∷ []) (beam 0 0) (beam 0 0) 0 (trap 0) (0, lit< tt, refl) refl refl (free_alone square_card filled.places _ _))
      (picks_in_row square_card filled (beam 0 0 ∷ beam 1 30 ∷ []) (beam 0 0) (beam 1 30) 1 (trap 1) (1, lit< tt, refl) refl refl (free_alone square_card filled.places _ _));
  once = pairs_two (λ (c d : Caught). (c.q ≢ d.q) × ¬ ((c.row ≡ d.row) × (c.column ≡ d.column))) (caught_at 0 0 0) (caught_at 1 0 1)
      ((λ e. absurd (omega arith)), (λ h. let e = h.1 in absurd (omega arith)));
  clear = crossings_of (beam 0 0 ∷ []) (beam 0 0 ∷ beam 1 30 ∷ [])
      (λ (r c : Beam). HasId (beam 0 0 ∷ []) r.id ⊎ HasId (beam 0 0 ∷ beam 1 30 ∷ []) c.id → ¬ Any (λ (a : Caught). (a.row ≡ r.id) × (a.column ≡ c.id)) (caught_at 0 0 0 ∷ caught_at 1 0 1 ∷ []) → IsClear square_card filled 0 (crossing r c))
      (((λ new none. absurd (none (0, caught_at 0 0 0, lit< tt, refl, (refl, refl)))), ((λ new none. absurd (none (1, caught_at 1 0 1, lit< tt, refl, (refl, refl)))), tt)), tt);
}

lists_one : (b c : Beam) → b.id ≡ c.id → ListsActive (b ∷ []) (c ∷ [])
lists_one b c e = record {
  once = pairs_one (λ (i j : ℕ). i ≢ j) b.id;
  only = all_one (λ (x : Beam). HasId (c ∷ []) x.id) b (0, lit< tt, cc);
  all = all_one (λ (x : Beam). HasId (b ∷ []) x.id) c (0, lit< tt, cc);
}

lists_two : (m n k l : ℕ) → ListsActive (beam 0 m ∷ beam 1 n ∷ []) (beam 0 k ∷ beam 1 l ∷ [])
lists_two m n k l = record {
  once = differ;
  only = all_two (λ (x : Beam). HasId (beam 0 k ∷ beam 1 l ∷ []) x.id) (beam 0 m) (beam 1 n) (0, lit< tt, refl) (1, lit< tt, refl);
  all = all_two (λ (x : Beam). HasId (beam 0 m ∷ beam 1 n ∷ []) x.id) (beam 0 k) (beam 1 l) (0, lit< tt, refl) (1, lit< tt, refl);
}

pub parks_lower : IsLegal square_card lower_caught park_lower
parks_lower = record {
  known = lit< tt;
  rows_listed = lists_one (beam 0 10) (beam 0 0) refl;
  columns_listed = lists_two 0 40 0 30;
  rows_placed = placed_one 10 (beam 0 10) (lit≤ tt);
  columns_placed = placed_two 10 (beam 0 0) (beam 1 40) (lit≤ tt) (lit≤ tt);
  crossings = crossings_of (beam 0 10 ∷ []) (beam 0 0 ∷ beam 1 40 ∷ [])
      (λ (r c : Beam). IsClear square_card lower_caught 0 (crossing r c) ⊎ CarriesOverEmptyTrap square_card lower_caught 0 r c) (
        (
          inl (clear_by_test square_card lower_caught 0 _ (free_alone square_card lower_caught.places _ _) refl),
          (inl (clear_by_test square_card lower_caught 0 _ (free_alone square_card lower_caught.places _ _) refl), tt),
        ),
        tt,
      );
}

-- the new row is 1, and no column is new
upper_row : (r c : Beam) → r.id ≡ 0 → HasId (beam 1 30 ∷ []) r.id ⊎ HasId [] c.id → ⊥
upper_row r c e (inl h) = let is = is_one 1 r.id h in absurd (omega arith)
upper_row r c e (inr h) = no_element c.id h

pub catches_upper : IsLegal square_card lower_parked catch_upper
catches_upper = record {
  known = lit< tt;
  rows_fresh = record { once = one 1; inactive = all_one (λ (b : Beam). ¬ HasId (beam 0 10 ∷ []) b.id) (beam 1 30) (λ h. let e = is_one 0 1 h in absurd (omega arith)) };
  columns_fresh = record { once = pairs_none (λ (i j : ℕ). i ≢ j); inactive = λ k d lt. absurd (omega arith) };
  few_rows = lit≤ tt;
  few_columns = lit≤ tt;
  rows_placed = placed_two 10 (beam 0 10) (beam 1 30) (lit≤ tt) (lit≤ tt);
  columns_placed = placed_two 10 (beam 0 0) (beam 1 40) (lit≤ tt) (lit≤ tt);
  picks = all_one (Picks square_card lower_parked 0 (beam 1 30 ∷ []) [] (beam 0 10 ∷ beam 1 30 ∷ []) (beam 0 0 ∷ beam 1 40 ∷ [])) (caught_at 2 1 0)
      (record {
        row = beam 1 30;
        column = beam 0 0;
        row_active = (1, lit< tt, refl);
        column_active = (0, lit< tt, refl);
        row_named = refl;
        column_named = refl;
        new = inl (0, lit< tt, refl);
        trap = trap 2;
        rests = refl;
        exact = refl;
        free = free_alone square_card lower_parked.places _ _;
      });
  once = pairs_one (λ (c d : Caught). (c.q ≢ d.q) × ¬ ((c.row ≡ d.row) × (c.column ≡ d.column))) (caught_at 2 1 0);
  clear = crossings_of (beam 0 10 ∷ beam 1 30 ∷ []) (beam 0 0 ∷ beam 1 40 ∷ [])
      (λ (r c : Beam). HasId (beam 1 30 ∷ []) r.id ⊎ HasId [] c.id → ¬ Any (λ (a : Caught). (a.row ≡ r.id) × (a.column ≡ c.id)) (caught_at 2 1 0 ∷ []) → IsClear square_card lower_parked 0 (crossing r c)) (
        ((λ new none. absurd (upper_row (beam 0 10) (beam 0 0) refl new)), ((λ new none. absurd (upper_row (beam 0 10) (beam 1 40) refl new)), tt)),
        (
          (
            (λ new none. absurd (none (0, caught_at 2 1 0, lit< tt, refl, (refl, refl)))),
            ((λ new none. clear_by_test square_card lower_parked 0 _ (free_alone square_card lower_parked.places _ _) refl), tt),
          ),
          tt,
        ),
      );
}

-- traps 4, 5 and 6 are empty while qubit 3 rests in trap 3 and the others are held
empty_while_held : (t : TrapId) → 3 < t.0 → (q : ℕ) → ¬ IsAt upper_caught q (Trap t)
empty_while_held t lt = nobody_at upper_caught.places (Trap t)
    ((λ e. absurd (cc)), ((λ e. absurd (cc)), ((λ e. absurd (cc)), ((λ e. let same : trap 3 ≡ t = cc in let n = ap (λ (x : TrapId). x.0) same in absurd (omega arith)), tt))))

pub flies : IsLegal square_card upper_caught fly
flies = record {
  known = lit< tt;
  rows_listed = lists_two 130 240 10 30;
  columns_listed = lists_two 0 20 0 40;
  rows_placed = placed_two 10 (beam 0 130) (beam 1 240) (lit≤ tt) (lit≤ tt);
  columns_placed = placed_two 10 (beam 0 0) (beam 1 20) (lit≤ tt) (lit≤ tt);
  crossings = crossings_of (beam 0 130 ∷ beam 1 240 ∷ []) (beam 0 0 ∷ beam 1 20 ∷ [])
      (λ (r c : Beam). IsClear square_card upper_caught 0 (crossing r c) ⊎ CarriesOverEmptyTrap square_card upper_caught 0 r c) (
        (
          inr (record { q = 0; holds = refl; trap = trap 4; exact = refl; empty = empty_while_held (trap 4) (lit< tt); free = free_alone square_card upper_caught.places _ _ }),
          (inr (record { q = 1; holds = refl; trap = trap 5; exact = refl; empty = empty_while_held (trap 5) (lit< tt); free = free_alone square_card upper_caught.places _ _ }), tt),
        ),
        (
          (
            inl (clear_by_test square_card upper_caught 0 _ (free_alone square_card upper_caught.places _ _) refl),
            (inl (clear_by_test square_card upper_caught 0 _ (free_alone square_card upper_caught.places _ _) refl), tt),
          ),
          tt,
        ),
      );
}

-- qubit 2 is held at the beams of row id 1 and column id 0, which stay
stays_held : (row column : ℕ) → Some (Held 0 1 0) ≡ Some (Held 0 row column) → Contains (0 ∷ []) row ⊎ Contains (1 ∷ []) column → ⊥
stays_held row column e (inl h) = let z = is_one 0 row h in let r : 1 ≡ row = cc in absurd (omega arith)
stays_held row column e (inr h) = let z = is_one 1 column h in let c : 0 ≡ column = cc in absurd (omega arith)

all_lower : (q row column : ℕ) → IsAt flown q (Held 0 row column) → Contains (0 ∷ []) row ⊎ Contains (1 ∷ []) column → Any (λ (d : Dropped). d.q ≡ q) (dropped_into 0 4 ∷ dropped_into 1 5 ∷ [])
all_lower zero row column e h = (0, dropped_into 0 4, lit< tt, refl, refl)
all_lower (suc zero) row column e h = (1, dropped_into 1 5, lit< tt, refl, refl)
all_lower (suc (suc zero)) row column e h = absurd (stays_held row column e h)
all_lower (suc (suc (suc zero))) row column e h = absurd (cc)
all_lower (suc (suc (suc (suc n)))) row column e h = absurd (cc)

pub drops_lower : IsLegal square_card flown drop_lower
drops_lower = record {
  known = lit< tt;
  rows_once = one 0;
  columns_once = one 1;
  rows_active = all_one (HasId (beam 0 130 ∷ beam 1 240 ∷ [])) 0 (0, lit< tt, refl);
  columns_active = all_one (HasId (beam 0 0 ∷ beam 1 20 ∷ [])) 1 (1, lit< tt, refl);
  drops = all_two (Drops square_card flown 0 (0 ∷ []) (1 ∷ [])) (dropped_into 0 4) (dropped_into 1 5)
      (record { row = beam 0 130; column = beam 0 0; row_active = (0, lit< tt, refl); column_active = (0, lit< tt, refl); held = refl; vanishes = inl (0, lit< tt, refl); exact = refl })
      (record { row = beam 0 130; column = beam 1 20; row_active = (0, lit< tt, refl); column_active = (1, lit< tt, refl); held = refl; vanishes = inl (0, lit< tt, refl); exact = refl });
  once = differ;
  all = all_lower;
}

empty_six : (q : ℕ) → ¬ IsAt lower_dropped q (Trap (trap 6))
empty_six = nobody_at lower_dropped.places (Trap (trap 6)) (other 4 (lit< tt), (other 5 (lit< tt), ((λ e. absurd (cc)), (other 3 (lit< tt), tt))))

pub lowers_upper : IsLegal square_card lower_dropped lower_upper
lowers_upper = record {
  known = lit< tt;
  rows_listed = lists_one (beam 1 230) (beam 1 240) refl;
  columns_listed = lists_one (beam 0 0) (beam 0 0) refl;
  rows_placed = placed_one 10 (beam 1 230) (lit≤ tt);
  columns_placed = placed_one 10 (beam 0 0) (lit≤ tt);
  crossings = crossings_of (beam 1 230 ∷ []) (beam 0 0 ∷ [])
      (λ (r c : Beam). IsClear square_card lower_dropped 0 (crossing r c) ⊎ CarriesOverEmptyTrap square_card lower_dropped 0 r c)
      ((inr (record { q = 2; holds = refl; trap = trap 6; exact = refl; empty = empty_six; free = free_alone square_card lower_dropped.places _ _ }), tt), tt);
}

all_upper : (q row column : ℕ) → IsAt upper_lowered q (Held 0 row column) → Any (λ (d : Dropped). d.q ≡ q) (dropped_into 2 6 ∷ [])
all_upper zero row column e = absurd (cc)
all_upper (suc zero) row column e = absurd (cc)
all_upper (suc (suc zero)) row column e = (0, dropped_into 2 6, lit< tt, refl, refl)
all_upper (suc (suc (suc zero))) row column e = absurd (cc)
all_upper (suc (suc (suc (suc n)))) row column e = absurd (cc)

pub drops_upper : IsLegal square_card upper_lowered drop_upper
drops_upper = record {
  known = lit< tt;
  rows_once = one 1;
  columns_once = one 0;
  rows_active = all_one (HasId (beam 1 230 ∷ [])) 1 (0, lit< tt, refl);
  columns_active = all_one (HasId (beam 0 0 ∷ [])) 0 (0, lit< tt, refl);
  drops = all_one (Drops square_card upper_lowered 0 (1 ∷ []) (0 ∷ [])) (dropped_into 2 6)
      (record { row = beam 1 230; column = beam 0 0; row_active = (0, lit< tt, refl); column_active = (0, lit< tt, refl); held = refl; vanishes = inl (0, lit< tt, refl); exact = refl });
  once = one 2;
  all = λ q row column e listed. all_upper q row column e;
}
