-- Each step of the worked example is legal where it stands.
use Rattle.std.proofs.Common.{◌≡◌, ℕ, ◌≤◌, ◌≢◌, ◌⊎◌, inl, inr, List, [], ◌∷◌, map, refl, arith, zero, suc, lit<, lit≤}
use Rattle.std.specs.List.{AllPairs, Any}
use Rattle.zac_arch.specs.Architecture.{IsLit}
use Rattle.zac_arch.specs.Tiny.{tiny_architecture}
use Rattle.zac_arch.specs.declared.place.Point.{Point}
use Rattle.zac_arch.specs.declared.place.TrapId.{TrapId}
use Rattle.zair_form.specs.declared.step.Beam.{Beam}
use Rattle.zair_form.specs.declared.step.Caught.{Caught}
use Rattle.zair_form.specs.declared.step.Dropped.{Dropped}
use Rattle.zair_form.specs.declared.step.PairOf.{PairOf}
use Rattle.zair_state.specs.declared.place.Place.TheVariants.{Trap, Held}
use Rattle.zair_state.specs.State.{State, IsAt, EachCrossing, HasId, IsClear, crossing, AreInRange, RestsLit, beams_of}
use Rattle.zair_state.specs.Legal.{IsLegal, Picks, Drops, CarriesOverEmptyTrap, AreFresh, ListsActive, IsPairOf}
use Rattle.zair_state.specs.Result.{after}
use Rattle.zair_state.specs.Examples.{trap, start, beam, turn, catch_both, carry_both, drop_both, entangle}
use Rattle.zair_state.proofs.Closed.{picks_in_row, no_element, all_one, all_two, pairs_one, pairs_two, placed_one, placed_two, two_crossings, free_alone}

abbrev pub caught : State
caught = after start catch_both

abbrev pub carried : State
carried = after caught carry_both

abbrev dropped : State
dropped = after carried (drop_both 5)

pub turns : (n : ℕ) → IsLegal tiny_architecture start (turn n)
turns n = (trap 1, refl)

pub turns_at_site : (n : ℕ) → IsLegal tiny_architecture dropped (turn n)
turns_at_site n = (trap 5, refl)

abbrev pub first : Caught
first = record { q = 0; row = 0; column = 0 }

abbrev second : Caught
second = record { q = 1; row = 0; column = 1 }

abbrev pub row : Beam
row = beam 0 0

abbrev pub left : Beam
left = beam 0 0

abbrev pub right : Beam
right = beam 1 30

pub fresh : (new : List Beam) → AllPairs (λ (i j : ℕ). i ≢ j) (map (λ (b : Beam). b.id) new) → AreFresh new []
fresh new once = record { once = once; inactive = λ k d lt h. no_element _ h }

pub catches : IsLegal tiny_architecture start catch_both
catches = record {
  known = lit< tt;
  rows_fresh = fresh _ (pairs_one (λ (i j : ℕ). i ≢ j) 0);
  columns_fresh = fresh _ (pairs_two (λ (i j : ℕ). i ≢ j) 0 1 (λ e. absurd (omega arith)));
  few_rows = lit≤ tt;
  few_columns = lit≤ tt;
  rows_placed = placed_one 10 row (lit≤ tt);
  columns_placed = placed_two 10 left right (lit≤ tt) (lit≤ tt);
  picks = all_two (Picks tiny_architecture start 0 (row ∷ []) (left ∷ right ∷ []) (row ∷ []) (left ∷ right ∷ [])) first second
      (picks_in_row tiny_architecture start (left ∷ right ∷ []) row left 0 (trap 0) (0, lit< tt, refl) refl refl (free_alone tiny_architecture start.places _ _))
      (picks_in_row tiny_architecture start (left ∷ right ∷ []) row right 1 (trap 1) (1, lit< tt, refl) refl refl (free_alone tiny_architecture start.places _ _));
  once = pairs_two (λ (c d : Caught). (c.q ≢ d.q) × ¬ ((c.row ≡ d.row) × (c.column ≡ d.column))) first second
      ((λ e. absurd (omega arith)), (λ h. let e = h.1 in absurd (omega arith)));
  clear = two_crossings row left right
      (λ (r c : Beam). HasId (row ∷ []) r.id ⊎ HasId (left ∷ right ∷ []) c.id → ¬ Any (λ (a : Caught). (a.row ≡ r.id) × (a.column ≡ c.id)) (first ∷ second ∷ []) → IsClear tiny_architecture start 0 (crossing r c))
      (λ new none. absurd (none (0, first, lit< tt, refl, (refl, refl))))
      (λ new none. absurd (none (1, second, lit< tt, refl, (refl, refl))));
}

abbrev pub new_right : Beam
new_right = beam 1 20

abbrev pub site_row : Beam
site_row = beam 0 100

-- no atom rests in a trap after both are caught
none_rests : (t : TrapId) (q : ℕ) → ¬ IsAt caught q (Trap t)
none_rests t zero e = absurd (cc)
none_rests t (suc zero) e = absurd (cc)
none_rests t (suc (suc n)) e = absurd (cc)

lists_rows : ListsActive (site_row ∷ []) (row ∷ [])
lists_rows = record {
  once = pairs_one (λ (i j : ℕ). i ≢ j) 0;
  only = all_one (λ (b : Beam). HasId (row ∷ []) b.id) site_row (0, lit< tt, refl);
  all = all_one (λ (b : Beam). HasId (site_row ∷ []) b.id) row (0, lit< tt, refl);
}

lists_columns : ListsActive (left ∷ new_right ∷ []) (left ∷ right ∷ [])
lists_columns = record {
  once = pairs_two (λ (i j : ℕ). i ≢ j) 0 1 (λ e. absurd (omega arith));
  only = all_two (λ (b : Beam). HasId (left ∷ right ∷ []) b.id) left new_right (0, lit< tt, refl) (1, lit< tt, refl);
  all = all_two (λ (b : Beam). HasId (left ∷ new_right ∷ []) b.id) left right (0, lit< tt, refl) (1, lit< tt, refl);
}

pub carries : IsLegal tiny_architecture caught carry_both
carries = record {
  known = lit< tt;
  rows_listed = lists_rows;
  columns_listed = lists_columns;
  rows_placed = placed_one 10 site_row (lit≤ tt);
  columns_placed = placed_two 10 left new_right (lit≤ tt) (lit≤ tt);
  crossings = two_crossings site_row left new_right
      (λ (r c : Beam). IsClear tiny_architecture caught 0 (crossing r c) ⊎ CarriesOverEmptyTrap tiny_architecture caught 0 r c)
      (inr (record { q = 0; holds = refl; trap = trap 4; exact = refl; empty = none_rests (trap 4); free = free_alone tiny_architecture caught.places _ _ }))
      (inr (record { q = 1; holds = refl; trap = trap 5; exact = refl; empty = none_rests (trap 5); free = free_alone tiny_architecture caught.places _ _ }));
}

abbrev pub down : Dropped
down = record { q = 0; trap = trap 4 }

abbrev down_right : Dropped
down_right = record { q = 1; trap = trap 5 }

all_dropped : (q row column : ℕ) → IsAt carried q (Held 0 row column) → Any (λ (d : Dropped). d.q ≡ q) (down ∷ down_right ∷ [])
all_dropped zero row column e = (0, down, lit< tt, refl, refl)
all_dropped (suc zero) row column e = (1, down_right, lit< tt, refl, refl)
all_dropped (suc (suc n)) row column e = absurd (cc)

pub drops : IsLegal tiny_architecture carried (drop_both 5)
drops = record {
  known = lit< tt;
  rows_once = pairs_one (λ (i j : ℕ). i ≢ j) 0;
  columns_once = pairs_two (λ (i j : ℕ). i ≢ j) 0 1 (λ e. absurd (omega arith));
  rows_active = all_one (HasId (site_row ∷ [])) 0 (0, lit< tt, refl);
  columns_active = all_two (HasId (left ∷ new_right ∷ [])) 0 1 (0, lit< tt, refl) (1, lit< tt, refl);
  drops = all_two (Drops tiny_architecture carried 0 (0 ∷ []) (0 ∷ 1 ∷ [])) down down_right
      (record {
        row = site_row;
        column = left;
        row_active = (0, lit< tt, refl);
        column_active = (0, lit< tt, refl);
        held = refl;
        vanishes = inl (0, lit< tt, refl);
        exact = refl;
      })
      (record {
        row = site_row;
        column = new_right;
        row_active = (0, lit< tt, refl);
        column_active = (1, lit< tt, refl);
        held = refl;
        vanishes = inl (0, lit< tt, refl);
        exact = refl;
      });
  once = pairs_two (λ (i j : ℕ). i ≢ j) 0 1 (λ e. absurd (omega arith));
  all = λ q row column e listed. all_dropped q row column e;
}

pub lit_site : (x : ℕ) → x ≤ 20 → IsLit tiny_architecture (record { x = x; y = 100 })
lit_site x h = (1, _, lit< tt, refl, (refl, record { left = omega arith; right = omega arith; bottom = omega arith; top = omega arith }))

left_rests : RestsLit tiny_architecture dropped 0 (record { x = 0; y = 100 })
left_rests = (trap 4, refl, refl, lit_site 0 (lit≤ tt))

right_rests : RestsLit tiny_architecture dropped 1 (record { x = 20; y = 100 })
right_rests = (trap 5, refl, refl, lit_site 20 (lit≤ tt))

abbrev the_pair : PairOf
the_pair = record { op = 1; a = 0; b = 1 }

pair_of : (q r : ℕ) → AreInRange tiny_architecture dropped q r → Any (λ (p : PairOf). IsPairOf p q r) (the_pair ∷ [])
pair_of zero zero h = absurd (h.two refl)
pair_of zero (suc zero) h = (0, the_pair, lit< tt, refl, inl (refl, refl))
pair_of zero (suc (suc n)) h = let e = h.r_rests.1 in absurd (cc)
pair_of (suc zero) zero h = (0, the_pair, lit< tt, refl, inr (refl, refl))
pair_of (suc zero) (suc zero) h = absurd (h.two refl)
pair_of (suc zero) (suc (suc n)) h = let e = h.r_rests.1 in absurd (cc)
pair_of (suc (suc m)) r h = let e = h.q_rests.1 in absurd (cc)

in_a_pair : (q : ℕ) (p : Point) → RestsLit tiny_architecture dropped q p → Any (λ (pair : PairOf). (pair.a ≡ q) ⊎ (pair.b ≡ q)) (the_pair ∷ [])
in_a_pair zero p h = (0, the_pair, lit< tt, refl, inl refl)
in_a_pair (suc zero) p h = (0, the_pair, lit< tt, refl, inr refl)
in_a_pair (suc (suc n)) p h = let e = h.1 in absurd (cc)

all_dark : (aod : ℕ) → EachCrossing (beams_of dropped aod).rows (beams_of dropped aod).columns (λ row column. ¬ IsLit tiny_architecture (crossing row column))
all_dark zero row column r c = absurd (no_element row r)
all_dark (suc zero) row column r c = absurd (no_element row r)
all_dark (suc (suc n)) row column r c = absurd (no_element row r)

pub entangles : IsLegal tiny_architecture dropped entangle
entangles = record {
  in_range = record {
    only = all_one (λ (p : PairOf). AreInRange tiny_architecture dropped p.a p.b) the_pair
        (record {
          two = λ e. absurd (omega arith);
          q_at = record { x = 0; y = 100 };
          r_at = record { x = 20; y = 100 };
          q_rests = left_rests;
          r_rests = right_rests;
          near = lit≤ tt;
        });
    all = pair_of;
    once = pairs_one (λ (p p' : PairOf). ¬ IsPairOf p' p.a p.b) the_pair;
  };
  none_alone = in_a_pair;
  dark = all_dark;
}
