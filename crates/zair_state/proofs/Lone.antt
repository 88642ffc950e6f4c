-- One atom is carried alone: each step is legal where it stands.
use Rattle.std.proofs.Common.{◌≡◌, ℕ, ◌≢◌, ◌⊎◌, inl, inr, [], ◌∷◌, refl, arith, zero, suc, lit<, lit≤}
use Rattle.std.specs.List.{Any}
use Rattle.zac_arch.specs.Tiny.{tiny_architecture}
use Rattle.zair_form.specs.declared.step.Beam.{Beam}
use Rattle.zair_form.specs.declared.step.Caught.{Caught}
use Rattle.zair_form.specs.declared.step.Dropped.{Dropped}
use Rattle.zair_state.specs.declared.place.Place.TheVariants.{Trap, Held}
use Rattle.zair_state.specs.State.{IsAt, HasId, IsClear, crossing}
use Rattle.zair_state.specs.Legal.{IsLegal, Picks, Drops, CarriesOverEmptyTrap, ListsActive}
use Rattle.zair_state.specs.Examples.{catch_one, raise_one, drop_one, held, raised, trap, start}
use Rattle.zair_state.proofs.Closed.{picks_in_row, one_crossing, all_one, pairs_one, placed_one, free_alone, trap_is}
use Rattle.zair_state.proofs.Entangling.{fresh, first, row, left, site_row, down}

pub catches_one : IsLegal tiny_architecture start catch_one
catches_one = record {
  known = lit< tt;
  rows_fresh = fresh _ (pairs_one (λ (i j : ℕ). i ≢ j) 0);
  columns_fresh = fresh _ (pairs_one (λ (i j : ℕ). i ≢ j) 0);
  few_rows = lit≤ tt;
  few_columns = lit≤ tt;
  rows_placed = placed_one 10 row (lit≤ tt);
  columns_placed = placed_one 10 left (lit≤ tt);
  picks = all_one (Picks tiny_architecture start 0 (row ∷ []) (left ∷ []) (row ∷ []) (left ∷ [])) first
      (picks_in_row tiny_architecture start (left ∷ []) row left 0 (trap 0) (0, lit< tt, refl) refl refl (free_alone tiny_architecture start.places _ _));
  once = pairs_one (λ (c d : Caught). (c.q ≢ d.q) × ¬ ((c.row ≡ d.row) × (c.column ≡ d.column))) first;
  clear = one_crossing row left
      (λ (r c : Beam). HasId (row ∷ []) r.id ⊎ HasId (left ∷ []) c.id → ¬ Any (λ (a : Caught). (a.row ≡ r.id) × (a.column ≡ c.id)) (first ∷ []) → IsClear tiny_architecture start 0 (crossing r c))
      (λ new none. absurd (none (0, first, lit< tt, refl, (refl, refl))));
}

none_in_four : (q : ℕ) → ¬ IsAt held q (Trap (trap 4))
none_in_four zero e = absurd (cc)
none_in_four (suc zero) e = absurd (omega (arith, trap_is (trap 1) (trap 4) e))
none_in_four (suc (suc n)) e = absurd (cc)

lists_one : (b c : Beam) → b.id ≡ 0 → c.id ≡ 0 → ListsActive (b ∷ []) (c ∷ [])
lists_one b c e f = record {
  once = pairs_one (λ (i j : ℕ). i ≢ j) b.id;
  only = all_one (λ (x : Beam). HasId (c ∷ []) x.id) b (0, lit< tt, cc);
  all = all_one (λ (x : Beam). HasId (b ∷ []) x.id) c (0, lit< tt, cc);
}

pub carries_one : IsLegal tiny_architecture held raise_one
carries_one = record {
  known = lit< tt;
  rows_listed = lists_one site_row row refl refl;
  columns_listed = lists_one left left refl refl;
  rows_placed = placed_one 10 site_row (lit≤ tt);
  columns_placed = placed_one 10 left (lit≤ tt);
  crossings = one_crossing site_row left
      (λ (r c : Beam). IsClear tiny_architecture held 0 (crossing r c) ⊎ CarriesOverEmptyTrap tiny_architecture held 0 r c)
      (inr (record { q = 0; holds = refl; trap = trap 4; exact = refl; empty = none_in_four; free = free_alone tiny_architecture held.places _ _ }));
}

all_dropped : (q row column : ℕ) → IsAt raised q (Held 0 row column) → Any (λ (d : Dropped). d.q ≡ q) (down ∷ [])
all_dropped zero row column e = (0, down, lit< tt, refl, refl)
all_dropped (suc zero) row column e = absurd (cc)
all_dropped (suc (suc n)) row column e = absurd (cc)

pub drops_one : IsLegal tiny_architecture raised drop_one
drops_one = record {
  known = lit< tt;
  rows_once = pairs_one (λ (i j : ℕ). i ≢ j) 0;
  columns_once = pairs_one (λ (i j : ℕ). i ≢ j) 0;
  rows_active = all_one (HasId (site_row ∷ [])) 0 (0, lit< tt, refl);
  columns_active = all_one (HasId (left ∷ [])) 0 (0, lit< tt, refl);
  drops = all_one (Drops tiny_architecture raised 0 (0 ∷ []) (0 ∷ [])) down
      (record {
        row = site_row;
        column = left;
        row_active = (0, lit< tt, refl);
        column_active = (0, lit< tt, refl);
        held = refl;
        vanishes = inl (0, lit< tt, refl);
        exact = refl;
      });
  once = pairs_one (λ (i j : ℕ). i ≢ j) 0;
  all = λ q row column e listed. all_dropped q row column e;
}
