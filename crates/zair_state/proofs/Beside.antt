-- Two AODs at once: how near their crossings may stand.
use Rattle.std.proofs.Common.{◌≡◌, ℕ, ◌<◌, ◌≢◌, ◌⊎◌, inl, [], ◌∷◌, refl, arith, zero, suc, lit<, lit≤}
use Rattle.std.specs.List.{Any}
use Rattle.zac_arch.specs.Distances.{IsFarther}
use Rattle.zac_arch.specs.Tiny.{tiny_architecture}
use Rattle.zair_form.specs.declared.step.Beam.{Beam}
use Rattle.zair_form.specs.declared.step.Caught.{Caught}
use Rattle.zair_state.specs.State.{HasId, IsClear, IsFreeOfOthers, crossing}
use Rattle.zair_state.specs.Legal.{IsLegal}
use Rattle.zair_state.specs.Examples.{beam, halfway, cross_beside}
use Rattle.zair_state.proofs.Closed.{no_element, one_crossing, pairs_one, placed_one}
use Rattle.zair_state.proofs.Entangling.{fresh}
use Rattle.zair_state.proofs.Recursion.{clear_by_test}

nobody : ¬ Any (λ (c : Caught). (c.row ≡ 0) × (c.column ≡ 0)) []
nobody h = let lt = h.2 in absurd (omega arith)

free : IsFreeOfOthers tiny_architecture halfway 1 (record { x = 6; y = 50 })
free zero ne = one_crossing (beam 0 50) (beam 0 0) (λ (r c : Beam). IsFarther 5 (record { x = 6; y = 50 }) (crossing r c)) (lit< tt)
free (suc zero) ne = λ r c _ _. absurd (ne refl)
free (suc (suc n)) ne = λ r c h _. absurd (no_element r h)

pub beside : IsLegal tiny_architecture halfway (cross_beside 6)
beside = record {
  known = lit< tt;
  rows_fresh = fresh _ (pairs_one (λ (i j : ℕ). i ≢ j) 0);
  columns_fresh = fresh _ (pairs_one (λ (i j : ℕ). i ≢ j) 0);
  few_rows = lit≤ tt;
  few_columns = lit≤ tt;
  rows_placed = placed_one 10 (beam 0 50) (lit≤ tt);
  columns_placed = placed_one 10 (beam 0 6) (lit≤ tt);
  picks = λ k d lt. absurd (omega arith);
  once = λ i j d lt below. absurd (omega arith);
  clear = one_crossing (beam 0 50) (beam 0 6)
      (λ (r c : Beam). HasId (beam 0 50 ∷ []) r.id ⊎ HasId (beam 0 6 ∷ []) c.id → ¬ Any (λ (a : Caught). (a.row ≡ r.id) × (a.column ≡ c.id)) [] → IsClear tiny_architecture halfway 1 (crossing r c))
      (λ new none. clear_by_test tiny_architecture halfway 1 (record { x = 6; y = 50 }) free refl);
}

pub near : ¬ IsLegal tiny_architecture halfway (cross_beside 3)
near h =
    let clear = h.clear (beam 0 50) (beam 0 3) (0, lit< tt, refl) (0, lit< tt, refl) (inl (0, lit< tt, refl)) nobody in
    let far : 25 < 9 = clear.free 0 (λ e. absurd (omega arith)) (beam 0 50) (beam 0 0) (0, lit< tt, refl) (0, lit< tt, refl) in
    absurd (omega arith)
