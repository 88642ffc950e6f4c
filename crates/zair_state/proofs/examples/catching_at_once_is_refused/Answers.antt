use Rattle.std.proofs.Common.{◌≡◌, ◌<◌, [], ◌∷◌, zero, suc, refl, inl, ap, arith, lit<}
use Rattle.std.specs.List.{Any}
use Rattle.zair_form.specs.declared.step.Caught.{Caught}
use Rattle.zair_state.specs.Examples.{beam}
use Rattle.zair_state.specs.Parking.{caught_at}
use Rattle.zair_state.proofs.examples.catching_at_once_is_refused.Goals as goal

-- no listed atom is caught at the crossing of the second row and the second column
no_corner : ¬ Any (λ (c : Caught). (c.row ≡ 1) × (c.column ≡ 1)) (caught_at 0 0 0 ∷ caught_at 1 0 1 ∷ caught_at 2 1 0 ∷ [])
no_corner (zero, x, lt, e, (row, column)) = let at : 0 ≡ x.row = ap (λ (y : Caught). y.row) e in absurd (omega arith)
no_corner (suc zero, x, lt, e, (row, column)) = let at : 0 ≡ x.row = ap (λ (y : Caught). y.row) e in absurd (omega arith)
no_corner (suc (suc zero), x, lt, e, (row, column)) = let at : 0 ≡ x.column = ap (λ (y : Caught). y.column) e in absurd (omega arith)
no_corner (suc (suc (suc n)), x, lt, e, at) = absurd (omega arith)

pub returns : goal.returns
returns c h =
    let clear = h.clear (beam 1 30) (beam 1 30) (1, lit< tt, refl) (1, lit< tt, refl) (inl (1, lit< tt, refl)) no_corner in
    let off : 25 < 0 = clear.off_traps 3 (record { x = 0; y = 0 }) (lit< tt) in
    absurd (omega arith)
