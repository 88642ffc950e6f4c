use Rattle.std.proofs.Common.{◌≤◌, refl, inl, lit<, arith}
use Rattle.zair_state.specs.Parking.{parking}
use Rattle.zair_state.specs.Resources as resource
use Rattle.zair_state.proofs.examples.parking_conflicts.Goals as goal

pub returns-clause-uses : goal.returns-clause-uses
returns-clause-uses c = inl (record { x = 30; y = 30 }, refl, (1, lit< tt, refl), (1, lit< tt, refl))

pub returns-clause-conflict : goal.returns-clause-conflict
returns-clause-conflict c =
    (resource.Trap 3, inl (record { x = 30; y = 30 }, refl, (1, lit< tt, refl), (1, lit< tt, refl)), inl (record { x = 30; y = 30 }, refl, (0, lit< tt, refl), (0, lit< tt, refl)))

pub returns-clause-early : goal.returns-clause-early
returns-clause-early c h =
    let late : 189332 ≤ 189331 = h 0 1 parking (lit< tt) (lit< tt)
    (resource.Trap 3, inl (record { x = 30; y = 30 }, refl, (1, lit< tt, refl), (1, lit< tt, refl)), inl (record { x = 30; y = 30 }, refl, (0, lit< tt, refl), (0, lit< tt, refl))) in
    absurd (omega arith)
