use Rattle.std.proofs.Common.{◌≡◌, ◌++◌, map, drop}
use Rattle.zac_aod.specs.Lines.{rows_of}
use Rattle.zac_aod.specs.Lowering.{Leg, unloading}
use Rattle.zac_aod.proofs.layout.Layout.unload.Given as goal

abbrev pub invariant-loop-number : goal.invariant-loop-number
invariant-loop-number l = l.steps.items ++ map (λ (leg : Leg). leg.step) (unloading l.self.card.now l.self.shifts.now 0 (drop l.number (rows_of l.self.card.now l.self.shifts.now))) ≡ l.initial.steps.items ++ map (λ (leg : Leg). leg.step) (unloading l.self.card.now l.self.shifts.now 0 (rows_of l.self.card.now l.self.shifts.now))
