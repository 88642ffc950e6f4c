use Rattle.std.proofs.Common.{◌≡◌, ◌++◌, map, drop}
use Rattle.zac_aod.specs.Lines.{rows_of}
use Rattle.zac_aod.specs.Lowering.{Leg, loading}
use Rattle.zac_aod.proofs.layout.Layout.load.Given as goal

abbrev pub invariant-loop-number : goal.invariant-loop-number
invariant-loop-number l = l.steps.items ++ map (λ (leg : Leg). leg.step) (loading l.self.card.now l.self.shifts.now 0 (drop l.number (rows_of l.self.card.now l.self.shifts.now))) ≡ l.initial.steps.items ++ map (λ (leg : Leg). leg.step) (loading l.self.card.now l.self.shifts.now 0 (rows_of l.self.card.now l.self.shifts.now))
