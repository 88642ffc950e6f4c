use Rattle.zac_assign.specs.Search.{RaisesRows}
use Rattle.zac_assign.proofs.search.raise_rows.Given as goal

abbrev pub invariant-loop-step : goal.invariant-loop-step
invariant-loop-step l = RaisesRows l.room.steps.items l.step-index l.by l.initial.price l.price
