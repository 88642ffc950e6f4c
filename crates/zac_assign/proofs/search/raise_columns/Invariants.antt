use Rattle.zac_assign.specs.Search.{RaisesColumns}
use Rattle.zac_assign.proofs.search.raise_columns.Given as goal

abbrev pub invariant-loop-step : goal.invariant-loop-step
invariant-loop-step l = RaisesColumns l.pairs.left.items l.room.steps.items l.step-index l.by l.initial.fee l.fee
