use Rattle.zac_plan.proofs.Planned.{DoesRounds}
use Rattle.zac_plan.proofs.planner.planned.Given as goal

abbrev pub invariant-loop-t : goal.invariant-loop-t
invariant-loop-t l = DoesRounds l.card l.circuit l.stages l.homes l.agenda l.world l.t
