use Rattle.std.proofs.Common.{map, take}
use Rattle.zac_plan.specs.Growth.{GoesOn}
use Rattle.zac_plan.specs.Plan.{job_of}
use Rattle.zac_plan.proofs.agenda.Agenda.add_jobs.Given as goal

abbrev pub invariant-loop-group : goal.invariant-loop-group
invariant-loop-group l = GoesOn l.fn.self l.self (map (job_of l.card) (take l.group-index l.group-items))
