use Rattle.std.proofs.Common.{◌≡◌, ◌++◌, map, take, drop}
use Rattle.zac_aod.specs.Aods.{step_on}
use Rattle.zac_aod.proofs.job.all_on.Given as goal

-- the steps so far are of the other AOD
abbrev pub invariant-loop-k : goal.invariant-loop-k
invariant-loop-k l = l.steps.items ≡ map (step_on l.aod) (take l.k l.initial.steps.items) ++ drop l.k l.initial.steps.items
