use Rattle.std.proofs.Common.{ap, ◌∙◌, arith}
use Rattle.zac_aod.specs.Aods.{step_on}
use Rattle.zac_aod.proofs.OtherAods.{one_more_on}
use Rattle.zac_aod.proofs.job.all_on.Goals as goal

pub loop-k-preserved : goal.loop-k-preserved
loop-k-preserved c =
    one_more_on c.args.aod c.args.steps.now.items c.loop-k.steps.items c.loop-k.k c.index_mut.result.now c.step_on.new.step (omega (arith, c.loop-k-test.true, c.len-k-end.ensures))
    c.loop-k.invariant (c.step_on.ensures ∙ ap (step_on c.args.aod) c.index_mut.ensures.value)
