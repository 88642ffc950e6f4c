use Rattle.std.proofs.Common.{◌++◌, List, subst, sym, take}
use Rattle.zac_aod.specs.Jobs.{StandAt}
use Rattle.zac_aod.specs.Lines.{crossings_of}
use Rattle.zac_arch.specs.declared.place.Point.{Point}
use Rattle.zac_aod.proofs.Gathering.{grid_more}
use Rattle.zac_aod.proofs.grid.add_grid.Goals as goal

pub loop-y-preserved : goal.loop-y-preserved
loop-y-preserved c = λ points h.
    subst (λ (ps : List Point). StandAt c.args.card.now c.add_row.new.traps.items ps)
    (sym (grid_more points c.args.xs.now c.args.ys.now c.loop-y.y-index 0 c.loop-y-test.true))
    (c.in_ok-add_row.ensures (points ++ crossings_of c.args.xs.now (take c.loop-y.y-index c.args.ys.now)) (c.loop-y.invariant points h))
