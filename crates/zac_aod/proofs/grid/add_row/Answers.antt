use Rattle.std.proofs.Common.{◌++◌, ◌+◌, List, map, subst, sym, take}
use Rattle.zac_aod.specs.Jobs.{StandAt}
use Rattle.zac_arch.specs.declared.place.TrapId.{TrapId}
use Rattle.zac_aod.proofs.Gathering.{row_more}
use Rattle.zac_aod.proofs.grid.add_row.Goals as goal

pub loop-x-preserved : goal.loop-x-preserved
loop-x-preserved c = λ points h.
    subst (λ (ts : List TrapId). StandAt c.args.card.now ts (points ++ map (λ x. record { x = x; y = c.args.y }) (take (c.loop-x.x-index + 1) c.args.xs.now)))
    (sym c.in_ok-push.ensures.items)
    (row_more c.args.card.now c.loop-x.traps.items points c.args.y c.args.xs.now c.loop-x.x-index 0 c.loop-x-test.true (c.loop-x.invariant points h) c.trap_at.result c.trap_at.ensures)
