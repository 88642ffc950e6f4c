use Rattle.zair_state.proofs.Minima.{least_twice_start, least_twice_listed, least_twice_listed_whole}
use Rattle.zair_machine.proofs.beams.least_id_twice.Goals as goal

pub loop-k-init : goal.loop-k-init
loop-k-init c = least_twice_start

pub loop-k-preserved : goal.loop-k-preserved
loop-k-preserved c =
    rw c.lesser_id_if-least.ensures (least_twice_listed c.args.ids.now c.loop-k.k _ _ c.loop-k.least c.loop-k-test.true c.is_listed_from_behind.ensures c.loop-k.invariant)

pub returns : goal.returns
returns c = least_twice_listed_whole c.args.ids.now c.loop-k.k c.loop-k.least c.loop-k-test.false c.loop-k.invariant
