use Rattle.zair_state.proofs.Minima.{none_yet, none_next, none_at_all}
use Rattle.zair_machine.proofs.beams.position_of.Goals as goal

pub loop-b-init : goal.loop-b-init
loop-b-init c = none_yet c.args.id

pub loop-b-preserved : goal.loop-b-preserved
loop-b-preserved c = none_next c.args.beams.now c.loop-b.b-index _ c.args.id c.loop-b-test.true c.loop-b.invariant c.if-b-id.false

pub returns : goal.returns
returns c = none_at_all c.args.beams.now c.loop-b.b-index c.args.id c.loop-b-test.false c.loop-b.invariant
