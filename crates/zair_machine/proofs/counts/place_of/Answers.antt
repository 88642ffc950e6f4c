use Rattle.std.proofs.lemmas.Option.{slice_get-get_or}
use Rattle.zair_state.proofs.Minima.{none_yet, none_next, none_at_all}
use Rattle.zair_machine.proofs.counts.place_of.Goals as goal

pub loop-k-init : goal.loop-k-init
loop-k-init c = none_yet c.args.id

pub loop-k-preserved : goal.loop-k-preserved
loop-k-preserved c = none_next c.args.beams.now c.loop-k.k (record { id = 0; at = 0 }) c.args.id c.loop-k-test.true c.loop-k.invariant c.if-b-id.false

pub returns-then-b-id : goal.returns-then-b-id
returns-then-b-id c = (_, slice_get-get_or c.args.beams.now c.loop-k.k (record { id = 0; at = 0 }) c.loop-k-test.true, c.if-b-id.true)

pub returns : goal.returns
returns c = none_at_all c.args.beams.now c.loop-k.k c.args.id c.loop-k-test.false c.loop-k.invariant
