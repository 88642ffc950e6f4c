use Rattle.qasm_scope.proofs.WordLemmas.{again_first, again_more, again_all, known_again}
use Rattle.qasm_scope.proofs.bodies.least_again.Goals as goal

pub loop-i-init : goal.loop-i-init
loop-i-init c = again_first c.args.before.now c.args.names.now

pub loop-i-preserved : goal.loop-i-preserved
loop-i-preserved c =
    again_more c.args.before.now c.args.names.now c.loop-i.i c.index-names-i.result c.loop-i-test.true c.index-names-i.is c.loop-i.invariant (known_again c.args.before.now c.args.names.now c.loop-i.i c.as_slice.ensures c.has_word_in-again.ensures) c.then_some.ensures c.earlier-least.ensures

pub returns : goal.returns
returns c = again_all c.args.before.now c.args.names.now c.loop-i.i c.loop-i-test.false c.loop-i.invariant
