use Rattle.std.proofs.Common.{refl}
use Rattle.std.proofs.lemmas.Bool.{false≢true}
use Rattle.qasm_scope.specs.Judged.{HasPairFault}
use Rattle.qasm_scope.proofs.TestLemmas.{none_first, none_more, any_here, none_all}
use Rattle.qasm_scope.proofs.pairs.has_fault_with_later.Goals as goal

pub loop-b-init : goal.loop-b-init
loop-b-init c = none_first (HasPairFault c.args.known.now c.args.fault c.args.a.now) c.args.later.now

pub loop-b-preserved : goal.loop-b-preserved
loop-b-preserved c =
    none_more (HasPairFault c.args.known.now c.args.fault c.args.a.now) c.args.later.now c.loop-b.b-index c.b-item.result c.loop-b-test.true c.b-item.is c.loop-b.invariant c.has_pair_fault.ensures c.if-has_pair_fault.false

pub returns-then-has_pair_fault : goal.returns-then-has_pair_fault
returns-then-has_pair_fault c =
    (λ _. any_here (HasPairFault c.args.known.now c.args.fault c.args.a.now) c.args.later.now c.loop-b.b-index c.b-item.result c.loop-b-test.true c.b-item.is c.has_pair_fault.ensures c.if-has_pair_fault.true, λ _. refl)

pub returns : goal.returns
returns c =
    (λ e. absurd (false≢true e), λ w. absurd (none_all (HasPairFault c.args.known.now c.args.fault c.args.a.now) c.args.later.now c.loop-b.b-index c.loop-b-test.false c.loop-b.invariant w))
