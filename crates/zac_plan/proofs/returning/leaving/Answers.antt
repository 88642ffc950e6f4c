use Rattle.std.proofs.Common.{arith}
use Rattle.std.specs.BTreeSet.{contains}
use Rattle.std.specs.Ordering.{nat_cmp}
use Rattle.zac_plan.proofs.Returns.{leaving_more}
use Rattle.zac_plan.proofs.returning.leaving.Goals as goal

pub loop-pair-preserved : goal.loop-pair-preserved
loop-pair-preserved c = record {
  leaving =
      leaving_more c.args.ops.now c.args.before.now c.args.kept.now c.loop-pair.pair-index _ (contains nat_cmp c.in_ok-staying.staying) c.loop-pair.qubits.items
      c.add_unless.new.qubits.items c.add_unless-in-loop-pair.new.qubits.items c.loop-pair-test.true c.in_ok-staying.ensures c.loop-pair.invariant.leaving
      c.in_ok-add_unless.ensures.added c.in_ok-add_unless-2.ensures.added;
  most = omega (arith, c.loop-pair.invariant.most, c.in_ok-add_unless.ensures.most, c.in_ok-add_unless-2.ensures.most);
}
