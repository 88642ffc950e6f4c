use Rattle.std.proofs.Common.{◌||◌, Bool}
use Rattle.std.specs.Ordering.{nat_cmp}
use Rattle.std.specs.BTreeSet.{contains}
use Rattle.zair_form.specs.declared.step.PairOf.{PairOf}
use Rattle.zair_text.proofs.Counting.{count_more}
use Rattle.zair_text.proofs.counts.pairs_with.Goals as goal

pub loop-pair-preserved : goal.loop-pair-preserved
loop-pair-preserved c =
    let kept : PairOf → Bool = λ p. contains nat_cmp c.args.held.now p.a || contains nat_cmp c.args.held.now p.b in
    count_more kept c.args.pairs.now c.loop-pair.pair-index _ c.is_kept.result c.loop-pair.count c.one_more_if-count.result c.loop-pair-test.true c.is_kept.ensures c.loop-pair.invariant c.one_more_if-count.ensures
