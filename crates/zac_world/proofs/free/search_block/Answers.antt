use Rattle.std.proofs.Common.{arith}
use Rattle.zac_world.proofs.FreeFacts.{block_done, block_pruned, rows_more}
use Rattle.zac_world.proofs.free.search_block.Goals as goal

pub returns-then-reach_of-step-clause-block : goal.returns-then-reach_of-step-clause-block
returns-then-reach_of-step-clause-block c =
    block_pruned c.args.world.now c.args.marks.now c.args.from c.args.block c.count_below-middle.result c.loop-step.step c.reach_of.result c.loop-step.best c.requires.block c.count_below-middle.ensures.below c.count_below-middle.ensures.others c.loop-step.invariant.rows c.reach_of.ensures.reach c.if-reach_of-step.true

pub loop-step-preserved : goal.loop-step-preserved
loop-step-preserved c =
    record {
      no_worse = record {
        found = c.search_row-best-in-loop-step.ensures.no_worse.found;
        no_worse = omega (arith, c.search_row-best-in-loop-step.ensures.no_worse.no_worse, c.search_row-best.ensures.no_worse.no_worse, c.loop-step.invariant.no_worse.no_worse);
      };
      rows = rows_more c.args.world.now c.args.marks.now c.args.from c.args.block c.count_below-middle.result c.loop-step.step c.row_below.result c.loop-step.best c.search_row-best.result c.search_row-best-in-loop-step.result
          c.loop-step.invariant.rows c.search_row-best.ensures.no_worse.no_worse c.search_row-best-in-loop-step.ensures.no_worse.no_worse c.row_below.ensures.below c.search_row-best.ensures.row c.search_row-best-in-loop-step.ensures.row;
    }

pub returns-clause-block : goal.returns-clause-block
returns-clause-block c =
    block_done c.args.world.now c.args.marks.now c.args.from c.args.block c.count_below-middle.result c.loop-step.step c.loop-step.best c.requires.block c.count_below-middle.ensures.counted (omega (arith, c.loop-step-test.false)) c.loop-step.invariant.rows
