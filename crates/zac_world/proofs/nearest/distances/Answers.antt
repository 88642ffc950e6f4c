use Rattle.std.proofs.Common.{arith}
use Rattle.zac_world.proofs.NearestFacts.{between_more}
use Rattle.zac_world.proofs.nearest.distances.Goals as goal

pub loop-block-preserved : goal.loop-block-preserved
loop-block-preserved c =
    record {
      between = between_more c.args.blocks.now c.args.from c.loop-block.block-index c.loop-block.least c.loop-block.greatest c.least_distance.result c.greatest_distance.result c.min-least.result c.max-greatest.result _ c.loop-block.invariant.between c.least_distance.ensures.least c.greatest_distance.ensures.greatest c.loop-block-test.true (omega arith) (omega arith);
      least_most = omega arith;
      greatest_most = omega arith;
    }
