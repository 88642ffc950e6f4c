use Rattle.std.proofs.Common.{arith}
use Rattle.zac_world.proofs.NearestFacts.{enough_around, all_around}
use Rattle.zac_world.proofs.nearest.around.Goals as goal
use Rattle.zac_world.proofs.nearest.around.Goals.{then-len-count-via-then-len-count, then-len-count-via-else-len-count+then-reach-greatest}

pub returns-then-len-count : goal.returns-then-len-count
returns-then-len-count c =
    elim c.then-len-count.branch [
      | then-len-count-via-then-len-count w ↦
          enough_around c.args.world.now c.args.centre c.args.count c.in_ok-found.found.items _ c.in_ok-found.ensures (omega arith)
      | then-len-count-via-else-len-count+then-reach-greatest w ↦
          all_around c.args.world.now c.args.centre c.args.count c.in_ok-found.found.items c.args.blocks.now c.distances-least.result.0 c.distances-least.result.1 _ c.in_ok-found.ensures c.requires.blocks c.distances-least.ensures.between (omega arith)
    ]
