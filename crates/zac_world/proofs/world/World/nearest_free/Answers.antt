use Rattle.std.proofs.Common.{subst}
use Rattle.zac_world.specs.Blocks.{AreBlocks}
use Rattle.zac_world.specs.Places.{Places}
use Rattle.zac_world.proofs.FreeFacts.{nearest_by_rank}
use Rattle.zac_world.proofs.world.World.nearest_free.Goals as goal

pub returns : goal.returns
returns c =
    let blocks = c.self.inside.blocks.items in
    let are : AreBlocks c.args.self.now.architecture blocks = subst (λ (v : Places). AreBlocks v.architecture blocks) c.self.view_is c.self.invariant.blocks_are in
    nearest_by_rank c.args.self.now c.args.marks.now c.args.from blocks c.search.result are c.requires.x_most c.requires.y_most c.search.ensures.found c.search.ensures.all
