use Rattle.std.proofs.Common.{arith}
use Rattle.zac_world.specs.declared.block.Block.{Block}
use Rattle.zac_arch.specs.declared.card.ZoneKind.TheVariants.{Storage}
use Rattle.zac_world.proofs.FreeFacts.{block_more, blocks_done}
use Rattle.zac_world.proofs.free.search.Goals as goal

abbrev no_block : Block
no_block = record { first = 0; zone = record { kind = Storage; x = 0; y = 0; dx = 0; dy = 0; pair = 0; columns = 0; rows = 0 } }

pub loop-block-preserved : goal.loop-block-preserved
loop-block-preserved c =
    record {
      found = c.search_block-best.ensures.no_worse.found;
      blocks = block_more c.args.world.now c.args.marks.now c.args.from c.args.blocks.now c.loop-block.block-index no_block c.loop-block.best c.search_block-best.result c.loop-block-test.true c.search_block-best.ensures.no_worse.no_worse c.loop-block.invariant.blocks c.search_block-best.ensures.block;
    }

pub returns-clause-all : goal.returns-clause-all
returns-clause-all c =
    blocks_done c.args.world.now c.args.marks.now c.args.from c.args.blocks.now c.loop-block.best c.requires.blocks (λ k b lt. c.loop-block.invariant.blocks k b (omega (arith, c.loop-block-test.false)))
