use Rattle.std.proofs.Common.{◌++◌, List, get_or, sym, ap, ◌∙◌}
use Rattle.zac_arch.specs.declared.card.ZoneKind.TheVariants.{Storage}
use Rattle.zac_world.specs.Blocks.{size_of}
use Rattle.zac_world.specs.declared.block.Block.{Block}
use Rattle.zac_world.specs.Walks.{candidates_in}
use Rattle.zac_world.specs.declared.walk.Candidate.{Candidate}
use Rattle.zac_world.proofs.WalkFacts.{one_block}
use Rattle.zac_world.proofs.walk.empty_within.Goals as goal

abbrev none : Block
none = record { first = 0; zone = record { kind = Storage; x = 0; y = 0; dx = 0; dy = 0; pair = 0; columns = 0; rows = 0 } }

pub loop-block-preserved : goal.loop-block-preserved
loop-block-preserved c =
    let p = c.args.world.now in
    let d = c.args.disc in
    c.in_ok-add_block.ensures
    ∙ ap (λ (l : List Candidate). l ++ candidates_in p d (get_or c.args.blocks.now c.loop-block.block-index none).first (size_of (get_or c.args.blocks.now c.loop-block.block-index none))) c.loop-block.invariant
    ∙ sym (one_block p d c.args.blocks.now c.loop-block.block-index none c.requires.blocks c.loop-block-test.true)
