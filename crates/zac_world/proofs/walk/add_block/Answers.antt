use Rattle.std.proofs.Common.{◌+◌, ◌*◌, ◌++◌, List, sym, ap, ◌∙◌, arith}
use Rattle.std.proofs.lemmas.List.{append-nil, append_assoc}
use Rattle.zac_world.specs.Walks.{candidates_in}
use Rattle.zac_world.specs.declared.walk.Candidate.{Candidate}
use Rattle.zac_world.proofs.WalkFacts.{block_after, block_before, block_too_far, one_row}
use Rattle.zac_world.proofs.walk.add_block.Goals as goal

pub returns-then-disc-across : goal.returns-then-disc-across
returns-then-disc-across c =
    let here = c.args.found.now.items in
    sym (append-nil here) ∙ ap (λ (l : List Candidate). here ++ l) (sym (block_too_far c.args.world.now c.args.disc c.args.block c.least_distance-across.result c.requires.block c.least_distance-across.ensures.least c.if-disc-across.true))

pub loop-row-init : goal.loop-row-init
loop-row-init c =
    let here = c.args.found.now.items in
    sym (append-nil here) ∙ ap (λ (l : List Candidate). here ++ l) (sym (block_before c.args.world.now c.args.disc c.args.block c.least_distance-across.result c.within_reach-begin.result.0 c.within_reach-begin.result.1 c.requires.block c.least_distance-across.ensures.least c.if-disc-across.false c.within_reach-begin.ensures.near (omega arith)))

pub loop-row-preserved : goal.loop-row-preserved
loop-row-preserved c =
    let here = c.args.found.now.items in
    let p = c.args.world.now in
    let d = c.args.disc in
    let b = c.args.block in
    let row = c.loop-row.row in
    c.in_ok-add_row.ensures
    ∙ ap (λ (l : List Candidate). l ++ candidates_in p d (b.first + row * b.zone.columns) b.zone.columns) c.loop-row.invariant
    ∙ append_assoc here (candidates_in p d b.first (row * b.zone.columns)) (candidates_in p d (b.first + row * b.zone.columns) b.zone.columns)
    ∙ ap (λ (l : List Candidate). here ++ l) (sym (one_row p d b row))

pub returns : goal.returns
returns c =
    let here = c.args.found.now.items in
    c.loop-row.invariant ∙ ap (λ (l : List Candidate). here ++ l) (sym (block_after c.args.world.now c.args.disc c.args.block c.least_distance-across.result c.within_reach-begin.result.0 c.within_reach-begin.result.1 c.loop-row.row c.requires.block c.least_distance-across.ensures.least c.if-disc-across.false c.within_reach-begin.ensures.near (omega arith) (omega arith)))
