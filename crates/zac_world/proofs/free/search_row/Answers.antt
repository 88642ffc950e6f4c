use Rattle.std.proofs.Common.{◌+◌, ◌*◌, ◌≤◌, ◌<◌, inl, inr, arith}
use Rattle.std.proofs.lemmas.Bool.{cases_lt}
use Rattle.zac_world.specs.Blocks.{block_distance}
use Rattle.zac_world.specs.Free.{rank, rank_of}
use Rattle.zac_world.proofs.FreeFacts.{beyond}
use Rattle.zac_world.proofs.free.search_row.Goals as goal

pub returns-then-reach-up-clause-row : goal.returns-then-reach-up-clause-row
returns-then-reach-up-clause-row c row_in i lt free =
    beyond c.args.world.now c.args.from c.args.block c.args.row i c.reach_of-reach.result (rank_of c.args.best) c.requires.block row_in lt c.reach_of-reach.ensures.reach (omega (arith, c.abs_diff-up.ensures, c.if-reach-up.true))

pub returns-clause-row : goal.returns-clause-row
returns-clause-row c row_in i lt free =
    let b = c.args.block in
    let begin = c.within_reach-begin.result.0 in
    let end = c.within_reach-begin.result.1 in
    let reach = c.reach_of-reach.result in
    let old : rank_of c.search_columns.result ≤ rank_of c.args.best = omega (arith, c.search_columns-best.ensures.no_worse.no_worse, c.search_columns.ensures.no_worse.no_worse) in
    let at = rank c.args.world.now c.args.from ((b.first + c.args.row * b.zone.columns) + i) in
    let outside : reach < block_distance b c.args.row i c.args.from → rank_of c.search_columns.result ≤ at =
    λ far. beyond c.args.world.now c.args.from b c.args.row i reach (rank_of c.search_columns.result) c.requires.block row_in lt (omega (arith, old, c.reach_of-reach.ensures.reach)) far in
    let near = c.within_reach-begin.ensures.near i lt in
    elim (cases_lt (reach) (block_distance b c.args.row i c.args.from)) as (λ _. rank_of c.search_columns.result ≤ at) [
      | inl far ↦ outside far
      | inr close ↦
          let within = near.0 (omega (arith, close, c.abs_diff-up.ensures, c.if-reach-up.false)) in
          elim (cases_lt i c.min-middle.result) as (λ _. rank_of c.search_columns.result ≤ at) [
            | inl low ↦ omega (arith, c.search_columns.ensures.no_worse.no_worse, c.search_columns-best.ensures.columns i within.0 low free)
            | inr high ↦ c.search_columns.ensures.columns i high within.1 free
          ]
    ]
