use Rattle.std.proofs.Common.{◌≡◌, ℕ, ◌+◌, ◌-◌, ◌*◌, ◌≤◌, true, sym, subst, arith}
use Rattle.zac_world.specs.Blocks.{block_distance}
use Rattle.zac_world.specs.Free.{is_free, rank_of}
use Rattle.zac_world.proofs.FreeFacts.{columns_done, found_at, found_one, not_both}
use Rattle.zac_world.proofs.free.search_columns.Goals as goal

pub returns-in-Some-clause-no_worse : goal.returns-in-Some-clause-no_worse
returns-in-Some-clause-no_worse c =
    let p = c.args.world.now in
    let b = c.args.block in
    let first = b.first + c.args.row * b.zone.columns in
    let t = c.in-Some.t in
    let told = c.in-Some.ensures in
    let e : first + (t - first) ≡ t = omega (arith, told.from_begin) in
    let free : is_free p c.args.marks.now (first + (t - first)) ≡ true = subst (λ (s : ℕ). is_free p c.args.marks.now s ≡ true) (sym e) told.free in
    record {
      found = found_one p c.args.marks.now c.args.from c.args.best c.nearer.result c.candidate_at.result c.requires.found
          (found_at p c.args.marks.now c.args.from b c.args.row (t - first) c.candidate_at.result c.requires.block c.requires.row_in (omega (arith, told.from_begin, told.before_end, c.requires.columns_in)) free c.candidate_at.ensures.distance c.candidate_at.ensures.trap c.candidate_at.ensures.limits)
          c.nearer.ensures.one;
      no_worse = c.nearer.ensures.no_worse;
    }

pub returns-in-Some-clause-columns : goal.returns-in-Some-clause-columns
returns-in-Some-clause-columns c i ge lt free =
    let b = c.args.block in
    let first = b.first + c.args.row * b.zone.columns in
    let t = c.in-Some.t in
    let told = c.in-Some.ensures in
    let here : rank_of c.nearer.result ≤ block_distance b c.args.row (t - first) c.args.from * 65536 + t =
    omega (arith, c.nearer.ensures.no_worse_than_other, c.candidate_at.ensures.distance, c.candidate_at.ensures.trap, told.from_begin) in
    columns_done c.args.world.now c.args.marks.now c.args.from b c.args.row c.args.columns.begin c.args.columns.end t (rank_of c.nearer.result) c.args.columns.side c.requires.block c.requires.row_in c.requires.columns_in c.requires.side told here i ge lt free

pub returns-in-None-clause-columns : goal.returns-in-None-clause-columns
returns-in-None-clause-columns c i ge lt free =
    let first = c.args.block.first + c.args.row * c.args.block.zone.columns in
    not_both (is_free c.args.world.now c.args.marks.now (first + i)) free (c.in-None.ensures (first + i) (omega arith) (omega arith))
