use Rattle.std.proofs.Common.{◌≡◌, pos, length, get_or, ap, ◌∙◌, refl, arith, rules}
use Rattle.std.proofs.lemmas.Int.{ints}
use Rattle.std.proofs.lemmas.List.{get_or_read, length-append}
use Rattle.zac_assign.specs.Assignment.{price_at}
use Rattle.zac_place.proofs.JudgeFacts.{rows_more}
use Rattle.zac_place.proofs.judge.rows_of.Goals as goal
use mir.Val.{to_z, of_z, SFits}
use mir.Syntax.{w64}

pub loop-k-preserved : goal.loop-k-preserved
loop-k-preserved c =
    let k = c.loop-k.k in
    let targets = c.args.proposal.now.targets.items in
    let prices = c.args.proposal.now.prices.items in
    let z = c.index-in-loop-k.result.now in
    let target : c.index.result.now ≡ get_or targets k 0 = get_or_read targets k c.index.result.now (omega (arith, c.requires.target_each, c.loop-k-test.true)) c.index.ensures 0 in
    let fits : SFits w64 z = search rules in
    let whole : to_z w64 (of_z w64 z) ≡ z = omega (arith, ints) in
    let price : to_z w64 (of_z w64 z) ≡ price_at prices k = whole ∙ get_or_read prices k z (omega (arith, c.requires.price_each, c.loop-k-test.true)) c.index-in-loop-k.ensures (pos 0) in
    record {
      many = ap length c.in_ok-push-in-Some.ensures.items ∙ omega (arith, length-append c.loop-k.rows.items, c.loop-k.invariant.many);
      each = rows_more c.args.world.now c.args.marks.now c.args.leaving.now targets prices c.loop-k.rows.items c.push.new.self.items k (get_or c.args.leaving.now k 0) c.index.result.now (to_z w64 (of_z w64 z)) c.in-Some.row
          c.in_ok-push-in-Some.ensures.items c.loop-k.invariant.many c.loop-k.invariant.each c.in-Some.ensures refl target price;
    }
