use Rattle.std.proofs.Common.{◌≡◌, ◌++◌, [], ◌∷◌, Some, get_or, refl, ap, ◌∙◌, sym, subst, arith}
use Rattle.std.specs.List.{AllByRecursion}
use Rattle.std.specs.Vec.{vec_len}
use Rattle.std.proofs.lemmas.Option.{slice_get_read}
use Rattle.zair_form.specs.Ranges.{PairFits}
use Rattle.zair_form.specs.declared.step.PairOf.{PairOf}
use Rattle.zac_plan.specs.Plan.{pair_of}
use Rattle.zac_plan.proofs.Lists.{all-append}
use Rattle.zac_plan.proofs.Taking.{no_pair, took_none, took_one}
use Rattle.zac_plan.proofs.slots.pairs_at.Goals as goal
use Rattle.zac_plan.proofs.slots.pairs_at.Goals.{in-Two+in_ok-push, in_default}

pub loop-number-preserved : goal.loop-number-preserved
loop-number-preserved c =
    let ops = c.args.ops.now in
    let numbers = c.args.numbers.now in
    let k = c.loop-number.number-index in
    let n = get_or numbers k 0 in
    let there = slice_get_read ops _ n c.index-ops-number.result refl (omega arith) c.index-ops-number.is in
    elim c.match-ops-number.branch [
      | in-Two+in_ok-push w ↦
          let pair : PairOf = record { op = n; a = w.in-Two.a; b = w.in-Two.b } in
          let gives : pair_of n c.index-ops-number.result ≡ Some pair = ap (pair_of n) w.in-Two.is in
          let pushed : c.match-ops-number.pairs.items ≡ c.loop-number.pairs.items ++ pair ∷ [] = ap (λ v. v.items) w.pairs-is ∙ w.in_ok-push.ensures.items in
          record {
            pairs = took_one PairOf pair_of ops numbers k c.index-ops-number.result c.loop-number.pairs.items c.match-ops-number.pairs.items c.loop-number-test.true there c.loop-number.invariant.pairs pair gives pushed;
            fit = subst (AllByRecursion PairFits) (sym pushed) (all-append PairFits c.loop-number.pairs.items (pair ∷ []) c.loop-number.invariant.fit ((omega arith, omega arith, omega arith), tt));
            most = omega (arith, ap (λ v. vec_len v) w.pairs-is, w.in_ok-push.ensures.len, c.loop-number.invariant.most);
          }
      | in_default w ↦
          let same : c.match-ops-number.pairs.items ≡ c.loop-number.pairs.items = ap (λ v. v.items) w.pairs-is in
          record {
            pairs = took_none PairOf pair_of ops numbers k c.index-ops-number.result c.loop-number.pairs.items c.match-ops-number.pairs.items c.loop-number-test.true there c.loop-number.invariant.pairs (no_pair n c.index-ops-number.result w.in_default.not-Two) same;
            fit = subst (AllByRecursion PairFits) (sym same) c.loop-number.invariant.fit;
            most = omega (arith, ap (λ v. vec_len v) w.pairs-is, c.loop-number.invariant.most);
          }
    ]
