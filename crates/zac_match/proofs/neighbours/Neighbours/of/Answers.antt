use Rattle.std.proofs.Common.{rules, ℕ, ◌≡◌, ◌+◌, ◌<◌, Some, None, Option, List, [], ◌∷◌, ◌++◌, length, set, arith, sym, ap, ◌∙◌, refl, subst}
use Rattle.std.proofs.lemmas.List.{get_or_read_under}
use Rattle.zac_match.specs.Chains.{AreChained, link, left_end}
use Rattle.zac_match.proofs.ChainFacts.{AreChained-push}
use Rattle.zac_match.proofs.neighbours.Neighbours.of.Goals as goal

pub loop-number-preserved : goal.loop-number-preserved
loop-number-preserved c =
    let pairs = c.args.pairs.now in
    let n = c.loop-number.number in
    let u = left_end pairs n in
    let last = c.loop-number.last.items in
    let before = c.loop-number.before.items in
    let u_in : u < length last = search rules in
    let read : c.index.result.now ≡ link last u = get_or_read_under last u (length last) _ None c.index.ensures u_in refl in
    let pushed : c.push.new.self.items ≡ before ++ c.index.result.now ∷ [] = search rules in
    let all : c.push.new.self.items ≡ before ++ link last u ∷ [] = pushed ∙ ap (λ x. before ++ x ∷ []) read in
    let P : List (Option ℕ) → Type 0 = λ b. AreChained pairs (set last u (Some n)) b (n + 1) in
    record {
      chained = subst P (sym all) (AreChained-push pairs last before n u c.loop-number.invariant.chained refl (search rules) u_in);
      last_len = search rules;
      before_len = search rules;
    }

pub returns-clause-chained : goal.returns-clause-chained
returns-clause-chained c =
    let all : c.loop-number.number ≡ length c.args.pairs.now = omega arith in
    let P : ℕ → Type 0 = λ n. AreChained c.args.pairs.now c.loop-number.last.items c.loop-number.before.items n in
    subst P all c.loop-number.invariant.chained
