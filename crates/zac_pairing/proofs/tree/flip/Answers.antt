use Rattle.std.proofs.Common.{rules, ℕ, ◌≡◌, ◌+◌, ◌<◌, List, None, Some, Option, length, set, sym, ap, ◌∙◌, subst}
use Rattle.std.specs.Prelude.{IsSome}
use Rattle.std.proofs.lemmas.Option.{same_Some}
use Rattle.zac_pairing.specs.Pairing.{mate, freed, free_count}
use Rattle.zac_pairing.specs.Tree.{IsTree, HasPairs, AllPass, left_at, from_at}
use Rattle.zac_pairing.proofs.PairingFacts.{mate_in, mate-joined_left, joined_as_many, joined_kept}
use Rattle.zac_pairing.proofs.TreeFacts.{AllPass-set, some-set, IsTree-flipped, HasPairs-flipped, next_pair}
use Rattle.zac_pairing.proofs.tree.flip.Goals as goal

pub loop-before-preserved : goal.loop-before-preserved
loop-before-preserved c =
    let left = c.loop-before.pairs.left.items in
    let rights = c.loop-before.pairs.right.items in
    let steps = c.args.steps.now in
    let at = c.loop-before.at in
    let right = c.loop-before.right in
    let w = c.in-Some.before in
    let u = left_at steps at in
    let next = from_at steps at in
    let old = c.loop-before.invariant in
    let mated : mate left u ≡ Some w = sym c.in-Some.ensures.before in
    let now : c.join.new.self.left.items ≡ set left u (Some right) = c.join.ensures.left in
    let now_right : c.join.new.self.right.items ≡ set (freed rights (mate left u)) right (Some u) = c.join.ensures.right in
    let left_in : u < length left = mate_in left u w mated in
    let right_in : right < length rights = search rules in
    let back : mate rights w ≡ Some u = c.loop-before.pairs.pairing.there u w mated in
    let w_in : w < length rights = mate_in rights w u back in
    let T : List (Option ℕ) → Type 0 = λ l. IsTree l steps (next + 1) in
    let N : List (Option ℕ) → Type 0 = λ l. free_count l ≡ free_count c.args.pairs.now.right.items in
    let M : List (Option ℕ) → Type 0 = λ l. mate l w ≡ None in
    let S : List (Option ℕ) → Type 0 = λ l. (r x : ℕ) → mate c.args.pairs.now.left.items r ≡ Some x → IsSome (mate l r) in
    record {
      left_len = search rules;
      right_len = search rules;
      tree = subst T (sym now) (IsTree-flipped left steps at right w old.tree mated);
      right_in = search rules;
      free = subst M (sym now_right) (mate-joined_left left rights u right c.loop-before.pairs.pairing left_in right_in old.free w mated);
      count = subst N (sym now_right) (joined_as_many left rights u right c.loop-before.pairs.pairing right_in old.free w mated ∙ old.count);
      kept = λ x d e.
          let there : mate (set (freed rights (mate left u)) right (Some u)) x ≡ None = ap (λ l. mate l x) (sym now_right) ∙ e in
          let was = joined_kept left rights u right c.loop-before.pairs.pairing right_in old.free x there (λ s. d (same_Some x w (sym s ∙ mated))) in
          old.kept x was.0 was.1;
      stay = subst S (sym now) (λ r x e. some-set left u right r left_in (old.stay r x e));
      pass = λ test was tree_pairs this.
          let before = old.pass test was tree_pairs this in
          let E : List (Option ℕ) → Type 0 = λ l. AllPass test l in
          let H : List (Option ℕ) → Type 0 = λ l. HasPairs test l steps (next + 1) in (
            subst E (sym now) (AllPass-set test left u right left_in before.0 before.1.1),
            (
              subst H (sym now) (HasPairs-flipped left steps at right w old.tree mated test before.1.0),
              next_pair left steps at right w old.tree mated test before.1.0,
            ),
          );
    }
