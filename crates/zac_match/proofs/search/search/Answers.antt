use Rattle.std.proofs.Common.{rules, ℕ, ◌≡◌, ◌+◌, ◌<◌, ◌≤◌, inl, inr, length, vec_len, arith, sym, ◌∙◌, subst}
use Rattle.std.specs.List.{Contains}
use Rattle.std.proofs.lemmas.Option.{MatchOption-at_none}
use Rattle.std.proofs.lemmas.Bool.{cases_eq}
use Rattle.zac_match.specs.Cover.{IsMarked}
use Rattle.zac_pairing.specs.Tree.{left_at}
use Rattle.zac_match.specs.Search.{unmarked_count}
use Rattle.zac_match.proofs.search.search.Goals as goal

pub returns-in-Some-clause-tree : goal.returns-in-Some-clause-tree
returns-in-Some-clause-tree c = (c.in_ok-right.ensures.keeps c.args.marks.now.items c.loop-from.invariant.search).tree

pub returns-in-Some-clause-edges : goal.returns-in-Some-clause-edges
returns-in-Some-clause-edges c = (c.in_ok-right.ensures.keeps c.args.marks.now.items c.loop-from.invariant.search).edges

pub loop-from-preserved : goal.loop-from-preserved
loop-from-preserved c =
    let pairs = c.args.pairs.now in
    let old = c.loop-from.invariant in
    let from = c.loop-from.from in
    let from_in : from < vec_len c.loop-from.steps = search rules in
    let ensures = c.in_ok-right.ensures in
    let failed : (v : ℕ) → Contains pairs (left_at c.loop-from.steps.items from, v) → IsMarked c.expand.new.marks.items v = MatchOption-at_none _ _ c.in_default.is ensures.failed in
    let longer : vec_len c.loop-from.steps ≤ vec_len c.expand.new.steps = ensures.longer in
    let count : unmarked_count c.expand.new.marks.items + vec_len c.expand.new.steps ≡ unmarked_count c.loop-from.marks.items + vec_len c.loop-from.steps = ensures.count in
    record {
      marks_len = search rules;
      search = ensures.keeps c.args.marks.now.items old.search;
      root = ensures.steps_stay 0 (omega arith) ∙ old.root;
      within = omega arith;
      count = omega (arith, old.count);
      done = λ i v h edge.
          let was : Contains pairs (left_at c.loop-from.steps.items i, v) =
          let P : ℕ → Type 0 = λ u. Contains pairs (u, v) in subst P (ensures.steps_stay i (omega arith)) edge in
          elim (cases_eq i from) [
            | inl s ↦ let P : ℕ → Type 0 = λ k. Contains pairs (left_at c.loop-from.steps.items k, v) in failed v (subst P s was)
            | inr d ↦ ensures.marks_stay v (old.done i v (omega arith) was)
          ];
    }

pub returns-clause-failed : goal.returns-clause-failed
returns-clause-failed c =
    let pairs = c.args.pairs.now in
    let old = c.loop-from.invariant in
    let all : c.loop-from.from ≡ length c.loop-from.steps.items = search rules in
    record {
      from_root = λ v edge.
          let P : ℕ → Type 0 = λ u. Contains pairs (u, v) in
          old.done 0 v (omega (arith, old.search.tree.some)) (subst P (sym old.root) edge);
      from_marked = λ u v w edge mated marked. elim (old.search.queued u w mated marked) [
        | inl was ↦ inl was
        | inr q ↦
            let P : ℕ → Type 0 = λ a. Contains pairs (a, v) in
            inr (old.done q.0 v (omega (arith, q.1)) (subst P (sym q.2) edge))
      ];
      kept = old.search.kept;
      mated = old.search.mated;
    }
