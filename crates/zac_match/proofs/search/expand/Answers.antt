use Rattle.std.proofs.Common.{rules, ℕ, ◌≡◌, ◌+◌, ◌<◌, ◌≤◌, Bool, List, None, Option, length, get_or, vec_len, arith, sym, ap, ◌∙◌, refl, subst}
use Rattle.std.specs.List.{Contains}
use Rattle.std.proofs.lemmas.List.{get_or_read_under}
use Rattle.zac_match.specs.Chains.{link, bound}
use Rattle.zac_pairing.specs.Pairing.{mate}
use Rattle.zac_pairing.specs.Tree.{left_at}
use Rattle.zac_match.specs.Search.{IsSearch, Visits, unmarked_count}
use Rattle.zac_pairing.proofs.TreeFacts.{step_read}
use Rattle.zac_match.proofs.SearchFacts.{EdgesMarked, EdgesMarked-none, EdgesMarked-next, Contains-at, visit_keeps, visit_marks, visit_marks_stay, visit_steps_stay, visit_longer, visit_count}
use Rattle.std.proofs.lemmas.Bool.{MatchBool-at_true, MatchBool-at_false}
use Rattle.zac_pairing.specs.declared.tree.Step.{Step}
use Rattle.zac_match.proofs.ChainFacts.{bound_before}
use Rattle.zac_match.proofs.CoverFacts.{is_edge-from_Contains}
use Rattle.zac_match.proofs.search.expand.Goals as goal

pub loop-edge-init : goal.loop-edge-init
loop-edge-init c =
    let read = step_read c.args.steps.now.items c.args.from c.index.result.now c.requires.from_in c.index.ensures in
    let u_in : left_at c.args.steps.now.items c.args.from < length c.args.neighbours.now.last.items = search rules in
    let in_last : c.index.result.now.left < length c.args.neighbours.now.last.items = omega (arith, read.0) in
    let first : c.index-edge.result.now ≡ link c.args.neighbours.now.last.items c.index.result.now.left = get_or_read_under c.args.neighbours.now.last.items c.index.result.now.left (length c.args.neighbours.now.last.items) c.index-edge.result.now None c.index-edge.ensures in_last refl in
    record {
      marks_len = refl;
      keeps = λ before h. h;
      count = refl;
      longer = search rules;
      steps_stay = λ j h. refl;
      marks_stay = λ v h. h;
      chain = λ e h. c.requires.chained.last_sound c.index.result.now.left e (sym first ∙ h);
      left_is = read.0;
      done = let P : Option ℕ → Type 0 = λ o. EdgesMarked c.args.pairs.now c.args.marks.now.items c.index.result.now.left (bound o) in
          subst P (sym first) (EdgesMarked-none c.args.pairs.now c.args.neighbours.now.last.items c.args.neighbours.now.before.items c.args.marks.now.items c.index.result.now.left c.requires.chained);
    }

pub bounds-pairs-number : goal.bounds-pairs-number
bounds-pairs-number c = (c.loop-edge.invariant.chain c.in-Some.number c.in-Some.is).0

pub offset_bounds-pairs-number : goal.offset_bounds-pairs-number
offset_bounds-pairs-number c =
    let h : c.in-Some.number < length c.args.pairs.now = (c.loop-edge.invariant.chain c.in-Some.number c.in-Some.is).0 in
    search rules

pub returns-then-branch-clause-keeps : goal.returns-then-branch-clause-keeps
returns-then-branch-clause-keeps c =
    let same : (mate c.args.mates.now.right.items _ ≡ None) × (c.visit.new.marks.items ≡ c.loop-edge.marks.items) × (c.visit.new.steps.items ≡ c.loop-edge.steps.items) =
    MatchBool-at_true _ _ c.if-branch.true c.in_ok-visit.ensures.outcome in
    λ before h.
    let was = c.loop-edge.invariant.keeps before h in
    let P : List Bool → Type 0 = λ m. IsSearch c.args.pairs.now c.args.mates.now.left.items c.args.mates.now.right.items before m c.visit.new.steps.items in
    let Q : List Step → Type 0 = λ s. IsSearch c.args.pairs.now c.args.mates.now.left.items c.args.mates.now.right.items before c.loop-edge.marks.items s in
    subst P (sym same.1) (subst Q (sym same.2) was)

pub returns-then-branch-clause-found : goal.returns-then-branch-clause-found
returns-then-branch-clause-found c =
    let pairs = c.args.pairs.now in
    let number = c.in-Some.number in
    let left = left_at c.args.steps.now.items c.args.from in
    let here = c.loop-edge.invariant.chain number c.in-Some.is in
    let free : (mate c.args.mates.now.right.items (get_or pairs number (0, 0)).1 ≡ None) × (c.visit.new.marks.items ≡ c.loop-edge.marks.items) × (c.visit.new.steps.items ≡ c.loop-edge.steps.items) =
    MatchBool-at_true _ _ c.if-branch.true c.in_ok-visit.ensures.outcome in
    (is_edge-from_Contains pairs left (get_or pairs number (0, 0)).1 (Contains-at pairs number left here.0 (here.1 ∙ c.loop-edge.invariant.left_is)), (c.requires.in_range.each number (0, 0) here.0).1, free.0)

pub loop-edge-smaller : goal.loop-edge-smaller
loop-edge-smaller c =
    let number = c.in-Some.number in
    let here = c.loop-edge.invariant.chain number c.in-Some.is in
    let in_before : number < length c.args.neighbours.now.before.items = search rules in
    let next : c.index-edge-in-Some.result.now ≡ link c.args.neighbours.now.before.items number = get_or_read_under c.args.neighbours.now.before.items number (length c.args.neighbours.now.before.items) c.index-edge-in-Some.result.now None c.index-edge-in-Some.ensures in_before refl in
    let down : bound (link c.args.neighbours.now.before.items number) ≤ number = bound_before c.args.pairs.now c.args.neighbours.now.last.items c.args.neighbours.now.before.items (length c.args.pairs.now) number c.requires.chained here.0 in
    let less : bound c.index-edge-in-Some.result.now < bound c.loop-edge.edge = omega (arith, ap bound next, ap bound c.in-Some.is) in
    less

pub loop-edge-preserved : goal.loop-edge-preserved
loop-edge-preserved c =
    let pairs = c.args.pairs.now in
    let left = c.args.mates.now.left.items in
    let right = c.args.mates.now.right.items in
    let number = c.in-Some.number in
    let v = (get_or pairs number (0, 0)).1 in
    let old = c.loop-edge.invariant in
    let here = old.chain number c.in-Some.is in
    let chained = c.requires.chained in
    let before_items = c.args.neighbours.now.before.items in
    let in_before : number < length before_items = search rules in
    let next : c.index-edge-in-Some.result.now ≡ link before_items number = get_or_read_under before_items number (length before_items) c.index-edge-in-Some.result.now None c.index-edge-in-Some.ensures in_before refl in
    let visits : Visits right v c.args.from c.loop-edge.marks.items c.visit.new.marks.items c.loop-edge.steps.items c.visit.new.steps.items =
    MatchBool-at_false _ _ c.if-branch.false c.in_ok-visit.ensures.outcome in
    let bounded : v < vec_len c.args.mates.now.right = (c.requires.in_range.each number (0, 0) here.0).1 in
    let v_in : v < length c.loop-edge.marks.items = search rules in
    let from_in : c.args.from < length c.loop-edge.steps.items = search rules in
    let edge : Contains pairs (left_at c.args.steps.now.items c.args.from, v) = Contains-at pairs number (left_at c.args.steps.now.items c.args.from) here.0 (here.1 ∙ old.left_is) in
    let from_stays : left_at c.loop-edge.steps.items c.args.from ≡ left_at c.args.steps.now.items c.args.from = old.steps_stay c.args.from (search rules) in
    let E : ℕ → Type 0 = λ u. Contains pairs (u, v) in
    let longer : length c.loop-edge.steps.items ≤ length c.visit.new.steps.items = visit_longer right v c.args.from c.loop-edge.marks.items c.visit.new.marks.items c.loop-edge.steps.items c.visit.new.steps.items visits in
    let count : unmarked_count c.visit.new.marks.items + length c.visit.new.steps.items ≡ unmarked_count c.loop-edge.marks.items + length c.loop-edge.steps.items = visit_count right v c.args.from c.loop-edge.marks.items c.visit.new.marks.items c.loop-edge.steps.items c.visit.new.steps.items v_in visits in
    record {
      marks_len = search rules;
      keeps = λ before h. visit_keeps pairs left right before c.loop-edge.marks.items c.visit.new.marks.items c.loop-edge.steps.items c.visit.new.steps.items c.args.from v c.args.mates.now.pairing from_in (subst E (sym from_stays) edge) v_in visits (old.keeps before h);
      count = search rules;
      longer = search rules;
      steps_stay = λ j h. visit_steps_stay right v c.args.from c.loop-edge.marks.items c.visit.new.marks.items c.loop-edge.steps.items c.visit.new.steps.items visits j (search rules) ∙ old.steps_stay j h;
      marks_stay = λ k m. visit_marks_stay right v c.args.from c.loop-edge.marks.items c.visit.new.marks.items c.loop-edge.steps.items c.visit.new.steps.items visits k (old.marks_stay k m);
      chain = λ e h. let was = chained.before_sound number e here.0 (sym next ∙ h) in (omega (arith, was.0, here.0), was.1 ∙ here.1);
      left_is = old.left_is;
      done =
          let marked = visit_marks right v c.args.from c.loop-edge.marks.items c.visit.new.marks.items c.loop-edge.steps.items c.visit.new.steps.items v_in visits in
          let stays = visit_marks_stay right v c.args.from c.loop-edge.marks.items c.visit.new.marks.items c.loop-edge.steps.items c.visit.new.steps.items visits in
          let before : EdgesMarked pairs c.loop-edge.marks.items c.index.result.now.left (number + 1) =
          let P : Option ℕ → Type 0 = λ o. EdgesMarked pairs c.loop-edge.marks.items c.index.result.now.left (bound o) in subst P c.in-Some.is old.done in
          let P : Option ℕ → Type 0 = λ o. EdgesMarked pairs c.visit.new.marks.items c.index.result.now.left (bound o) in
          subst P (sym next) (EdgesMarked-next pairs c.args.neighbours.now.last.items before_items c.visit.new.marks.items c.index.result.now.left number chained here.0 here.1 marked (λ k x k_in le at. stays x (before k x k_in le at)));
    }
