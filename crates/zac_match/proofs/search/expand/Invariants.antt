use Rattle.std.proofs.Common.{ℕ, ◌≡◌, ◌+◌, ◌<◌, ◌≤◌, Bool, List, Some, length, vec_len}
use Rattle.zac_match.specs.Chains.{left_end, bound}
use Rattle.zac_match.specs.Cover.{IsMarked}
use Rattle.zac_match.proofs.SearchFacts.{EdgesMarked}
use Rattle.zac_pairing.specs.Tree.{left_at}
use Rattle.zac_match.specs.Search.{IsSearch, unmarked_count}
use Rattle.zac_match.proofs.search.expand.Given as goal

abbrev pub invariant-loop-edge : goal.invariant-loop-edge
invariant-loop-edge l = record {
  marks_len : vec_len l.marks ≡ vec_len l.fn.marks;
  keeps : (before : List Bool) → IsSearch l.pairs l.mates.left.items l.mates.right.items before l.fn.marks.items l.fn.steps.items → IsSearch l.pairs l.mates.left.items l.mates.right.items before l.marks.items l.steps.items;
  count : unmarked_count l.marks.items + vec_len l.steps ≡ unmarked_count l.fn.marks.items + vec_len l.fn.steps;
  longer : vec_len l.fn.steps ≤ vec_len l.steps;
  steps_stay : (j : ℕ) → j < vec_len l.fn.steps → left_at l.steps.items j ≡ left_at l.fn.steps.items j;
  marks_stay : (v : ℕ) → IsMarked l.fn.marks.items v → IsMarked l.marks.items v;
  chain : (e : ℕ) → l.edge ≡ Some e → (e < length l.pairs) × (left_end l.pairs e ≡ l.left);
  left_is : l.left ≡ left_at l.fn.steps.items l.from;
  done : EdgesMarked l.pairs l.marks.items l.left (bound l.edge);
}

abbrev pub decreases-loop-edge : goal.decreases-loop-edge
decreases-loop-edge l = bound l.edge
