use Rattle.std.proofs.Common.{ℕ, ◌≡◌, ◌+◌, ◌-◌, ◌<◌, ◌≤◌, vec_len}
use Rattle.std.specs.List.{Contains}
use Rattle.zac_match.specs.Cover.{IsMarked}
use Rattle.zac_pairing.specs.Tree.{left_at}
use Rattle.zac_match.specs.Search.{IsSearch, unmarked_count}
use Rattle.zac_match.proofs.search.search.Given as goal

abbrev pub invariant-loop-from : goal.invariant-loop-from
invariant-loop-from l = record {
  marks_len : vec_len l.marks ≡ vec_len l.fn.marks;
  search : IsSearch l.pairs l.mates.left.items l.mates.right.items l.fn.marks.items l.marks.items l.steps.items;
  root : left_at l.steps.items 0 ≡ l.root;
  within : l.from ≤ vec_len l.steps;
  count : unmarked_count l.marks.items + vec_len l.steps ≡ unmarked_count l.fn.marks.items + 1;
  done : (i v : ℕ) → i < l.from → Contains l.pairs (left_at l.steps.items i, v) → IsMarked l.marks.items v;
}

abbrev pub decreases-loop-from : goal.decreases-loop-from
decreases-loop-from l = unmarked_count l.marks.items + vec_len l.steps - l.from
