use Rattle.std.proofs.Common.{ℕ, ◌≡◌, ◌<◌, false, get_or, vec_len, MatchBool}
use Rattle.zac_pairing.specs.Pairing.{free_count}
use Rattle.zac_pairing.specs.Tree.{AllPass}
use Rattle.zac_match.specs.Cover.{is_edge, IsClosed}
use Rattle.zac_match.proofs.search.pass.Given as goal

abbrev pub invariant-loop-mark : goal.invariant-loop-mark
invariant-loop-mark l = (k : ℕ) → k < l.mark-index → get_or l.mark-items k false ≡ false

abbrev pub invariant-loop-root : goal.invariant-loop-root
invariant-loop-root l = record {
  edges : AllPass (is_edge l.pairs) l.mates.left.items;
  left_len : vec_len l.mates.left ≡ vec_len l.fn.mates.left;
  right_len : vec_len l.mates.right ≡ vec_len l.fn.mates.right;
  marks_len : vec_len l.marks ≡ vec_len l.fn.marks;
  outcome : MatchBool l.grown (free_count l.mates.right.items < free_count l.fn.mates.right.items) ((free_count l.mates.right.items ≡ free_count l.fn.mates.right.items) × IsClosed l.pairs l.mates.left.items l.mates.right.items l.marks.items l.root);
}
