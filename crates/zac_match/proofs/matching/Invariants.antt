use Rattle.std.proofs.Common.{◌≡◌, vec_len}
use Rattle.zac_pairing.specs.Pairing.{free_count}
use Rattle.zac_pairing.specs.Tree.{AllPass}
use Rattle.zac_match.specs.Cover.{is_edge}
use Rattle.zac_match.proofs.matching.Given as goal

abbrev pub invariant-loop-steps : goal.invariant-loop-steps
invariant-loop-steps l = record {
  edges : AllPass (is_edge l.pairs) l.mates.left.items;
  left_len : vec_len l.mates.left ≡ vec_len l.initial.mates.left;
  right_len : vec_len l.mates.right ≡ vec_len l.initial.mates.right;
  marks_len : vec_len l.marks ≡ vec_len l.initial.marks;
}

abbrev pub decreases-loop-steps : goal.decreases-loop-steps
decreases-loop-steps l = free_count l.mates.right.items
