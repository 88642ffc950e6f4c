use Rattle.std.proofs.Common.{◌≡◌, vec_len}
use Rattle.zac_match.specs.Chains.{AreChained}
use Rattle.zac_match.proofs.neighbours.Neighbours.of.Given as goal

abbrev pub invariant-loop-number : goal.invariant-loop-number
invariant-loop-number l = record {
  chained : AreChained l.pairs l.last.items l.before.items l.number;
  last_len : vec_len l.last ≡ l.fn.left;
  before_len : vec_len l.before ≡ l.number;
}
