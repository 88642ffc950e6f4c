use Rattle.zac_match.specs.Choice.{EndsBelow}
use Rattle.match_speed.proofs.sparse.Given as goal

abbrev pub invariant-loop-left : goal.invariant-loop-left
invariant-loop-left l = EndsBelow 99991 99991 l.pairs.items

abbrev pub invariant-loop-factor : goal.invariant-loop-factor
invariant-loop-factor l = EndsBelow 99991 99991 l.pairs.items
