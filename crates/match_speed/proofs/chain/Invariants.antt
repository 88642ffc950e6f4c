use Rattle.zac_match.specs.Choice.{EndsBelow}
use Rattle.match_speed.proofs.chain.Given as goal

abbrev pub invariant-loop-left : goal.invariant-loop-left
invariant-loop-left l = EndsBelow 99991 99991 l.pairs.items
