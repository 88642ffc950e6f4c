use Rattle.std.proofs.Common.{◌≡◌, take}
use Rattle.zac_reuse.specs.Sharing.{in_numbers}
use Rattle.zac_reuse.proofs.sharing.numbers_of.Given as goal

-- the pairs so far
abbrev pub invariant-loop-pair : goal.invariant-loop-pair
invariant-loop-pair l = l.numbers.items ≡ in_numbers l.first l.second (take l.pair-index l.pairs)
