use Rattle.std.proofs.Common.{◌≡◌, ◌∷◌, ◌++◌, length}
use Rattle.std.specs.List.{AllByRecursion}
use Rattle.zair_read.proofs.CompactParts.{opened}
use Rattle.zair_read.proofs.part.parts.Given as goal

abbrev pub invariant-items : goal.invariant-items
invariant-items g l = (l.fn.bytes ≡ 91 ∷ (opened g.T.Part.value_of l.items.items ++ l.rest)) × AllByRecursion g.T.Part.in_range l.items.items

abbrev pub decreases-items : goal.decreases-items
decreases-items g l = length l.rest
