use Rattle.std.proofs.Common.{◌≡◌, ◌||◌, take}
use Rattle.std.specs.List.{count_by}
use Rattle.std.specs.Ordering.{nat_cmp}
use Rattle.std.specs.BTreeSet.{contains}
use Rattle.zair_text.specs.Tally.{told}
use Rattle.zair_text.proofs.counts.pairs_with.Given as goal

abbrev pub invariant-loop-pair : goal.invariant-loop-pair
invariant-loop-pair l = l.count ≡ told (count_by (λ p. contains nat_cmp l.held p.a || contains nat_cmp l.held p.b) (take l.pair-index l.pairs))
