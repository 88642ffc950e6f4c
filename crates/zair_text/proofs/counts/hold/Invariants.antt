use Rattle.std.proofs.Common.{◌≡◌, ℕ, take}
use Rattle.std.specs.Ordering.{nat_cmp}
use Rattle.std.specs.BTreeSet.{contains}
use Rattle.zair_text.specs.Tally.{is_paired}
use Rattle.zair_text.proofs.counts.hold.Given as goal

abbrev pub invariant-loop-pair : goal.invariant-loop-pair
invariant-loop-pair l = (q : ℕ) → contains nat_cmp l.held q ≡ is_paired q (take l.pair-index l.pairs)
