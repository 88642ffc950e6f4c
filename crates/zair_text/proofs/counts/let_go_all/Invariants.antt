use Rattle.std.proofs.Common.{◌≡◌, ℕ, ◌&&◌, not, take}
use Rattle.std.specs.Ordering.{nat_cmp}
use Rattle.std.specs.BTreeSet.{contains}
use Rattle.zair_text.specs.Tally.{is_dropped}
use Rattle.zair_text.proofs.counts.let_go_all.Given as goal

abbrev pub invariant-loop-step : goal.invariant-loop-step
invariant-loop-step l = (q : ℕ) → contains nat_cmp l.held q ≡ (contains nat_cmp l.initial.held q && not (is_dropped q (take l.step-index l.steps)))
