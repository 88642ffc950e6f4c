use Rattle.std.proofs.Common.{◌≡◌, ℕ, take}
use Rattle.std.specs.Ordering.{nat_cmp}
use Rattle.std.specs.BTreeSet.{contains}
use Rattle.zair_text.specs.Tally.{is_held}
use Rattle.zair_text.proofs.Counting.{Counts}
use Rattle.zair_text.proofs.counts.tally.Given as goal

abbrev pub invariant-loop-instr : goal.invariant-loop-instr
invariant-loop-instr l =
    Counts (take l.instr-index l.instr-items) l.totals
    × (l.totals.qubits ≡ l.initial.totals.qubits)
    × ((q : ℕ) → contains nat_cmp l.held q ≡ is_held q (take l.instr-index l.instr-items))
