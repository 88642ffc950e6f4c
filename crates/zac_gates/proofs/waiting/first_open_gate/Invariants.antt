use Rattle.std.proofs.Common.{◌≡◌, ℕ, ◌<◌, ◌≤◌, ◌-◌, false, length}
use Rattle.zac_gates.specs.Ops.{is_gate}
use Rattle.zac_gates.specs.Waiting.{is_open}
use Rattle.zac_gates.proofs.waiting.first_open_gate.Given as goal

-- none so far is open
abbrev pub invariant-loop-at : goal.invariant-loop-at
invariant-loop-at l =
    record {
      behind : l.start ≤ l.at;
      within : l.at ≤ length l.ops;
      before : (k : ℕ) → l.start ≤ k → k < l.at → is_open is_gate l.ops l.marks k ≡ false;
    }

abbrev pub decreases-loop-at : goal.decreases-loop-at
decreases-loop-at l = length l.ops - l.at
