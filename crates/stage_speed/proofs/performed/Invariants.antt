use Rattle.std.proofs.Common.{◌≡◌, ◌≤◌}
use Rattle.stage_speed.proofs.performed.Given as goal

-- the list is of this circuit, and at most each op so far was performed
abbrev pub invariant-loop-op : goal.invariant-loop-op
invariant-loop-op l =
    record {
      circuit : l.checklist.circuit ≡ l.circuit;
      few : l.done ≤ l.op;
    }
