use Rattle.std.proofs.Common.{◌≡◌, ◌++◌, length}
use Rattle.zac_sched.specs.Ends.{AreEnds}
use Rattle.zac_sched.specs.Schedule.{IsSchedule}
use Rattle.zac_sched.proofs.scheduling.schedule.Given as goal

-- the schedule of what is done, and its last ends
abbrev pub invariant-loop-one : goal.invariant-loop-one
invariant-loop-one l = record {
  whole : l.yielded ++ l.one-iterator.rest.items ≡ l.fn.todo;
  schedule : IsSchedule l.card l.fn.homes l.yielded l.instrs.items;
  ends : AreEnds l.card l.instrs.items l.ends;
  qubits : length l.ends.qubits.items ≡ length l.fn.homes;
}
