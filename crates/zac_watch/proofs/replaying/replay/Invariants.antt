use Rattle.std.proofs.Common.{◌≡◌}
use Rattle.zac_watch.proofs.ReplayFacts.{IsJudgedSoFar}
use Rattle.zac_watch.proofs.replaying.replay.Given as goal

abbrev pub invariant-loop-number : goal.invariant-loop-number
invariant-loop-number l = record {
  same : l.checklist.circuit ≡ l.circuit;
  judged : IsJudgedSoFar l.card l.circuit.ops l.program l.instr-items l.number l.machine l.checklist.log;
}
