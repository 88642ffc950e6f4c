use Rattle.std.proofs.Common.{◌≡◌, map, take}
use Rattle.zac_gates.specs.declared.circuit.Op.TheVariants as op
use Rattle.zac_watch.specs.Judging.{ArePerformed}
use Rattle.zac_watch.proofs.judging.perform_reads.Given as goal

abbrev pub invariant-loop-read : goal.invariant-loop-read
invariant-loop-read l = record {
  same : l.checklist.circuit ≡ l.circuit;
  performed : ArePerformed l.circuit.ops l.fn.checklist.log (take l.read-index (map (λ p. record { op = p.op; what = op.Read p.q p.bit }) l.reads)) l.checklist.log;
}
