use Rattle.std.proofs.Common.{◌≡◌, map, take}
use Rattle.zac_gates.specs.declared.circuit.Op.TheVariants as op
use Rattle.zac_watch.specs.Judging.{ArePerformed}
use Rattle.zac_watch.proofs.judging.perform_pairs.Given as goal

abbrev pub invariant-loop-pair : goal.invariant-loop-pair
invariant-loop-pair l = record {
  same : l.checklist.circuit ≡ l.circuit;
  performed : ArePerformed l.circuit.ops l.fn.checklist.log (take l.pair-index (map (λ p. record { op = p.op; what = op.Two p.a p.b }) l.pairs)) l.checklist.log;
}
