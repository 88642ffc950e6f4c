use Rattle.std.proofs.Common.{◌≡◌, ◌*◌, ◌≤◌, take}
use Rattle.std.specs.Vec.{vec_len}
use Rattle.zac_plan.specs.Plan.{leaving}
use Rattle.zac_plan.proofs.returning.leaving.Given as goal

abbrev pub invariant-loop-pair : goal.invariant-loop-pair
invariant-loop-pair l = record {
  leaving : l.qubits.items ≡ leaving l.ops (take l.pair-index l.before) l.kept;
  most : vec_len l.qubits ≤ 2 * l.pair-index;
}
