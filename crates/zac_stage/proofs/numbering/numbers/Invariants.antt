use Rattle.std.proofs.Common.{◌≡◌, vec_len}
use Rattle.zac_stage.specs.Walk.{IsWalk}
use Rattle.zac_stage.proofs.numbering.numbers.Given as goal

-- the ops so far have their numbers
abbrev pub invariant-loop-i : goal.invariant-loop-i
invariant-loop-i l =
    record {
      walk : IsWalk l.ops l.sites l.walk l.i;
      qubits : vec_len l.walk.tops ≡ l.circuit.qubits;
    }
