use Rattle.std.proofs.Common.{length}
use Rattle.zac_place.specs.Uses.{AreUsed}
use Rattle.zac_place.proofs.uses.qubits_by_use.Given as goal

-- the qubits of the ops so far
abbrev pub invariant-loop-i : goal.invariant-loop-i
invariant-loop-i l = AreUsed l.circuit.ops l.circuit.qubits l.i 0 l.uses

-- all that are used, and the others so far
abbrev pub invariant-loop-q : goal.invariant-loop-q
invariant-loop-q l = AreUsed l.circuit.ops l.circuit.qubits (length l.circuit.ops) l.q l.uses
