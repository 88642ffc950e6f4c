use Rattle.std.proofs.Common.{ℕ, ◌↔◌, IsTrue}
use Rattle.std.specs.Ordering.{nat_cmp}
use Rattle.std.specs.BTreeSet.{contains}
use Rattle.zac_gates.specs.Ops.{AreValidBelow, IsReadBefore}
use Rattle.zac_gates.proofs.circuit.first_invalid.Given as goal

-- the ops so far are valid, and the set has the qubits that they read
abbrev pub invariant-loop-i : goal.invariant-loop-i
invariant-loop-i l =
    record {
      valid : AreValidBelow (record { qubits = l.qubits; bits = l.bits; ops = l.ops }) l.i;
      reads : (q : ℕ) → IsTrue (contains nat_cmp l.read q) ↔ IsReadBefore l.ops l.i q;
    }
