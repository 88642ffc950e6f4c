-- The native ops of calls without a body.
use Rattle.std.specs.Prelude.{ℕ, List, [], ◌∷◌, codes}
use Rattle.std.specs.List.{flat_map}
use Rattle.zac_gates.specs.Ops.{NativeCircuit}
use Rattle.zac_gates.specs.declared.angle.Angles.{Angles}
use Rattle.zac_gates.specs.declared.circuit.Op.{Op}
use Rattle.zac_gates.specs.declared.circuit.Op.TheVariants.{One, Two, Fence, Read}
use Rattle.qasm_form.specs.declared.stmt.Node.{Node}
use Rattle.qasm_form.specs.declared.stmt.Stmt.{Stmt}
use Rattle.qasm_names.specs.declared.gate.Target.{Target}
use Rattle.qasm_names.specs.declared.gate.Target.TheVariants as target
use Rattle.qasm_expand.specs.Angles.{angle_text}
use Rattle.qasm_expand.specs.Items.{Item, qubit_count, bit_count}
use Rattle.qasm_expand.specs.Items.Item.{Applied, Barrier, Measured}

-- the angles of a Hadamard gate, as U((pi/2),0,pi)
abbrev pub hadamard_angles : Angles
hadamard_angles = record { theta = codes "(pi/2)"; phi = codes "0"; lambda = codes "pi" }

-- The native ops of a call: of `U` a one-qubit gate with the texts of its three angles; of `CX` a Hadamard gate on the
-- target, a pair, and a Hadamard gate on the target again; of `cz` a pair; of a barrier a fence.
abbrev pub ops_on : Target → List (List Node) → List ℕ → List Op
ops_on target.U (theta ∷ phi ∷ lambda ∷ []) (q ∷ []) =
    One q (record { theta = angle_text theta; phi = angle_text phi; lambda = angle_text lambda }) ∷ []
ops_on target.Cx [] (c ∷ t ∷ []) = One t hadamard_angles ∷ Two c t ∷ One t hadamard_angles ∷ []
ops_on target.Cz [] (a ∷ b ∷ []) = Two a b ∷ []
ops_on target.Barrier angles qubits = Fence ∷ []
ops_on other angles qubits = []

-- The native ops of an item; a measurement is a read.
abbrev pub native_ops : Item → List Op
native_ops (Applied to angles qubits) = ops_on to angles qubits
native_ops Barrier = Fence ∷ []
native_ops (Measured qubit bit) = Read qubit bit ∷ []

-- The circuit of a program's qubits and bits, with the native ops of these items in order.
abbrev pub native_circuit : List Stmt → List Item → NativeCircuit
native_circuit statements items = record {
  qubits = qubit_count statements;
  bits = bit_count statements;
  ops = flat_map native_ops items;
}
