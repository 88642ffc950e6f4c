-- Inside: what a call has to bring to the walk.
use Rattle.std.specs.Prelude.{ℕ, List, length}
use Rattle.std.specs.List.{AllByRecursion}
use Rattle.qasm_names.specs.declared.gate.GateDef.{GateDef}
use Rattle.qasm_names.specs.declared.gate.Target.{Target}
use Rattle.qasm_names.specs.Bound.{TargetTakes}
use Rattle.qasm_expand.specs.AngleNodes.{HasNoNames}
use Rattle.qasm_expand.specs.Items.{Item}
use Rattle.qasm_expand.specs.Items.Item.{Applied, Barrier, Measured}

-- The target takes so many angles and qubits; a gate with a body is one of these.
abbrev pub Suits : List GateDef → Target → ℕ → ℕ → Type 0
Suits gates target angles qubits = TargetTakes gates (length gates) angles qubits target

-- A call has angles without names, and as many angles and qubits as its target takes.
abbrev pub IsFit : List GateDef → Item → Type 0
IsFit gates (Applied to angles qubits) = AllByRecursion HasNoNames angles × Suits gates to (length angles) (length qubits)
IsFit gates Barrier = Unit {0}
IsFit gates (Measured qubit bit) = Unit {0}
