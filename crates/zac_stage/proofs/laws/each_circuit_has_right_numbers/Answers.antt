use Rattle.zac_gates.proofs.CheckingFacts.{qubits_below}
use Rattle.zac_stage.proofs.Existence.{numbering_exists}
use Rattle.zac_stage.proofs.laws.each_circuit_has_right_numbers.Goals as goal

pub returns : goal.returns
returns c = λ circuit sites valid some. numbering_exists circuit.ops sites circuit.qubits some (qubits_below circuit valid)
