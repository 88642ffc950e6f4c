use Rattle.qasm_form.proofs.NumberBytes.{node_number}
use Rattle.qasm_form.proofs.laws.each_node_has_its_number.Goals as goal

pub returns : goal.returns
returns c = node_number
