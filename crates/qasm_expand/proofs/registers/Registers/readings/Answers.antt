use Rattle.std.proofs.Common.{◌∙◌, ap}
use Rattle.std.specs.Map.{lookup}
use Rattle.std.specs.Str.{bytes_eq}
use Rattle.qasm_expand.specs.RegisterKinds.{registers_of}
use Rattle.qasm_expand.proofs.SizedLemmas.{times_whole}
use Rattle.qasm_expand.proofs.registers.Registers.readings.Goals as goal

pub returns-in-None : goal.returns-in-None
returns-in-None c =
    c.from.ensures ∙ c.unwrap_or.ensures ∙ times_whole c.args.self.now c.args.from.now c.self.inside.qubits.kind c.self.inside.qubits.statements.now c.size.result c.in-None.is c.self.invariant.0 c.self.view_is (c.size.ensures ∙ ap (λ w. lookup (bytes_eq w) (registers_of c.self.inside.qubits.kind c.self.inside.qubits.statements.now)) c.as_slice.ensures)
