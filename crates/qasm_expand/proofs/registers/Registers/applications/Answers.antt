use Rattle.std.proofs.Common.{◌∙◌, ap}
use Rattle.std.specs.Map.{lookup}
use Rattle.std.specs.Str.{bytes_eq}
use Rattle.qasm_expand.specs.RegisterKinds.{registers_of}
use Rattle.qasm_expand.proofs.SizedLemmas.{first_whole}
use Rattle.qasm_expand.proofs.registers.Registers.applications.Goals as goal

pub returns-then-is_none : goal.returns-then-is_none
returns-then-is_none c =
    c.from.ensures ∙ c.unwrap_or.ensures ∙ first_whole c.args.self.now c.args.args.now c.loop-arg.arg-index c.arg-item.result c.self.inside.qubits.kind c.self.inside.qubits.statements.now c.size.result c.loop-arg-test.true c.arg-item.is (cc (c.is_none.ensures, c.if-is_none.true)) c.self.invariant.0 c.self.view_is (c.size.ensures ∙ ap (λ w. lookup (bytes_eq w) (registers_of c.self.inside.qubits.kind c.self.inside.qubits.statements.now)) c.as_slice.ensures) ∙ c.loop-arg.invariant
