use Rattle.std.proofs.Common.{List, ap, sym, subst, ◌∙◌}
use Rattle.qasm_names.specs.Bound.{IsWellBound}
use Rattle.qasm_names.specs.Names.{Environment}
use Rattle.qasm_names.specs.declared.gate.GateDef.{GateDef}
use Rattle.qasm_names.proofs.BoundLemmas.{IsWellBound-admissible}
use Rattle.qasm_names.proofs.program.SourceProgram.gates.Goals as goal

pub returns-clause-bound : goal.returns-clause-bound
returns-clause-bound c place =
    let P : List GateDef → Type 0 = λ l. IsWellBound l place in
    let names = c.self.inside.names in
    subst P (sym (c.gates.ensures ∙ ap (λ (e : Environment). e.gates) (c.known.ensures ∙ c.self.invariant.means))) (IsWellBound-admissible c.self.inside.header names.before c.self.invariant.sound.admissible c.self.invariant.admissible place)
