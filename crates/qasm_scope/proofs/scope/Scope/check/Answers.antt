use Rattle.std.proofs.Common.{ℕ, subst}
use Rattle.qasm_names.specs.Accepted.{Context, Program}
use Rattle.qasm_names.specs.Environment.{environment}
use Rattle.qasm_names.specs.Refusals.{Refuses}
use Rattle.qasm_names.specs.declared.fault.ScopeKind.{ScopeKind}
use Rattle.qasm_scope.proofs.scope.Scope.check.Goals as goal

pub returns-in-None : goal.returns-in-None
returns-in-None c =
    let P : Context → Type 0 = λ x. (k : ScopeKind) (at : ℕ) → ¬ Refuses x.environment x.before c.args.stmt.now k at in
    let Q : Program → Type 0 = λ p. P (record { environment = environment p.header p.statements; before = p.statements }) in
    subst Q c.self.view_is (subst P c.names.ensures c.in-None.ensures)
