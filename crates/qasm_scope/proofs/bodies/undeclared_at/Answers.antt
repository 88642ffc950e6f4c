use Rattle.std.proofs.Common.{List, subst}
use Rattle.qasm_form.specs.declared.stmt.Arg.{Arg}
use Rattle.qasm_form.specs.declared.stmt.Expr.{Expr}
use Rattle.qasm_names.specs.Environment.{words_of}
use Rattle.qasm_scope.specs.Judged.{IsForeignAt}
use Rattle.qasm_names.specs.Refusals.{UsesOtherIn}
use Rattle.qasm_scope.specs.Least.{IsLeastOffset}
use Rattle.qasm_scope.proofs.LeastLemmas.{either_least}
use Rattle.qasm_scope.proofs.bodies.undeclared_at.Goals as goal

pub returns : goal.returns
returns c =
    let foreign = subst (λ (args : List Arg). IsLeastOffset (IsForeignAt (words_of c.args.args.now) args) c.least_foreign.result) c.as_slice.ensures c.least_foreign.ensures in
    let other = subst (λ (exprs : List Expr). IsLeastOffset (UsesOtherIn (words_of c.args.params.now) exprs) c.least_other_in.result) c.as_slice-2.ensures c.least_other_in.ensures in
    either_least foreign other c.earlier.ensures
