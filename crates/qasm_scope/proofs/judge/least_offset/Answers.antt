use Rattle.qasm_scope.proofs.JudgedLemmas.{of_kind}
use Rattle.qasm_scope.proofs.judge.least_offset.Goals as goal

pub returns-in-NotDeclared : goal.returns-in-NotDeclared
returns-in-NotDeclared c =
    of_kind c.args.names.now.before c.args.stmt.now c.known-known.ensures c.in-NotDeclared.is c.argument_at.ensures

pub returns-in-UnknownGate : goal.returns-in-UnknownGate
returns-in-UnknownGate c =
    of_kind c.args.names.now.before c.args.stmt.now c.known-known.ensures c.in-UnknownGate.is c.call_at.ensures

pub returns-in-Opaque : goal.returns-in-Opaque
returns-in-Opaque c =
    of_kind c.args.names.now.before c.args.stmt.now c.known-known.ensures c.in-Opaque.is c.call_at-in-Opaque.ensures

pub returns-in-Params : goal.returns-in-Params
returns-in-Params c =
    of_kind c.args.names.now.before c.args.stmt.now c.known-known.ensures c.in-Params.is c.call_at-in-Params.ensures

pub returns-in-Arity : goal.returns-in-Arity
returns-in-Arity c =
    of_kind c.args.names.now.before c.args.stmt.now c.known-known.ensures c.in-Arity.is c.call_at-in-Arity.ensures

pub returns-in-Index : goal.returns-in-Index
returns-in-Index c =
    of_kind c.args.names.now.before c.args.stmt.now c.known-known.ensures c.in-Index.is c.argument_at-in-Index.ensures
