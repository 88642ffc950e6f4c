use Rattle.std.proofs.Common.{subst}
use Rattle.qasm_names.specs.Scopes.{IsSoundHeader}
use Rattle.qasm_scope.proofs.HeaderLaws.{some_header, one_header}
use Rattle.qasm_scope.proofs.laws.one_header.Goals as goal

pub returns-clause-some : goal.returns-clause-some
returns-clause-some c =
    let header = some_header c.computed_statements_stand.ensures in
    (header.0, header.1)

pub returns-clause-one : goal.returns-clause-one
returns-clause-one c =
    one_header c.tokens_or_one_fault.ensures.one_list c.tokens_fall_in_one_way.ensures

pub returns-clause-sound : goal.returns-clause-sound
returns-clause-sound c = λ header is.
    let some = some_header c.computed_statements_stand.ensures in
    subst IsSoundHeader (one_header c.tokens_or_one_fault.ensures.one_list c.tokens_fall_in_one_way.ensures some.0 header some.1 is) some.2
