use Rattle.std.proofs.Common.{◌≡◌, ◌∙◌, inr, List, [], ◌∷◌, length, refl, sym, ap, arith}
use Rattle.std.proofs.lemmas.Bool.{eqb-true}
use Rattle.qasm_form.specs.declared.stmt.Stmt.{Stmt}
use Rattle.qasm_source.proofs.Reading.{version_missing}
use Rattle.qasm_source.proofs.source.read_source.Goals as goal

none_in : (l : List Stmt) → length l ≡ 0 → l ≡ []
none_in [] e = refl
none_in (s ∷ l) e = absurd (omega (arith, e))

pub returns-then-is_empty-clause-fault : goal.returns-then-is_empty-clause-fault
returns-then-is_empty-clause-fault c =
    let count : length c.statements.result.now ≡ 0 = eqb-true (length c.statements.result.now) 0 (sym c.is_empty.ensures ∙ c.if-is_empty.true) in
    let none = none_in c.in_ok-scope.scope.statements (sym (ap length c.statements.ensures.list) ∙ count) in
    inr (version_missing c.args.source.now c.in_ok-tokens.tokens c.in_ok-scope.scope
    (c.each_token_is_seen.ensures c.args.source.now c.in_ok-tokens.tokens.tokens) c.in_ok-scope.ensures.ok none)
