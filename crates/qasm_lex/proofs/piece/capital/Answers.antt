use Rattle.std.proofs.Common.{sym, subst, take, Some}
use Rattle.std.proofs.lemmas.Bool.{iff_false}
use Rattle.qasm_lex.specs.declared.token.TokenKind.TheVariants.{Capital}
use Rattle.qasm_lex.specs.Forms.{IsOneOf, capitals}
use Rattle.qasm_lex.specs.Cuts.{IsLongestFront}
use Rattle.qasm_lex.proofs.Found.{front_is, capital_found, capital_missing}
use Rattle.qasm_lex.proofs.piece.capital.Goals as goal

pub returns-then-is_capital : goal.returns-then-is_capital
returns-then-is_capital c =
    let bytes = c.args.bytes.now in
    let one = subst (λ n. IsOneOf capitals (take n bytes)) c.run_length-length.ensures.run (c.is_capital.ensures.0 c.if-is_capital.true) in
    front_is bytes _ (Some Capital) c.run_length-length.result c.token.ensures (subst (IsLongestFront bytes (Some Capital)) (sym c.run_length-length.ensures.run) (capital_found bytes c.requires.some c.requires.class one))

pub returns-else-is_capital : goal.returns-else-is_capital
returns-else-is_capital c =
    let bytes = c.args.bytes.now in
    capital_missing bytes c.requires.some c.requires.class (λ one. iff_false c.is_capital.ensures c.if-is_capital.false (subst (λ n. IsOneOf capitals (take n bytes)) (sym c.run_length-length.ensures.run) one))
