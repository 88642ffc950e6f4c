use Rattle.qasm_form.specs.declared.symbol.Symbol.TheVariants as sym
use Rattle.qasm_form.specs.Symbols.{lexeme_of, lexemes_of}
use Rattle.qasm_parse.proofs.LeftLemmas.{token_left, signature_left}
use Rattle.qasm_parse.proofs.declaration.gate.Goals as goal

pub body_ops-requires : goal.body_ops-requires
body_ops-requires c =
    let source = c.args.source.now in
    let behind_name = token_left c.args.end sym.Identifier (lexemes_of source c.args.rest.now) (lexeme_of source c.in_ok-token.token) (lexemes_of source c.in_ok-token.rest.now) c.in_ok-token.ensures c.requires in
    signature_left c.args.end (lexemes_of source c.in_ok-token.rest.now) (c.in_ok-params.params, c.in_ok-params.args) (lexemes_of source c.in_ok-params.rest.now) c.in_ok-params.ensures behind_name
