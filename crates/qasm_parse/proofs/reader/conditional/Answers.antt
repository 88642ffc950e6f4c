use Rattle.std.proofs.Common.{refl}
use Rattle.qasm_form.specs.declared.opening.Verb.TheVariants as verb
use Rattle.qasm_form.specs.declared.symbol.Symbol.TheVariants as sym
use Rattle.qasm_form.specs.Openings.{verb_of}
use Rattle.qasm_form.specs.Symbols.{lexeme_of, lexemes_of}
use Rattle.qasm_parse.proofs.LeftLemmas.{one_of_left, condition_left}
use Rattle.qasm_parse.proofs.reader.conditional.Goals as goal

pub after_verb-requires : goal.after_verb-requires
after_verb-requires c =
    let source = c.args.source.now in
    let behind_condition = condition_left c.args.end (lexemes_of source c.args.rest.now) (lexeme_of source c.in_ok-rest.field-0-0) (lexemes_of source c.in_ok-rest.rest.now) c.in_ok-rest.ensures c.requires in
    one_of_left c.args.end verb_of sym.Measure verb.Measure refl (lexemes_of source c.in_ok-rest.rest.now) (c.in_ok-verb.verb, lexeme_of source c.in_ok-verb.done) (lexemes_of source c.in_ok-verb.rest.now) c.in_ok-verb.ensures behind_condition
