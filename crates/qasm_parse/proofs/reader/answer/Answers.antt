use Rattle.std.proofs.Common.{◌≡◌, ◌-◌, length, Ok, sym as flip, ap, subst, arith, length-drop}
use Rattle.std.proofs.lemmas.Result.{err_from_is_err_and}
use Rattle.std.proofs.lemmas.List.{take_rest}
use Rattle.qasm_parse.specs.Gives.{Fails}
use Rattle.qasm_form.specs.Numbers.{AreSpelt}
use Rattle.qasm_form.specs.Symbols.{lexemes_of}
use Rattle.qasm_parse.specs.ReadAnswers.{reading_at}
use Rattle.qasm_parse.proofs.AnswerLemmas.{answer_ok, answer_fails, slice_from}
use Rattle.qasm_parse.proofs.LoopLemmas.{length-lexemes_of}
use Rattle.qasm_parse.proofs.SpeltLemmas.{spelt_drop}
use Rattle.qasm_parse.proofs.reader.answer.Goals as goal

pub read_at-requires : goal.read_at-requires
read_at-requires c =
    let source = c.args.source.now in
    let tokens = c.args.tokens.now in
    subst AreSpelt (flip (slice_from source c.args.from tokens)) (spelt_drop c.args.from (lexemes_of source tokens) c.requires.spelt)

pub returns-in_err-statement : goal.returns-in_err-statement
returns-in_err-statement c =
    let p = err_from_is_err_and c.from_residual.result c.from_residual.ensures.1 in
    let source = c.args.source.now in
    let tokens = c.args.tokens.now in
    rw (p.1, p.2) (answer_fails (lexemes_of source tokens) c.args.from (length source) _ (subst (λ t. Fails c.in_err-statement.field-0.0 (reading_at c.args.from (length source) t)) (slice_from source c.args.from tokens) c.in_err-statement.ensures.reads))

pub returns : goal.returns
returns c =
    let source = c.args.source.now in
    let tokens = c.args.tokens.now in
    let left = c.in_ok-statement.left.now in
    let reading = subst (λ t. reading_at c.args.from (length source) t ≡ Ok (c.in_ok-statement.statement, lexemes_of source left)) (slice_from source c.args.from tokens) c.in_ok-statement.ensures.reads in
    answer_ok (lexemes_of source tokens) c.args.from (length source) c.in_ok-statement.statement (lexemes_of source left) (length tokens - length left) (omega (arith, c.requires.place, length-lexemes_of source tokens)) reading (omega (arith, length-lexemes_of source tokens, length-lexemes_of source left, c.in_ok-statement.ensures.shorter, ap length (take_rest tokens c.args.from), length-drop c.args.from tokens))
