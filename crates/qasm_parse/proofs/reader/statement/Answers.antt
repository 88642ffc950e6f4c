use Rattle.std.proofs.Common.{length, sym as flip, ap, subst, arith}
use Rattle.qasm_form.specs.Symbols.{lexemes_of}
use Rattle.qasm_form.specs.Numbers.{AreSpelt}
use Rattle.qasm_parse.specs.ReadAnswers.{IsAnswer}
use Rattle.qasm_parse.proofs.AnswerLemmas.{answer_read, answer_fault, answer_every, answer_refused, few_tokens}
use Rattle.qasm_parse.proofs.TokenLemmas.{tokens_spelt}
use Rattle.qasm_parse.proofs.reader.statement.Goals as goal
use Rattle.qasm_parse.proofs.reader.statement.Goals.{After-answer}

pub answer-requires-clause-small : goal.answer-requires-clause-small
answer-requires-clause-small c = omega (arith, c.requires.lexed.4, c.all.ensures.fits)

pub answer-requires-clause-few : goal.answer-requires-clause-few
answer-requires-clause-few c =
    omega (arith, few_tokens 0 c.args.tokens.now.tokens c.args.tokens.now.source_length c.all.ensures.in_order, c.all.ensures.fits, ap length c.all.ensures.tokens)

pub answer-requires-clause-place : goal.answer-requires-clause-place
answer-requires-clause-place c = omega (arith, c.requires.place, ap length c.all.ensures.tokens)

pub answer-requires-clause-spelt : goal.answer-requires-clause-spelt
answer-requires-clause-spelt c =
    subst (λ ts. AreSpelt (lexemes_of c.args.source.now ts)) (flip c.all.ensures.tokens) (tokens_spelt c.args.source.now c.args.tokens.now c.requires.lexed)

answered : (c : After-answer) → IsAnswer (lexemes_of c.args.source.now c.args.tokens.now.tokens) c.args.from (length c.args.source.now) c.answer.result
answered c =
    subst (λ ts. IsAnswer (lexemes_of c.args.source.now ts) c.args.from (length c.args.source.now) c.answer.result) c.all.ensures.tokens c.answer.ensures

pub returns-clause-read : goal.returns-clause-read
returns-clause-read c = answer_read _ c.args.from (length c.args.source.now) _ (answered (goal.at.returns-clause-read c).After-answer)

pub returns-clause-fault : goal.returns-clause-fault
returns-clause-fault c = answer_fault _ c.args.from (length c.args.source.now) _ (answered (goal.at.returns-clause-fault c).After-answer)

pub returns-clause-every : goal.returns-clause-every
returns-clause-every c = answer_every _ c.args.from (length c.args.source.now) _ (answered (goal.at.returns-clause-every c).After-answer)

pub returns-clause-refused : goal.returns-clause-refused
returns-clause-refused c = answer_refused _ c.args.from (length c.args.source.now) _ (answered (goal.at.returns-clause-refused c).After-answer)
