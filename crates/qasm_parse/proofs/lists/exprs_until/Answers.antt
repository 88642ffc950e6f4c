use Rattle.std.proofs.Common.{◌∙◌, arith}
use Rattle.std.proofs.lemmas.Result.{err_from_is_err_and}
use Rattle.qasm_form.specs.declared.symbol.Symbol.TheVariants as sym
use Rattle.qasm_parse.specs.declared.opening.Follow.TheVariants.{Until}
use Rattle.qasm_form.specs.Symbols.{lexemes_of}
use Rattle.qasm_parse.specs.Readings.{exprs_until, expr_then}
use Rattle.qasm_parse.proofs.LoopLemmas.{list_more, list_last, list_fails, expr_shorter, length-lexemes_of}
use Rattle.qasm_parse.proofs.LeftLemmas.{expr_left}
use Rattle.qasm_parse.proofs.lists.exprs_until.Goals as goal

pub returns-in_err-item : goal.returns-in_err-item
unfolding exprs_until
returns-in_err-item c =
    let p = err_from_is_err_and c.from_residual.result c.from_residual.ensures.1 in
    rw (p.1, p.2) (list_fails (expr_then c.args.end (Until sym.CloseParen)) (lexemes_of c.args.source.now c.args.rest.now) (lexemes_of c.args.source.now c.loop-exprs.left.now) c.loop-exprs.exprs.items _ c.loop-exprs.invariant.0 c.in_err-item.ensures)

pub returns-then-not-more : goal.returns-then-not-more
unfolding exprs_until
returns-then-not-more c =
    list_last (expr_then c.args.end (Until sym.CloseParen)) (lexemes_of c.args.source.now c.args.rest.now) (lexemes_of c.args.source.now c.loop-exprs.left.now) (lexemes_of c.args.source.now c.in_ok-item.others.now) c.loop-exprs.exprs.items c.in_ok-item.item c.in_ok-item.more c.of.result c.loop-exprs.invariant.0 c.in_ok-item.ensures c.if-not-more.true (c.of.ensures ∙ c.in_ok-push.ensures.items)

pub loop-exprs-smaller : goal.loop-exprs-smaller
loop-exprs-smaller c =
    omega (arith, expr_shorter c.args.end (lexemes_of c.args.source.now c.loop-exprs.left.now) (c.in_ok-item.item, c.in_ok-item.more) (lexemes_of c.args.source.now c.in_ok-item.others.now) c.in_ok-item.ensures, length-lexemes_of c.args.source.now c.loop-exprs.left.now, length-lexemes_of c.args.source.now c.in_ok-item.others.now)

pub loop-exprs-preserved : goal.loop-exprs-preserved
loop-exprs-preserved c = (
  list_more (expr_then c.args.end (Until sym.CloseParen)) (lexemes_of c.args.source.now c.args.rest.now) (lexemes_of c.args.source.now c.loop-exprs.left.now) (lexemes_of c.args.source.now c.in_ok-item.others.now) c.loop-exprs.exprs.items c.in_ok-item.item c.in_ok-item.more c.push.new.self.items c.loop-exprs.invariant.0 c.in_ok-item.ensures c.if-not-more.false (expr_shorter c.args.end (lexemes_of c.args.source.now c.loop-exprs.left.now) (c.in_ok-item.item, c.in_ok-item.more) (lexemes_of c.args.source.now c.in_ok-item.others.now) c.in_ok-item.ensures) c.in_ok-push.ensures.items,
  expr_left c.args.end (lexemes_of c.args.source.now c.loop-exprs.left.now) (c.in_ok-item.item, c.in_ok-item.more) (lexemes_of c.args.source.now c.in_ok-item.others.now) c.in_ok-item.ensures c.loop-exprs.invariant.1,
)
