use Rattle.std.proofs.Common.{◌∙◌, arith}
use Rattle.std.proofs.lemmas.Result.{err_from_is_err_and}
use Rattle.qasm_form.specs.declared.symbol.Symbol.TheVariants as sym
use Rattle.qasm_parse.specs.declared.opening.Follow.TheVariants.{Until}
use Rattle.qasm_form.specs.Symbols.{lexemes_of}
use Rattle.qasm_parse.specs.Readings.{args_until, arg_then}
use Rattle.qasm_parse.proofs.LoopLemmas.{list_more, list_last, list_fails, arg_shorter, length-lexemes_of}
use Rattle.qasm_parse.proofs.lists.args_until.Goals as goal

pub returns-in_err-item : goal.returns-in_err-item
unfolding args_until
returns-in_err-item c =
    let p = err_from_is_err_and c.from_residual.result c.from_residual.ensures.1 in
    rw (p.1, p.2) (list_fails (arg_then c.args.end c.args.place (Until sym.Semicolon)) (lexemes_of c.args.source.now c.args.rest.now) (lexemes_of c.args.source.now c.loop-args.left.now) c.loop-args.args.items _ c.loop-args.invariant c.in_err-item.ensures)

pub returns-then-not-more : goal.returns-then-not-more
unfolding args_until
returns-then-not-more c =
    list_last (arg_then c.args.end c.args.place (Until sym.Semicolon)) (lexemes_of c.args.source.now c.args.rest.now) (lexemes_of c.args.source.now c.loop-args.left.now) (lexemes_of c.args.source.now c.in_ok-item.others.now) c.loop-args.args.items c.in_ok-item.item c.in_ok-item.more c.of.result c.loop-args.invariant c.in_ok-item.ensures c.if-not-more.true (c.of.ensures ∙ c.in_ok-push.ensures.items)

pub loop-args-smaller : goal.loop-args-smaller
loop-args-smaller c =
    omega (arith, arg_shorter c.args.end c.args.place (lexemes_of c.args.source.now c.loop-args.left.now) (c.in_ok-item.item, c.in_ok-item.more) (lexemes_of c.args.source.now c.in_ok-item.others.now) c.in_ok-item.ensures, length-lexemes_of c.args.source.now c.loop-args.left.now, length-lexemes_of c.args.source.now c.in_ok-item.others.now)

pub loop-args-preserved : goal.loop-args-preserved
loop-args-preserved c =
    list_more (arg_then c.args.end c.args.place (Until sym.Semicolon)) (lexemes_of c.args.source.now c.args.rest.now) (lexemes_of c.args.source.now c.loop-args.left.now) (lexemes_of c.args.source.now c.in_ok-item.others.now) c.loop-args.args.items c.in_ok-item.item c.in_ok-item.more c.push.new.self.items c.loop-args.invariant c.in_ok-item.ensures c.if-not-more.false (arg_shorter c.args.end c.args.place (lexemes_of c.args.source.now c.loop-args.left.now) (c.in_ok-item.item, c.in_ok-item.more) (lexemes_of c.args.source.now c.in_ok-item.others.now) c.in_ok-item.ensures) c.in_ok-push.ensures.items
