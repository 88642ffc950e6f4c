use Rattle.std.proofs.Common.{◌∙◌, arith}
use Rattle.std.proofs.lemmas.Result.{err_from_is_err_and}
use Rattle.qasm_parse.specs.declared.opening.Follow.TheVariants.{Until}
use Rattle.qasm_form.specs.Symbols.{lexemes_of}
use Rattle.qasm_parse.specs.Readings.{names_until, name_then}
use Rattle.qasm_parse.proofs.LoopLemmas.{list_more, list_last, list_fails, name_shorter, length-lexemes_of}
use Rattle.qasm_parse.proofs.lists.names_until.Goals as goal

pub returns-in_err-item : goal.returns-in_err-item
unfolding names_until
returns-in_err-item c =
    let p = err_from_is_err_and c.from_residual.result c.from_residual.ensures.1 in
    rw (p.1, p.2) (list_fails (name_then c.args.end (Until c.args.stop)) (lexemes_of c.args.source.now c.args.rest.now) (lexemes_of c.args.source.now c.loop-names.left.now) c.loop-names.names.items _ c.loop-names.invariant c.in_err-item.ensures)

pub returns-then-not-more : goal.returns-then-not-more
unfolding names_until
returns-then-not-more c =
    list_last (name_then c.args.end (Until c.args.stop)) (lexemes_of c.args.source.now c.args.rest.now) (lexemes_of c.args.source.now c.loop-names.left.now) (lexemes_of c.args.source.now c.in_ok-item.others.now) c.loop-names.names.items c.in_ok-item.item c.in_ok-item.more c.of.result c.loop-names.invariant c.in_ok-item.ensures c.if-not-more.true (c.of.ensures ∙ c.in_ok-push.ensures.items)

pub loop-names-smaller : goal.loop-names-smaller
loop-names-smaller c =
    omega (arith, name_shorter c.args.end (Until c.args.stop) (lexemes_of c.args.source.now c.loop-names.left.now) (c.in_ok-item.item, c.in_ok-item.more) (lexemes_of c.args.source.now c.in_ok-item.others.now) c.in_ok-item.ensures, length-lexemes_of c.args.source.now c.loop-names.left.now, length-lexemes_of c.args.source.now c.in_ok-item.others.now)

pub loop-names-preserved : goal.loop-names-preserved
loop-names-preserved c =
    list_more (name_then c.args.end (Until c.args.stop)) (lexemes_of c.args.source.now c.args.rest.now) (lexemes_of c.args.source.now c.loop-names.left.now) (lexemes_of c.args.source.now c.in_ok-item.others.now) c.loop-names.names.items c.in_ok-item.item c.in_ok-item.more c.push.new.self.items c.loop-names.invariant c.in_ok-item.ensures c.if-not-more.false (name_shorter c.args.end (Until c.args.stop) (lexemes_of c.args.source.now c.loop-names.left.now) (c.in_ok-item.item, c.in_ok-item.more) (lexemes_of c.args.source.now c.in_ok-item.others.now) c.in_ok-item.ensures) c.in_ok-push.ensures.items
