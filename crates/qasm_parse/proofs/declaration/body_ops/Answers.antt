use Rattle.std.proofs.Common.{arith}
use Rattle.std.proofs.lemmas.Result.{err_from_is_err_and}
use Rattle.qasm_parse.specs.Bodies.{item_of}
use Rattle.qasm_form.specs.Symbols.{lexemes_of}
use Rattle.qasm_parse.specs.Readings.{body_ops}
use Rattle.qasm_parse.proofs.LoopLemmas.{body_more, body_last, body_fails, item_shorter, length-lexemes_of}
use Rattle.qasm_parse.proofs.LeftLemmas.{item_left}
use Rattle.qasm_parse.proofs.declaration.body_ops.Goals as goal

pub returns-in_err-item : goal.returns-in_err-item
unfolding body_ops
returns-in_err-item c =
    let p = err_from_is_err_and c.from_residual.result c.from_residual.ensures.1 in
    rw (p.1, p.2) (body_fails c.args.end (lexemes_of c.args.source.now c.args.rest.now) (lexemes_of c.args.source.now c.loop-ops.left.now) c.loop-ops.ops.items _ c.loop-ops.invariant.0 c.in_err-item.ensures)

pub returns-in-None : goal.returns-in-None
unfolding body_ops
returns-in-None c =
    body_last c.args.end (lexemes_of c.args.source.now c.args.rest.now) (lexemes_of c.args.source.now c.loop-ops.left.now) (lexemes_of c.args.source.now c.in_ok-item.others.now) c.loop-ops.ops.items c.of.result c.in_ok-item.item c.loop-ops.invariant.0 c.in_ok-item.ensures c.in-None.is c.of.ensures

pub loop-ops-smaller : goal.loop-ops-smaller
loop-ops-smaller c =
    omega (arith, item_shorter c.args.end (lexemes_of c.args.source.now c.loop-ops.left.now) (item_of c.in_ok-item.item) (lexemes_of c.args.source.now c.in_ok-item.others.now) c.in_ok-item.ensures, length-lexemes_of c.args.source.now c.loop-ops.left.now, length-lexemes_of c.args.source.now c.in_ok-item.others.now)

pub loop-ops-preserved : goal.loop-ops-preserved
loop-ops-preserved c = (
  body_more c.args.end (lexemes_of c.args.source.now c.args.rest.now) (lexemes_of c.args.source.now c.loop-ops.left.now) (lexemes_of c.args.source.now c.in_ok-item.others.now) c.loop-ops.ops.items c.push.new.self.items c.in_ok-item.item c.in-Some.op c.loop-ops.invariant.0 c.in_ok-item.ensures c.in-Some.is c.in_ok-push-in-Some.ensures.items,
  item_left c.args.end (lexemes_of c.args.source.now c.loop-ops.left.now) (item_of c.in_ok-item.item) (lexemes_of c.args.source.now c.in_ok-item.others.now) c.in_ok-item.ensures c.loop-ops.invariant.1,
)
