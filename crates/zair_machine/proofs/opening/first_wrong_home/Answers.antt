use Rattle.std.proofs.Common.{inl, inr, true, false, arith}
use Rattle.zac_arch.proofs.Geometry.{storage_count_most}
use Rattle.zair_machine.proofs.Homing.{read_mark, few_right, wrong_here, marked_more, none_wrong_at_end}
use Rattle.zair_machine.proofs.opening.first_wrong_home.Goals as goal
use Rattle.zair_machine.proofs.opening.first_wrong_home.Goals.{then-trap-len-via-then-trap-len, then-trap-len-via-else-trap-len+then-index}

pub overflow_cast-result : goal.overflow_cast-result
overflow_cast-result c =
    let few = few_right c.args.card.now c.args.homes.now c.loop-q.q (omega (arith, c.loop-q-test.true)) c.loop-q.invariant.right in
    omega (arith, few, storage_count_most c.args.card.now c.figures-rules.ensures.rules)

pub returns-then-trap-len : goal.returns-then-trap-len
returns-then-trap-len c =
    wrong_here c.args.card.now c.args.homes.now c.loop-q.taken.items c.loop-q.q (record { 0 = 0 }) c.loop-q.invariant c.loop-q-test.true (elim c.then-trap-len.branch [
      | then-trap-len-via-then-trap-len w ↦ inl (omega (arith, w.if-trap-len.true))
      | then-trap-len-via-else-trap-len+then-index w ↦ inr (read_mark c.loop-q.taken.items _ w.index.result.now true (omega (arith, w.if-trap-len.false)) w.index.ensures w.if-index.true)
    ])

pub loop-q-preserved : goal.loop-q-preserved
loop-q-preserved c =
    marked_more c.args.card.now c.args.homes.now c.loop-q.taken.items c.loop-q.q (record { 0 = 0 }) c.loop-q.invariant c.loop-q-test.true (omega (arith, c.if-trap-len.false)) (read_mark c.loop-q.taken.items _ c.index.result.now false (omega (arith, c.if-trap-len.false)) c.index.ensures c.if-index.false)

pub returns : goal.returns
returns c = none_wrong_at_end c.args.card.now c.args.homes.now c.loop-q.q (omega (arith, c.loop-q-test.false)) c.loop-q.invariant.right
