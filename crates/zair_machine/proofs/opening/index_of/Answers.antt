use Rattle.std.proofs.Common.{rules, arith}
use Rattle.zac_arch.proofs.Geometry.{storage_count_most}
use Rattle.zair_machine.proofs.Homing.{few_right}
use Rattle.zair_machine.proofs.Noting.{home_in_index, index_more, index_whole}
use Rattle.zair_machine.proofs.opening.index_of.Goals as goal

pub loop-q-init : goal.loop-q-init
loop-q-init c = (search rules, λ q home lt h. absurd (omega arith))

pub overflow_cast-q : goal.overflow_cast-q
overflow_cast-q c =
    let few = few_right c.args.card.now c.args.homes.now c.loop-q.q (omega (arith, c.loop-q-test.true)) (λ m lt. c.requires m) in
    omega (arith, few, storage_count_most c.args.card.now c.figures-rules.ensures.rules)

pub index_mut-requires : goal.index_mut-requires
index_mut-requires c =
    let lt = home_in_index c.args.card.now c.args.homes.now c.figures-rules.ensures.rules c.requires c.loop-q.index.items c.loop-q.q (record { 0 = 0 }) c.loop-q.invariant c.loop-q-test.true in
    omega (arith, lt, c.loop-q.index.ok)

pub loop-q-preserved : goal.loop-q-preserved
loop-q-preserved c = index_more c.args.card.now c.args.homes.now c.figures-rules.ensures.rules c.requires c.loop-q.index.items c.loop-q.q (record { 0 = 0 }) c.loop-q.invariant c.loop-q-test.true

pub returns-clause-len : goal.returns-clause-len
returns-clause-len c = c.loop-q.invariant.0

pub returns-clause-told : goal.returns-clause-told
returns-clause-told c = index_whole c.args.card.now c.args.homes.now c.figures-rules.ensures.rules c.requires c.loop-q.index.items c.loop-q.q c.loop-q-test.false c.loop-q.invariant
