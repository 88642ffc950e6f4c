use Rattle.std.proofs.Common.{◌≡◌, ◌<◌, ◌∷◌, [], subst, arith}
use Rattle.std.proofs.lemmas.Result.{err_from_is_err_and}
use Rattle.qasm_names.specs.Applications.{applications}
use Rattle.qasm_expand.specs.Items.{measurement}
use Rattle.qasm_expand.specs.Sized.{sized}
use Rattle.qasm_expand.specs.Walks.{Walks}
use Rattle.qasm_expand.proofs.TopCalls.{first_visits, walks_more, walks_fails, reading_is, measure_walks, measure_passes}
use Rattle.qasm_expand.proofs.WalksLemmas.{walks_none}
use Rattle.qasm_expand.proofs.top.measure_all.Goals as goal

pub loop-k-init : goal.loop-k-init
loop-k-init c = λ gates. walks_none gates c.args.walk.now

pub returns-in_err-measure-clause-err : goal.returns-in_err-measure-clause-err
returns-in_err-measure-clause-err c =
    let all = c.args.registers.now in
    let f = measurement all c.args.from.now c.args.into.now in
    let k = c.loop-k.k in
    let n = applications (sized all) (c.args.from.now ∷ []) in
    let p = err_from_is_err_and c.from_residual.result c.from_residual.ensures.1 in
    let less : k < n = subst (λ m. k < m) c.readings-k-end.ensures c.loop-k-test.true in
    let is = reading_is all c.args.from.now c.args.into.now k c.qubit.result c.bit.result c.qubit.ensures c.bit.ensures in
    rw (p.1, p.2) (λ gates. walks_fails gates c.args.walk.now c.loop-k.walk f k n c.in_err-measure.field-0.0 less (c.loop-k.invariant gates) (measure_passes gates c.loop-k.walk (f k) c.qubit.result c.bit.result c.in_err-measure.field-0.0 is c.in_err-measure.ensures.err))

pub loop-k-preserved : goal.loop-k-preserved
loop-k-preserved c = λ gates.
    let all = c.args.registers.now in
    let f = measurement all c.args.from.now c.args.into.now in
    let k = c.loop-k.k in
    let is = reading_is all c.args.from.now c.args.into.now k c.qubit.result c.bit.result c.qubit.ensures c.bit.ensures in
    walks_more gates c.args.walk.now c.loop-k.walk c.measure.new.self f k (c.loop-k.invariant gates) (measure_walks gates c.loop-k.walk c.measure.new.self (f k) c.qubit.result c.bit.result is c.in_ok-measure.ensures.ok)

pub returns-clause-ok : goal.returns-clause-ok
returns-clause-ok c = λ gates.
    let all = c.args.registers.now in
    let f = measurement all c.args.from.now c.args.into.now in
    let is : c.loop-k.k ≡ applications (sized all) (c.args.from.now ∷ []) = omega (arith, c.readings-k-end.ensures) in
    subst (λ n. Walks gates c.args.walk.now c.loop-k.walk (first_visits f n)) is (c.loop-k.invariant gates)
