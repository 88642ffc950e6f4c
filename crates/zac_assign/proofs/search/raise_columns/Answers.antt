use Rattle.std.proofs.Common.{rules, ◌≡◌, ◌<◌, None, Some, length, sym, ap, ◌∙◌, arith, refl}
use Rattle.std.proofs.lemmas.List.{get_or_read_under}
use Rattle.zac_pairing.specs.Pairing.{mate}
use Rattle.zac_pairing.specs.Tree.{left_at}
use Rattle.zac_assign.proofs.search.raise_columns.Goals as goal

pub bounds-fee-column : goal.bounds-fee-column
bounds-fee-column c =
    let columns = c.args.pairs.now.left.items in
    let steps = c.args.room.now.steps.items in
    let at = c.loop-step.step-index in
    let steps_is = c.deref-step-items.ensures.value in
    let at_in : at < length steps = omega (arith, c.loop-step-test.true, ap length steps_is) in
    let same : left_at c.deref-step-items.result.now at ≡ left_at steps at = ap (λ s. left_at s at) steps_is in
    let row_in : left_at c.deref-step-items.result.now at < length columns = omega (arith, same, c.requires.rows_in at at_in, c.args.pairs.now.left.ok.0) in
    let read : c.index.result.now ≡ mate columns (left_at c.deref-step-items.result.now at) = get_or_read_under columns (left_at c.deref-step-items.result.now at) (length columns) c.index.result.now None c.index.ensures row_in refl in
    let own : mate columns (left_at steps at) ≡ Some c.in-Some.column = ap (mate columns) (sym same) ∙ (sym read ∙ c.in-Some.is) in
    omega (arith, c.requires.inside at c.in-Some.column at_in own, c.loop-step.auto.fee)

pub overflow_add-fee : goal.overflow_add-fee
overflow_add-fee c =
    let columns = c.args.pairs.now.left.items in
    let steps = c.args.room.now.steps.items in
    let at = c.loop-step.step-index in
    let steps_is = c.deref-step-items.ensures.value in
    let at_in : at < length steps = omega (arith, c.loop-step-test.true, ap length steps_is) in
    let same : left_at c.deref-step-items.result.now at ≡ left_at steps at = ap (λ s. left_at s at) steps_is in
    let row_in : left_at c.deref-step-items.result.now at < length columns = omega (arith, same, c.requires.rows_in at at_in, c.args.pairs.now.left.ok.0) in
    let read : c.index.result.now ≡ mate columns (left_at c.deref-step-items.result.now at) = get_or_read_under columns (left_at c.deref-step-items.result.now at) (length columns) c.index.result.now None c.index.ensures row_in refl in
    let own : mate columns (left_at steps at) ≡ Some c.in-Some.column = ap (mate columns) (sym same) ∙ (sym read ∙ c.in-Some.is) in
    let before = c.loop-step.invariant.outside c.in-Some.column (λ k h e. c.requires.distinct k at c.in-Some.column h at_in e own) in
    let fits = c.requires.fits at c.in-Some.column at_in own in
    search rules
