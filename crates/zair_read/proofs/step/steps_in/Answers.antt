use Rattle.std.proofs.Common.{List, Some, Err, sym, subst, ap, ◌∙◌}
use Rattle.std.proofs.lemmas.Result.{err_from_is_err_and}
use Rattle.serde_json.specs.Data.{Data}
use Rattle.serde_json.specs.View.{view}
use Rattle.zair_form.specs.declared.step.Step.{Step}
use Rattle.zair_read.specs.Told.{Tells, told_list, told_step}
use Rattle.zair_read.specs.declared.fault.TextFault.{TextFault}
use Rattle.zair_read.proofs.Arrays.{told_more, list_refused}
use Rattle.zair_read.proofs.step.steps_in.Goals as goal

pub returns-in_err-step_in : goal.returns-in_err-step_in
returns-in_err-step_in c =
    let p = err_from_is_err_and c.from_residual-in_err-step_in.result c.from_residual-in_err-step_in.ensures.1 in
    let told = told_step c.args.aod in
    let d : Data = view c.args.value.now in
    let refused = list_refused told d c.in-Some.values.now c.loop-value.value-index c.value-item.result c.loop-value.steps.items c.in_err-step_in.field-0.0
    c.in-Some.ensures c.loop-value-test.true c.value-item.is c.loop-value.invariant c.in_err-step_in.ensures in
    rw p.1 (subst (λ (f : TextFault). Tells {A = List Step} (Err f) (told_list told d)) (sym p.2) refused)

pub loop-value-preserved : goal.loop-value-preserved
loop-value-preserved c =
    told_more (told_step c.args.aod) c.in-Some.values.now c.loop-value.value-index c.value-item.result c.loop-value.steps.items c.in_ok-step_in.field-0
    c.loop-value-test.true c.value-item.is c.in_ok-step_in.ensures c.loop-value.invariant
    ∙ ap (λ xs. Some xs) (sym c.in_ok-push.ensures.items)
