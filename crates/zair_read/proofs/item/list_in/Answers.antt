use Rattle.std.proofs.Common.{Some, Err, sym, subst, ap, ◌∙◌}
use Rattle.std.proofs.lemmas.Result.{err_from_is_err_and}
use Rattle.serde_json.specs.Data.{Data}
use Rattle.serde_json.specs.View.{view}
use Rattle.zair_read.specs.Told.{Tells, told_list}
use Rattle.zair_read.specs.declared.fault.TextFault.{TextFault}
use Rattle.zair_read.proofs.Arrays.{told_more, list_refused}
use Rattle.zair_read.proofs.item.list_in.Goals as goal

pub returns-in_err-from_json : goal.returns-in_err-from_json
returns-in_err-from_json g c =
    let p = err_from_is_err_and c.from_residual-in_err-from_json.result c.from_residual-in_err-from_json.ensures.1 in
    let d : Data = view c.args.value.now in
    let refused = list_refused g.T.FromJson.told d c.in-Some.values.now c.loop-value.value-index c.value-item.result c.loop-value.items.items c.in_err-from_json.field-0.0
    c.in-Some.ensures c.loop-value-test.true c.value-item.is c.loop-value.invariant c.in_err-from_json.ensures in
    rw p.1 (subst (λ (f : TextFault). Tells (Err f) (told_list g.T.FromJson.told d)) (sym p.2) refused)

pub loop-value-preserved : goal.loop-value-preserved
loop-value-preserved g c =
    told_more g.T.FromJson.told c.in-Some.values.now c.loop-value.value-index c.value-item.result c.loop-value.items.items c.in_ok-from_json.field-0
    c.loop-value-test.true c.value-item.is c.in_ok-from_json.ensures c.loop-value.invariant
    ∙ ap (λ xs. Some xs) (sym c.in_ok-push.ensures.items)
