use Rattle.std.proofs.Common.{sym, subst, rules}
use Rattle.std.proofs.lemmas.Result.{err_from_is_err_and}
use Rattle.zac_flow.specs.Faults.{MeansByFiles, IsCardFile}
use Rattle.zac_fault.specs.declared.status.Fault.{Fault}
use Rattle.zac_flow.proofs.Meaning.{of_card}
use Rattle.zac_flow.proofs.inputs.card_from.Goals as goal

pub returns-in_err-bytes-in_default-clause-means : goal.returns-in_err-bytes-in_default-clause-means
returns-in_err-bytes-in_default-clause-means g c =
    let p = err_from_is_err_and c.from_residual.result c.from_residual.ensures.1 in
    let files = g.S.Shelf.files c.args.shelf.now in
    let is : IsCardFile c.args.word.now = search rules in
    rw p.1 (λ source zair. subst (λ (f : Fault). MeansByFiles files (record { card = c.args.word.now; source = source; zair = zair }) f) (sym p.2)
    (of_card files (record { card = c.args.word.now; source = source; zair = zair }) c.in_err-bytes-in_default.field-0.0 is c.in_err-bytes-in_default.ensures.fault))
