use Rattle.std.proofs.Common.{◌≡◌, ℕ, Option, Some, sym, subst}
use Rattle.std.proofs.lemmas.Result.{err_from_is_err_and}
use Rattle.zac_io.specs.Outside.{NamedFiles, RoseWhere, is_missing}
use Rattle.zac_flow.specs.Due.{three_files}
use Rattle.zac_flow.specs.Faults.{MeansByFiles}
use Rattle.zac_fault.specs.declared.status.Fault.{Fault}
use Rattle.zac_flow.proofs.Meaning.{of_text}
use Rattle.zac_flow.proofs.Straying.{strays_of_two, strays_of_text}
use Rattle.zac_flow.proofs.inputs.texts_from.Goals as goal

pub returns-in_err-card-clause-means : goal.returns-in_err-card-clause-means
returns-in_err-card-clause-means g c =
    let p = err_from_is_err_and c.from_residual.result c.from_residual.ensures.1 in
    let files = g.S.Shelf.files c.args.shelf.now in
    rw p.1 (subst (λ (f : Fault). MeansByFiles files (three_files c.args.card.now c.args.source.now c.args.zair.now) f) (sym p.2)
    (c.in_err-card.ensures.means (Some c.args.zair.now)))

pub returns-in_err-card-clause-strays : goal.returns-in_err-card-clause-strays
returns-in_err-card-clause-strays g c =
    strays_of_two (g.S.Shelf.files c.args.shelf.now) c.args.card.now c.args.source.now c.args.zair.now _ _ c.inputs_from.ensures.strays

pub returns-in_err-zair-clause-means : goal.returns-in_err-zair-clause-means
returns-in_err-zair-clause-means g c =
    let p = err_from_is_err_and c.from_residual-in_err-zair.result c.from_residual-in_err-zair.ensures.1 in
    let files = g.S.Shelf.files c.args.shelf.now in
    let same : g.S.Shelf.files c.inputs_from.new.shelf ≡ files = c.inputs_from.ensures.same_files in
    rw p.1 (subst (λ (f : Fault). MeansByFiles files (three_files c.args.card.now c.args.source.now c.args.zair.now) f) (sym p.2)
    (of_text files c.args.card.now c.args.source.now c.args.zair.now c.in_err-zair.field-0.0 c.in_ok-card.field-0 c.in_ok-card.ensures.given c.in_ok-card.ensures.short
    (rw same at c.in_err-zair.ensures.fault)))

pub returns-in_err-zair-clause-strays : goal.returns-in_err-zair-clause-strays
returns-in_err-zair-clause-strays g c =
    let files = g.S.Shelf.files c.args.shelf.now in
    let same : g.S.Shelf.files c.inputs_from.new.shelf ≡ files = c.inputs_from.ensures.same_files in
    let P : Option NamedFiles → Type 0 = λ f. RoseWhere (is_missing f c.args.zair.now) (g.S.Shelf.strays c.inputs_from.new.shelf) (g.S.Shelf.strays c.file_from.new.shelf) in
    strays_of_text files c.args.card.now c.args.source.now c.args.zair.now c.in_ok-card.field-0 _ _ _ c.in_ok-card.ensures.given c.in_ok-card.ensures.short
    c.inputs_from.ensures.strays (subst P same c.file_from.ensures.stray)

pub returns-clause-strays : goal.returns-clause-strays
returns-clause-strays g c =
    let files = g.S.Shelf.files c.args.shelf.now in
    let same : g.S.Shelf.files c.inputs_from.new.shelf ≡ files = c.inputs_from.ensures.same_files in
    let P : Option NamedFiles → Type 0 = λ f. RoseWhere (is_missing f c.args.zair.now) (g.S.Shelf.strays c.inputs_from.new.shelf) (g.S.Shelf.strays c.file_from.new.shelf) in
    strays_of_text files c.args.card.now c.args.source.now c.args.zair.now c.in_ok-card.field-0 _ _ _ c.in_ok-card.ensures.given c.in_ok-card.ensures.short
    c.inputs_from.ensures.strays (subst P same c.file_from.ensures.stray)
