use Rattle.std.proofs.Common.{◌≡◌, ℕ, Option, sym, subst}
use Rattle.std.proofs.lemmas.Result.{err_from_is_err_and}
use Rattle.zac_io.specs.Outside.{NamedFiles, RoseWhere, is_missing}
use Rattle.zac_flow.specs.Due.{two_files}
use Rattle.zac_flow.specs.Faults.{MeansByFiles, IsCardFile}
use Rattle.zac_fault.specs.declared.status.Fault.{Fault}
use Rattle.zac_flow.proofs.Meaning.{of_source}
use Rattle.zac_flow.proofs.Straying.{strays_of_card, none_of_card, strays_of_source}
use Rattle.zac_flow.proofs.inputs.inputs_from.Goals as goal

pub returns-in_err-card-clause-means : goal.returns-in_err-card-clause-means
returns-in_err-card-clause-means g c =
    let p = err_from_is_err_and c.from_residual.result c.from_residual.ensures.1 in
    let files = g.S.Shelf.files c.args.shelf.now in
    rw p.1 (λ zair. subst (λ (f : Fault). MeansByFiles files (record { card = c.args.card.now; source = c.args.source.now; zair = zair }) f) (sym p.2) (c.in_err-card.ensures.means c.args.source.now zair))

pub returns-in_err-card-clause-strays : goal.returns-in_err-card-clause-strays
returns-in_err-card-clause-strays g c =
    let is : IsCardFile c.args.card.now = c.in_err-card.ensures.file in
    strays_of_card (g.S.Shelf.files c.args.shelf.now) (two_files c.args.card.now c.args.source.now) _ _ is (c.card_from.ensures.file_stray is)

pub returns-in_err-source-clause-means : goal.returns-in_err-source-clause-means
returns-in_err-source-clause-means g c =
    let p = err_from_is_err_and c.from_residual-in_err-source.result c.from_residual-in_err-source.ensures.1 in
    let files = g.S.Shelf.files c.args.shelf.now in
    let same : g.S.Shelf.files c.card_from.new.shelf ≡ files = c.card_from.ensures.same_files in
    rw p.1 (λ zair. subst (λ (f : Fault). MeansByFiles files (record { card = c.args.card.now; source = c.args.source.now; zair = zair }) f) (sym p.2)
    (of_source files (record { card = c.args.card.now; source = c.args.source.now; zair = zair }) c.in_err-source.field-0.0 c.in_ok-card.card c.in_ok-card.ensures.given c.in_ok-card.ensures.short
    (rw same at c.in_err-source.ensures.fault)))

pub returns-in_err-source-clause-strays : goal.returns-in_err-source-clause-strays
returns-in_err-source-clause-strays g c =
    let files = g.S.Shelf.files c.args.shelf.now in
    let same : g.S.Shelf.files c.card_from.new.shelf ≡ files = c.card_from.ensures.same_files in
    let none : g.S.Shelf.strays c.card_from.new.shelf ≡ g.S.Shelf.strays c.args.shelf.now =
    none_of_card files (two_files c.args.card.now c.args.source.now) c.in_ok-card.card _ _ c.in_ok-card.ensures.given c.card_from.ensures.file_stray c.card_from.ensures.no_stray in
    let P : Option NamedFiles → Type 0 = λ f. RoseWhere (is_missing f c.args.source.now) (g.S.Shelf.strays c.card_from.new.shelf) (g.S.Shelf.strays c.file_from.new.shelf) in
    let Q : ℕ → Type 0 = λ n. RoseWhere (is_missing files c.args.source.now) n (g.S.Shelf.strays c.file_from.new.shelf) in
    strays_of_source files (two_files c.args.card.now c.args.source.now) c.in_ok-card.card _ _ c.in_ok-card.ensures.given c.in_ok-card.ensures.short
    (subst Q none (subst P same c.file_from.ensures.stray))
