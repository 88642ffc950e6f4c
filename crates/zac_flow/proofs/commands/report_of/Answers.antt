use Rattle.std.proofs.Common.{◌≡◌, ℕ, None, Some, refl, sym, ap, ◌∙◌, subst}
use Rattle.std.proofs.lemmas.Result.{err_from_is_err_and}
use Rattle.zac_flow.specs.Answers.{RisesAt}
use Rattle.zac_flow.specs.Due.{two_files}
use Rattle.zac_fault.specs.Statuses.{status_of}
use Rattle.zac_flow.specs.Faults.{Means}
use Rattle.zac_flow.specs.Panel.{readings}
use Rattle.zac_flow.specs.Words.{Report}
use Rattle.zac_fault.specs.declared.status.Fault.{Fault}
use Rattle.zac_fault.specs.declared.status.Fault.TheVariants.{Memory}
use Rattle.zac_fault.specs.declared.status.Status.TheVariants.{Done, ReadFault, NoMemory}
use Rattle.zac_flow.proofs.Showing.{part_of_compiled, all_of_compiled, report_due}
use Rattle.zac_flow.proofs.commands.report_of.Goals as goal

pub returns-in_err-inputs-clause-means : goal.returns-in_err-inputs-clause-means
returns-in_err-inputs-clause-means g c =
    let p = err_from_is_err_and c.from_residual.result c.from_residual.ensures.1 in
    let files = g.S.Shelf.files c.args.shelf.now in
    rw p.1 (subst (λ (f : Fault). Means files (Some (Report c.args.card.now c.args.source.now)) f) (sym p.2) (c.in_err-inputs.ensures.means None))

pub returns-in_err-show_all-clause-part : goal.returns-in_err-show_all-clause-part
returns-in_err-show_all-clause-part g c =
    let p = err_from_is_err_and c.from_residual-in_err-show_all.result c.from_residual-in_err-show_all.ensures.1 in
    let files = g.S.Shelf.files c.args.shelf.now in
    rw p.1 (λ _. part_of_compiled files (two_files c.args.card.now c.args.source.now) c.in_ok-inputs.inputs c.in_ok-compiled.compiled.program c.in_ok-inputs.ensures.given c.in_ok-compiled.ensures.ok.0
    c.in_ok-compiled.compiled.card
    (readings (λ w. (goal.Watch-dyn g (w.vtable, w.value)).kind w.value) (λ w. (goal.Watch-dyn g (w.vtable, w.value)).sum w.value) c.args.panel.now.items)
    (readings (λ w. (goal.Watch-dyn g (w.vtable, w.value)).kind w.value) (λ w. (goal.Watch-dyn g (w.vtable, w.value)).sum w.value) c.show_all.new.panel.items)
    c.in_ok-compiled.ensures.ok.1 (c.in_err-show_all.ensures.err refl))

pub returns-in_err-report_text-clause-part : goal.returns-in_err-report_text-clause-part
returns-in_err-report_text-clause-part g c =
    let p = err_from_is_err_and c.from_residual-in_err-report_text.result c.from_residual-in_err-report_text.ensures.1 in
    let files = g.S.Shelf.files c.args.shelf.now in
    rw p.1 (λ _. all_of_compiled files (two_files c.args.card.now c.args.source.now) c.in_ok-inputs.inputs c.in_ok-compiled.compiled.program c.in_ok-inputs.ensures.given c.in_ok-compiled.ensures.ok.0
    c.in_ok-compiled.compiled.card
    (readings (λ w. (goal.Watch-dyn g (w.vtable, w.value)).kind w.value) (λ w. (goal.Watch-dyn g (w.vtable, w.value)).sum w.value) c.args.panel.now.items)
    (readings (λ w. (goal.Watch-dyn g (w.vtable, w.value)).kind w.value) (λ w. (goal.Watch-dyn g (w.vtable, w.value)).sum w.value) c.show_all.new.panel.items)
    c.in_ok-compiled.ensures.ok.1 c.in_ok-show_all.ensures.ok)

-- want of memory raises no count of faults in reading
no_rise : (f : Fault) (before now : ℕ) → f ≡ Memory → RisesAt ReadFault Done before now → RisesAt ReadFault (status_of f) before now
no_rise f before now is h =
    let same : status_of f ≡ NoMemory = ap (λ (x : Fault). status_of x) is in
    record {
      rises = λ e. let no : NoMemory ≡ ReadFault = sym same ∙ e in absurd (cc);
      stays = λ _. h.stays (λ e. absurd (cc));
    }

pub returns-in_err-report_text-clause-reads : goal.returns-in_err-report_text-clause-reads
returns-in_err-report_text-clause-reads g c =
    let p = err_from_is_err_and c.from_residual-in_err-report_text.result c.from_residual-in_err-report_text.ensures.1 in
    rw p.1 (no_rise p.0 (g.S.Shelf.faults c.args.shelf.now) (g.S.Shelf.faults c.inputs_from.new.shelf) p.2 c.in_ok-inputs.ensures.reads)

pub returns-clause-due : goal.returns-clause-due
returns-clause-due g c =
    report_due (λ w. (goal.Watch-dyn g (w.vtable, w.value)).kind w.value) (λ w. (goal.Watch-dyn g (w.vtable, w.value)).sum w.value) (g.S.Shelf.files c.args.shelf.now) c.args.card.now c.args.source.now
    c.in_ok-inputs.inputs c.in_ok-compiled.compiled.program c.in_ok-inputs.ensures.given c.in_ok-compiled.ensures.ok.0 c.in_ok-compiled.compiled.card
    c.args.panel.now.items c.show_all.new.panel.items c.as_slice.result.now c.in_ok-totals.totals c.in_ok-report_text.field-0.items
    c.in_ok-compiled.ensures.ok.1 c.in_ok-show_all.ensures.ok c.in_ok-totals.ensures c.as_slice.ensures.value c.in_ok-report_text.ensures
