use Rattle.std.proofs.Common.{◌≡◌, ap, sym, ◌∙◌, subst}
use Rattle.std.specs.List.{flat_map}
use Rattle.zac_arch.specs.Distances.{IsMoveTime}
use Rattle.zair_form.specs.Times.{rows_set, columns_set, greatest_change, Lasts}
use Rattle.zair_form.specs.Timing.{LastPositions, AreLast, AreLastOf}
use Rattle.zair_form.specs.declared.step.Step.{Step}
use Rattle.zair_form.proofs.TimerFacts.{remembers, move_lasts}
use Rattle.zair_form.proofs.timer.StepTimer.lasts.Goals as goal

pub returns-in-Activate-clause-next : goal.returns-in-Activate-clause-next
returns-in-Activate-clause-next c = λ earlier h.
    remembers earlier c.args.step.now c.args.self.now _ c.as_slice.result.now c.as_slice-in-Activate.result.now
    (ap rows_set c.in-Activate.is ∙ sym c.as_slice.ensures) (ap columns_set c.in-Activate.is ∙ sym c.as_slice-in-Activate.ensures)
    (λ r. c.note.ensures (flat_map rows_set earlier) (subst (λ (p : LastPositions). AreLast p.rows (flat_map rows_set earlier)) (sym c.self.view_is) r))
    (λ r. c.note-in-Activate.ensures (flat_map columns_set earlier) (subst (λ (p : LastPositions). AreLast p.columns (flat_map columns_set earlier)) (sym c.self.view_is) r))
    h

pub returns-in-Move-clause-time : goal.returns-in-Move-clause-time
returns-in-Move-clause-time c = λ earlier h.
    let inside = subst (λ (p : LastPositions). AreLastOf p earlier) (sym c.self.view_is) h in
    let dx = c.greatest_change-dx.ensures.greatest (flat_map columns_set earlier) inside.columns in
    let dy = c.greatest_change-dy.ensures.greatest (flat_map rows_set earlier) inside.rows in
    let x : c.greatest_change-dx.result ≡ greatest_change (flat_map columns_set earlier) (columns_set c.args.step.now) = dx ∙ ap (greatest_change (flat_map columns_set earlier)) (c.as_slice-in-Move.ensures ∙ sym (ap columns_set c.in-Move.is)) in
    let y : c.greatest_change-dy.result ≡ greatest_change (flat_map rows_set earlier) (rows_set c.args.step.now) = dy ∙ ap (greatest_change (flat_map rows_set earlier)) (c.as_slice-in-Move-2.ensures ∙ sym (ap rows_set c.in-Move.is)) in
    let time : IsMoveTime c.args.card.now.figures.accel c.greatest_change-dx.result c.greatest_change-dy.result c.move_time.result = c.move_time.ensures in
    subst (λ (s : Step). Lasts c.args.card.now.figures earlier s c.move_time.result) (sym c.in-Move.is)
    (move_lasts c.args.card.now.figures earlier c.args.step.now c.in-Move.aod c.in-Move.rows c.in-Move.columns c.greatest_change-dx.result c.greatest_change-dy.result c.move_time.result c.in-Move.is x y time)

pub returns-in-Move-clause-next : goal.returns-in-Move-clause-next
returns-in-Move-clause-next c = λ earlier h.
    remembers earlier c.args.step.now c.args.self.now _ c.as_slice-in-Move-3.result.now c.as_slice-in-Move-4.result.now
    (ap rows_set c.in-Move.is ∙ sym c.as_slice-in-Move-3.ensures) (ap columns_set c.in-Move.is ∙ sym c.as_slice-in-Move-4.ensures)
    (λ r. c.note-in-Move.ensures (flat_map rows_set earlier) (subst (λ (p : LastPositions). AreLast p.rows (flat_map rows_set earlier)) (sym c.self.view_is) r))
    (λ r. c.note-in-Move-2.ensures (flat_map columns_set earlier) (subst (λ (p : LastPositions). AreLast p.columns (flat_map columns_set earlier)) (sym c.self.view_is) r))
    h
