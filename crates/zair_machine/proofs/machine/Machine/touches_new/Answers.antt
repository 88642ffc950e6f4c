use Rattle.std.proofs.Common.{sym, ◌∙◌}
use Rattle.std.proofs.lemmas.Bool.{false≢true}
use Rattle.zair_state.proofs.Minima.{same_or, any_id, not_same}
use Rattle.zair_machine.proofs.machine.Machine.touches_new.Goals as goal
use Rattle.zair_machine.proofs.machine.Machine.touches_new.Goals.{then-named-via-then-named, then-named-via-else-named+then-not-is_new}

pub returns-then-named : goal.returns-then-named
returns-then-named c = (
  λ t. absurd (false≢true t),
  λ h. absurd (elim c.then-named.branch [
    | then-named-via-then-named w ↦ h.1 w.if-named.true
    | then-named-via-else-named+then-not-is_new w ↦ false≢true (sym w.if-not-is_new.true ∙ w.is_new.ensures.1 ((same_or _ _ _ _ (any_id c.args.rows.now c.args.row.id) (any_id c.args.columns.now c.args.column.id)).1 h.0))
  ]),
)

pub returns : goal.returns
returns c =
    let either = same_or _ _ _ _ (any_id c.args.rows.now c.args.row.id) (any_id c.args.columns.now c.args.column.id) in
    let unclear = not_same c.is_clear.result _ c.is_clear.ensures in
    (λ t. (either.0 (c.is_new.ensures.0 c.if-not-is_new.false), (λ n. false≢true (sym c.if-named.false ∙ n)), unclear.0 t), λ h. unclear.1 h.2)
