use Rattle.std.proofs.Common.{◌*◌, List, get_or, refl, subst}
use Rattle.zair_form.specs.declared.step.Beam.{Beam}
use Rattle.zair_state.specs.Least.{IsLeastOf}
use Rattle.zair_state.specs.State.{beams_of}
use Rattle.zair_machine.proofs.Items.{has_start, has_more, has_whole}
use Rattle.zair_machine.proofs.Numbering.{behind}
use Rattle.zair_machine.proofs.Dropping.{LeftInRow, LeftBehind, left_row, left_there, left_back}
use Rattle.zair_machine.proofs.machine.Machine.least_left_behind.Goals as goal

pub loop-i-init : goal.loop-i-init
loop-i-init c = has_start (LeftInRow c.args.self.now.state c.args.aod c.args.rows.now c.args.columns.now c.active-on_columns.result.now c.args.counts.now) c.active-on_rows.result.now

pub loop-i-preserved : goal.loop-i-preserved
loop-i-preserved c =
    let row = get_or c.active-on_rows.result.now c.loop-i.i (record { id = 0; at = 0 }) in
    rw c.lesser-least.ensures (has_more (LeftInRow c.args.self.now.state c.args.aod c.args.rows.now c.args.columns.now c.active-on_columns.result.now c.args.counts.now) c.active-on_rows.result.now c.loop-i.i (record { id = 0; at = 0 }) c.loop-i.least c.left_in_row.result c.loop-i-test.true
    (left_row c.args.self.now.state c.args.aod c.args.rows.now c.args.columns.now c.active-on_columns.result.now c.args.counts.now _ c.loop-i.i row c.is_listed-off.result c.left_in_row.result (λ j. behind c.args.counts.now _ (c.loop-i.i * 64) j refl) c.is_listed-off.ensures c.left_in_row.ensures) c.loop-i.invariant)

pub returns : goal.returns
returns c =
    subst (λ (rs : List Beam). IsLeastOf (LeftBehind c.args.self.now.state c.args.aod c.args.rows.now c.args.columns.now rs (beams_of c.args.self.now.state c.args.aod).columns c.args.counts.now) c.loop-i.least) c.active-on_rows.ensures
    (subst (λ (cs : List Beam). IsLeastOf (LeftBehind c.args.self.now.state c.args.aod c.args.rows.now c.args.columns.now c.active-on_rows.result.now cs c.args.counts.now) c.loop-i.least) c.active-on_columns.ensures
    (has_whole (LeftInRow c.args.self.now.state c.args.aod c.args.rows.now c.args.columns.now c.active-on_columns.result.now c.args.counts.now) c.active-on_rows.result.now c.loop-i.i (LeftBehind c.args.self.now.state c.args.aod c.args.rows.now c.args.columns.now c.active-on_rows.result.now c.active-on_columns.result.now c.args.counts.now) c.loop-i.least c.loop-i-test.false
    (λ n i r at h. left_there c.args.self.now.state c.args.aod c.args.rows.now c.args.columns.now c.active-on_rows.result.now c.active-on_columns.result.now c.args.counts.now n i r at h)
    (λ n h. left_back c.args.self.now.state c.args.aod c.args.rows.now c.args.columns.now c.active-on_rows.result.now c.active-on_columns.result.now c.args.counts.now n h) c.loop-i.invariant))
