use Rattle.std.proofs.Common.{◌≡◌, ◌⊎◌, ℕ, IsTrue, Some, refl, get_or, slice_get}
use Rattle.std.specs.List.{Contains}
use Rattle.zair_form.specs.declared.step.Beam.{Beam}
use Rattle.zair_state.specs.declared.place.Place.TheVariants.{Held}
use Rattle.zair_state.specs.State.{IsAt}
use Rattle.zair_machine.proofs.Items.{has_start, has_more, has_whole}
use Rattle.zair_machine.proofs.Dropping.{LeftWith, left_if}
use Rattle.zair_machine.proofs.machine.Machine.left_in_row.Goals as goal

pub loop-j-init : goal.loop-j-init
loop-j-init c = has_start (LeftWith c.args.self.now.state c.args.aod c.args.row c.args.off c.args.columns_off.now c.args.counts.now) c.args.columns.now

pub loop-j-preserved : goal.loop-j-preserved
loop-j-preserved c =
    let column = get_or c.args.columns.now c.loop-j.j (record { id = 0; at = 0 }) in
    rw c.lesser-least.ensures (has_more (LeftWith c.args.self.now.state c.args.aod c.args.row c.args.off c.args.columns_off.now c.args.counts.now) c.args.columns.now c.loop-j.j (record { id = 0; at = 0 }) c.loop-j.least c.held_if.result c.loop-j-test.true
    (left_if c.args.self.now.state c.args.aod c.args.row c.args.off c.args.columns_off.now c.args.counts.now c.loop-j.j column _ c.is_uncounted-left.result c.held_if.result refl c.is_uncounted-left.ensures c.held_if.ensures) c.loop-j.invariant)

pub returns : goal.returns
returns c =
    has_whole (LeftWith c.args.self.now.state c.args.aod c.args.row c.args.off c.args.columns_off.now c.args.counts.now) c.args.columns.now c.loop-j.j (λ (q : ℕ). (j : ℕ) × (b : Beam) × (slice_get c.args.columns.now j ≡ Some b) × IsAt c.args.self.now.state q (Held c.args.aod c.args.row b.id) × (IsTrue c.args.off ⊎ Contains c.args.columns_off.now b.id) × (get_or c.args.counts.now j 0 ≡ 0)) c.loop-j.least c.loop-j-test.false
    (λ n j b at h. (j, b, at, h.0, h.1, h.2)) (λ n h. (h.0, h.1, h.2, (h.3, h.4, h.5))) c.loop-j.invariant
