use Rattle.std.proofs.Common.{◌+◌, ◌<◌, ℕ, subst}
use Rattle.zair_form.specs.declared.step.Beam.{Beam}
use Rattle.zair_state.specs.declared.fault.Axis.TheVariants.{Row, Column}
use Rattle.zair_state.specs.Faults.{AreNeighbours, IsTooNear}
use Rattle.zair_state.specs.Least.{IsLeastOf}
use Rattle.zair_machine.proofs.BeamFaults.{gap_told, first_beam_told}
use Rattle.zair_machine.proofs.machine.Machine.too_near.Goals as goal

pub returns : goal.returns
returns c =
    let rows = subst (λ (g : ℕ). IsLeastOf (λ id. (lower : Beam) × (upper : Beam) × AreNeighbours c.args.rows.now id lower upper × ((lower.at < upper.at) × (upper.at < lower.at + g))) c.least_too_near.result) c.gap-gap.ensures.gap c.least_too_near.ensures in
    let columns = subst (λ (g : ℕ). IsLeastOf (λ id. (lower : Beam) × (upper : Beam) × AreNeighbours c.args.columns.now id lower upper × ((lower.at < upper.at) × (upper.at < lower.at + g))) c.least_too_near-2.result) c.gap-gap.ensures.gap c.least_too_near-2.ensures in
    rw c.first_beam.ensures (first_beam_told (IsTooNear c.args.self.now.card c.args.self.now.state c.args.step.now) _ _
    (gap_told c.args.self.now.state Row 0 c.args.self.now.card c.args.step.now c.args.rows.now c.least_too_near.result c.requires.rows_after rows)
    (gap_told c.args.self.now.state Column 0 c.args.self.now.card c.args.step.now c.args.columns.now c.least_too_near-2.result c.requires.columns_after columns))
