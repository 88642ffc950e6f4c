use Rattle.std.proofs.Common.{◌≡◌}
use Rattle.std.specs.List.{Contains}
use Rattle.zair_form.specs.declared.step.Beam.{Beam}
use Rattle.zair_state.specs.State.{crossing}
use Rattle.zair_state.proofs.Minima.{least_start, least_more, least_whole}
use Rattle.zac_arch.specs.Architecture.{IsLit}
use Rattle.zair_machine.proofs.machine.Machine.lit_column.Goals as goal

pub loop-column-init : goal.loop-column-init
loop-column-init c = least_start (λ (b : Beam). b.id) (λ (b : Beam). IsLit c.args.self.now.card (crossing c.args.row b))

pub loop-column-preserved : goal.loop-column-preserved
loop-column-preserved c =
    rw c.lesser_id_if-least.ensures (least_more (λ (b : Beam). b.id) (λ (b : Beam). IsLit c.args.self.now.card (crossing c.args.row b)) c.args.columns.now c.loop-column.column-index _ _ c.loop-column.least c.loop-column-test.true c.lit.ensures c.loop-column.invariant)

pub returns : goal.returns
returns c =
    least_whole (λ (b : Beam). b.id) (λ (b : Beam). IsLit c.args.self.now.card (crossing c.args.row b)) (λ id. (column : Beam) × Contains c.args.columns.now column × IsLit c.args.self.now.card (crossing c.args.row column) × (column.id ≡ id)) c.args.columns.now c.loop-column.column-index c.loop-column.least c.loop-column-test.false (λ n. (λ h. h, λ h. h)) c.loop-column.invariant
