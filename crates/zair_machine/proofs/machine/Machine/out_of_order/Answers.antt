use Rattle.zair_state.specs.declared.fault.Axis.TheVariants.{Row, Column}
use Rattle.zair_state.specs.Faults.{IsOutOfOrder}
use Rattle.zair_machine.proofs.BeamFaults.{order_told, first_beam_told}
use Rattle.zair_machine.proofs.machine.Machine.out_of_order.Goals as goal

pub returns : goal.returns
returns c =
    rw c.first_beam.ensures (first_beam_told (IsOutOfOrder c.args.self.now.state c.args.step.now) _ _
    (order_told c.args.self.now.state Row 0 c.args.step.now c.args.rows.now c.least_out_of_order.result c.requires.rows_after c.least_out_of_order.ensures)
    (order_told c.args.self.now.state Column 0 c.args.step.now c.args.columns.now c.least_out_of_order-2.result c.requires.columns_after c.least_out_of_order-2.ensures))
