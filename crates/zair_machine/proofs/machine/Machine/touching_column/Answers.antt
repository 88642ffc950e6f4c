use Rattle.std.proofs.Common.{◌≡◌, get_or, arith}
use Rattle.std.proofs.lemmas.Option.{slice_get-get_or}
use Rattle.std.specs.List.{Contains}
use Rattle.zair_form.specs.declared.step.Beam.{Beam}
use Rattle.zair_state.specs.Faults.{TouchesAt}
use Rattle.zair_state.proofs.Minima.{told_less, least_start, least_more, least_whole}
use Rattle.zair_machine.proofs.machine.Machine.touching_column.Goals as goal

pub loop-j-init : goal.loop-j-init
loop-j-init c = least_start (λ (b : Beam). b.id) (TouchesAt c.args.self.now.card c.args.self.now.state c.args.step.now c.args.row)

pub touches-touches-requires : goal.touches-touches-requires
touches-touches-requires c =
    let named = c.requires.named c.loop-j.j _ (slice_get-get_or c.args.columns.now c.loop-j.j (record { id = 0; at = 0 }) c.loop-j-test.true) in
    let told = told_less 0 (get_or c.args.counts.now c.loop-j.j 0) in
    (λ t. named.0 (let lt = told.0 t in omega arith), λ h. told.1 (let le = named.1 h in omega arith))

pub loop-j-preserved : goal.loop-j-preserved
loop-j-preserved c =
    rw c.lesser_id_if-least.ensures (least_more (λ (b : Beam). b.id) (TouchesAt c.args.self.now.card c.args.self.now.state c.args.step.now c.args.row) c.args.columns.now c.loop-j.j (record { id = 0; at = 0 }) c.touches-touches.result c.loop-j.least c.loop-j-test.true c.touches-touches.ensures c.loop-j.invariant)

pub returns : goal.returns
returns c =
    least_whole (λ (b : Beam). b.id) (TouchesAt c.args.self.now.card c.args.self.now.state c.args.step.now c.args.row) (λ id. (column : Beam) × Contains c.args.columns.now column × TouchesAt c.args.self.now.card c.args.self.now.state c.args.step.now c.args.row column × (column.id ≡ id)) c.args.columns.now c.loop-j.j c.loop-j.least c.loop-j-test.false (λ n. (λ h. h, λ h. h)) c.loop-j.invariant
