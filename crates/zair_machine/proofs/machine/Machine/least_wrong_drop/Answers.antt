use Rattle.std.proofs.Common.{◌≡◌}
use Rattle.std.specs.List.{Any}
use Rattle.zair_form.specs.declared.step.Dropped.{Dropped}
use Rattle.zair_machine.specs.Crossings.{IsWrongDrop}
use Rattle.zair_state.proofs.Minima.{least_start, least_more, least_whole}
use Rattle.zair_machine.proofs.Dropping.{wrong_with}
use Rattle.zair_machine.proofs.machine.Machine.least_wrong_drop.Goals as goal

pub loop-d-init : goal.loop-d-init
loop-d-init c = least_start (λ (x : Dropped). x.q) (λ (x : Dropped). IsWrongDrop c.args.self.now.card c.args.self.now.state c.args.aod c.args.rows.now c.args.columns.now c.args.counts.now x)

pub loop-d-preserved : goal.loop-d-preserved
loop-d-preserved c =
    rw c.lesser_if-least.ensures (least_more (λ (x : Dropped). x.q) (λ (x : Dropped). IsWrongDrop c.args.self.now.card c.args.self.now.state c.args.aod c.args.rows.now c.args.columns.now c.args.counts.now x) c.args.atoms.now c.loop-d.d-index _ _ c.loop-d.least c.loop-d-test.true c.is_wrong_drop.ensures c.loop-d.invariant)

pub returns : goal.returns
returns c =
    least_whole (λ (x : Dropped). x.q) (λ (x : Dropped). IsWrongDrop c.args.self.now.card c.args.self.now.state c.args.aod c.args.rows.now c.args.columns.now c.args.counts.now x) (λ q. Any (λ (d : Dropped). (d.q ≡ q) × IsWrongDrop c.args.self.now.card c.args.self.now.state c.args.aod c.args.rows.now c.args.columns.now c.args.counts.now d) c.args.atoms.now) c.args.atoms.now c.loop-d.d-index c.loop-d.least c.loop-d-test.false (wrong_with (λ (x : Dropped). x.q) (λ (x : Dropped). IsWrongDrop c.args.self.now.card c.args.self.now.state c.args.aod c.args.rows.now c.args.columns.now c.args.counts.now x) c.args.atoms.now) c.loop-d.invariant
