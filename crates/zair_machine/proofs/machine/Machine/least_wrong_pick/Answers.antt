use Rattle.std.proofs.Common.{◌≡◌}
use Rattle.std.specs.List.{Any}
use Rattle.zair_form.specs.declared.step.Caught.{Caught}
use Rattle.zair_machine.specs.Crossings.{IsWrongPick}
use Rattle.zair_state.proofs.Minima.{least_start, least_more, least_whole}
use Rattle.zair_machine.proofs.Dropping.{wrong_with}
use Rattle.zair_machine.proofs.machine.Machine.least_wrong_pick.Goals as goal

pub loop-c-init : goal.loop-c-init
loop-c-init c = least_start (λ (x : Caught). x.q) (λ (x : Caught). IsWrongPick c.args.self.now.card c.args.self.now.state c.args.aod c.args.new.now.rows.now c.args.new.now.columns.now c.args.after.now.rows.now c.args.after.now.columns.now c.args.counts.now x)

pub loop-c-preserved : goal.loop-c-preserved
loop-c-preserved c =
    rw c.lesser_if-least.ensures (least_more (λ (x : Caught). x.q) (λ (x : Caught). IsWrongPick c.args.self.now.card c.args.self.now.state c.args.aod c.args.new.now.rows.now c.args.new.now.columns.now c.args.after.now.rows.now c.args.after.now.columns.now c.args.counts.now x) c.args.atoms.now c.loop-c.c-index (record { q = 0; row = 0; column = 0 }) c.is_wrong_pick.result c.loop-c.least c.loop-c-test.true c.is_wrong_pick.ensures c.loop-c.invariant)

pub returns : goal.returns
returns c =
    least_whole (λ (x : Caught). x.q) (λ (x : Caught). IsWrongPick c.args.self.now.card c.args.self.now.state c.args.aod c.args.new.now.rows.now c.args.new.now.columns.now c.args.after.now.rows.now c.args.after.now.columns.now c.args.counts.now x) (λ q. Any (λ (x : Caught). (x.q ≡ q) × IsWrongPick c.args.self.now.card c.args.self.now.state c.args.aod c.args.new.now.rows.now c.args.new.now.columns.now c.args.after.now.rows.now c.args.after.now.columns.now c.args.counts.now x) c.args.atoms.now) c.args.atoms.now c.loop-c.c-index c.loop-c.least c.loop-c-test.false (wrong_with (λ (x : Caught). x.q) (λ (x : Caught). IsWrongPick c.args.self.now.card c.args.self.now.state c.args.aod c.args.new.now.rows.now c.args.new.now.columns.now c.args.after.now.rows.now c.args.after.now.columns.now c.args.counts.now x) c.args.atoms.now) c.loop-c.invariant
