use Rattle.std.proofs.Common.{◌≡◌}
use Rattle.std.specs.List.{Any}
use Rattle.zair_form.specs.declared.step.ReadOf.{ReadOf}
use Rattle.zair_state.specs.Faults.{IsHeld}
use Rattle.zair_state.proofs.Minima.{least_start, least_more, least_whole, any_with}
use Rattle.zair_machine.proofs.machine.Machine.least_held.Goals as goal

pub loop-r-init : goal.loop-r-init
loop-r-init c = least_start (λ (x : ReadOf). x.q) (λ (x : ReadOf). IsHeld c.args.self.now.state x.q)

pub loop-r-preserved : goal.loop-r-preserved
loop-r-preserved c =
    rw c.lesser_if-least.ensures (least_more (λ (x : ReadOf). x.q) (λ (x : ReadOf). IsHeld c.args.self.now.state x.q) c.args.reads.now c.loop-r.r-index _ _ c.loop-r.least c.loop-r-test.true c.is_held.ensures c.loop-r.invariant)

pub returns : goal.returns
returns c =
    least_whole (λ (x : ReadOf). x.q) (λ (x : ReadOf). IsHeld c.args.self.now.state x.q) (λ q. Any (λ (r : ReadOf). r.q ≡ q) c.args.reads.now × IsHeld c.args.self.now.state q) c.args.reads.now c.loop-r.r-index c.loop-r.least c.loop-r-test.false (any_with (λ (x : ReadOf). x.q) (IsHeld c.args.self.now.state) c.args.reads.now) c.loop-r.invariant
