use Rattle.std.proofs.Common.{◌≤◌, map}
use Rattle.std.specs.List.{Contains}
use Rattle.zair_form.specs.declared.step.Dropped.{Dropped}
use Rattle.zair_state.proofs.Minima.{least_start, least_more, least_whole, told_most, map_with}
use Rattle.zair_machine.proofs.unknown.least_trap.Goals as goal

pub loop-d-init : goal.loop-d-init
loop-d-init c = least_start (λ (x : Dropped). x.trap.0) (λ (x : Dropped). c.args.traps ≤ (λ (x : Dropped). x.trap.0) x)

pub loop-d-preserved : goal.loop-d-preserved
loop-d-preserved c =
    rw c.lesser_if-least.ensures (least_more (λ (x : Dropped). x.trap.0) (λ (x : Dropped). c.args.traps ≤ (λ (x : Dropped). x.trap.0) x) c.args.atoms.now c.loop-d.d-index _ _ c.loop-d.least c.loop-d-test.true (told_most c.args.traps _) c.loop-d.invariant)

pub returns : goal.returns
returns c =
    least_whole (λ (x : Dropped). x.trap.0) (λ (x : Dropped). c.args.traps ≤ (λ (x : Dropped). x.trap.0) x) (λ n. Contains (map (λ (x : Dropped). x.trap.0) c.args.atoms.now) n × (c.args.traps ≤ n)) c.args.atoms.now c.loop-d.d-index c.loop-d.least c.loop-d-test.false (map_with (λ (x : Dropped). x.trap.0) (λ n. c.args.traps ≤ n) c.args.atoms.now) c.loop-d.invariant
