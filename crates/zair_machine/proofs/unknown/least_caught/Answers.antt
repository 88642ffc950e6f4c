use Rattle.std.proofs.Common.{◌≤◌, map}
use Rattle.std.specs.List.{Contains}
use Rattle.zair_form.specs.declared.step.Caught.{Caught}
use Rattle.zair_state.proofs.Minima.{least_start, least_more, least_whole, told_most, map_with}
use Rattle.zair_machine.proofs.unknown.least_caught.Goals as goal

pub loop-c-init : goal.loop-c-init
loop-c-init c = least_start (λ (x : Caught). x.q) (λ (x : Caught). c.args.qubits ≤ (λ (x : Caught). x.q) x)

pub loop-c-preserved : goal.loop-c-preserved
loop-c-preserved c =
    rw c.lesser_if-least.ensures (least_more (λ (x : Caught). x.q) (λ (x : Caught). c.args.qubits ≤ (λ (x : Caught). x.q) x) c.args.atoms.now c.loop-c.c-index _ _ c.loop-c.least c.loop-c-test.true (told_most c.args.qubits _) c.loop-c.invariant)

pub returns : goal.returns
returns c =
    least_whole (λ (x : Caught). x.q) (λ (x : Caught). c.args.qubits ≤ (λ (x : Caught). x.q) x) (λ n. Contains (map (λ (x : Caught). x.q) c.args.atoms.now) n × (c.args.qubits ≤ n)) c.args.atoms.now c.loop-c.c-index c.loop-c.least c.loop-c-test.false (map_with (λ (x : Caught). x.q) (λ n. c.args.qubits ≤ n) c.args.atoms.now) c.loop-c.invariant
