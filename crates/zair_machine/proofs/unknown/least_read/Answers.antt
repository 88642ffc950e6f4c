use Rattle.std.proofs.Common.{◌≤◌, map}
use Rattle.std.specs.List.{Contains}
use Rattle.zair_form.specs.declared.step.ReadOf.{ReadOf}
use Rattle.zair_state.proofs.Minima.{least_start, least_more, least_whole, told_most, map_with}
use Rattle.zair_machine.proofs.unknown.least_read.Goals as goal

pub loop-r-init : goal.loop-r-init
loop-r-init c = least_start (λ (x : ReadOf). x.q) (λ (x : ReadOf). c.args.qubits ≤ (λ (x : ReadOf). x.q) x)

pub loop-r-preserved : goal.loop-r-preserved
loop-r-preserved c =
    rw c.lesser_if-least.ensures (least_more (λ (x : ReadOf). x.q) (λ (x : ReadOf). c.args.qubits ≤ (λ (x : ReadOf). x.q) x) c.args.reads.now c.loop-r.r-index _ _ c.loop-r.least c.loop-r-test.true (told_most c.args.qubits _) c.loop-r.invariant)

pub returns : goal.returns
returns c =
    least_whole (λ (x : ReadOf). x.q) (λ (x : ReadOf). c.args.qubits ≤ (λ (x : ReadOf). x.q) x) (λ n. Contains (map (λ (x : ReadOf). x.q) c.args.reads.now) n × (c.args.qubits ≤ n)) c.args.reads.now c.loop-r.r-index c.loop-r.least c.loop-r-test.false (map_with (λ (x : ReadOf). x.q) (λ n. c.args.qubits ≤ n) c.args.reads.now) c.loop-r.invariant
