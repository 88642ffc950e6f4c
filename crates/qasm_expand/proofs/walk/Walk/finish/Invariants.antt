use Rattle.std.proofs.Common.{◌+◌, ◌*◌, ◌-◌, length}
use Rattle.std.specs.Prelude.{reverse}
use Rattle.qasm_expand.specs.Walks.{AreFit, pending}
use Rattle.qasm_expand.proofs.WalksLemmas.{Walking}
use Rattle.qasm_expand.proofs.walk.Walk.finish.Given as goal

abbrev pub invariant-loop-frame : goal.invariant-loop-frame
invariant-loop-frame l =
    Walking l.gates l.initial.self l.self (pending l.gates (reverse l.initial.frames.items)) (pending l.gates (reverse l.frames.items)) × AreFit l.gates (reverse l.frames.items)

abbrev pub decreases-loop-frame : goal.decreases-loop-frame
decreases-loop-frame l = length l.frames.items + 2 * (262144 - l.self.calls)
