use Rattle.zair_state.proofs.Picking.{NoneBelow}
use Rattle.zair_state.proofs.Resting.{SomeLit}
use Rattle.zair_machine.proofs.machine.Machine.lit_crossing.Given as goal

abbrev pub invariant-loop-aod : goal.invariant-loop-aod
invariant-loop-aod l = NoneBelow (SomeLit l.self.card l.self.state) l.aod
