-- How the faults of a replay are told.
use Rattle.std.specs.Prelude.{ℕ, List, [], ◌∷◌, ◌++◌, codes, decimal}
use Rattle.zac_gates.specs.declared.checklist.CheckFault.{CheckFault}
use Rattle.zac_gates.specs.declared.checklist.CheckFault.TheVariants.{Content, Again, Early}
use Rattle.zac_watch.specs.declared.fault.ReplayFault.{ReplayFault}
use Rattle.zac_watch.specs.declared.fault.ReplayFault.TheVariants as replay
use Rattle.zair_state.specs.declared.fault.Axis.{Axis}
use Rattle.zair_state.specs.declared.fault.Axis.TheVariants.{Row, Column}
use Rattle.zair_state.specs.declared.fault.BeamId.{BeamId}
use Rattle.zair_state.specs.declared.fault.MachineFault.{MachineFault}
use Rattle.zair_state.specs.declared.fault.MachineFault.TheVariants as machine

-- The name of an axis.
abbrev pub axis_name : Axis → List ℕ
axis_name Row = codes "row "
axis_name Column = codes "column "

-- A fault that shows a beam: its kind, and `row` or `column` with the beam's number.
abbrev pub beam_parts : List ℕ → BeamId → List (List ℕ)
beam_parts kind beam = kind ∷ axis_name beam.axis ∷ decimal beam.id ∷ []

-- The parts of a text that shows one number, two, or three, each behind a word.
abbrev pub one_part : List ℕ → ℕ → List (List ℕ)
one_part word n = word ∷ decimal n ∷ []

abbrev pub two_parts : List ℕ → ℕ → List ℕ → ℕ → List (List ℕ)
two_parts word n next m = word ∷ decimal n ∷ next ∷ decimal m ∷ []

abbrev pub three_parts : List ℕ → ℕ → List ℕ → ℕ → List ℕ → ℕ → List (List ℕ)
three_parts word n next m last k = word ∷ decimal n ∷ next ∷ decimal m ∷ last ∷ decimal k ∷ []

-- The parts of a machine's fault: its kind and what it shows.
abbrev pub machine_parts : MachineFault → List (List ℕ)
machine_parts (machine.Unknown n) = one_part (codes "Unknown ") n
machine_parts (machine.Busy beam) = beam_parts (codes "Busy ") beam
machine_parts (machine.NotActive beam) = beam_parts (codes "NotActive ") beam
machine_parts (machine.Limit beam) = beam_parts (codes "Limit ") beam
machine_parts (machine.Order beam) = beam_parts (codes "Order ") beam
machine_parts (machine.Gap beam) = beam_parts (codes "Gap ") beam
machine_parts (machine.Touch row column) = two_parts (codes "Touch row ") row (codes " column ") column
machine_parts (machine.PickWrong q) = one_part (codes "PickWrong q ") q
machine_parts (machine.DropWrong q) = one_part (codes "DropWrong q ") q
machine_parts (machine.TrapFull q trap) = two_parts (codes "TrapFull q ") q (codes " trap ") trap.0
machine_parts (machine.PairWrong a b) = two_parts (codes "PairWrong q ") a (codes " q ") b
machine_parts (machine.LitAlone q) = one_part (codes "LitAlone q ") q
machine_parts (machine.NotAtRest q) = one_part (codes "NotAtRest q ") q
machine_parts (machine.Crossing aod row column) =
    three_parts (codes "Crossing aod ") aod (codes " row ") row (codes " column ") column

-- The parts of a checklist's fault.
abbrev pub check_parts : CheckFault → List (List ℕ)
check_parts (Content op) = one_part (codes "Content op ") op
check_parts (Again op) = one_part (codes "Again op ") op
check_parts (Early op waits) = two_parts (codes "Early op ") op (codes " waits for ") waits

-- The parts of a fault of the step of this number.
abbrev pub step_parts : ℕ → List (List ℕ) → List (List ℕ)
step_parts step parts = codes "step " ∷ decimal step ∷ codes ": " ∷ parts

-- The parts of a replay's fault.
abbrev pub replay_parts : ReplayFault → List (List ℕ)
replay_parts (replay.Qubits text source) = two_parts (codes "qubits ") text (codes " for ") source
replay_parts (replay.Home q) = one_part (codes "home of q ") q
replay_parts (replay.Length instr) = one_part (codes "length of instruction ") instr
replay_parts (replay.Machine step fault) = step_parts step (machine_parts fault)
replay_parts (replay.Check step fault) = step_parts step (check_parts fault)
replay_parts (replay.Missing op) = one_part (codes "missing op ") op
replay_parts replay.Memory = codes "memory" ∷ []
