-- Inside: the command of a request.
use Rattle.zac_flow.specs.Words.{Command, Compile, Report, Replay, Make, Drill, AreInRange}
use Rattle.zac_flow.specs.declared.words.Request.{Request}
use Rattle.zac_flow.specs.declared.words.Request.TheVariants as request

-- The command that a request asks for.
abbrev pub named : Request → Command
named (request.Compile card source) = Compile card.now source.now
named (request.Report card source) = Report card.now source.now
named (request.Replay card source zair) = Replay card.now source.now zair.now
named (request.Make qubits pairs) = Make qubits pairs
named (request.Drill qubits pairs) = Drill qubits pairs

-- The numbers of a source to be made are in range.
abbrev pub IsInRange : Request → Type 0
IsInRange (request.Compile card source) = Unit {0}
IsInRange (request.Report card source) = Unit {0}
IsInRange (request.Replay card source zair) = Unit {0}
IsInRange (request.Make qubits pairs) = AreInRange qubits pairs
IsInRange (request.Drill qubits pairs) = AreInRange qubits pairs
