-- The line of each fault on err.
use Rattle.std.specs.Prelude.{ℕ, List, [], ◌∷◌, ◌++◌, codes, decimal}
use Rattle.zair_text.specs.Lines.{joined}
use Rattle.qasm_source.specs.Kinds.{name_of}
use Rattle.zac_fault.specs.Kinds.{limit_name, file_name, card_fault_text}
use Rattle.zac_fault.specs.Replayed.{replay_parts}
use Rattle.zac_fault.specs.declared.status.Fault.{Fault}
use Rattle.zac_fault.specs.declared.status.Fault.TheVariants.{Usage, Read, Long, Card, Source, Limit, Qubits, Zair, NotTheCircuit, Write, Memory}

-- The line of each fault.
abbrev pub fault_line : Fault → List ℕ
fault_line Usage = codes "usage: compile CARD QASM | report CARD QASM | replay CARD QASM ZAIR | make N K | drill N K\n"
fault_line (Read which) = joined (codes "read fault: " ∷ file_name which ∷ codes "\n" ∷ [])
fault_line (Long which) = joined (codes "too long: " ∷ file_name which ∷ codes "\n" ∷ [])
fault_line (Card f) = joined (codes "card refused: " ∷ card_fault_text f ∷ codes "\n" ∷ [])
fault_line (Source k at) = joined (codes "source refused: " ∷ name_of k ∷ codes " at " ∷ decimal at ∷ codes "\n" ∷ [])
fault_line (Limit k n) = joined (codes "limit: " ∷ limit_name k ∷ codes " " ∷ decimal n ∷ codes "\n" ∷ [])
fault_line (Qubits n s) = joined (codes "too many qubits: " ∷ decimal n ∷ codes " for " ∷ decimal s ∷ codes " traps\n" ∷ [])
fault_line (Zair line) = joined (codes "zair refused: line " ∷ decimal line ∷ codes "\n" ∷ [])
fault_line (NotTheCircuit f) = joined (codes "not the circuit: " ∷ (replay_parts f ++ codes "\n" ∷ []))
fault_line Write = codes "write fault\n"
fault_line Memory = codes "out of memory\n"
