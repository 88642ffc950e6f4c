-- The status of each fault, and the faults that come from those of a card and of a source.
use Rattle.std.specs.Prelude.{Result, Ok, Err}
use Rattle.zac_archfile.specs.declared.fault.CardFault.{CardFault}
use Rattle.zac_archfile.specs.declared.fault.CardFault.TheVariants as card
use Rattle.qasm_source.specs.declared.source_fault.SourceFault.{SourceFault}
use Rattle.qasm_source.specs.declared.source_fault.SourceFault.TheVariants as source
use Rattle.zac_fault.specs.declared.status.Fault.{Fault}
use Rattle.zac_fault.specs.declared.status.Fault.TheVariants.{Usage, Read, Long, Card, Source, Limit, Qubits, Zair, NotTheCircuit, Write, Memory}
use Rattle.zac_fault.specs.declared.status.Status.{Status}
use Rattle.zac_fault.specs.declared.status.Status.TheVariants as status

-- The status of each fault.
abbrev pub status_of : Fault → Status
status_of Usage = status.Usage
status_of (Read which) = status.ReadFault
status_of (Long which) = status.TooLong
status_of (Card f) = status.CardRefused
status_of (Source k at) = status.SourceRefused
status_of (Limit k n) = status.Limit
status_of (Qubits n s) = status.TooManyQubits
status_of (Zair line) = status.ZairRefused
status_of (NotTheCircuit f) = status.NotTheCircuit
status_of Write = status.WriteFault
status_of Memory = status.NoMemory

-- The status of an answer: `Done`, or that of its fault.
abbrev pub outcome : {T : Type 0} → Result T Fault → Status
outcome (Ok x) = status.Done
outcome (Err f) = status_of f

-- The fault of a command whose card has this fault: `Card`, or want of memory.
abbrev pub card_fault_of : CardFault → Fault
card_fault_of card.Memory = Memory
card_fault_of f = Card f

-- The fault of a command whose source has this fault: `Source`, or want of memory.
abbrev pub source_fault_of : SourceFault → Fault
source_fault_of (source.Refused k at) = Source k at
source_fault_of source.Memory = Memory
