-- The numbers of the statuses.
use Rattle.std.specs.Prelude.{ℕ}
use Rattle.zac_fault.specs.declared.status.Status.{Status}
use Rattle.zac_fault.specs.declared.status.Status.TheVariants.{Done, SourceRefused, Usage, ReadFault, WriteFault, NoMemory, CardRefused, TooManyQubits, ZairRefused, NotTheCircuit, TooLong, Limit}

-- The number of each status: Done 0, SourceRefused 1, Usage 2, ReadFault 3, WriteFault 4, NoMemory 5, CardRefused 6, TooManyQubits 7,
-- ZairRefused 8, NotTheCircuit 9, TooLong 10, Limit 11.
abbrev pub code_of : Status → ℕ
code_of Done = 0
code_of SourceRefused = 1
code_of Usage = 2
code_of ReadFault = 3
code_of WriteFault = 4
code_of NoMemory = 5
code_of CardRefused = 6
code_of TooManyQubits = 7
code_of ZairRefused = 8
code_of NotTheCircuit = 9
code_of TooLong = 10
code_of Limit = 11
