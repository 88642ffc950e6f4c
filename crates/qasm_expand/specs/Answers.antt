-- Inside: what an answer to a program says.
use Rattle.qasm_names.specs.Accepted.{Program}
use Rattle.qasm_expand.specs.declared.fault.ExpandFault.{ExpandFault}
use Rattle.qasm_expand.specs.declared.fault.ExpandFault.TheVariants as fault
use Rattle.qasm_expand.specs.Expansion.{PassesFirst}

-- the fault tells the first limit that the program passes, or want of memory
abbrev pub TellsLimit : Program → ExpandFault → Type 0
TellsLimit p (fault.Limit kind count) = PassesFirst p kind count
TellsLimit p fault.Memory = Unit {0}
