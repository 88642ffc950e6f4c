-- Inside: which limit a fault tells.
use Rattle.std.specs.Prelude.{◌≡◌, Option, Some}
use Rattle.qasm_expand.specs.declared.fault.ExpandFault.{ExpandFault}
use Rattle.qasm_expand.specs.declared.fault.ExpandFault.TheVariants as fault
use Rattle.qasm_expand.specs.Limits.{Passed}

-- The fault tells the passed limit with its count.
abbrev pub IsLimit : Option Passed → ExpandFault → Type 0
IsLimit passed (fault.Limit kind count) = passed ≡ Some (kind, count)
IsLimit passed fault.Memory = ⊥

-- The same; or memory was wanting, of which nothing more is said.
abbrev pub IsFault : Option Passed → ExpandFault → Type 0
IsFault passed (fault.Limit kind count) = passed ≡ Some (kind, count)
IsFault passed fault.Memory = Unit {0}
