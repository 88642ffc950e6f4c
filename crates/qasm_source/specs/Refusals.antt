-- Inside: the refusals of a source, among all faults.
use Rattle.std.specs.Prelude.{◌≡◌, ℕ, ◌⊎◌, List}
use Rattle.qasm_source.specs.Source.{IsRefusedAt}
use Rattle.qasm_source.specs.declared.source_fault.SourceFault.{SourceFault}
use Rattle.qasm_source.specs.declared.source_fault.SourceFault.TheVariants.{Refused, Memory}

-- The fault is the refusal of a source of these bytes.
abbrev pub IsRefusal : List ℕ → SourceFault → Type 0
IsRefusal bytes (Refused k at) = IsRefusedAt bytes k at
IsRefusal bytes Memory = ⊥

-- It is so, or want of memory.
abbrev pub IsRefusalOrWant : List ℕ → SourceFault → Type 0
IsRefusalOrWant bytes f = (f ≡ Memory) ⊎ IsRefusal bytes f
