-- The parts of a line.
use Rattle.std.specs.Prelude.{ℕ, List, decimal}
use Rattle.zac_fault.specs.declared.part.Part.{Part}
use Rattle.zac_fault.specs.declared.part.Part.TheVariants.{Text, Number}

-- The bytes of a part of a line: a text as it is, and a number in decimal digits.
abbrev pub part_bytes : Part → List ℕ
part_bytes (Text t) = t.now
part_bytes (Number n) = decimal n
