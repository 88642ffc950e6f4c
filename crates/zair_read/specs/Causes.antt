-- Why a text is no program's.
use Rattle.std.specs.Prelude.{ℕ, List}
use Rattle.zair_read.specs.declared.fault.ProgramFault.{ProgramFault}
use Rattle.zair_read.specs.declared.fault.ProgramFault.TheVariants.{Line, Memory}
use Rattle.zair_read.specs.Texts.{IsFirstWrong}

-- The line of this number is the first wrong one. Want of memory says nothing of the text.
abbrev pub IsCauseOf : List ℕ → ProgramFault → Type 0
IsCauseOf bytes (Line n) = IsFirstWrong bytes n
IsCauseOf bytes Memory = Unit {0}
