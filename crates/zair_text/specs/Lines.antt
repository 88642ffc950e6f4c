-- The lines of a text.
use Rattle.std.specs.Prelude.{◌≡◌, ℕ, List, [], ◌∷◌, ◌++◌, map, Some, Contains}
use Rattle.std.specs.List.{flat_map}
use Rattle.serde_json.specs.Data.{Data}
use Rattle.serde_json.specs.Read.{read}
use Rattle.serde_json.specs.Written.{compact_text}
use Rattle.zair_form.specs.declared.program.Instr.{Instr}
use Rattle.zair_text.specs.Tally.{totals_of}
use Rattle.zair_text.specs.Values.{instr_value, header_value, end_value}
use Rattle.zair_text.specs.declared.counts.Totals.{Totals}

-- A value's compact text, and a line feed.
abbrev pub line : Data → List ℕ
line value = compact_text value ++ 10 ∷ []

-- The line of an instruction's value.
abbrev pub instr_line : Instr → List ℕ
instr_line i = line (instr_value i)

-- The line of a tally.
abbrev pub totals_line : Totals → List ℕ
totals_line totals = line (end_value totals)

-- A line for each instruction, and then that of the tally.
abbrev pub later_lines : List Instr → List (List ℕ)
later_lines instrs = map instr_line instrs ++ totals_line (totals_of instrs) ∷ []

-- The line of the header, a line for each instruction, and that of the tally.
abbrev pub program_lines : List Instr → List (List ℕ)
program_lines instrs = line header_value ∷ later_lines instrs

-- The bytes of the lines, one after another.
abbrev pub joined : List (List ℕ) → List ℕ
joined lines = flat_map (λ bytes. bytes) lines

-- The lines of a program, joined.
abbrev pub program_text : List Instr → List ℕ
program_text instrs = joined (program_lines instrs)

-- The bytes are a text without a line feed and then a line feed, and the text reads as the value.
pub record ReadsBack (value : Data) (bytes : List ℕ) : Type 0 where
  pub text : List ℕ
  pub ended : bytes ≡ text ++ 10 ∷ []
  pub one_line : ¬ Contains text 10
  pub value_read : read text ≡ Some value
