-- Which texts are those of an instruction and of a program, and which line of another text is the first wrong one.
use Rattle.std.specs.Prelude.{◌≡◌, ℕ, ◌+◌, ◌<◌, ◌≤◌, ◌^◌, ◌==◌, ◌⊎◌, if◌then◌else◌, List, [], ◌∷◌, ◌++◌, length, Some, IsTrue, IsUtf8}
use Rattle.serde_json.specs.Data.{Data}
use Rattle.serde_json.specs.Read.{read}
use Rattle.zair_form.specs.Ranges.{InstrFits}
use Rattle.zair_form.specs.Steps.{has_own_steps, is_program}
use Rattle.zair_form.specs.declared.program.Instr.{Instr}
use Rattle.zair_text.specs.Tally.{totals_of}
use Rattle.zair_text.specs.Values.{instr_value, header_value, end_value}
use Rattle.zair_text.specs.declared.counts.Totals.{Totals}

-- The bytes are UTF-8, and `serde_json` reads them as this value.
pub record IsTextOf (value : Data) (bytes : List ℕ) : Type 0 where
  pub utf8 : IsUtf8 bytes
  pub value_read : read bytes ≡ Some value

-- The bytes read as the instruction's value, its numbers and angles are in the ranges of the text form, and if it is a job,
-- its steps are of its own AOD.
pub record IsInstrText (bytes : List ℕ) (i : Instr) : Type 0 where
  pub text : IsTextOf (instr_value i) bytes
  pub own : IsTrue (has_own_steps i.act)
  pub fits : InstrFits i

-- ---- lines

-- the byte before the first of these lines
abbrev pub before : ℕ → List (List ℕ) → List (List ℕ)
before b [] = (b ∷ []) ∷ []
before b (line ∷ lines) = (b ∷ line) ∷ lines

-- The lines of a text, each up to its line feed and with it. What stands behind the last line feed is a line without one.
abbrev pub lines_of : List ℕ → List (List ℕ)
lines_of [] = []
lines_of (b ∷ bytes) = if b == 10 then (10 ∷ []) ∷ lines_of bytes else before b (lines_of bytes)

-- The line is a text of this value, and then a line feed.
pub record IsLineOf (value : Data) (line : List ℕ) : Type 0 where
  pub bytes : List ℕ
  pub ended : line ≡ bytes ++ 10 ∷ []
  pub text : IsTextOf value bytes

-- The line is a text of the instruction, and then a line feed.
pub record IsInstrLine (line : List ℕ) (i : Instr) : Type 0 where
  pub bytes : List ℕ
  pub ended : line ≡ bytes ++ 10 ∷ []
  pub text : IsInstrText bytes i

-- Each line is that of its instruction.
abbrev pub AreInstrLines : List (List ℕ) → List Instr → Type 0
AreInstrLines [] [] = Unit {0}
AreInstrLines (line ∷ lines) (i ∷ instrs) = IsInstrLine line i × AreInstrLines lines instrs
AreInstrLines [] (i ∷ instrs) = ⊥
AreInstrLines (line ∷ lines) [] = ⊥

-- There are no instructions, or they are a program: the first is `init`, and no later one is.
abbrev pub IsStart : List Instr → Type 0
IsStart instrs = (instrs ≡ []) ⊎ IsTrue (is_program instrs)

-- The lines are those of a text that may go on: the header, and then a line of each of these instructions.
pub record IsOpen (lines : List (List ℕ)) (instrs : List Instr) : Type 0 where
  pub header : List ℕ
  pub later : List (List ℕ)
  pub is_front : lines ≡ header ∷ later
  pub header_line : IsLineOf header_value header
  pub instr_lines : AreInstrLines later instrs
  pub start : IsStart instrs

-- The lines are those of a whole text: the header, a line of each instruction of the program, and the line of its tally.
pub record IsWhole (lines : List (List ℕ)) (instrs : List Instr) : Type 0 where
  pub front : List (List ℕ)
  pub last : List ℕ
  pub ended : lines ≡ front ++ last ∷ []
  pub open_front : IsOpen front instrs
  pub program : IsTrue (is_program instrs)
  pub end_line : IsLineOf (end_value (totals_of instrs)) last

-- The lines are right, each in its place: there are none yet, or the text may go on behind them, or they are a whole text.
pub data AreRight (lines : List (List ℕ)) : Type 0 where
  none_yet : lines ≡ [] → AreRight lines
  may_go_on : (instrs : List Instr) → IsOpen lines instrs → AreRight lines
  all_told : (instrs : List Instr) → IsWhole lines instrs → AreRight lines

-- The bytes are the text of a program: its lines are those of a whole text of these instructions.
abbrev pub IsProgramText : List ℕ → List Instr → Type 0
IsProgramText bytes instrs = IsWhole (lines_of bytes) instrs

-- Behind lines that are right, the next one is not right; or there is none, and they are no whole text.
abbrev pub IsWrongNext : List (List ℕ) → List (List ℕ) → Type 0
IsWrongNext right [] = (instrs : List Instr) → ¬ IsWhole right instrs
IsWrongNext right (line ∷ lines) = ¬ AreRight (right ++ line ∷ [])

-- The line of this number, counted from 1, is the first that is not right in its place. It may be the one behind the last.
pub record IsFirstWrongLine (lines : List (List ℕ)) (number : ℕ) : Type 0 where
  pub right : List (List ℕ)
  pub rest : List (List ℕ)
  pub split : lines ≡ right ++ rest
  pub place : number ≡ length right + 1
  pub are_right : AreRight right
  pub wrong : IsWrongNext right rest

-- It is that of the text's lines.
abbrev pub IsFirstWrong : List ℕ → ℕ → Type 0
IsFirstWrong bytes number = IsFirstWrongLine (lines_of bytes) number

-- ---- for private clauses

-- The counts are those that 32 bits hold, and the time is in the range of times.
pub record TotalsFit (t : Totals) : Type 0 where
  pub gates : t.gates < 2 ^ 32
  pub jobs : t.jobs < 2 ^ 32
  pub kept : t.kept < 2 ^ 32
  pub moved : t.moved < 2 ^ 32
  pub pairs : t.pairs < 2 ^ 32
  pub pulses : t.pulses < 2 ^ 32
  pub qubits : t.qubits < 2 ^ 32
  pub reads : t.reads < 2 ^ 32
  pub time : t.time ≤ 4000000000000000000
