-- What the line of a text may be behind the first one. Only the crate's private clauses cite these.
use Rattle.std.specs.Prelude.{◌≡◌, ◌≢◌, ℕ, ◌+◌, Bool, not, ◌⊎◌, List, [], ◌∷◌, Some, None, IsTrue}
use Rattle.serde_json.specs.Data.{Data}
use Rattle.zair_form.specs.Steps.{is_init, is_program}
use Rattle.zair_form.specs.declared.program.Instr.{Instr}
use Rattle.zair_text.specs.Tally.{totals_of}
use Rattle.zair_text.specs.Values.{end_value}
use Rattle.zair_text.specs.declared.counts.Totals.{Totals}
use Rattle.zair_read.specs.declared.fault.ProgramFault.{ProgramFault}
use Rattle.zair_read.specs.declared.fault.ProgramFault.TheVariants.{Line, Memory}
use Rattle.zair_read.specs.declared.line.Kind.{Kind}
use Rattle.zair_read.specs.declared.line.Kind.TheVariants.{End, Neither}
use Rattle.zair_read.specs.declared.line.Kind.TheVariants as kind
use Rattle.zair_read.specs.Told.{told_instr, told_totals}
use Rattle.zair_read.specs.Texts.{IsTextOf, IsInstrText, TotalsFit}

-- The text is an instruction's; or that of totals; or neither that of an instruction nor that of totals in range.
abbrev pub IsKind : List ℕ → Kind → Type 0
IsKind bytes (kind.Instr i) = IsInstrText bytes i
IsKind bytes (End t) = IsTextOf (end_value t) bytes
IsKind bytes Neither = ((i : Instr) → ¬ IsInstrText bytes i) × ((t : Totals) → TotalsFit t → ¬ IsTextOf (end_value t) bytes)

-- What the value tells: an instruction; or totals; or neither.
abbrev pub IsKindIn : Data → Kind → Type 0
IsKindIn d (kind.Instr i) = told_instr d ≡ Some i
IsKindIn d (End t) = told_totals d ≡ Some t
IsKindIn d Neither = (told_instr d ≡ None) × (told_totals d ≡ None)

-- The instruction is an `init` exactly where it is the first one.
abbrev pub may_stand : List Instr → Instr → Bool
may_stand [] i = is_init i.act
may_stand (j ∷ is) i = not (is_init i.act)

-- The instructions are a program, and these are its totals.
abbrev pub IsTallied : List Instr → Totals → Type 0
IsTallied is t = IsTrue (is_program is) × (totals_of is ≡ t)

-- At the line of an end, which has this number: it is wrong where the instructions are no program with these totals; else
-- the line behind it is, if there is one.
abbrev pub IsEndFault : List Instr → Totals → List ℕ → ℕ → ProgramFault → Type 0
IsEndFault is t later line (Line n) = ((n ≡ line) × ¬ IsTallied is t) ⊎ ((n ≡ line + 1) × IsTallied is t × (later ≢ []))
IsEndFault is t later line Memory = Unit {0}
