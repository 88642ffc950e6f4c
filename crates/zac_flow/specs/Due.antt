-- The text that a command writes where it is done.
use Rattle.std.specs.Prelude.{◌≡◌, ℕ, List, Option, None, Some}
use Rattle.zac_io.specs.Outside.{NamedFiles}
use Rattle.zair_form.specs.declared.program.Instr.{Instr}
use Rattle.zair_text.specs.Lines.{program_text}
use Rattle.zair_text.specs.Tally.{totals_of}
use Rattle.zac_flow.specs.Compiled.{MayCompileTo, CompilesTo, ReplaysIn}
use Rattle.zac_flow.specs.Generator.{made_source}
use Rattle.zac_flow.specs.Inputs.{Gives}
use Rattle.zac_flow.specs.Panel.{Reading, IsShownAll}
use Rattle.zac_flow.specs.Texts.{report_text, verdict_text, drill_text}
use Rattle.zac_flow.specs.Words.{Command, Compile, Report, Replay, Make, Drill, FileWords}
use Rattle.zac_flow.specs.declared.inputs.CardInput.TheVariants.{Standard}
use Rattle.zac_flow.specs.declared.inputs.Inputs.{Inputs}

-- The words of a card and a source, without a text.
abbrev pub two_files : List ℕ → List ℕ → FileWords
two_files card source = record { card = card; source = source; zair = None }

-- The words of a card, a source and a text.
abbrev pub three_files : List ℕ → List ℕ → List ℕ → FileWords
three_files card source zair = record { card = card; source = source; zair = Some zair }

-- The made source of n qubits and k pairs, for the standard card.
abbrev pub drilled : ℕ → ℕ → Inputs
drilled n k = record { card = Standard; source = made_source n k; zair = None }

-- The words give a text that replays, and this is the line of it.
abbrev pub IsVerdict : Option NamedFiles → FileWords → List ℕ → Type 0
IsVerdict files words text =
    (i : Inputs) × Gives files words i × (program : List Instr) × (steps : ℕ) × ReplaysIn i program steps
    × (text ≡ verdict_text steps (totals_of program))

-- This text is due from the command: of `compile`, that of a program to which what the words may give compiles; of `report`,
-- the report of such a program, all of whose steps were shown to the panel; of `replay`, the line of a text that replays; of
-- `make`, the source; of `drill`, the line of a program to which the made source compiles on the standard card.
abbrev pub IsDue : Option NamedFiles → Command → List Reading → List Reading → List ℕ → Type 0
IsDue files (Compile card source) old new text =
    (program : List Instr) × MayCompileTo files (two_files card source) program × (text ≡ program_text program)
IsDue files (Report card source) old new text =
    (program : List Instr) × (compiles : MayCompileTo files (two_files card source) program)
    × IsShownAll compiles.2.card.figures program old new × (text ≡ report_text (totals_of program) new)
IsDue files (Replay card source zair) old new text = IsVerdict files (three_files card source zair) text
IsDue files (Make n k) old new text = text ≡ made_source n k
IsDue files (Drill n k) old new text =
    (program : List Instr) × CompilesTo (drilled n k) program × (text ≡ drill_text n k (totals_of program))
