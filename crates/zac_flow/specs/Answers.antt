-- What a command answers.
use Rattle.std.specs.Prelude.{◌≡◌, ◌≢◌, ℕ, ◌≤◌, ◌⊎◌, IsTrue, List, Option, None, Some, IsSomeAnd, length}
use Rattle.zac_io.specs.Outside.{NamedFiles, Rose, Holds, is_missing, Appends, AppendsPrefix}
use Rattle.zair_form.specs.declared.program.Instr.{Instr}
use Rattle.zair_text.specs.Lines.{program_text}
use Rattle.zair_text.specs.Ranges.{AreWritable}
use Rattle.zac_flow.specs.Compiled.{MayCompileTo, IsServed}
use Rattle.zac_flow.specs.Due.{IsDue, two_files}
use Rattle.zac_fault.specs.Lines.{fault_line}
use Rattle.zac_fault.specs.Statuses.{status_of}
use Rattle.zac_flow.specs.Faults.{IsFaultOf, IsCardFile, Means, Leaves, without_text}
use Rattle.qasm_source.specs.Source.{source_limit}
use Rattle.zac_flow.specs.Inputs.{GivesCard, Gives, IsLongCard, IsShortCard}
use Rattle.zac_flow.specs.Panel.{Reading, MayBeShownPart}
use Rattle.zac_flow.specs.Words.{Command, Compile, Report, FileWords, file_words}
use Rattle.zac_flow.specs.declared.inputs.CardInput.{CardInput}
use Rattle.zac_flow.specs.declared.inputs.Inputs.{Inputs}
use Rattle.zac_fault.specs.declared.status.Fault.{Fault}
use Rattle.zac_fault.specs.declared.status.Fault.TheVariants.{Long}
use Rattle.zac_fault.specs.declared.status.InputFile.TheVariants.{Source}
use Rattle.zac_fault.specs.declared.status.Status.{Status}
use Rattle.zac_fault.specs.declared.status.Status.TheVariants.{Done, WriteFault, NoMemory, TooLong}

-- Out has grown by the text of one program to which what the words may give compiles. The program is writable, and no other
-- writable list of instructions has that text.
pub record WritesProgram (files : Option NamedFiles) (words : FileWords) (old new : Option (List ℕ)) : Type 0 where
  pub program : List Instr
  pub compiles : MayCompileTo files words program
  pub text : Appends old new (program_text program)
  pub writable : AreWritable program
  pub alone : (other : List Instr) → AreWritable other → program_text other ≡ program_text program → other ≡ program

-- What a command does: `compile` writes a program, and each other one the text that is due from it. Words that name no command
-- do nothing.
abbrev pub Does : Option NamedFiles → Option Command → Option (List ℕ) → Option (List ℕ) → List Reading → List Reading → Type 0
Does files None old new panel panel' = ⊥
Does files (Some (Compile card source)) old new panel panel' = WritesProgram files (two_files card source) old new
Does files (Some command) old new panel panel' = (text : List ℕ) × IsDue files command panel panel' text × Appends old new text

-- `report` may show the panel steps, where it ends with one of these.
abbrev pub MayShow : Option Command → Status → Type 0
MayShow (Some (Report card source)) Done = Unit {0}
MayShow (Some (Report card source)) WriteFault = Unit {0}
MayShow (Some (Report card source)) NoMemory = Unit {0}
MayShow named status = ⊥

-- Where `report` finds no memory, the panel was shown nothing, or a part of the steps of a program.
abbrev pub LeavesPanel : Option NamedFiles → Option Command → Status → List Reading → List Reading → Type 0
LeavesPanel files (Some (Report card source)) NoMemory panel panel' = MayBeShownPart files (two_files card source) panel panel'
LeavesPanel files named status panel panel' = Unit {0}

-- Err has grown by a prefix of the line; if its count of faults has not risen, by all of it.
pub record IsTold (old new : Option (List ℕ)) (before now : ℕ) (line : List ℕ) : Type 0 where
  pub prefix : AppendsPrefix old new line
  pub whole : ¬ Rose before now → Appends old new line

-- One fault has this status, holds of the words and the files, has left in out what it leaves, and its line is told on
-- err.
pub record IsRefusedBy (files : Option NamedFiles) (named : Option Command) (status : Status) (out out' : Option (List ℕ)) (panel panel' : List Reading) (err err' : Option (List ℕ)) (before now : ℕ) : Type 0 where
  pub fault : Fault
  pub status_is : status ≡ status_of fault
  pub means : Means files named fault
  pub leaves : Leaves files named out out' panel panel' fault
  pub told : IsTold err err' before now (fault_line fault)

-- The shelf tells its files, and has the card that the words give.
abbrev pub HasCard : Option NamedFiles → FileWords → CardInput → Type 0
HasCard files w c = IsSomeAnd files (λ file. GivesCard (Some file) w.card c)

-- The shelf tells its files, and the words give this.
abbrev pub HasInputs : Option NamedFiles → FileWords → Inputs → Type 0
HasInputs files w i = IsSomeAnd files (λ file. Gives (Some file) w i)

-- A command on files that the shelf has ends in the status that they deserve, or in `NoMemory`: with a card that is too long
-- in `TooLong`; with a source that is too long behind a card that isn't in `TooLong`, whatever the text; with what has a
-- fault in that fault's status; with what is as the command wants it in `Done`; and a command without files always in
-- `Done`.
pub record IsExact (files : Option NamedFiles) (named : Option Command) (status : Status) : Type 0 where
  pub long_card : (w : FileWords) (c : CardInput) → file_words named ≡ Some w → HasCard files w c → IsLongCard c →
      (status ≡ TooLong) ⊎ (status ≡ NoMemory)
  pub long_source : (w : FileWords) (i : Inputs) → file_words named ≡ Some w → HasInputs files (without_text w) i →
      IsFaultOf i (Long Source) → (status ≡ TooLong) ⊎ (status ≡ NoMemory)
  pub refused : (w : FileWords) (i : Inputs) (fault : Fault) → file_words named ≡ Some w → HasInputs files w i →
      IsFaultOf i fault → (status ≡ status_of fault) ⊎ (status ≡ NoMemory)
  pub accepted : (w : FileWords) (i : Inputs) → file_words named ≡ Some w → HasInputs files w i →
      IsServed i i.zair → (status ≡ Done) ⊎ (status ≡ NoMemory)
  pub made : (command : Command) → named ≡ Some command → file_words named ≡ None → (status ≡ Done) ⊎ (status ≡ NoMemory)

-- At this answer the count of faults has risen; at every other it is as it was.
pub record RisesAt {A : Type 0} (which answer : A) (before now : ℕ) : Type 0 where
  pub rises : answer ≡ which → Rose before now
  pub stays : answer ≢ which → now ≡ before

-- The card may be within its limit: it is built in, or is in a file with not too many bytes.
abbrev pub MayBeShortCard : Option NamedFiles → List ℕ → Type 0
MayBeShortCard files word = (c : CardInput) × GivesCard files word c × IsShortCard c

-- The file of the card is missing; that of the source is, where the card isn't too long; or that of the text is, where the
-- source isn't either.
abbrev pub LacksCard : Option NamedFiles → FileWords → Type 0
LacksCard files w = IsCardFile w.card × IsTrue (is_missing files w.card)

abbrev pub LacksSource : Option NamedFiles → FileWords → Type 0
LacksSource files w = MayBeShortCard files w.card × IsTrue (is_missing files w.source)

abbrev pub LacksText : Option NamedFiles → FileWords → Type 0
LacksText files w =
    MayBeShortCard files w.card × ((bytes : List ℕ) × Holds files w.source bytes × (length bytes ≤ source_limit))
    × IsSomeAnd w.zair (λ word. IsTrue (is_missing files word))

-- The file that is read first: that of the card, or, where the card is built in, that of the source.
abbrev pub LacksFirst : Option NamedFiles → FileWords → Type 0
LacksFirst files w = LacksCard files w ⊎ (¬ IsCardFile w.card × IsTrue (is_missing files w.source))

-- One of the files that are read is missing, behind files that are there and within their limits.
abbrev pub LacksOne : Option NamedFiles → FileWords → Type 0
LacksOne files w = LacksCard files w ⊎ LacksSource files w ⊎ LacksText files w

-- The strays rise where the first file is missing, and stay but where one is, behind files that are there and within their
-- limits.
pub record StraysRise (files : Option NamedFiles) (words : Option FileWords) (before now : ℕ) : Type 0 where
  pub rise : (w : FileWords) → words ≡ Some w → LacksFirst files w → Rose before now
  pub stay : ((w : FileWords) → words ≡ Some w → ¬ LacksOne files w) → now ≡ before
  pub either : (now ≡ before) ⊎ Rose before now
