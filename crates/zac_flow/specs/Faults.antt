-- The table of faults: of each what it means by the words and the files alone, and what it leaves in out.
use Rattle.std.specs.Prelude.{◌≡◌, ◌≢◌, ℕ, ◌<◌, ◌≤◌, ◌⊎◌, List, Option, None, Some, length, codes, IsSomeAnd}
use Rattle.zac_arch.specs.Architecture.{Architecture, storage_count}
use Rattle.zac_gates.specs.Ops.{NativeCircuit}
use Rattle.zac_io.specs.Outside.{NamedFiles, AppendsPrefix}
use Rattle.zac_watch.specs.Replaying.{IsReplayFault}
use Rattle.zac_watch.specs.declared.fault.ReplayFault.TheVariants as replay
use Rattle.zair_read.specs.Texts.{IsProgramText, IsFirstWrong}
use Rattle.zair_form.specs.declared.program.Instr.{Instr}
use Rattle.zair_text.specs.Lines.{program_lines}
use Rattle.zair_text.specs.Writing.{AppendsLines}
use Rattle.qasm_expand.specs.Expansion.{IsWithinLimits, PassesFirst}
use Rattle.qasm_expand.specs.Items.{qubit_count}
use Rattle.qasm_names.specs.Accepted.{Program}
use Rattle.zac_flow.specs.Compiled.{AreReadAs, IsCircuitOf, MayCompileTo}
use Rattle.qasm_source.specs.Source.{source_limit, IsRefusedAt}
use Rattle.zac_flow.specs.Inputs.{GivesCard, Gives, AreShort, IsShortCard, IsLongCard, IsCardOf, IsRefusedCard, zair_limit}
use Rattle.zac_flow.specs.Panel.{Reading}
use Rattle.zac_flow.specs.Due.{IsDue, two_files}
use Rattle.zac_flow.specs.Words.{Command, Compile, FileWords, file_words}
use Rattle.zac_flow.specs.declared.inputs.CardInput.{CardInput}
use Rattle.zac_flow.specs.declared.inputs.Inputs.{Inputs}
use Rattle.zac_fault.specs.declared.status.Fault.{Fault}
use Rattle.zac_fault.specs.declared.status.Fault.TheVariants.{Usage, Read, Long, Card, Source, Limit, Qubits, Zair, NotTheCircuit, Write, Memory}
use Rattle.zac_fault.specs.declared.status.InputFile.TheVariants as file

-- What is given must be so for each fault. `Long` of the card is not among them, since no source is read then: `Long` of
-- the source, a card within its limit and a source above its own; `Long` of the text, both within their limits and a text
-- above its own. With all within their limits: `Card` where the card is refused so; `Source` where the card is one and the
-- source is refused with this kind at this offset; `Limit` where both are read and this limit is passed first with this
-- count. Behind these, with no text: `Qubits` where there are so many qubits, more than the so many storage traps of the card.
-- With a text: `Zair` where this line is its first wrong one; `NotTheCircuit` where it is that of a program, and the program
-- doesn't replay the circuit for this reason. What is given has no other fault.
abbrev pub IsFaultOf : Inputs → Fault → Type 0
IsFaultOf i (Long file.Source) = IsShortCard i.card × (source_limit < length i.source)
IsFaultOf i (Long file.Zair) =
    IsShortCard i.card × (length i.source ≤ source_limit) × IsSomeAnd i.zair (λ bytes. zair_limit < length bytes)
IsFaultOf i (Card f) = AreShort i × IsRefusedCard i.card f
IsFaultOf i (Source k at) = AreShort i × ((a : Architecture) × IsCardOf i.card a) × IsRefusedAt i.source k at
IsFaultOf i (Limit k n) = (a : Architecture) × (source : Program) × AreReadAs i a source × PassesFirst source k n
IsFaultOf i (Qubits n s) =
    (a : Architecture) × (source : Program) × AreReadAs i a source × IsWithinLimits source × (n ≡ qubit_count source.statements) × (s ≡ storage_count a) × (s < n) × (i.zair ≡ None)
IsFaultOf i (Zair line) =
    (a : Architecture) × (source : Program) × AreReadAs i a source × IsWithinLimits source × (bytes : List ℕ) × (i.zair ≡ Some bytes) × IsFirstWrong bytes line
IsFaultOf i (NotTheCircuit f) =
    (a : Architecture) × (circuit : NativeCircuit) × IsCircuitOf i a circuit × (bytes : List ℕ) × (i.zair ≡ Some bytes)
    × (program : List Instr) × IsProgramText bytes program × IsReplayFault a circuit program f × (f ≢ replay.Memory)
IsFaultOf i other = ⊥

-- The fault is one of what is given, or want of memory.
abbrev pub IsFaultOrWant : Inputs → Fault → Type 0
IsFaultOrWant i f = (f ≡ Memory) ⊎ IsFaultOf i f

-- The word names a file, and no built-in card.
abbrev pub IsCardFile : List ℕ → Type 0
IsCardFile word = (word ≢ codes "@tiny") × (word ≢ codes "@standard")

-- The words without that of a text.
abbrev pub without_text : FileWords → FileWords
without_text w = record { card = w.card; source = w.source; zair = None }

-- What each fault of a command with files means by the files alone: a fault in reading the card, that it is in a file; in
-- reading the source, that the card may be within its limit; in reading the text, that there is one, and card and source may
-- be within their limits; a card that is too long, that it may be so; a source that is too long, that it may be so behind
-- such a card, whatever the text; and, but for `Write` and `Memory`, each other one that what the words may give has this
-- fault.
abbrev pub MeansByFiles : Option NamedFiles → FileWords → Fault → Type 0
MeansByFiles files w (Read file.Card) = IsCardFile w.card
MeansByFiles files w (Read file.Source) = (c : CardInput) × GivesCard files w.card c × IsShortCard c
MeansByFiles files w (Read file.Zair) = (i : Inputs) × Gives files (without_text w) i × AreShort i × (w.zair ≢ None)
MeansByFiles files w (Long file.Card) = (c : CardInput) × GivesCard files w.card c × IsLongCard c
MeansByFiles files w (Long file.Source) = (i : Inputs) × Gives files (without_text w) i × IsFaultOf i (Long file.Source)
MeansByFiles files w Write = Unit {0}
MeansByFiles files w Memory = Unit {0}
MeansByFiles files w f = (i : Inputs) × Gives files w i × IsFaultOf i f

-- A command without files has no other faults than `Write` and `Memory`.
abbrev pub MeansOf : Option NamedFiles → Option FileWords → Fault → Type 0
MeansOf files (Some w) f = MeansByFiles files w f
MeansOf files None f = (f ≡ Write) ⊎ (f ≡ Memory)

-- What each fault means by the words and the files alone: `Usage` that the words name no command.
abbrev pub Means : Option NamedFiles → Option Command → Fault → Type 0
Means files None f = f ≡ Usage
Means files (Some command) f = MeansOf files (file_words (Some command)) f

-- What each fault leaves in out: `Write` a prefix of the text that is due from the command; `Memory` of `compile` the first
-- lines of such a text, each whole, or nothing more than was there; each other one nothing more.
abbrev pub Leaves : Option NamedFiles → Option Command → Option (List ℕ) → Option (List ℕ) → List Reading → List Reading → Fault → Type 0
Leaves files (Some command) old new panel panel' Write =
    (text : List ℕ) × IsDue files command panel panel' text × AppendsPrefix old new text
Leaves files (Some (Compile card source)) old new panel panel' Memory =
    ((program : List Instr) × MayCompileTo files (two_files card source) program × AppendsLines old new (program_lines program)) ⊎ (new ≡ old)
Leaves files named old new panel panel' f = new ≡ old
