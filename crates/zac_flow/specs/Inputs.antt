-- What the words of a command name: its card, its source, and its text.
use Rattle.std.specs.Prelude.{◌≡◌, ◌≢◌, ℕ, ◌<◌, ◌≤◌, List, Option, None, Some, length, codes, IfSome, IsSomeAnd}
use Rattle.zac_arch.specs.Architecture.{Architecture}
use Rattle.zac_arch.specs.Standard.{standard_architecture}
use Rattle.zac_arch.specs.Tiny.{tiny_architecture}
use Rattle.zac_archfile.specs.Faults.{IsFault}
use Rattle.zac_archfile.specs.Texts.{IsCardText}
use Rattle.zac_archfile.specs.declared.fault.CardFault.{CardFault}
use Rattle.zac_io.specs.Outside.{NamedFiles, Holds}
use Rattle.qasm_source.specs.Source.{source_limit}
use Rattle.zac_flow.specs.declared.inputs.CardInput.{CardInput}
use Rattle.zac_flow.specs.declared.inputs.CardInput.TheVariants.{Tiny, Standard, Text}
use Rattle.zac_flow.specs.declared.inputs.Inputs.{Inputs}
use Rattle.zac_flow.specs.Words.{FileWords}

-- The most bytes of a card: 65,536.
abbrev pub card_limit : ℕ
card_limit = 65536

-- The most bytes of the text of a program: 268,435,456.
abbrev pub zair_limit : ℕ
zair_limit = 268435456

-- What a word may give as a card: `@tiny` and `@standard` the built-in ones; each other word the bytes of the file of this name, where
-- the shelf tells its files.
abbrev pub GivesCard : Option NamedFiles → List ℕ → CardInput → Type 0
GivesCard files word Tiny = word ≡ codes "@tiny"
GivesCard files word Standard = word ≡ codes "@standard"
GivesCard files word (Text bytes) = (word ≢ codes "@tiny") × (word ≢ codes "@standard") × Holds files word bytes

-- What a word may give as the text of a program: the bytes of the file of this name. No word gives none.
abbrev pub GivesText : Option NamedFiles → Option (List ℕ) → Option (List ℕ) → Type 0
GivesText files None None = Unit {0}
GivesText files (Some word) (Some bytes) = Holds files word bytes
GivesText files None (Some bytes) = ⊥
GivesText files (Some word) None = ⊥

-- What the words of a command may give: a card, the bytes of a source, and those of a text where a word names one.
pub record Gives (files : Option NamedFiles) (words : FileWords) (i : Inputs) : Type 0 where
  pub card : GivesCard files words.card i.card
  pub source : Holds files words.source i.source
  pub zair : GivesText files words.zair i.zair

-- The card's bytes are more than the limit.
abbrev pub IsLongCard : CardInput → Type 0
IsLongCard Tiny = ⊥
IsLongCard Standard = ⊥
IsLongCard (Text bytes) = card_limit < length bytes

-- They are within it.
abbrev pub IsShortCard : CardInput → Type 0
IsShortCard Tiny = Unit {0}
IsShortCard Standard = Unit {0}
IsShortCard (Text bytes) = length bytes ≤ card_limit

-- Card, source and text are within their limits.
pub record AreShort (i : Inputs) : Type 0 where
  pub card : IsShortCard i.card
  pub source : length i.source ≤ source_limit
  pub zair : IfSome i.zair (λ bytes. length bytes ≤ zair_limit)

-- The card is of this architecture.
abbrev pub IsCardOf : CardInput → Architecture → Type 0
IsCardOf Tiny a = a ≡ tiny_architecture
IsCardOf Standard a = a ≡ standard_architecture
IsCardOf (Text bytes) a = IsCardText bytes a

-- The card is refused with this fault.
abbrev pub IsRefusedCard : CardInput → CardFault → Type 0
IsRefusedCard Tiny fault = ⊥
IsRefusedCard Standard fault = ⊥
IsRefusedCard (Text bytes) fault = IsFault bytes fault

-- The same with a text of these bytes.
abbrev pub with_text : Inputs → List ℕ → Inputs
with_text i bytes = record { card = i.card; source = i.source; zair = Some bytes }
