-- The text of a card.
use Rattle.std.specs.Prelude.{◌≡◌, ℕ, List, Some, IsUtf8}
use Rattle.serde_json.specs.Read.{read}
use Rattle.serde_json.specs.Written.{compact_text}
use Rattle.zac_arch.specs.Architecture.{Architecture}
use Rattle.zac_arch.specs.Rules.{KeepsRules}
use Rattle.zac_archfile.specs.Values.{card_value}

-- The bytes are UTF-8, `serde_json` reads them as the architecture's value, and the architecture keeps the rules of a card.
pub record IsCardText (bytes : List ℕ) (a : Architecture) : Type 0 where
  pub utf8 : IsUtf8 bytes
  pub value : read bytes ≡ Some (card_value a)
  pub rules : KeepsRules a

-- The compact text of the architecture's value.
abbrev pub card_text : Architecture → List ℕ
card_text a = compact_text (card_value a)
