-- The names of files and of the limits, and the text of a card's refusal, as they are told.
use Rattle.std.specs.Prelude.{ℕ, List, [], ◌∷◌, codes, decimal}
use Rattle.zac_archfile.specs.Fields.{name_of as field_name}
use Rattle.zac_archfile.specs.declared.fault.CardFault.{CardFault}
use Rattle.zac_archfile.specs.declared.fault.CardFault.TheVariants as card
use Rattle.zair_text.specs.Lines.{joined}
use Rattle.qasm_expand.specs.declared.fault.LimitKind.{LimitKind}
use Rattle.qasm_expand.specs.declared.fault.LimitKind.TheVariants as limit
use Rattle.zac_fault.specs.declared.status.InputFile.{InputFile}
use Rattle.zac_fault.specs.declared.status.InputFile.TheVariants as file

-- The name of each file that a command reads: `card`, `source` or `zair`.
abbrev pub file_name : InputFile → List ℕ
file_name file.Card = codes "card"
file_name file.Source = codes "source"
file_name file.Zair = codes "zair"

-- The text of a card's refusal: its kind, and the name of the field or the number of the rule.
abbrev pub card_fault_text : CardFault → List ℕ
card_fault_text card.NotJson = codes "NotJson"
card_fault_text (card.Missing field) = joined (codes "Missing " ∷ field_name field ∷ [])
card_fault_text card.Unknown = codes "Unknown"
card_fault_text (card.NotWhole field) = joined (codes "NotWhole " ∷ field_name field ∷ [])
card_fault_text (card.Range field) = joined (codes "Range " ∷ field_name field ∷ [])
card_fault_text (card.Invalid rule) = joined (codes "Invalid " ∷ decimal rule ∷ [])
card_fault_text card.Memory = codes "Memory"

-- The name of each limit: `Literal`, `Qubits`, `Bits`, `Calls`, `Depth`, `AngleNodes`, `AngleDepth`, `AngleTotal`.
abbrev pub limit_name : LimitKind → List ℕ
limit_name limit.Literal = codes "Literal"
limit_name limit.Qubits = codes "Qubits"
limit_name limit.Bits = codes "Bits"
limit_name limit.Calls = codes "Calls"
limit_name limit.Depth = codes "Depth"
limit_name limit.AngleNodes = codes "AngleNodes"
limit_name limit.AngleDepth = codes "AngleDepth"
limit_name limit.AngleTotal = codes "AngleTotal"
