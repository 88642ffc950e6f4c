-- The words of a command, and what they name.
use Rattle.std.specs.Prelude.{◌≡◌, ℕ, ◌≤◌, List, [], ◌∷◌, Option, None, Some, codes, decimal}

-- A command. Its files are named by words: `Compile`, the source in a file for a card; `Report`, what that compiles to;
-- `Replay`, the text of a program in a file against the source and the card. `Make` is a source of so many qubits and so
-- many pairs, and `Drill` what that compiles to.
pub data Command : Type 0 where
  Compile : (card source : List ℕ) → Command
  Report : (card source : List ℕ) → Command
  Replay : (card source zair : List ℕ) → Command
  Make : (qubits pairs : ℕ) → Command
  Drill : (qubits pairs : ℕ) → Command

-- The numbers of a source that is made: 2 to 4,096 qubits, and up to 50,000 pairs.
pub record AreInRange (qubits pairs : ℕ) : Type 0 where
  pub least : 2 ≤ qubits
  pub most : qubits ≤ 4096
  pub few : pairs ≤ 50000

-- The words are those of the command: `compile CARD FILE`, `report CARD FILE`, `replay CARD FILE ZAIR`, and `make N K` and
-- `drill N K` in decimal digits, with N and K in range.
abbrev pub IsCommand : List (List ℕ) → Command → Type 0
IsCommand words (Compile card source) = words ≡ codes "compile" ∷ card ∷ source ∷ []
IsCommand words (Report card source) = words ≡ codes "report" ∷ card ∷ source ∷ []
IsCommand words (Replay card source zair) = words ≡ codes "replay" ∷ card ∷ source ∷ zair ∷ []
IsCommand words (Make qubits pairs) = (words ≡ codes "make" ∷ decimal qubits ∷ decimal pairs ∷ []) × AreInRange qubits pairs
IsCommand words (Drill qubits pairs) = (words ≡ codes "drill" ∷ decimal qubits ∷ decimal pairs ∷ []) × AreInRange qubits pairs

-- The words name this command; or none, where they are those of no command.
abbrev pub Name : List (List ℕ) → Option Command → Type 0
Name words None = (command : Command) → ¬ IsCommand words command
Name words (Some command) = IsCommand words command

-- The words of a command that name its card, its source and, if it has one, its text.
pub record FileWords : Type 0 where
  pub card : List ℕ
  pub source : List ℕ
  pub zair : Option (List ℕ)

-- Those of the command, if it is one with files.
abbrev pub file_words : Option Command → Option FileWords
file_words None = None
file_words (Some (Compile card source)) = Some (record { card = card; source = source; zair = None })
file_words (Some (Report card source)) = Some (record { card = card; source = source; zair = None })
file_words (Some (Replay card source zair)) = Some (record { card = card; source = source; zair = Some zair })
file_words (Some (Make qubits pairs)) = None
file_words (Some (Drill qubits pairs)) = None
