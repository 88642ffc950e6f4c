-- What contracts see of the tokens of a source.
use Rattle.std.specs.Prelude.{ℕ, ◌<◌, ◌≤◌, List, [], ◌∷◌}
use Rattle.qasm_lex.specs.declared.token.Token.{Token}

-- The tokens of a source in order, and how many bytes it has. It is the model of `Tokens`.
pub record Lexed : Type 0 where
  pub tokens : List Token
  pub source_length : ℕ

-- Each token has a byte at least, begins at or behind the end of the one before it, and ends within the source. It is
-- the invariant of `Tokens`.
abbrev pub AreInOrder : ℕ → List Token → ℕ → Type 0
AreInOrder low [] end = low ≤ end
AreInOrder low (t ∷ ts) end = (low ≤ t.from) × (t.from < t.to) × AreInOrder t.to ts end
