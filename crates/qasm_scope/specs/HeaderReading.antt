-- Inside: what is read of the header's text.
use Rattle.std.specs.Prelude.{◌≡◌, ℕ, List, ◌++◌, length}
use Rattle.qasm_form.specs.Symbols.{Lexeme}
use Rattle.qasm_form.specs.Statements.{FallInto}
use Rattle.qasm_form.specs.declared.stmt.Stmt.{Stmt}
use Rattle.qasm_names.specs.Accepted.{Context}
use Rattle.qasm_names.specs.Environment.{enter_all, no_names}

-- The tokens up to a place are these statements, and where all of them fall into statements, these are the first, and the
-- tokens from the place on fall into the others.
pub record IsReadHeader (tokens : List Lexeme) (place : ℕ) (now : Context) : Type 0 where
  pub statements : FallInto tokens 0 now.before place
  pub left : (header : List Stmt) → FallInto tokens 0 header (length tokens) → (rest : List Stmt) × (header ≡ now.before ++ rest) × FallInto tokens place rest (length tokens)
  pub means : now.environment ≡ enter_all no_names now.before
