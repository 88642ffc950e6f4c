-- Which tokens are a statement, and where tokens begin none.
use Rattle.std.specs.Prelude.{◌≡◌, ℕ, zero, suc, ◌-◌, ◌<◌, ◌≤◌, List, [], ◌∷◌, ◌++◌, length, take, drop}
use Rattle.qasm_form.specs.declared.stmt.Stmt.{Stmt}
use Rattle.qasm_form.specs.Symbols.{Lexeme}
use Rattle.qasm_form.specs.Languages.{Language}
use Rattle.qasm_form.specs.Grammar.{Statement, Version}

-- The offset of the first token, or that of the source's end
abbrev pub offset_of : ℕ → List Lexeme → ℕ
offset_of end [] = end
offset_of end (x ∷ rest) = x.at

-- The version at place 0, and a statement at every other place.
abbrev pub StatementAt : ℕ → Language Stmt
StatementAt zero = Version
StatementAt (suc place) = Statement

-- The tokens from a place up to the next one stand for this statement.
pub record IsStatement (tokens : List Lexeme) (from : ℕ) (statement : Stmt) (next : ℕ) : Type 0 where
  pub goes_on : from < next
  pub within : next ≤ length tokens
  pub derived : StatementAt from (take (next - from) (drop from tokens)) statement

-- The tokens from a place up to another are these statements, one behind the other.
abbrev pub FallInto : List Lexeme → ℕ → List Stmt → ℕ → Type 0
FallInto tokens from [] to = to ≡ from
FallInto tokens from (s ∷ ss) to = (next : ℕ) × IsStatement tokens from s next × FallInto tokens next ss to

-- Some statement begins with these tokens and goes on behind them.
abbrev pub Begins : ℕ → List Lexeme → Type 0
Begins from front =
    (x : Lexeme) × (more : List Lexeme) × (statement : Stmt) × StatementAt from (front ++ x ∷ more) statement

-- No statement begins with these tokens and the one behind them, where there is one.
abbrev pub BeginsNone : ℕ → List Lexeme → List Lexeme → Type 0
BeginsNone from front [] = Unit {0}
BeginsNone from front (x ∷ rest) = (more : List Lexeme) (statement : Stmt) → StatementAt from (front ++ x ∷ more) statement → ⊥

-- With the token at this offset, the tokens from the place on begin no statement, and those before it begin one; where
-- the tokens end before a statement does, the offset is that of the source's end.
abbrev pub IsSyntaxFault : List Lexeme → ℕ → ℕ → ℕ → Type 0
IsSyntaxFault tokens from end at =
    (front : List Lexeme) × (rest : List Lexeme) × (drop from tokens ≡ front ++ rest) × (at ≡ offset_of end rest) × Begins from front × BeginsNone from front rest
