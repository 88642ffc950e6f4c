-- What reading a statement answers.
use Rattle.std.specs.Prelude.{ℕ, zero, suc, List, Result, Ok, Err}
use Rattle.qasm_form.specs.declared.stmt.Stmt.{Stmt}
use Rattle.qasm_parse.specs.declared.fault.SyntaxFault.{SyntaxFault}
use Rattle.qasm_parse.specs.declared.fault.SyntaxFault.TheVariants.{Memory, At}
use Rattle.qasm_form.specs.Statements.{IsStatement, IsSyntaxFault}
use Rattle.qasm_form.specs.Symbols.{Lexeme}
use Rattle.qasm_parse.specs.Readers.{Reader}
use Rattle.qasm_parse.specs.Readings.{statement_at, version_at}

-- After an Ok the statement and the next place are these; after a fault at an offset, that is the fault; of want of
-- memory nothing more is said.
abbrev pub IsAnswer : List Lexeme → ℕ → ℕ → Result (Stmt × ℕ) SyntaxFault → Type 0
IsAnswer tokens from end (Ok r) = IsStatement tokens from r.0 r.1
IsAnswer tokens from end (Err Memory) = Unit {0}
IsAnswer tokens from end (Err (At at)) = IsSyntaxFault tokens from end at

-- the reader of a place.
abbrev pub reading_at : ℕ → ℕ → Reader Stmt
reading_at zero end = version_at end
reading_at (suc place) end = statement_at end
