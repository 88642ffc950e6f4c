-- Inside: reading a source by functions that a proof can compute.
use Rattle.std.specs.Prelude.{ℕ, zero, suc, ◌+◌, List, [], ◌∷◌, ◌++◌, length, Option, Some, None, Result, Ok, Err}
use Rattle.qasm_lex.specs.Cuts.{Piece}
use Rattle.qasm_lex.specs.Cutting.{cut}
use Rattle.qasm_lex.specs.declared.token.TokenKind.{TokenKind}
use Rattle.qasm_form.specs.declared.stmt.Stmt.{Stmt}
use Rattle.qasm_parse.specs.ReadAnswers.{reading_at}
use Rattle.qasm_form.specs.Symbols.{Lexeme, symbol_of}

-- the token of a piece with a kind, as the grammar sees it; a piece without a kind gives none
abbrev pub lexeme_at : Option TokenKind → List ℕ → ℕ → List Lexeme
lexeme_at None text at = []
lexeme_at (Some kind) text at = record { symbol = symbol_of kind text; text = text; at = at } ∷ []

-- the tokens among pieces, as the grammar sees them
abbrev pub lexemes_at : ℕ → List Piece → List Lexeme
lexemes_at at [] = []
lexemes_at at (piece ∷ pieces) = lexeme_at piece.kind piece.text at ++ lexemes_at (at + length piece.text) pieces

-- one statement before others
abbrev pub with_statement : Stmt → Option (List Stmt) → Option (List Stmt)
with_statement s None = None
with_statement s (Some ss) = Some (s ∷ ss)

-- the statement that was read, and those in the tokens behind it
abbrev pub read_more : (List Lexeme → Option (List Stmt)) → Result (Stmt × List Lexeme) ℕ → Option (List Stmt)
read_more go (Ok read) = with_statement read.0 (go read.1)
read_more go (Err at) = None

-- the statements of tokens, of which there are at most so many: at place 0 the version first
unfoldable pub statements_in : ℕ → ℕ → List Lexeme → Option (List Stmt)
statements_in n from [] = Some []
statements_in zero from (x ∷ tokens) = None
statements_in (suc n) from (x ∷ tokens) = read_more (statements_in n 1) (reading_at from 0 (x ∷ tokens))

-- the statements of pieces
abbrev pub statements_of_pieces : ℕ → Option (List Piece) → Option (List Stmt)
statements_of_pieces n None = None
statements_of_pieces n (Some pieces) = statements_in n 0 (lexemes_at 0 pieces)

-- the statements of a source of at most so many bytes
unfoldable pub computed_statements : ℕ → List ℕ → Option (List Stmt)
computed_statements n source = statements_of_pieces n (cut n source)
