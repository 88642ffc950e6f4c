-- The symbols that the grammar speaks of, and which symbol a token is.
use Rattle.std.specs.Prelude.{ℕ, if◌then◌else◌, List, [], ◌∷◌, codes, slice_range}
use Rattle.std.specs.Borrow.{Bor}
use Rattle.std.specs.Str.{bytes_eq}
use Rattle.qasm_lex.specs.declared.token.Token.{Token}
use Rattle.qasm_lex.specs.declared.token.TokenKind.{TokenKind}
use Rattle.qasm_lex.specs.declared.token.TokenKind.TheVariants as kinds
use Rattle.qasm_form.specs.declared.symbol.Symbol.{Symbol}
use Rattle.qasm_form.specs.declared.symbol.Symbol.TheVariants.{Identifier, Whole, Real, Text, Header, GateU, GateCx, Include, Qreg, Creg, Gate, Opaque, Measure, Reset, Barrier, If, Pi, Sin, Cos, Tan, Exp, Ln, Sqrt, Semicolon, Comma, OpenParen, CloseParen, OpenBrace, CloseBrace, OpenBracket, CloseBracket, Plus, Minus, Times, Over, Power, Arrow, Equals}

-- a row of a table of the code
abbrev pub row_of : Bor (List ℕ) × Symbol → List ℕ × Symbol
row_of row = (row.0.now, row.1)

-- the symbol beside a text in a table, or another one where the table doesn't have the text
abbrev pub symbol_in : List (List ℕ × Symbol) → List ℕ → Symbol → Symbol
symbol_in [] text other = other
symbol_in (row ∷ rows) text other = if bytes_eq text row.0 then row.1 else symbol_in rows text other

-- the reserved words
abbrev pub reserved_words : List (List ℕ × Symbol)
reserved_words =
    (codes "include", Include) ∷ (codes "qreg", Qreg) ∷ (codes "creg", Creg) ∷ (codes "gate", Gate) ∷ (codes "opaque", Opaque) ∷ (codes "measure", Measure) ∷ (codes "reset", Reset) ∷ (codes "barrier", Barrier) ∷ (codes "if", If) ∷ (codes "pi", Pi) ∷ (codes "sin", Sin) ∷ (codes "cos", Cos) ∷ (codes "tan", Tan) ∷ (codes "exp", Exp) ∷ (codes "ln", Ln) ∷ (codes "sqrt", Sqrt) ∷ []

-- The symbol of a word: that of a reserved word, else an identifier.
abbrev pub word_symbol : List ℕ → Symbol
word_symbol text = symbol_in reserved_words text Identifier

-- the capital words but CX
abbrev pub capital_words : List (List ℕ × Symbol)
capital_words = (codes "OPENQASM", Header) ∷ (codes "U", GateU) ∷ []

-- The symbol of a capital word.
abbrev pub capital_symbol : List ℕ → Symbol
capital_symbol text = symbol_in capital_words text GateCx

-- the signs but ==
abbrev pub sign_words : List (List ℕ × Symbol)
sign_words =
    (codes ";", Semicolon) ∷ (codes ",", Comma) ∷ (codes "(", OpenParen) ∷ (codes ")", CloseParen) ∷ (codes "{", OpenBrace) ∷ (codes "}", CloseBrace) ∷ (codes "[", OpenBracket) ∷ (codes "]", CloseBracket) ∷ (codes "+", Plus) ∷ (codes "-", Minus) ∷ (codes "*", Times) ∷ (codes "/", Over) ∷ (codes "^", Power) ∷ (codes "->", Arrow) ∷ []

-- The symbol of a sign.
abbrev pub sign_symbol : List ℕ → Symbol
sign_symbol text = symbol_in sign_words text Equals

-- The symbol of a token's kind and text.
abbrev pub symbol_of : TokenKind → List ℕ → Symbol
symbol_of kinds.Word text = word_symbol text
symbol_of kinds.Capital text = capital_symbol text
symbol_of kinds.Whole text = Whole
symbol_of kinds.Real text = Real
symbol_of kinds.Text text = Text
symbol_of kinds.Sign text = sign_symbol text

-- A token as the grammar sees it: its symbol, its bytes, and the offset of the first.
pub record Lexeme : Type 0 where
  pub symbol : Symbol
  pub text : List ℕ
  pub at : ℕ

-- A token's bytes in its source.
abbrev pub token_text : List ℕ → Token → List ℕ
token_text source token = slice_range source token.from token.to

-- a token of a source, as the grammar sees it
abbrev pub lexeme_of : List ℕ → Token → Lexeme
lexeme_of source token = record {
  symbol = symbol_of token.kind (token_text source token);
  text = token_text source token;
  at = token.from;
}

-- the tokens of a source, as the grammar sees them
abbrev pub lexemes_of : List ℕ → List Token → List Lexeme
lexemes_of source [] = []
lexemes_of source (token ∷ tokens) = lexeme_of source token ∷ lexemes_of source tokens
