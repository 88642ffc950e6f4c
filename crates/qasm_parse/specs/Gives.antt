-- Inside: what a function of the code returned is what a reader on lists gives.
use Rattle.std.specs.Prelude.{◌≡◌, ℕ, List, Result, Ok, Err}
use Rattle.std.specs.Borrow.{Bor}
use Rattle.qasm_lex.specs.declared.token.Token.{Token}
use Rattle.qasm_parse.specs.declared.fault.SyntaxFault.{SyntaxFault}
use Rattle.qasm_parse.specs.declared.fault.SyntaxFault.TheVariants.{Memory, At}
use Rattle.qasm_form.specs.Symbols.{Lexeme, lexeme_of, lexemes_of}

abbrev pub Fails : {Y : Type 0} → SyntaxFault → Result Y ℕ → Type 0
Fails Memory read = Unit {0}
Fails (At at) read = read ≡ Err at

-- unless memory ran out
abbrev pub Gives : {X Y : Type 0} → (X → Y) → Result X SyntaxFault → Result Y ℕ → Type 0
Gives view (Ok x) read = read ≡ Ok (view x)
Gives view (Err e) read = Fails e read

-- a value and the tokens after it
abbrev pub seen : {V : Type 0} → List ℕ → V × Bor (List Token) → V × List Lexeme
seen source x = (x.0, lexemes_of source x.1.now)

-- a token and those after it
abbrev pub seen_token : List ℕ → Token × Bor (List Token) → Lexeme × List Lexeme
seen_token source x = (lexeme_of source x.0, lexemes_of source x.1.now)

-- a token of a class and those after it
abbrev pub seen_one : {V : Type 0} → List ℕ → (V × Token) × Bor (List Token) → (V × Lexeme) × List Lexeme
seen_one source x = ((x.0.0, lexeme_of source x.0.1), lexemes_of source x.1.now)
