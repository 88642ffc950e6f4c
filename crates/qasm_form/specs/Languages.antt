-- Languages: which lists of tokens stand for which values, and how languages are joined.
use Rattle.std.specs.Prelude.{◌≡◌, ◌⊎◌, List, [], ◌∷◌, ◌++◌, Option, Some}
use Rattle.qasm_form.specs.declared.symbol.Symbol.{Symbol}
use Rattle.qasm_form.specs.declared.symbol.Symbol.TheVariants.{Comma}
use Rattle.qasm_form.specs.Symbols.{Lexeme}

-- Which lists of tokens stand for which values.
abbrev pub Language : Type 0 → Type 1
Language V = List Lexeme → V → Type 0

-- No token stands for this value.
abbrev pub Value : {V : Type 0} → V → Language V
Value value tokens v = (tokens ≡ []) × (v ≡ value)

-- one token of this symbol, which is the value
abbrev pub Token : Symbol → Language Lexeme
Token symbol tokens lexeme = (tokens ≡ lexeme ∷ []) × (lexeme.symbol ≡ symbol)

-- One token of a class of symbols, with what the class says of it.
abbrev pub OneOf : {V : Type 0} → (Symbol → Option V) → Language (V × Lexeme)
OneOf class tokens v = (tokens ≡ v.1 ∷ []) × (class v.1.symbol ≡ Some v.0)

-- a front of the first language, and then what that value says
infixl 10 ◌>>=◌
-- Tokens of the first language, and then tokens of the language that their value gives.
abbrev pub ◌>>=◌ : {A B : Type 0} → Language A → (A → Language B) → Language B
◌>>=◌ {A} {B} first next tokens v =
    (a : A) × (front : List Lexeme) × (rest : List Lexeme) × (tokens ≡ front ++ rest) × first front a × next a rest v

-- One language or the other.
abbrev pub Or : {V : Type 0} → Language V → Language V → Language V
Or left right tokens v = left tokens v ⊎ right tokens v

-- One item or more, with commas between them.
abbrev pub Listed : {V : Type 0} → Language V → Language (List V)
Listed item tokens [] = ⊥
Listed item tokens (v ∷ []) = item tokens v
Listed item tokens (v ∷ w ∷ vs) =
    (front : List Lexeme) × (comma : Lexeme) × (rest : List Lexeme) × (tokens ≡ front ++ comma ∷ rest) × item front v × (comma.symbol ≡ Comma) × Listed item rest (w ∷ vs)

-- Any number of items.
abbrev pub Many : {V : Type 0} → Language V → Language (List V)
Many item tokens [] = tokens ≡ []
Many item tokens (v ∷ vs) =
    (front : List Lexeme) × (rest : List Lexeme) × (tokens ≡ front ++ rest) × item front v × Many item rest vs
