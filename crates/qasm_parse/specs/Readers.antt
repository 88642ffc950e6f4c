-- Inside: readers, as functions on lists: a value and the tokens after it, or the offset of a fault.
use Rattle.std.specs.Prelude.{ℕ, suc, zero, List, [], ◌∷◌, ◌++◌, length, Option, Some, None, Result, Ok, Err, Bool, if◌then◌else◌}
use Rattle.qasm_form.specs.declared.symbol.Symbol.{Symbol}
use Rattle.qasm_form.specs.Symbols.{Lexeme}
use Rattle.qasm_parse.specs.SameSymbols.{same_symbol}

abbrev pub Reader : Type 0 → Type 0
Reader V = List Lexeme → Result (V × List Lexeme) ℕ

abbrev pub and_then : {A B : Type 0} → Result A ℕ → (A → Result B ℕ) → Result B ℕ
and_then (Ok x) f = f x
and_then (Err e) f = Err e

infixl 10 ◌>>=◌
-- Tokens of the first language, and then tokens of the language that their value gives.
abbrev pub ◌>>=◌ : {A B : Type 0} → Reader A → (A → Reader B) → Reader B
◌>>=◌ first next tokens = and_then (first tokens) (λ x. next x.0 x.1)

-- no token
abbrev pub value : {V : Type 0} → V → Reader V
value v tokens = Ok (v, tokens)

-- the first token, whichever it is
abbrev pub first : ℕ → Reader Lexeme
first end [] = Err end
first end (x ∷ rest) = Ok (x, rest)

-- one token of this symbol
abbrev pub token : ℕ → Symbol → Reader Lexeme
token end symbol tokens =
    and_then (first end tokens) (λ p. if same_symbol p.0.symbol symbol then Ok (p.0, p.1) else Err p.0.at)

abbrev pub accepted : {V : Type 0} → Option V → Lexeme → List Lexeme → Result ((V × Lexeme) × List Lexeme) ℕ
accepted None x rest = Err x.at
accepted (Some v) x rest = Ok ((v, x), rest)

-- one token of a class
abbrev pub one_of : {V : Type 0} → ℕ → (Symbol → Option V) → Reader (V × Lexeme)
one_of end class tokens = and_then (first end tokens) (λ p. accepted (class p.0.symbol) p.0 p.1)

-- the first reader where the test holds of the first token, and else the second
abbrev pub choose : {V : Type 0} → ℕ → (Symbol → Bool) → Reader V → Reader V → Reader V
choose end test left right tokens =
    and_then (first end tokens) (λ p. if test p.0.symbol then left tokens else right tokens)

-- these values before those that are read
abbrev pub prefixed : {V : Type 0} → List V → Result (List V × List Lexeme) ℕ → Result (List V × List Lexeme) ℕ
prefixed front (Ok x) = Ok (front ++ x.0, x.1)
prefixed front (Err e) = Err e

-- values, and whether more follow: read until none do, at most n times
abbrev pub repeat : {V : Type 0} → Reader (List V × Bool) → ℕ → Reader (List V)
repeat item zero tokens = Err 0
repeat item (suc n) tokens =
    and_then (item tokens) (λ x. if x.0.1 then prefixed x.0.0 (repeat item n x.1) else Ok (x.0.0, x.1))

-- read until none follow: each item has a token at least
abbrev pub repeated : {V : Type 0} → Reader (List V × Bool) → Reader (List V)
repeated item tokens = repeat item (suc (length tokens)) tokens
