-- Two symbols are equal where their places are.
use Rattle.std.proofs.Common.{◌≡◌, true, List, [], ◌∷◌, get_or, refl, sym, ◌∙◌, ap}
use Rattle.std.proofs.lemmas.Bool.{eqb-true, eq-eqb}
use Rattle.qasm_form.specs.declared.symbol.Symbol.{Symbol}
use Rattle.qasm_form.specs.declared.symbol.Symbol.TheVariants.{Identifier, Whole, Real, Text, Header, GateU, GateCx, Include, Qreg, Creg, Gate, Opaque, Measure, Reset, Barrier, If, Pi, Sin, Cos, Tan, Exp, Ln, Sqrt, Semicolon, Comma, OpenParen, CloseParen, OpenBrace, CloseBrace, OpenBracket, CloseBracket, Plus, Minus, Times, Over, Power, Arrow, Equals}
use Rattle.qasm_parse.specs.SameSymbols.{place_of, same_symbol}

abbrev symbols : List Symbol
symbols = Identifier ∷ Whole ∷ Real ∷ Text ∷ Header ∷ GateU ∷ GateCx ∷ Include ∷ Qreg ∷ Creg ∷ Gate ∷ Opaque ∷ Measure ∷ Reset ∷ Barrier ∷ If ∷ Pi ∷ Sin ∷ Cos ∷ Tan ∷ Exp ∷ Ln ∷ Sqrt ∷ Semicolon ∷ Comma ∷ OpenParen ∷ CloseParen ∷ OpenBrace ∷ CloseBrace ∷ OpenBracket ∷ CloseBracket ∷ Plus ∷ Minus ∷ Times ∷ Over ∷ Power ∷ Arrow ∷ Equals ∷ []

at_place : (s : Symbol) → get_or symbols (place_of s) Identifier ≡ s
at_place Identifier = refl
at_place Whole = refl
at_place Real = refl
at_place Text = refl
at_place Header = refl
at_place GateU = refl
at_place GateCx = refl
at_place Include = refl
at_place Qreg = refl
at_place Creg = refl
at_place Gate = refl
at_place Opaque = refl
at_place Measure = refl
at_place Reset = refl
at_place Barrier = refl
at_place If = refl
at_place Pi = refl
at_place Sin = refl
at_place Cos = refl
at_place Tan = refl
at_place Exp = refl
at_place Ln = refl
at_place Sqrt = refl
at_place Semicolon = refl
at_place Comma = refl
at_place OpenParen = refl
at_place CloseParen = refl
at_place OpenBrace = refl
at_place CloseBrace = refl
at_place OpenBracket = refl
at_place CloseBracket = refl
at_place Plus = refl
at_place Minus = refl
at_place Times = refl
at_place Over = refl
at_place Power = refl
at_place Arrow = refl
at_place Equals = refl

pub same_symbol-true : (a b : Symbol) → same_symbol a b ≡ true → a ≡ b
same_symbol-true a b same =
    sym (at_place a) ∙ ap (λ n. get_or symbols n Identifier) (eqb-true (place_of a) (place_of b) same) ∙ at_place b

pub same_symbol-refl : (a : Symbol) → same_symbol a a ≡ true
same_symbol-refl a = eq-eqb (place_of a) (place_of a) refl
