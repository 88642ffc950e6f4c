-- Inside: which symbols are equal, as a test.
use Rattle.std.specs.Prelude.{ℕ, Bool, ◌==◌}
use Rattle.qasm_form.specs.declared.symbol.Symbol.{Symbol}
use Rattle.qasm_form.specs.declared.symbol.Symbol.TheVariants.{Identifier, Whole, Real, Text, Header, GateU, GateCx, Include, Qreg, Creg, Gate, Opaque, Measure, Reset, Barrier, If, Pi, Sin, Cos, Tan, Exp, Ln, Sqrt, Semicolon, Comma, OpenParen, CloseParen, OpenBrace, CloseBrace, OpenBracket, CloseBracket, Plus, Minus, Times, Over, Power, Arrow, Equals}

-- each symbol's place in the list of symbols
abbrev pub place_of : Symbol → ℕ
place_of Identifier = 0
place_of Whole = 1
place_of Real = 2
place_of Text = 3
place_of Header = 4
place_of GateU = 5
place_of GateCx = 6
place_of Include = 7
place_of Qreg = 8
place_of Creg = 9
place_of Gate = 10
place_of Opaque = 11
place_of Measure = 12
place_of Reset = 13
place_of Barrier = 14
place_of If = 15
place_of Pi = 16
place_of Sin = 17
place_of Cos = 18
place_of Tan = 19
place_of Exp = 20
place_of Ln = 21
place_of Sqrt = 22
place_of Semicolon = 23
place_of Comma = 24
place_of OpenParen = 25
place_of CloseParen = 26
place_of OpenBrace = 27
place_of CloseBrace = 28
place_of OpenBracket = 29
place_of CloseBracket = 30
place_of Plus = 31
place_of Minus = 32
place_of Times = 33
place_of Over = 34
place_of Power = 35
place_of Arrow = 36
place_of Equals = 37

abbrev pub same_symbol : Symbol → Symbol → Bool
same_symbol a b = place_of a == place_of b
