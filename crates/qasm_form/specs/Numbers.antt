-- The texts of numbers, in tokens and in expressions.
use Rattle.std.specs.Prelude.{ℕ, ◌⊎◌, List}
use Rattle.std.specs.List.{AllByRecursion}
use Rattle.qasm_lex.specs.Forms.{IsDigits, IsReal}
use Rattle.qasm_form.specs.declared.stmt.Node.{Node}
use Rattle.qasm_form.specs.declared.stmt.Node.TheVariants as node
use Rattle.qasm_form.specs.declared.symbol.Symbol.{Symbol}
use Rattle.qasm_form.specs.declared.symbol.Symbol.TheVariants as sym
use Rattle.qasm_form.specs.Symbols.{Lexeme}
use Rattle.qasm_form.specs.Postfix.{IsPostfix}

-- A text is one digit or more, or a real.
abbrev pub IsNumber : List ℕ → Type 0
IsNumber text = IsDigits text ⊎ IsReal text

-- The text of a number node is a number.
abbrev pub HasNumber : Node → Type 0
HasNumber (node.Number text) = IsNumber text
HasNumber other = Unit {0}

-- Nodes are one expression in postfix order, and the text of each number node is a number. It is the invariant of an
-- `Expr`.
pub record IsExpression (nodes : List Node) : Type 0 where
  pub postfix : IsPostfix nodes
  pub numbers : AllByRecursion HasNumber nodes

-- the text of a whole number or of a real is a number
abbrev pub Spells : Symbol → List ℕ → Type 0
Spells sym.Whole text = IsNumber text
Spells sym.Real text = IsNumber text
Spells other text = Unit {0}

-- the text of a whole number or of a real is a number; the same of one token, and of each of some tokens.
abbrev pub IsSpelt : Lexeme → Type 0
IsSpelt x = Spells x.symbol x.text

-- the text of each whole number and each real among the tokens is a number
abbrev pub AreSpelt : List Lexeme → Type 0
AreSpelt tokens = AllByRecursion IsSpelt tokens
