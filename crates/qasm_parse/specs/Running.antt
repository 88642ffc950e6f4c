-- Inside: how a reader goes on through an expression, token by token.
use Rattle.std.specs.Prelude.{◌≡◌, ℕ, List, [], ◌∷◌, ◌++◌, Option, Some, None, Result, Ok, Err, Bool, if◌then◌else◌}
use Rattle.qasm_form.specs.declared.stmt.Function.TheVariants as fun
use Rattle.qasm_form.specs.declared.stmt.Node.{Node}
use Rattle.qasm_form.specs.declared.symbol.Symbol.{Symbol}
use Rattle.qasm_form.specs.declared.symbol.Symbol.TheVariants as sym
use Rattle.qasm_form.specs.declared.part.Operator.{Operator}
use Rattle.qasm_form.specs.declared.part.Operator.TheVariants as op
use Rattle.qasm_form.specs.declared.part.Part.{Part}
use Rattle.qasm_form.specs.declared.part.Part.TheVariants.{Expr, Terms, Term, Factors, Factor, Power, Exponent, Atom, Leaf, Token, Write}
use Rattle.qasm_parse.specs.declared.part.AtomStart.{AtomStart}
use Rattle.qasm_parse.specs.declared.part.AtomStart.TheVariants as start
use Rattle.qasm_form.specs.Expressions.{leaf_of, node_of}
use Rattle.qasm_form.specs.Symbols.{Lexeme}
use Rattle.qasm_parse.specs.SameSymbols.{same_symbol}

-- what an atom that begins with a symbol is
abbrev pub atom_start : Symbol → AtomStart
atom_start sym.Whole = start.Leaf
atom_start sym.Real = start.Leaf
atom_start sym.Pi = start.Leaf
atom_start sym.Identifier = start.Leaf
atom_start sym.OpenParen = start.Paren
atom_start sym.Sin = start.Call fun.Sin
atom_start sym.Cos = start.Call fun.Cos
atom_start sym.Tan = start.Call fun.Tan
atom_start sym.Exp = start.Call fun.Exp
atom_start sym.Ln = start.Call fun.Ln
atom_start sym.Sqrt = start.Call fun.Sqrt
atom_start other = start.Nothing

-- how a reader goes on by one token.
abbrev pub sum_of : Symbol → Option Operator
sum_of sym.Plus = Some op.Plus
sum_of sym.Minus = Some op.Minus
sum_of other = None

-- how a reader goes on by one token.
abbrev pub product_of : Symbol → Option Operator
product_of sym.Times = Some op.Times
product_of sym.Over = Some op.Over
product_of other = None

-- what a token does to the parts that are still to be read: it is taken, and these are left and these nodes written; or
-- no part can begin with it; or all parts are empty before it
pub data Step : Type 0 where
  Taken : (parts : List Part) (nodes : List Node) → Step
  Refused : Step
  Passed : (nodes : List Node) → Step

-- how a reader goes on by one token.
abbrev pub wrote : Node → Step → Step
wrote n (Taken parts nodes) = Taken parts (n ∷ nodes)
wrote n Refused = Refused
wrote n (Passed nodes) = Passed (n ∷ nodes)

-- how a reader goes on by one token.
abbrev pub leaf_step : Option Node → List Part → Step
leaf_step (Some n) rest = Taken rest (n ∷ [])
leaf_step None rest = Refused

-- how a reader goes on by one token.
abbrev pub atom_step : AtomStart → Lexeme → List Part → Step
atom_step start.Leaf x rest = leaf_step (leaf_of x) rest
atom_step start.Paren x rest = Taken (Expr ∷ Token sym.CloseParen ∷ rest) []
atom_step (start.Call f) x rest =
    Taken (Token sym.OpenParen ∷ Expr ∷ Token sym.CloseParen ∷ Write (op.Apply f) ∷ rest) []
atom_step start.Nothing x rest = Refused

-- how a reader goes on by one token.
abbrev pub factor_step : Lexeme → List Part → Step
factor_step x rest =
    if same_symbol x.symbol sym.Minus then Taken (Factor ∷ Write op.Negate ∷ rest) []
    else atom_step (atom_start x.symbol) x (Exponent ∷ rest)

-- how a reader goes on by one token.
abbrev pub sign_step : Option Operator → Part → Part → List Part → Step → Step
sign_step (Some o) operand signs rest empty = Taken (operand ∷ Write o ∷ signs ∷ rest) []
sign_step None operand signs rest empty = empty

-- how a reader goes on by one token.
abbrev pub advance : List Part → Lexeme → Step
advance [] x = Passed []
advance (Expr ∷ rest) x = factor_step x (Factors ∷ Terms ∷ rest)
advance (Terms ∷ rest) x = sign_step (sum_of x.symbol) Term Terms rest (advance rest x)
advance (Term ∷ rest) x = factor_step x (Factors ∷ rest)
advance (Factors ∷ rest) x = sign_step (product_of x.symbol) Factor Factors rest (advance rest x)
advance (Factor ∷ rest) x = factor_step x rest
advance (Power ∷ rest) x = atom_step (atom_start x.symbol) x (Exponent ∷ rest)
advance (Exponent ∷ rest) x =
    if same_symbol x.symbol sym.Power then Taken (Factor ∷ Write op.Power ∷ rest) [] else advance rest x
advance (Atom ∷ rest) x = atom_step (atom_start x.symbol) x rest
advance (Leaf ∷ rest) x = leaf_step (leaf_of x) rest
advance (Token s ∷ rest) x = if same_symbol x.symbol s then Taken rest [] else Refused
advance (Write o ∷ rest) x = wrote (node_of o) (advance rest x)

-- the answer behind parts that are all empty
abbrev pub closed : Lexeme → List Node → List Lexeme → Option Bool → Result ((List Node × Bool) × List Lexeme) ℕ
closed x nodes tokens (Some b) = Ok ((nodes, b), tokens)
closed x nodes tokens None = Err x.at

-- how a reader goes on by one token.
abbrev pub stepped : Lexeme → Option Bool → List Node → List Lexeme → (List Part → List Node → Result ((List Node × Bool) × List Lexeme) ℕ) → Step → Result ((List Node × Bool) × List Lexeme) ℕ
stepped x class nodes tokens go (Taken rest more) = go rest (nodes ++ more)
stepped x class nodes tokens go Refused = Err x.at
stepped x class nodes tokens go (Passed more) = closed x (nodes ++ more) tokens class

-- reads parts and a token of a class behind them
abbrev pub run : (Symbol → Option Bool) → ℕ → List Part → List Node → List Lexeme → Result ((List Node × Bool) × List Lexeme) ℕ
run class end parts nodes [] = Err end
run class end parts nodes (x ∷ tokens) =
    stepped x (class x.symbol) nodes tokens (λ rest all. run class end rest all tokens) (advance parts x)
