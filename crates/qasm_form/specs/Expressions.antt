-- Expressions: by their productions, with the nodes that they write in postfix order.
use Rattle.std.specs.Prelude.{◌≡◌, ℕ, List, [], ◌∷◌, ◌++◌, Option, Some, None}
use Rattle.qasm_form.specs.declared.stmt.Function.{Function}
use Rattle.qasm_form.specs.declared.stmt.Function.TheVariants as fun
use Rattle.qasm_form.specs.declared.stmt.Node.{Node}
use Rattle.qasm_form.specs.declared.stmt.Node.TheVariants as node
use Rattle.qasm_form.specs.declared.symbol.Symbol.{Symbol}
use Rattle.qasm_form.specs.declared.symbol.Symbol.TheVariants as sym
use Rattle.qasm_form.specs.declared.part.Operator.{Operator}
use Rattle.qasm_form.specs.declared.part.Operator.TheVariants as op
use Rattle.qasm_form.specs.declared.part.Part.{Part}
use Rattle.qasm_form.specs.declared.part.Part.TheVariants.{Expr, Terms, Term, Factors, Factor, Power, Exponent, Atom, Leaf, Token, Write}
use Rattle.qasm_form.specs.Symbols.{Lexeme}

-- The word of each function.
abbrev pub function_symbol : Function → Symbol
function_symbol fun.Sin = sym.Sin
function_symbol fun.Cos = sym.Cos
function_symbol fun.Tan = sym.Tan
function_symbol fun.Exp = sym.Exp
function_symbol fun.Ln = sym.Ln
function_symbol fun.Sqrt = sym.Sqrt

-- The productions. Signs of addition and multiplication group to the left: a sign is written behind the term or factor
-- that follows it, before the next sign. A power groups to the right, and a minus sign takes the whole power behind it.
pub data Produces : Part → List Part → Type 0 where
  expr : Produces Expr (Term ∷ Terms ∷ [])
  plus : Produces Terms (Token sym.Plus ∷ Term ∷ Write op.Plus ∷ Terms ∷ [])
  minus : Produces Terms (Token sym.Minus ∷ Term ∷ Write op.Minus ∷ Terms ∷ [])
  no_terms : Produces Terms []
  term : Produces Term (Factor ∷ Factors ∷ [])
  times : Produces Factors (Token sym.Times ∷ Factor ∷ Write op.Times ∷ Factors ∷ [])
  over : Produces Factors (Token sym.Over ∷ Factor ∷ Write op.Over ∷ Factors ∷ [])
  no_factors : Produces Factors []
  negation : Produces Factor (Token sym.Minus ∷ Factor ∷ Write op.Negate ∷ [])
  factor : Produces Factor (Power ∷ [])
  power : Produces Power (Atom ∷ Exponent ∷ [])
  exponent : Produces Exponent (Token sym.Power ∷ Factor ∷ Write op.Power ∷ [])
  no_exponent : Produces Exponent []
  leaf : Produces Atom (Leaf ∷ [])
  paren : Produces Atom (Token sym.OpenParen ∷ Expr ∷ Token sym.CloseParen ∷ [])
  call : (f : Function) → Produces Atom (Token (function_symbol f) ∷ Token sym.OpenParen ∷ Expr ∷ Token sym.CloseParen ∷ Write (op.Apply f) ∷ [])

-- the node of a number, of pi or of a name
abbrev pub leaf_node : Symbol → List ℕ → ℕ → Option Node
leaf_node sym.Whole text at = Some (node.Number text)
leaf_node sym.Real text at = Some (node.Number text)
leaf_node sym.Pi text at = Some node.Pi
leaf_node sym.Identifier text at = Some (node.Name text at)
leaf_node other text at = None

-- The node of a number, of pi or of a name.
abbrev pub leaf_of : Lexeme → Option Node
leaf_of x = leaf_node x.symbol x.text x.at

-- The node of an operator.
abbrev pub node_of : Operator → Node
node_of op.Negate = node.Negate
node_of (op.Apply f) = node.Apply f
node_of op.Plus = node.Plus
node_of op.Minus = node.Minus
node_of op.Times = node.Times
node_of op.Over = node.Over
node_of op.Power = node.Power

-- Tokens stand for parts of expressions, which write these nodes in postfix order: a part is replaced by a
-- production's, a sign or a leaf takes a token, and an operator is written behind its operands.
pub data Derives : List Part → List Lexeme → List Node → Type 0 where
  done : Derives [] [] []
  expands : {part : Part} {rest : List Part} {tokens : List Lexeme} {nodes : List Node} (parts : List Part) → Produces part parts → Derives (parts ++ rest) tokens nodes → Derives (part ∷ rest) tokens nodes
  takes : {s : Symbol} {x : Lexeme} {rest : List Part} {tokens : List Lexeme} {nodes : List Node} → x.symbol ≡ s → Derives rest tokens nodes → Derives (Token s ∷ rest) (x ∷ tokens) nodes
  reads : {n : Node} {x : Lexeme} {rest : List Part} {tokens : List Lexeme} {nodes : List Node} → leaf_of x ≡ Some n → Derives rest tokens nodes → Derives (Leaf ∷ rest) (x ∷ tokens) (n ∷ nodes)
  writes : {o : Operator} {rest : List Part} {tokens : List Lexeme} {nodes : List Node} → Derives rest tokens nodes → Derives (Write o ∷ rest) tokens (node_of o ∷ nodes)
