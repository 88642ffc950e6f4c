-- Expressions as trees: their nodes in postfix order, their depths, their texts, and angles put in for parameters.
use Rattle.std.specs.Prelude.{ℕ, suc, List, [], ◌∷◌, ◌++◌, max, codes}
use Rattle.std.specs.Map.{lookup}
use Rattle.std.specs.Str.{bytes_eq}
use Rattle.qasm_form.specs.declared.stmt.Function.{Function}
use Rattle.qasm_form.specs.declared.stmt.Function.TheVariants as fun
use Rattle.qasm_form.specs.declared.stmt.Node.{Node}
use Rattle.qasm_form.specs.declared.stmt.Node.TheVariants as node
use Rattle.qasm_names.specs.Names.{value_or}

-- An expression as a tree: a number, as its source has it, pi, a parameter with its offset, or an operator with its
-- operands.
pub data Tree : Type 0 where
  Number : (text : List ℕ) → Tree
  Pi : Tree
  Name : (name : List ℕ) (at : ℕ) → Tree
  Negate : (operand : Tree) → Tree
  Apply : (function : Function) (operand : Tree) → Tree
  Plus : (left right : Tree) → Tree
  Minus : (left right : Tree) → Tree
  Times : (left right : Tree) → Tree
  Over : (left right : Tree) → Tree
  Power : (left right : Tree) → Tree

-- The nodes of a tree in postfix order: those of the operands, then the operator.
abbrev pub postfix : Tree → List Node
postfix (Number text) = node.Number text ∷ []
postfix Pi = node.Pi ∷ []
postfix (Name name at) = node.Name name at ∷ []
postfix (Negate a) = postfix a ++ node.Negate ∷ []
postfix (Apply f a) = postfix a ++ node.Apply f ∷ []
postfix (Plus a b) = postfix a ++ (postfix b ++ node.Plus ∷ [])
postfix (Minus a b) = postfix a ++ (postfix b ++ node.Minus ∷ [])
postfix (Times a b) = postfix a ++ (postfix b ++ node.Times ∷ [])
postfix (Over a b) = postfix a ++ (postfix b ++ node.Over ∷ [])
postfix (Power a b) = postfix a ++ (postfix b ++ node.Power ∷ [])

-- 1 for a leaf, and one more than the deepest operand for an operator.
abbrev pub depth : Tree → ℕ
depth (Number text) = 1
depth Pi = 1
depth (Name name at) = 1
depth (Negate a) = suc (depth a)
depth (Apply f a) = suc (depth a)
depth (Plus a b) = suc (max (depth a) (depth b))
depth (Minus a b) = suc (max (depth a) (depth b))
depth (Times a b) = suc (max (depth a) (depth b))
depth (Over a b) = suc (max (depth a) (depth b))
depth (Power a b) = suc (max (depth a) (depth b))

-- The word of each function.
abbrev pub function_text : Function → List ℕ
function_text fun.Sin = codes "sin"
function_text fun.Cos = codes "cos"
function_text fun.Tan = codes "tan"
function_text fun.Exp = codes "exp"
function_text fun.Ln = codes "ln"
function_text fun.Sqrt = codes "sqrt"

-- The left operand, the sign and the right operand, in parentheses.
abbrev pub signed : List ℕ → List ℕ → List ℕ → List ℕ
signed sign left right = codes "(" ++ (left ++ (sign ++ (right ++ codes ")")))

-- A number as the source has it, `pi`, or a name; a minus sign and its operand, both in parentheses; a function's word
-- with its operand in parentheses; two operands with their sign, in parentheses.
abbrev pub text : Tree → List ℕ
text (Number source) = source
text Pi = codes "pi"
text (Name name at) = name
text (Negate a) = codes "(-" ++ (text a ++ codes ")")
text (Apply f a) = function_text f ++ (codes "(" ++ (text a ++ codes ")"))
text (Plus a b) = signed (codes "+") (text a) (text b)
text (Minus a b) = signed (codes "-") (text a) (text b)
text (Times a b) = signed (codes "*") (text a) (text b)
text (Over a b) = signed (codes "/") (text a) (text b)
text (Power a b) = signed (codes "^") (text a) (text b)

-- the parameters replaced by the angles that a gate is called with; a name that is no parameter stays
abbrev pub tree_with_angles : List (List ℕ × Tree) → Tree → Tree
tree_with_angles angles (Number text) = Number text
tree_with_angles angles Pi = Pi
tree_with_angles angles (Name name at) = value_or (lookup (bytes_eq name) angles) (Name name at)
tree_with_angles angles (Negate a) = Negate (tree_with_angles angles a)
tree_with_angles angles (Apply f a) = Apply f (tree_with_angles angles a)
tree_with_angles angles (Plus a b) = Plus (tree_with_angles angles a) (tree_with_angles angles b)
tree_with_angles angles (Minus a b) = Minus (tree_with_angles angles a) (tree_with_angles angles b)
tree_with_angles angles (Times a b) = Times (tree_with_angles angles a) (tree_with_angles angles b)
tree_with_angles angles (Over a b) = Over (tree_with_angles angles a) (tree_with_angles angles b)
tree_with_angles angles (Power a b) = Power (tree_with_angles angles a) (tree_with_angles angles b)
