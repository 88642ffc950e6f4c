-- Inside: the texts and the depths of nodes, as they are read with a stack.
use Rattle.std.specs.Prelude.{ℕ, suc, List, [], ◌++◌, max, codes}
use Rattle.qasm_form.specs.declared.stmt.Node.{Node}
use Rattle.qasm_form.specs.declared.stmt.Node.TheVariants as node
use Rattle.qasm_expand.specs.StackReadings.{Reading}
use Rattle.qasm_expand.specs.Trees.{function_text, signed}

-- How the depth of a node is read from those of its operands.
abbrev pub depths : Reading ℕ
depths = record { leaf = λ _. 1; one = λ _ d. suc d; two = λ _ d e. suc (max d e) }

-- How the text of a node is read from those of its operands.
abbrev pub leaf_text : Node → List ℕ
leaf_text (node.Number text) = text
leaf_text node.Pi = codes "pi"
leaf_text (node.Name name at) = name
leaf_text other = []

-- How the text of a node is read from those of its operands.
abbrev pub one_text : Node → List ℕ → List ℕ
one_text (node.Apply f) operand = function_text f ++ (codes "(" ++ (operand ++ codes ")"))
one_text other operand = codes "(-" ++ (operand ++ codes ")")

-- The sign of each operator of two operands.
abbrev pub sign_text : Node → List ℕ
sign_text node.Plus = codes "+"
sign_text node.Minus = codes "-"
sign_text node.Times = codes "*"
sign_text node.Over = codes "/"
sign_text other = codes "^"

-- How the text of a node is read from those of its operands.
abbrev pub two_text : Node → List ℕ → List ℕ → List ℕ
two_text n left right = signed (sign_text n) left right

-- How the text of a node is read from those of its operands.
abbrev pub texts : Reading (List ℕ)
texts = record { leaf = leaf_text; one = one_text; two = two_text }
