-- Inside: the nodes of expressions: how many operands each takes, and which names and numbers it may have.
use Rattle.std.specs.Prelude.{◌≡◌, ℕ, ◌≤◌, List, [], ◌∷◌, length}
use Rattle.std.specs.List.{AllByRecursion, Contains}
use Rattle.qasm_form.specs.declared.stmt.Node.{Node}
use Rattle.qasm_form.specs.declared.stmt.Node.TheVariants as node
use Rattle.qasm_form.specs.Numbers.{IsExpression}
use Rattle.qasm_expand.specs.declared.angle_node.Arity.{Arity}
use Rattle.qasm_expand.specs.declared.angle_node.Arity.TheVariants.{Leaf, One, Two}

-- How many operands a node takes.
abbrev pub arity_of : Node → Arity
arity_of (node.Number text) = Leaf
arity_of node.Pi = Leaf
arity_of (node.Name name at) = Leaf
arity_of node.Negate = One
arity_of (node.Apply f) = One
arity_of node.Plus = Two
arity_of node.Minus = Two
arity_of node.Times = Two
arity_of node.Over = Two
arity_of node.Power = Two

-- A name is one of these, and a number has at most 40 bytes.
abbrev pub IsOver : List (List ℕ) → Node → Type 0
IsOver params (node.Number text) = length text ≤ 40
IsOver params (node.Name name at) = Contains params name
IsOver params other = Unit {0}

-- Each node of the expression is so.
abbrev pub IsExprOver : List (List ℕ) → List Node → Type 0
IsExprOver params nodes = AllByRecursion (IsOver params) nodes

-- an angle: an expression without names
abbrev pub HasNoNames : List Node → Type 0
HasNoNames nodes = IsExprOver [] nodes

-- What is put in for a node: an expression for a name, and any other node for itself.
abbrev pub StandsFor : Node → List Node → Type 0
StandsFor (node.Name name at) nodes = IsExpression nodes
StandsFor other nodes = nodes ≡ other ∷ []
