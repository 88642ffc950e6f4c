-- Expressions as angles, by their nodes in postfix order: the tree that the nodes stand for, with its text and its depth.
use Rattle.std.specs.Prelude.{ℕ, List, [], ◌∷◌}
use Rattle.std.specs.List.{flat_map}
use Rattle.std.specs.Map.{lookup}
use Rattle.std.specs.Str.{bytes_eq}
use Rattle.qasm_form.specs.declared.stmt.Node.{Node}
use Rattle.qasm_form.specs.declared.stmt.Node.TheVariants as node
use Rattle.qasm_names.specs.Names.{value_or}
use Rattle.qasm_expand.specs.StackReadings.{Reading, read_nodes, first_or}
use Rattle.qasm_expand.specs.Trees.{Tree, depth, text}

-- the tree of each node, from those of its operands
abbrev pub leaf_tree : Node → Tree
leaf_tree (node.Number text) = Tree.Number text
leaf_tree (node.Name name at) = Tree.Name name at
leaf_tree other = Tree.Pi

-- The tree of a node, made of those of its operands.
abbrev pub one_tree : Node → Tree → Tree
one_tree (node.Apply f) a = Tree.Apply f a
one_tree other a = Tree.Negate a

-- The tree of a node, made of those of its operands.
abbrev pub two_tree : Node → Tree → Tree → Tree
two_tree node.Plus a b = Tree.Plus a b
two_tree node.Minus a b = Tree.Minus a b
two_tree node.Times a b = Tree.Times a b
two_tree node.Over a b = Tree.Over a b
two_tree other a b = Tree.Power a b

-- The tree of a node, made of those of its operands.
abbrev pub trees : Reading Tree
trees = record { leaf = leaf_tree; one = one_tree; two = two_tree }

-- The tree whose postfix order these nodes are, where they are one expression.
abbrev pub tree_of : List Node → Tree
tree_of nodes = first_or (read_nodes trees nodes []) (Tree.Number [])

-- The text and the depth of that tree.
abbrev pub angle_text : List Node → List ℕ
angle_text nodes = text (tree_of nodes)

-- The text and the depth of that tree.
abbrev pub depth_of : List Node → ℕ
depth_of nodes = depth (tree_of nodes)

-- What stands for a node where a gate is called with these angles: the angle for the name of a parameter, and any
-- other node for itself.
abbrev pub replaced : List (List ℕ × List Node) → Node → List Node
replaced angles (node.Name name at) = value_or (lookup (bytes_eq name) angles) (node.Name name at ∷ [])
replaced angles other = other ∷ []

-- An expression with the angles put in for the parameters.
abbrev pub substitute : List (List ℕ × List Node) → List Node → List Node
substitute angles nodes = flat_map (replaced angles) nodes
