-- Nodes in postfix order, read with a stack.
use Rattle.std.specs.Prelude.{List, [], ◌∷◌}
use Rattle.qasm_form.specs.declared.stmt.Node.{Node}
use Rattle.qasm_form.specs.declared.stmt.Node.TheVariants as node

-- an operator takes its one operand, or its two, from the stack, and puts its own value there
abbrev pub on_one : {A : Type 0} → (A → A) → List A → List A
on_one f [] = []
on_one f (a ∷ stack) = f a ∷ stack

-- An operator takes its one operand, or its two, from the top of a stack, and puts its own value there.
abbrev pub on_two : {A : Type 0} → (A → A → A) → List A → List A
on_two f [] = []
on_two f (a ∷ []) = a ∷ []
on_two f (b ∷ a ∷ stack) = f a b ∷ stack

-- What a leaf, an operator of one operand and an operator of two stand for.
pub record Reading (A : Type 0) : Type 0 where
  pub leaf : Node → A
  pub one : Node → A → A
  pub two : Node → A → A → A

-- a leaf is put on the stack, and an operator takes its operands from it
abbrev pub read_node : {A : Type 0} → Reading A → Node → List A → List A
read_node r (node.Number text) stack = r.leaf (node.Number text) ∷ stack
read_node r node.Pi stack = r.leaf node.Pi ∷ stack
read_node r (node.Name name at) stack = r.leaf (node.Name name at) ∷ stack
read_node r node.Negate stack = on_one (r.one node.Negate) stack
read_node r (node.Apply f) stack = on_one (r.one (node.Apply f)) stack
read_node r node.Plus stack = on_two (r.two node.Plus) stack
read_node r node.Minus stack = on_two (r.two node.Minus) stack
read_node r node.Times stack = on_two (r.two node.Times) stack
read_node r node.Over stack = on_two (r.two node.Over) stack
read_node r node.Power stack = on_two (r.two node.Power) stack

-- A node, and several, read so with a stack.
abbrev pub read_nodes : {A : Type 0} → Reading A → List Node → List A → List A
read_nodes r [] stack = stack
read_nodes r (n ∷ ns) stack = read_nodes r ns (read_node r n stack)

-- The first of a list, or another value where the list is empty.
abbrev pub first_or : {A : Type 0} → List A → A → A
first_or [] other = other
first_or (a ∷ rest) other = a
