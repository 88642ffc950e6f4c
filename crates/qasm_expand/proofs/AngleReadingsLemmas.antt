-- To read the texts or the depths of nodes is to read their trees, and to take the texts or the depths of those.
use Rattle.std.proofs.Common.{◌≡◌, ℕ, List, [], ◌∷◌, refl, sym as flip, ◌∙◌, ap, arith, length, drop, ◌≤◌}
use Rattle.std.specs.Prelude.{map}
use Rattle.std.proofs.lemmas.List.{drop_all}
use Rattle.qasm_form.specs.declared.stmt.Node.{Node}
use Rattle.qasm_form.specs.declared.stmt.Node.TheVariants as node
use Rattle.qasm_form.specs.Postfix.{IsPostfix}
use Rattle.qasm_expand.specs.StackReadings.{Reading, on_one, on_two, read_node, read_nodes, first_or}
use Rattle.qasm_expand.specs.Trees.{Tree, depth, text}
use Rattle.qasm_expand.specs.Angles.{trees, angle_text, depth_of}
use Rattle.qasm_expand.specs.AngleReadings.{depths, texts}
use Rattle.qasm_expand.proofs.TreesLemmas.{read_length}

map_one : {A B : Type 0} (to : A → B) (f : A → A) (g : B → B) → ((a : A) → to (f a) ≡ g (to a)) → (stack : List A) → map to (on_one f stack) ≡ on_one g (map to stack)
map_one to f g same [] = refl
map_one to f g same (a ∷ stack) = ap (λ b. b ∷ map to stack) (same a)

map_two : {A B : Type 0} (to : A → B) (f : A → A → A) (g : B → B → B) → ((a b : A) → to (f a b) ≡ g (to a) (to b)) → (stack : List A) → map to (on_two f stack) ≡ on_two g (map to stack)
map_two to f g same [] = refl
map_two to f g same (b ∷ []) = refl
map_two to f g same (b ∷ a ∷ stack) = ap (λ c. c ∷ map to stack) (same a b)

-- a reading whose values are taken from trees
abbrev IsFused : {A : Type 0} → Reading A → (Tree → A) → Type 0
IsFused r to = (x : Node) (stack : List Tree) → map to (read_node trees x stack) ≡ read_node r x (map to stack)

fused : {A : Type 0} (r : Reading A) (to : Tree → A) → IsFused r to → (nodes : List Node) (stack : List Tree) → map to (read_nodes trees nodes stack) ≡ read_nodes r nodes (map to stack)
fused r to h [] stack = refl
fused r to h (x ∷ nodes) stack = fused r to h nodes (read_node trees x stack) ∙ ap (read_nodes r nodes) (h x stack)

first_map : {A B : Type 0} (to : A → B) (stack : List A) (other : A) → to (first_or stack other) ≡ first_or (map to stack) (to other)
first_map to [] other = refl
first_map to (a ∷ stack) other = refl

-- all nodes are read
pub read_done : {A : Type 0} (r : Reading A) (nodes : List Node) (i : ℕ) (stack all : List A) → length nodes ≤ i → read_nodes r (drop i nodes) stack ≡ all → stack ≡ all
read_done r nodes i stack all end h = ap (λ ns. read_nodes r ns stack) (flip (drop_all i nodes end)) ∙ h

-- ---- texts

texts_fused : IsFused texts text
texts_fused (node.Number source) stack = refl
texts_fused node.Pi stack = refl
texts_fused (node.Name name at) stack = refl
texts_fused node.Negate stack = map_one text (trees.one node.Negate) (texts.one node.Negate) (λ a. refl) stack
texts_fused (node.Apply f) stack = map_one text (trees.one (node.Apply f)) (texts.one (node.Apply f)) (λ a. refl) stack
texts_fused node.Plus stack = map_two text (trees.two node.Plus) (texts.two node.Plus) (λ a b. refl) stack
texts_fused node.Minus stack = map_two text (trees.two node.Minus) (texts.two node.Minus) (λ a b. refl) stack
texts_fused node.Times stack = map_two text (trees.two node.Times) (texts.two node.Times) (λ a b. refl) stack
texts_fused node.Over stack = map_two text (trees.two node.Over) (texts.two node.Over) (λ a b. refl) stack
texts_fused node.Power stack = map_two text (trees.two node.Power) (texts.two node.Power) (λ a b. refl) stack

pub text_read : (nodes : List Node) → angle_text nodes ≡ first_or (read_nodes texts nodes []) []
text_read nodes =
    first_map text (read_nodes trees nodes []) (Tree.Number []) ∙ ap (λ s. first_or s []) (fused texts text texts_fused nodes [])

-- ---- depths

depths_fused : IsFused depths depth
depths_fused (node.Number source) stack = refl
depths_fused node.Pi stack = refl
depths_fused (node.Name name at) stack = refl
depths_fused node.Negate stack = map_one depth (trees.one node.Negate) (depths.one node.Negate) (λ a. refl) stack
depths_fused (node.Apply f) stack = map_one depth (trees.one (node.Apply f)) (depths.one (node.Apply f)) (λ a. refl) stack
depths_fused node.Plus stack = map_two depth (trees.two node.Plus) (depths.two node.Plus) (λ a b. refl) stack
depths_fused node.Minus stack = map_two depth (trees.two node.Minus) (depths.two node.Minus) (λ a b. refl) stack
depths_fused node.Times stack = map_two depth (trees.two node.Times) (depths.two node.Times) (λ a b. refl) stack
depths_fused node.Over stack = map_two depth (trees.two node.Over) (depths.two node.Over) (λ a b. refl) stack
depths_fused node.Power stack = map_two depth (trees.two node.Power) (depths.two node.Power) (λ a b. refl) stack

first_same : {A : Type 0} (stack : List A) (one other : A) → length stack ≡ 1 → first_or stack one ≡ first_or stack other
first_same [] one other h = absurd (omega (arith, h))
first_same (a ∷ stack) one other h = refl

-- of an expression a depth is read, whatever stands for that of no node
pub depth_read : (nodes : List Node) (other : ℕ) → IsPostfix nodes → depth_of nodes ≡ first_or (read_nodes depths nodes []) other
depth_read nodes other h =
    first_map depth (read_nodes trees nodes []) (Tree.Number []) ∙ (ap (λ s. first_or s 1) (fused depths depth depths_fused nodes []) ∙ first_same (read_nodes depths nodes []) 1 other (read_length depths nodes [] 1 h))
