-- Trees and their nodes in postfix order.
use Rattle.std.proofs.Common.{◌≡◌, ℕ, suc, List, [], ◌∷◌, ◌++◌, length, Bool, true, false, cond, Option, Some, refl, sym as flip, ◌∙◌, ap, arith, append_assoc}
use Rattle.std.specs.Prelude.{map}
use Rattle.std.specs.Map.{lookup}
use Rattle.std.specs.Str.{bytes_eq}
use Rattle.std.proofs.lemmas.List.{append-nil}
use Rattle.std.proofs.lemmas.Grind.{flat_map-append}
use Rattle.qasm_form.specs.declared.stmt.Node.{Node}
use Rattle.qasm_form.specs.declared.stmt.Node.TheVariants as node
use Rattle.qasm_form.specs.Postfix.{with_one, with_two, operands, IsPostfix}
use Rattle.qasm_names.specs.Names.{value_or}
use Rattle.qasm_expand.specs.StackReadings.{Reading, on_one, on_two, read_nodes, first_or}
use Rattle.qasm_expand.specs.Trees.{Tree, postfix, tree_with_angles}
use Rattle.qasm_expand.specs.Angles.{trees, tree_of, replaced}
use Rattle.qasm_expand.specs.Angles as angle

-- ---- a tree is read from its nodes

abbrev ReadsBack : Tree → Type 0
ReadsBack t = (rest : List Node) (stack : List Tree) → read_nodes trees (postfix t ++ rest) stack ≡ read_nodes trees rest (t ∷ stack)

read_one : (a : Tree) (x : Node) → ReadsBack a → (rest : List Node) (stack : List Tree) → read_nodes trees ((postfix a ++ x ∷ []) ++ rest) stack ≡ read_nodes trees (x ∷ rest) (a ∷ stack)
read_one a x h rest stack =
    ap (λ ns. read_nodes trees ns stack) (append_assoc (postfix a) (x ∷ []) rest) ∙ h (x ∷ rest) stack

read_two : (a b : Tree) (x : Node) → ReadsBack a → ReadsBack b → (rest : List Node) (stack : List Tree) → read_nodes trees ((postfix a ++ (postfix b ++ x ∷ [])) ++ rest) stack ≡ read_nodes trees (x ∷ rest) (b ∷ a ∷ stack)
read_two a b x h k rest stack =
    ap (λ ns. read_nodes trees ns stack) (append_assoc (postfix a) (postfix b ++ x ∷ []) rest) ∙ h ((postfix b ++ x ∷ []) ++ rest) stack ∙ read_one b x k rest (a ∷ stack)

postfix_read : (t : Tree) → ReadsBack t
postfix_read (Tree.Number text) rest stack = refl
postfix_read Tree.Pi rest stack = refl
postfix_read (Tree.Name name at) rest stack = refl
postfix_read (Tree.Negate a) rest stack = read_one a node.Negate (postfix_read a) rest stack
postfix_read (Tree.Apply f a) rest stack = read_one a (node.Apply f) (postfix_read a) rest stack
postfix_read (Tree.Plus a b) rest stack = read_two a b node.Plus (postfix_read a) (postfix_read b) rest stack
postfix_read (Tree.Minus a b) rest stack = read_two a b node.Minus (postfix_read a) (postfix_read b) rest stack
postfix_read (Tree.Times a b) rest stack = read_two a b node.Times (postfix_read a) (postfix_read b) rest stack
postfix_read (Tree.Over a b) rest stack = read_two a b node.Over (postfix_read a) (postfix_read b) rest stack
postfix_read (Tree.Power a b) rest stack = read_two a b node.Power (postfix_read a) (postfix_read b) rest stack

pub tree_of_postfix : (t : Tree) → tree_of (postfix t) ≡ t
tree_of_postfix t =
    ap (λ ns. tree_of ns) (flip (append-nil (postfix t))) ∙ ap (λ s. first_or s (Tree.Number [])) (postfix_read t [] [])

-- ---- the nodes of trees on a stack are the nodes that were read

abbrev unread : List Tree → List Node
unread [] = []
unread (t ∷ stack) = unread stack ++ postfix t

abbrev IsUnread : List Node → List Tree → List Node → Type 0
IsUnread nodes stack all = unread (read_nodes trees nodes stack) ≡ all

regroup : (us ps ns : List Node) (x : Node) → (us ++ (ps ++ x ∷ [])) ++ ns ≡ (us ++ ps) ++ x ∷ ns
regroup us ps ns x = ap (λ l. l ++ ns) (flip (append_assoc us ps (x ∷ []))) ∙ append_assoc (us ++ ps) (x ∷ []) ns

unread_one : (x : Node) (f : Tree → Tree) → ((a : Tree) → postfix (f a) ≡ postfix a ++ x ∷ []) → (nodes : List Node) (stack : List Tree) (m : ℕ) → ((s : List Tree) → operands nodes (length s) ≡ Some m → IsUnread nodes s (unread s ++ nodes)) → with_one (length stack) (operands nodes) ≡ Some m → IsUnread nodes (on_one f stack) (unread stack ++ x ∷ nodes)
unread_one x f made nodes [] m to h = absurd (cc)
unread_one x f made nodes (a ∷ stack) m to h =
    to (f a ∷ stack) h ∙ ap (λ ps. (unread stack ++ ps) ++ nodes) (made a) ∙ regroup (unread stack) (postfix a) nodes x

unread_two : (x : Node) (f : Tree → Tree → Tree) → ((a b : Tree) → postfix (f a b) ≡ postfix a ++ (postfix b ++ x ∷ [])) → (nodes : List Node) (stack : List Tree) (m : ℕ) → ((s : List Tree) → operands nodes (length s) ≡ Some m → IsUnread nodes s (unread s ++ nodes)) → with_two (length stack) (operands nodes) ≡ Some m → IsUnread nodes (on_two f stack) (unread stack ++ x ∷ nodes)
unread_two x f made nodes [] m to h = absurd (cc)
unread_two x f made nodes (b ∷ []) m to h = absurd (cc)
unread_two x f made nodes (b ∷ a ∷ stack) m to h =
    to (f a b ∷ stack) h ∙ ap (λ ps. (unread stack ++ ps) ++ nodes) (made a b) ∙ ap (λ l. l ++ nodes) (flip (append_assoc (unread stack) (postfix a) (postfix b ++ x ∷ []))) ∙ regroup (unread stack ++ postfix a) (postfix b) nodes x

unread_nodes : (nodes : List Node) (stack : List Tree) (m : ℕ) → operands nodes (length stack) ≡ Some m → IsUnread nodes stack (unread stack ++ nodes)
unread_nodes [] stack m h = flip (append-nil (unread stack))
unread_nodes (node.Number text ∷ nodes) stack m h =
    unread_nodes nodes (Tree.Number text ∷ stack) m h ∙ append_assoc (unread stack) (node.Number text ∷ []) nodes
unread_nodes (node.Pi ∷ nodes) stack m h =
    unread_nodes nodes (Tree.Pi ∷ stack) m h ∙ append_assoc (unread stack) (node.Pi ∷ []) nodes
unread_nodes (node.Name name at ∷ nodes) stack m h =
    unread_nodes nodes (Tree.Name name at ∷ stack) m h ∙ append_assoc (unread stack) (node.Name name at ∷ []) nodes
unread_nodes (node.Negate ∷ nodes) stack m h =
    unread_one node.Negate (trees.one node.Negate) (λ a. refl) nodes stack m (λ s g. unread_nodes nodes s m g) h
unread_nodes (node.Apply f ∷ nodes) stack m h =
    unread_one (node.Apply f) (trees.one (node.Apply f)) (λ a. refl) nodes stack m (λ s g. unread_nodes nodes s m g) h
unread_nodes (node.Plus ∷ nodes) stack m h =
    unread_two node.Plus (trees.two node.Plus) (λ a b. refl) nodes stack m (λ s g. unread_nodes nodes s m g) h
unread_nodes (node.Minus ∷ nodes) stack m h =
    unread_two node.Minus (trees.two node.Minus) (λ a b. refl) nodes stack m (λ s g. unread_nodes nodes s m g) h
unread_nodes (node.Times ∷ nodes) stack m h =
    unread_two node.Times (trees.two node.Times) (λ a b. refl) nodes stack m (λ s g. unread_nodes nodes s m g) h
unread_nodes (node.Over ∷ nodes) stack m h =
    unread_two node.Over (trees.two node.Over) (λ a b. refl) nodes stack m (λ s g. unread_nodes nodes s m g) h
unread_nodes (node.Power ∷ nodes) stack m h =
    unread_two node.Power (trees.two node.Power) (λ a b. refl) nodes stack m (λ s g. unread_nodes nodes s m g) h

unread_single : (stack : List Tree) (other : Tree) → length stack ≡ 1 → postfix (first_or stack other) ≡ unread stack
unread_single [] other one = absurd (omega (arith, one))
unread_single (t ∷ []) other one = refl
unread_single (t ∷ u ∷ stack) other one = absurd (omega (arith, one))

-- ---- how many operands are read

one_length : {A : Type 0} (f : A → A) (go : ℕ → Option ℕ) (after : List A → ℕ) (stack : List A) (m : ℕ) → ((s : List A) → go (length s) ≡ Some m → after s ≡ m) → with_one (length stack) go ≡ Some m → after (on_one f stack) ≡ m
one_length f go after [] m to h = absurd (cc)
one_length f go after (a ∷ stack) m to h = to (f a ∷ stack) h

two_length : {A : Type 0} (f : A → A → A) (go : ℕ → Option ℕ) (after : List A → ℕ) (stack : List A) (m : ℕ) → ((s : List A) → go (length s) ≡ Some m → after s ≡ m) → with_two (length stack) go ≡ Some m → after (on_two f stack) ≡ m
two_length f go after [] m to h = absurd (cc)
two_length f go after (b ∷ []) m to h = absurd (cc)
two_length f go after (b ∷ a ∷ stack) m to h = to (f a b ∷ stack) h

some_number : {a b : ℕ} → Some a ≡ Some b → a ≡ b
some_number e = cc

-- as many values are read as operands
pub read_length : {A : Type 0} (r : Reading A) (nodes : List Node) (stack : List A) (m : ℕ) → operands nodes (length stack) ≡ Some m → length (read_nodes r nodes stack) ≡ m
read_length r [] stack m h = some_number h
read_length r (node.Number text ∷ nodes) stack m h = read_length r nodes (r.leaf (node.Number text) ∷ stack) m h
read_length r (node.Pi ∷ nodes) stack m h = read_length r nodes (r.leaf node.Pi ∷ stack) m h
read_length r (node.Name name at ∷ nodes) stack m h = read_length r nodes (r.leaf (node.Name name at) ∷ stack) m h
read_length r (node.Negate ∷ nodes) stack m h =
    one_length (r.one node.Negate) (operands nodes) (λ s. length (read_nodes r nodes s)) stack m (λ s g. read_length r nodes s m g) h
read_length r (node.Apply f ∷ nodes) stack m h =
    one_length (r.one (node.Apply f)) (operands nodes) (λ s. length (read_nodes r nodes s)) stack m (λ s g. read_length r nodes s m g) h
read_length r (node.Plus ∷ nodes) stack m h =
    two_length (r.two node.Plus) (operands nodes) (λ s. length (read_nodes r nodes s)) stack m (λ s g. read_length r nodes s m g) h
read_length r (node.Minus ∷ nodes) stack m h =
    two_length (r.two node.Minus) (operands nodes) (λ s. length (read_nodes r nodes s)) stack m (λ s g. read_length r nodes s m g) h
read_length r (node.Times ∷ nodes) stack m h =
    two_length (r.two node.Times) (operands nodes) (λ s. length (read_nodes r nodes s)) stack m (λ s g. read_length r nodes s m g) h
read_length r (node.Over ∷ nodes) stack m h =
    two_length (r.two node.Over) (operands nodes) (λ s. length (read_nodes r nodes s)) stack m (λ s g. read_length r nodes s m g) h
read_length r (node.Power ∷ nodes) stack m h =
    two_length (r.two node.Power) (operands nodes) (λ s. length (read_nodes r nodes s)) stack m (λ s g. read_length r nodes s m g) h

-- an expression's nodes are those of its tree
pub postfix_tree_of : (nodes : List Node) → IsPostfix nodes → postfix (tree_of nodes) ≡ nodes
postfix_tree_of nodes h =
    unread_single (read_nodes trees nodes []) (Tree.Number []) (read_length trees nodes [] 1 h) ∙ unread_nodes nodes [] 1 h

-- ---- a tree's nodes are an expression

abbrev IsOperand : Tree → Type 0
IsOperand t = (rest : List Node) (n : ℕ) → operands (postfix t ++ rest) n ≡ operands rest (suc n)

operand_one : (a : Tree) (x : Node) → IsOperand a → (rest : List Node) (n : ℕ) → operands ((postfix a ++ x ∷ []) ++ rest) n ≡ operands (x ∷ rest) (suc n)
operand_one a x h rest n = ap (λ ns. operands ns n) (append_assoc (postfix a) (x ∷ []) rest) ∙ h (x ∷ rest) n

operand_two : (a b : Tree) (x : Node) → IsOperand a → IsOperand b → (rest : List Node) (n : ℕ) → operands ((postfix a ++ (postfix b ++ x ∷ [])) ++ rest) n ≡ operands (x ∷ rest) (suc (suc n))
operand_two a b x h k rest n =
    ap (λ ns. operands ns n) (append_assoc (postfix a) (postfix b ++ x ∷ []) rest) ∙ h ((postfix b ++ x ∷ []) ++ rest) n ∙ operand_one b x k rest (suc n)

postfix_operand : (t : Tree) → IsOperand t
postfix_operand (Tree.Number text) rest n = refl
postfix_operand Tree.Pi rest n = refl
postfix_operand (Tree.Name name at) rest n = refl
postfix_operand (Tree.Negate a) rest n = operand_one a node.Negate (postfix_operand a) rest n
postfix_operand (Tree.Apply f a) rest n = operand_one a (node.Apply f) (postfix_operand a) rest n
postfix_operand (Tree.Plus a b) rest n = operand_two a b node.Plus (postfix_operand a) (postfix_operand b) rest n
postfix_operand (Tree.Minus a b) rest n = operand_two a b node.Minus (postfix_operand a) (postfix_operand b) rest n
postfix_operand (Tree.Times a b) rest n = operand_two a b node.Times (postfix_operand a) (postfix_operand b) rest n
postfix_operand (Tree.Over a b) rest n = operand_two a b node.Over (postfix_operand a) (postfix_operand b) rest n
postfix_operand (Tree.Power a b) rest n = operand_two a b node.Power (postfix_operand a) (postfix_operand b) rest n

pub postfix_is_postfix : (t : Tree) → IsPostfix (postfix t)
postfix_is_postfix t = ap (λ ns. operands ns 0) (flip (append-nil (postfix t))) ∙ postfix_operand t [] 0

-- ---- angles put in

abbrev pub by_postfix : List ℕ × Tree → List ℕ × List Node
by_postfix angle = (angle.0, postfix angle.1)

found_postfix : (b : Bool) (a : Tree) (o : Option (List Node)) (p : Option Tree) (other : Tree) → value_or o (postfix other) ≡ postfix (value_or p other) → value_or (cond b (Some (postfix a)) o) (postfix other) ≡ postfix (value_or (cond b (Some a) p) other)
found_postfix true a o p other h = refl
found_postfix false a o p other h = h

lookup_postfix : (name : List ℕ) (angles : List (List ℕ × Tree)) (other : Tree) → value_or (lookup (bytes_eq name) (map by_postfix angles)) (postfix other) ≡ postfix (value_or (lookup (bytes_eq name) angles) other)
lookup_postfix name [] other = refl
lookup_postfix name (angle ∷ angles) other =
    found_postfix (bytes_eq name angle.0) angle.1 (lookup (bytes_eq name) (map by_postfix angles)) (lookup (bytes_eq name) angles) other (lookup_postfix name angles other)

-- an operator stays behind its operands
kept_one : (angles : List (List ℕ × List Node)) (xs ys : List Node) (x : Node) → replaced angles x ≡ x ∷ [] → angle.substitute angles xs ≡ ys → angle.substitute angles (xs ++ x ∷ []) ≡ ys ++ x ∷ []
kept_one angles xs ys x stays h =
    flat_map-append (replaced angles) xs (x ∷ []) ∙ ap (λ l. l ++ (replaced angles x ++ [])) h ∙ ap (λ l. ys ++ (l ++ [])) stays

kept_two : (angles : List (List ℕ × List Node)) (xs ys vs ws : List Node) (x : Node) → replaced angles x ≡ x ∷ [] → angle.substitute angles xs ≡ vs → angle.substitute angles ys ≡ ws → angle.substitute angles (xs ++ (ys ++ x ∷ [])) ≡ vs ++ (ws ++ x ∷ [])
kept_two angles xs ys vs ws x stays h k =
    flat_map-append (replaced angles) xs (ys ++ x ∷ []) ∙ ap (λ l. l ++ angle.substitute angles (ys ++ x ∷ [])) h ∙ ap (λ l. vs ++ l) (kept_one angles ys ws x stays k)

pub substitute_postfix : (angles : List (List ℕ × Tree)) (t : Tree) → angle.substitute (map by_postfix angles) (postfix t) ≡ postfix (tree_with_angles angles t)
substitute_postfix angles (Tree.Number text) = refl
substitute_postfix angles Tree.Pi = refl
substitute_postfix angles (Tree.Name name at) =
    append-nil (replaced (map by_postfix angles) (node.Name name at)) ∙ lookup_postfix name angles (Tree.Name name at)
substitute_postfix angles (Tree.Negate a) =
    kept_one (map by_postfix angles) (postfix a) (postfix (tree_with_angles angles a)) node.Negate refl (substitute_postfix angles a)
substitute_postfix angles (Tree.Apply f a) =
    kept_one (map by_postfix angles) (postfix a) (postfix (tree_with_angles angles a)) (node.Apply f) refl (substitute_postfix angles a)
substitute_postfix angles (Tree.Plus a b) =
    kept_two (map by_postfix angles) (postfix a) (postfix b) (postfix (tree_with_angles angles a)) (postfix (tree_with_angles angles b)) node.Plus refl (substitute_postfix angles a) (substitute_postfix angles b)
substitute_postfix angles (Tree.Minus a b) =
    kept_two (map by_postfix angles) (postfix a) (postfix b) (postfix (tree_with_angles angles a)) (postfix (tree_with_angles angles b)) node.Minus refl (substitute_postfix angles a) (substitute_postfix angles b)
substitute_postfix angles (Tree.Times a b) =
    kept_two (map by_postfix angles) (postfix a) (postfix b) (postfix (tree_with_angles angles a)) (postfix (tree_with_angles angles b)) node.Times refl (substitute_postfix angles a) (substitute_postfix angles b)
substitute_postfix angles (Tree.Over a b) =
    kept_two (map by_postfix angles) (postfix a) (postfix b) (postfix (tree_with_angles angles a)) (postfix (tree_with_angles angles b)) node.Over refl (substitute_postfix angles a) (substitute_postfix angles b)
substitute_postfix angles (Tree.Power a b) =
    kept_two (map by_postfix angles) (postfix a) (postfix b) (postfix (tree_with_angles angles a)) (postfix (tree_with_angles angles b)) node.Power refl (substitute_postfix angles a) (substitute_postfix angles b)
