-- The text of an expression without names is an angle's.
use Rattle.std.proofs.Common.{◌≡◌, ℕ, ◌+◌, ◌*◌, ◌<◌, ◌≤◌, List, [], ◌∷◌, ◌++◌, length, refl, sym as flip, ◌∙◌, subst, arith, IsTrue, length-append}
use Rattle.std.specs.Prelude.{codes}
use Rattle.std.specs.List.{AllByRecursion, list_all}
use Rattle.std.proofs.lemmas.Bool.{and_from, le-leb}
use Rattle.std.proofs.lemmas.List.Folds.{list_all-append}
use Rattle.zac_gates.specs.Angle.{is_angle_byte, is_angle}
use Rattle.qasm_form.specs.declared.stmt.Function.{Function}
use Rattle.qasm_form.specs.declared.stmt.Function.TheVariants as fun
use Rattle.qasm_form.specs.declared.stmt.Node.{Node}
use Rattle.qasm_form.specs.declared.stmt.Node.TheVariants as node
use Rattle.qasm_form.specs.Numbers.{HasNumber, IsNumber}
use Rattle.qasm_form.specs.Postfix.{IsPostfix}
use Rattle.qasm_expand.specs.Trees.{Tree, postfix, function_text, signed, text}
use Rattle.qasm_expand.specs.Angles.{tree_of, angle_text}
use Rattle.qasm_expand.specs.AngleNodes.{IsOver, HasNoNames}
use Rattle.qasm_expand.proofs.TreesLemmas.{postfix_tree_of}

-- a text is made of an angle's bytes, one at least, and at most 46 for each of so many nodes
abbrev Fits : ℕ → List ℕ → Type 0
Fits nodes text = (0 < length text) × (length text ≤ 46 * nodes) × IsTrue (list_all is_angle_byte text)

append_pass : (xs ys : List ℕ) → IsTrue (list_all is_angle_byte xs) → IsTrue (list_all is_angle_byte ys) → IsTrue (list_all is_angle_byte (xs ++ ys))
append_pass xs ys left right = list_all-append is_angle_byte xs ys ∙ and_from _ _ left right

-- ---- an operator with its operands

one_fits : (front operand : List ℕ) (ns : List Node) (x : Node) → 0 < length front → length front ≤ 5 → IsTrue (list_all is_angle_byte front) → Fits (length ns) operand → Fits (length (ns ++ x ∷ [])) (front ++ (operand ++ codes ")"))
one_fits front operand ns x some few pass h = (
  omega (arith, some, length-append front (operand ++ codes ")")),
  omega (arith, few, h.1, length-append front (operand ++ codes ")"), length-append operand (codes ")"), length-append ns (x ∷ [])),
  append_pass front (operand ++ codes ")") pass (append_pass operand (codes ")") h.2 refl),
)

apply_fits : (f : Function) (operand : List ℕ) (ns : List Node) (x : Node) → Fits (length ns) operand → Fits (length (ns ++ x ∷ [])) (function_text f ++ (codes "(" ++ (operand ++ codes ")")))
apply_fits fun.Sin operand ns x h = one_fits (codes "sin(") operand ns x (omega arith) (omega arith) refl h
apply_fits fun.Cos operand ns x h = one_fits (codes "cos(") operand ns x (omega arith) (omega arith) refl h
apply_fits fun.Tan operand ns x h = one_fits (codes "tan(") operand ns x (omega arith) (omega arith) refl h
apply_fits fun.Exp operand ns x h = one_fits (codes "exp(") operand ns x (omega arith) (omega arith) refl h
apply_fits fun.Ln operand ns x h = one_fits (codes "ln(") operand ns x (omega arith) (omega arith) refl h
apply_fits fun.Sqrt operand ns x h = one_fits (codes "sqrt(") operand ns x (omega arith) (omega arith) refl h

signed_length : (sign left right : List ℕ) → length sign ≡ 1 → length (signed sign left right) ≡ 3 + (length left + length right)
signed_length sign left right h =
    omega (arith, h, length-append left (sign ++ (right ++ codes ")")), length-append sign (right ++ codes ")"), length-append right (codes ")"))

signed_pass : (sign left right : List ℕ) → IsTrue (list_all is_angle_byte sign) → IsTrue (list_all is_angle_byte left) → IsTrue (list_all is_angle_byte right) → IsTrue (list_all is_angle_byte (signed sign left right))
signed_pass sign left right h l r =
    append_pass (codes "(") (left ++ (sign ++ (right ++ codes ")"))) refl (append_pass left (sign ++ (right ++ codes ")")) l (append_pass sign (right ++ codes ")") h (append_pass right (codes ")") r refl)))

two_fits : (sign left right : List ℕ) (ns ms : List Node) (x : Node) → length sign ≡ 1 → IsTrue (list_all is_angle_byte sign) → Fits (length ns) left → Fits (length ms) right → Fits (length (ns ++ (ms ++ x ∷ []))) (signed sign left right)
two_fits sign left right ns ms x one pass h k =
    let all = signed_length sign left right one in (
      omega (arith, all),
      omega (arith, all, h.1, k.1, length-append ns (ms ++ x ∷ []), length-append ms (x ∷ [])),
      signed_pass sign left right pass h.2 k.2,
    )

-- ---- a tree

before_all : {X : Type 0} (P : X → Type 0) (xs ys : List X) → AllByRecursion P (xs ++ ys) → AllByRecursion P xs
before_all P [] ys h = tt
before_all P (x ∷ xs) ys h = (h.0, before_all P xs ys h.1)

behind_all : {X : Type 0} (P : X → Type 0) (xs ys : List X) → AllByRecursion P (xs ++ ys) → AllByRecursion P ys
behind_all P [] ys h = h
behind_all P (x ∷ xs) ys h = behind_all P xs ys h.1

-- a node of an expression without names, whose number's text is a number
abbrev IsAngleNode : Node → Type 0
IsAngleNode x = HasNumber x × IsOver [] x

abbrev AreAngleNodes : List Node → Type 0
AreAngleNodes nodes = AllByRecursion IsAngleNode nodes

both : (nodes : List Node) → AllByRecursion HasNumber nodes → HasNoNames nodes → AreAngleNodes nodes
both [] numbers closed = tt
both (x ∷ nodes) numbers closed = ((numbers.0, closed.0), both nodes numbers.1 closed.1)

left_fit : (a b : Tree) (x : Node) → AreAngleNodes (postfix a ++ (postfix b ++ x ∷ [])) → AreAngleNodes (postfix a)
left_fit a b x h = before_all IsAngleNode (postfix a) (postfix b ++ x ∷ []) h

right_fit : (a b : Tree) (x : Node) → AreAngleNodes (postfix a ++ (postfix b ++ x ∷ [])) → AreAngleNodes (postfix b)
right_fit a b x h = before_all IsAngleNode (postfix b) (x ∷ []) (behind_all IsAngleNode (postfix a) (postfix b ++ x ∷ []) h)

-- what is known of numbers
abbrev pub NumbersFit : Type 0
NumbersFit = (source : List ℕ) → IsNumber source → (0 < length source) × IsTrue (list_all is_angle_byte source)

module _ (numbers : NumbersFit) where
  tree_fits : (t : Tree) → AreAngleNodes (postfix t) → Fits (length (postfix t)) (text t)
  tree_fits (Tree.Number source) h =
      let fits = numbers source h.0.0 in
      (fits.0, omega (arith, h.0.1), fits.1)
  tree_fits Tree.Pi h = (omega arith, omega arith, refl)
  tree_fits (Tree.Name name at) h = absurd (omega (arith, h.0.1.1))
  tree_fits (Tree.Negate a) h =
      one_fits (codes "(-") (text a) (postfix a) node.Negate (omega arith) (omega arith) refl (tree_fits a (before_all IsAngleNode (postfix a) (node.Negate ∷ []) h))
  tree_fits (Tree.Apply f a) h =
      apply_fits f (text a) (postfix a) (node.Apply f) (tree_fits a (before_all IsAngleNode (postfix a) (node.Apply f ∷ []) h))
  tree_fits (Tree.Plus a b) h =
      two_fits (codes "+") (text a) (text b) (postfix a) (postfix b) node.Plus refl refl (tree_fits a (left_fit a b node.Plus h)) (tree_fits b (right_fit a b node.Plus h))
  tree_fits (Tree.Minus a b) h =
      two_fits (codes "-") (text a) (text b) (postfix a) (postfix b) node.Minus refl refl (tree_fits a (left_fit a b node.Minus h)) (tree_fits b (right_fit a b node.Minus h))
  tree_fits (Tree.Times a b) h =
      two_fits (codes "*") (text a) (text b) (postfix a) (postfix b) node.Times refl refl (tree_fits a (left_fit a b node.Times h)) (tree_fits b (right_fit a b node.Times h))
  tree_fits (Tree.Over a b) h =
      two_fits (codes "/") (text a) (text b) (postfix a) (postfix b) node.Over refl refl (tree_fits a (left_fit a b node.Over h)) (tree_fits b (right_fit a b node.Over h))
  tree_fits (Tree.Power a b) h =
      two_fits (codes "^") (text a) (text b) (postfix a) (postfix b) node.Power refl refl (tree_fits a (left_fit a b node.Power h)) (tree_fits b (right_fit a b node.Power h))

  -- of at most 256 nodes that are an expression without names
  pub text_is_angle : (nodes : List Node) → length nodes ≤ 256 → IsPostfix nodes → AllByRecursion HasNumber nodes → HasNoNames nodes → IsTrue (is_angle (angle_text nodes))
  text_is_angle nodes few postfix_order with_numbers closed =
      let same : postfix (tree_of nodes) ≡ nodes = postfix_tree_of nodes postfix_order in
      let fits : Fits (length nodes) (angle_text nodes) = subst (λ ns. Fits (length ns) (angle_text nodes)) same (tree_fits (tree_of nodes) (subst AreAngleNodes (flip same) (both nodes with_numbers closed))) in
      let some : 1 ≤ length (angle_text nodes) = omega (arith, fits.0) in
      let most : length (angle_text nodes) ≤ 16384 = omega (arith, fits.1, few) in
      and_from _ _ (and_from _ _ (le-leb _ _ some) (le-leb _ _ most)) fits.2
