-- Angles put in for parameters: what is made is an expression again.
use Rattle.std.proofs.Common.{◌≡◌, ℕ, zero, suc, ◌+◌, ◌<◌, ◌≤◌, Bool, true, false, cond, List, [], ◌∷◌, ◌++◌, length, get_or, take, drop, Option, Some, refl, ap, sym, ◌∙◌, subst, arith}
use Rattle.std.specs.List.{AllByRecursion, zip}
use Rattle.std.specs.Map.{lookup}
use Rattle.std.specs.Str.{bytes_eq}
use Rattle.std.proofs.lemmas.List.{take_more, take_all, drop_more, drop_all, append-nil, append_assoc}
use Rattle.std.proofs.lemmas.Slice.Eq.{bytes_eq-Decides}
use Rattle.std.proofs.lemmas.Bool.{false≢true}
use Rattle.qasm_form.specs.declared.stmt.Node.{Node}
use Rattle.qasm_form.specs.declared.stmt.Node.TheVariants as node
use Rattle.qasm_form.specs.Numbers.{HasNumber, IsExpression}
use Rattle.qasm_form.specs.Postfix.{with_one, with_two, operands, IsPostfix}
use Rattle.qasm_names.specs.Names.{value_or}
use Rattle.qasm_expand.specs.Angles.{replaced, substitute}
use Rattle.qasm_expand.specs.AngleNodes.{IsOver, IsExprOver, HasNoNames, StandsFor}

abbrev Pairs : Type 0
Pairs = List (List ℕ × List Node)

-- ---- operands

-- an operator above n more operands goes on as it does without them
one_above : (f g : ℕ → Option ℕ) (k j n m : ℕ) (end : Option ℕ) → ((i l : ℕ) → l ≡ i + n → f i ≡ Some m → g l ≡ end) → j ≡ k + n → with_one k f ≡ Some m → with_one j g ≡ end
one_above f g zero j n m end to e h = absurd (cc)
one_above f g (suc k) zero n m end to e h = absurd (omega (arith, e))
one_above f g (suc k) (suc j) n m end to e h = to (suc k) (suc j) e h

two_above : (f g : ℕ → Option ℕ) (k j n m : ℕ) (end : Option ℕ) → ((i l : ℕ) → l ≡ i + n → f i ≡ Some m → g l ≡ end) → j ≡ k + n → with_two k f ≡ Some m → with_two j g ≡ end
two_above f g zero j n m end to e h = absurd (cc)
two_above f g (suc zero) j n m end to e h = absurd (cc)
two_above f g (suc (suc k)) zero n m end to e h = absurd (omega (arith, e))
two_above f g (suc (suc k)) (suc zero) n m end to e h = absurd (omega (arith, e))
two_above f g (suc (suc k)) (suc (suc j)) n m end to e h = to (suc k) (suc j) (omega (arith, e)) h

some_number : {a b : ℕ} → Some a ≡ Some b → a ≡ b
some_number e = cc

-- nodes above n more operands leave theirs and those
operands_above : (xs rest : List Node) (n m k j : ℕ) → j ≡ k + n → operands xs k ≡ Some m → operands (xs ++ rest) j ≡ operands rest (m + n)
operands_above [] rest n m k j e h =
    let same : k ≡ m = some_number h in
    let to : j ≡ m + n = omega (arith, e, same) in
    ap (operands rest) to
operands_above (node.Number text ∷ xs) rest n m k j e h =
    operands_above xs rest n m (suc k) (suc j) (omega (arith, e)) h
operands_above (node.Pi ∷ xs) rest n m k j e h =
    operands_above xs rest n m (suc k) (suc j) (omega (arith, e)) h
operands_above (node.Name name at ∷ xs) rest n m k j e h =
    operands_above xs rest n m (suc k) (suc j) (omega (arith, e)) h
operands_above (node.Negate ∷ xs) rest n m k j e h =
    one_above (operands xs) (operands (xs ++ rest)) k j n m (operands rest (m + n)) (λ i l d g. operands_above xs rest n m i l d g) e h
operands_above (node.Apply f ∷ xs) rest n m k j e h =
    one_above (operands xs) (operands (xs ++ rest)) k j n m (operands rest (m + n)) (λ i l d g. operands_above xs rest n m i l d g) e h
operands_above (node.Plus ∷ xs) rest n m k j e h =
    two_above (operands xs) (operands (xs ++ rest)) k j n m (operands rest (m + n)) (λ i l d g. operands_above xs rest n m i l d g) e h
operands_above (node.Minus ∷ xs) rest n m k j e h =
    two_above (operands xs) (operands (xs ++ rest)) k j n m (operands rest (m + n)) (λ i l d g. operands_above xs rest n m i l d g) e h
operands_above (node.Times ∷ xs) rest n m k j e h =
    two_above (operands xs) (operands (xs ++ rest)) k j n m (operands rest (m + n)) (λ i l d g. operands_above xs rest n m i l d g) e h
operands_above (node.Over ∷ xs) rest n m k j e h =
    two_above (operands xs) (operands (xs ++ rest)) k j n m (operands rest (m + n)) (λ i l d g. operands_above xs rest n m i l d g) e h
operands_above (node.Power ∷ xs) rest n m k j e h =
    two_above (operands xs) (operands (xs ++ rest)) k j n m (operands rest (m + n)) (λ i l d g. operands_above xs rest n m i l d g) e h

-- an expression is one operand
expression_operand : (xs rest : List Node) (n : ℕ) → IsPostfix xs → operands (xs ++ rest) n ≡ operands rest (suc n)
expression_operand xs rest n h =
    let to : 1 + n ≡ suc n = omega arith in
    operands_above xs rest n 1 0 n (omega arith) h ∙ ap (operands rest) to

-- ---- look-ups

value_cases : {X : Type 0} (P : X → Type 0) (b : Bool) (x : X) (o : Option X) (other : X) → P x → (b ≡ false → P (value_or o other)) → P (value_or (cond b (Some x) o) other)
value_cases P true x o other here later = here
value_cases P false x o other here later = later refl

-- a name that is there finds a value
lookup_there : {X : Type 0} (P : X → Type 0) (ks : List (List ℕ)) (xs : List X) (name : List ℕ) → length ks ≤ length xs → AllByRecursion P xs → (k : ℕ) → k < length ks → get_or ks k name ≡ name → (other : X) → P (value_or (lookup (bytes_eq name) (zip ks xs)) other)
lookup_there P [] xs name enough all k within is other = absurd (omega arith)
lookup_there P (key ∷ ks) [] name enough all k within is other = absurd (omega arith)
lookup_there P (key ∷ ks) (x ∷ xs) name enough all zero within is other =
    let passes : bytes_eq name key ≡ true = (bytes_eq-Decides name key).1 (sym is) in
    value_cases P (bytes_eq name key) x (lookup (bytes_eq name) (zip ks xs)) other all.0 (λ fails. absurd (false≢true (sym fails ∙ passes)))
lookup_there P (key ∷ ks) (x ∷ xs) name enough all (suc k) within is other =
    value_cases P (bytes_eq name key) x (lookup (bytes_eq name) (zip ks xs)) other all.0 (λ fails. lookup_there P ks xs name (omega arith) all.1 k (omega arith) is other)

-- ---- what is put in

all_append : {X : Type 0} (P : X → Type 0) (xs ys : List X) → AllByRecursion P xs → AllByRecursion P ys → AllByRecursion P (xs ++ ys)
all_append P [] ys left right = right
all_append P (x ∷ xs) ys left right = (left.0, all_append P xs ys left.1 right)

one_same : (f g : ℕ → Option ℕ) (n : ℕ) → ((k : ℕ) → f k ≡ g k) → with_one n f ≡ with_one n g
one_same f g zero to = refl
one_same f g (suc n) to = to (suc n)

two_same : (f g : ℕ → Option ℕ) (n : ℕ) → ((k : ℕ) → f k ≡ g k) → with_two n f ≡ with_two n g
two_same f g zero to = refl
two_same f g (suc zero) to = refl
two_same f g (suc (suc n)) to = to (suc n)

-- expressions stand for names
abbrev pub AllStand : Pairs → List Node → Type 0
AllStand es nodes = AllByRecursion (λ x. StandsFor x (replaced es x)) nodes

pub stand_more : (es : Pairs) (nodes : List Node) (i : ℕ) (x : Node) → i < length nodes → x ≡ get_or nodes i x → AllStand es (take i nodes) → StandsFor x (replaced es x) → AllStand es (take (i + 1) nodes)
stand_more es nodes i x within is all here =
    let next : take (i + 1) nodes ≡ take i nodes ++ x ∷ [] = take_more nodes i x within ∙ ap (λ y. take i nodes ++ y ∷ []) (sym is) in
    subst (AllStand es) (sym next) (all_append (λ y. StandsFor y (replaced es y)) (take i nodes) (x ∷ []) all (here, tt))

-- the operands of an expression don't change where expressions are put in
substitute_operands : (es : Pairs) (nodes : List Node) → AllStand es nodes → (n : ℕ) → operands (substitute es nodes) n ≡ operands nodes n
substitute_operands es [] all n = refl
substitute_operands es (node.Number text ∷ nodes) all n = substitute_operands es nodes all.1 (suc n)
substitute_operands es (node.Pi ∷ nodes) all n = substitute_operands es nodes all.1 (suc n)
substitute_operands es (node.Name name at ∷ nodes) all n =
    expression_operand (replaced es (node.Name name at)) (substitute es nodes) n all.0.postfix ∙ substitute_operands es nodes all.1 (suc n)
substitute_operands es (node.Negate ∷ nodes) all n =
    one_same (operands (substitute es nodes)) (operands nodes) n (substitute_operands es nodes all.1)
substitute_operands es (node.Apply f ∷ nodes) all n =
    one_same (operands (substitute es nodes)) (operands nodes) n (substitute_operands es nodes all.1)
substitute_operands es (node.Plus ∷ nodes) all n =
    two_same (operands (substitute es nodes)) (operands nodes) n (substitute_operands es nodes all.1)
substitute_operands es (node.Minus ∷ nodes) all n =
    two_same (operands (substitute es nodes)) (operands nodes) n (substitute_operands es nodes all.1)
substitute_operands es (node.Times ∷ nodes) all n =
    two_same (operands (substitute es nodes)) (operands nodes) n (substitute_operands es nodes all.1)
substitute_operands es (node.Over ∷ nodes) all n =
    two_same (operands (substitute es nodes)) (operands nodes) n (substitute_operands es nodes all.1)
substitute_operands es (node.Power ∷ nodes) all n =
    two_same (operands (substitute es nodes)) (operands nodes) n (substitute_operands es nodes all.1)

stands_numbers : (x : Node) (nodes : List Node) → HasNumber x → StandsFor x nodes → AllByRecursion HasNumber nodes
stands_numbers (node.Name name at) nodes number stands = stands.numbers
stands_numbers (node.Number text) nodes number stands = subst (AllByRecursion HasNumber) (sym stands) (number, tt)
stands_numbers other nodes number stands = subst (AllByRecursion HasNumber) (sym stands) (tt, tt)

substitute_numbers : (es : Pairs) (nodes : List Node) → AllStand es nodes → AllByRecursion HasNumber nodes → AllByRecursion HasNumber (substitute es nodes)
substitute_numbers es [] all h = tt
substitute_numbers es (x ∷ nodes) all h =
    all_append HasNumber (replaced es x) (substitute es nodes) (stands_numbers x (replaced es x) h.0 all.0) (substitute_numbers es nodes all.1 h.1)

-- an expression with expressions put in is an expression
substitute_expression : (es : Pairs) (nodes : List Node) → AllStand es nodes → IsExpression nodes → IsExpression (substitute es nodes)
substitute_expression es nodes all h = record {
  postfix = substitute_operands es nodes all 0 ∙ h.postfix;
  numbers = substitute_numbers es nodes all h.numbers;
}

-- what holds of all that stands for each node holds of what is made
substitute_all : (P : Node → Type 0) (es : Pairs) (Q : Node → Type 0) → ((x : Node) → Q x → AllByRecursion P (replaced es x)) → (nodes : List Node) → AllByRecursion Q nodes → AllByRecursion P (substitute es nodes)
substitute_all P es Q each [] all = tt
substitute_all P es Q each (x ∷ nodes) all =
    all_append P (replaced es x) (substitute es nodes) (each x all.0) (substitute_all P es Q each nodes all.1)

replaced_closed : (params : List (List ℕ)) (angles : List (List Node)) → length params ≤ length angles → AllByRecursion HasNoNames angles → (x : Node) → IsOver params x → HasNoNames (replaced (zip params angles) x)
replaced_closed params angles enough all (node.Name name at) h =
    lookup_there HasNoNames params angles name enough all h.0 h.1 h.2 (node.Name name at ∷ [])
replaced_closed params angles enough all (node.Number text) h = (h, tt)
replaced_closed params angles enough all other h = (tt, tt)

-- an expression over parameters has no names once an angle is put in for each
pub substitute_closed : (params : List (List ℕ)) (angles : List (List Node)) (nodes : List Node) → length params ≤ length angles → AllByRecursion HasNoNames angles → IsExprOver params nodes → HasNoNames (substitute (zip params angles) nodes)
substitute_closed params angles nodes enough all h =
    substitute_all (IsOver []) (zip params angles) (IsOver params) (replaced_closed params angles enough all) nodes h

-- ---- the loop over the nodes

pub put_more : (es : Pairs) (nodes : List Node) (i : ℕ) (x : Node) (old new all : List Node) → i < length nodes → x ≡ get_or nodes i x → new ≡ old ++ replaced es x → old ++ substitute es (drop i nodes) ≡ all → new ++ substitute es (drop (i + 1) nodes) ≡ all
put_more es nodes i x old new all within is made before =
    let rest : drop i nodes ≡ x ∷ drop (i + 1) nodes = cc (drop_more nodes i x within, is) in
    let now : old ++ substitute es (x ∷ drop (i + 1) nodes) ≡ all = ap (λ ns. old ++ substitute es ns) (sym rest) ∙ before in
    ap (λ ns. ns ++ substitute es (drop (i + 1) nodes)) made ∙ (append_assoc old (replaced es x) (substitute es (drop (i + 1) nodes)) ∙ now)

pub put_done : (es : Pairs) (nodes : List Node) (i : ℕ) (old all : List Node) → length nodes ≤ i → old ++ substitute es (drop i nodes) ≡ all → old ≡ all
put_done es nodes i old all end before =
    sym (append-nil old) ∙ (ap (λ ns. old ++ substitute es ns) (sym (drop_all i nodes end)) ∙ before)

-- with all nodes read, what is made is an expression
pub put_expression : (es : Pairs) (nodes : List Node) (i : ℕ) → length nodes ≤ i → AllStand es (take i nodes) → IsExpression nodes → IsExpression (substitute es nodes)
put_expression es nodes i end all h = substitute_expression es nodes (subst (AllStand es) (take_all i nodes end) all) h
