-- Angles that are put into expressions over a gate's parameters have no names.
use Rattle.std.proofs.Common.{◌≡◌, ℕ, zero, suc, List, [], ◌∷◌, ◌++◌, length, Bool, true, false, cond, Option, Some, Decides, sym as flip, arith}
use Rattle.std.specs.Prelude.{zip}
use Rattle.std.specs.List.{AllByRecursion, Contains}
use Rattle.std.specs.Map.{lookup}
use Rattle.std.specs.Str.{bytes_eq}
use Rattle.std.proofs.lemmas.Bool.{false≢true}
use Rattle.std.proofs.lemmas.Slice.Eq.{bytes_eq-Decides}
use Rattle.qasm_form.specs.declared.stmt.Expr.{Expr}
use Rattle.qasm_form.specs.declared.stmt.Node.{Node}
use Rattle.qasm_form.specs.declared.stmt.Node.TheVariants as node
use Rattle.qasm_names.specs.Names.{value_or}
use Rattle.qasm_expand.specs.Angles.{replaced, substitute}
use Rattle.qasm_expand.specs.Walks.{angles_in}
use Rattle.qasm_expand.specs.AngleNodes.{IsOver, IsExprOver, HasNoNames}

pub all_append : {X : Type 0} (P : X → Type 0) (xs ys : List X) → AllByRecursion P xs → AllByRecursion P ys → AllByRecursion P (xs ++ ys)
all_append P [] ys h k = k
all_append P (x ∷ xs) ys h k = (h.0, all_append P xs ys h.1 k)

contains_rest : (p name : List ℕ) (params : List (List ℕ)) → (name ≡ p → ⊥) → Contains (p ∷ params) name → Contains params name
contains_rest p name params not (zero, within, same) = absurd (not (flip same))
contains_rest p name params not (suc k, within, same) = (k, omega (arith, within), same)

by_test : (b : Bool) (name p : List ℕ) (a : List Node) (o : Option (List Node)) (other : List Node) → Decides b (name ≡ p) → HasNoNames a → ((name ≡ p → ⊥) → HasNoNames (value_or o other)) → HasNoNames (value_or (cond b (Some a) o) other)
by_test true name p a o other d closed rest = closed
by_test false name p a o other d closed rest = rest (λ e. false≢true (d.1 e))

-- what is put in for a parameter
found_closed : (name : List ℕ) (at : ℕ) (params : List (List ℕ)) (angles : List (List Node)) → length angles ≡ length params → AllByRecursion HasNoNames angles → Contains params name → HasNoNames (value_or (lookup (bytes_eq name) (zip params angles)) (node.Name name at ∷ []))
found_closed name at [] angles same closed (k, within, is) = absurd (omega (arith, within))
found_closed name at (p ∷ params) [] same closed has = absurd (omega (arith, same))
found_closed name at (p ∷ params) (a ∷ angles) same closed has =
    by_test (bytes_eq name p) name p a (lookup (bytes_eq name) (zip params angles)) (node.Name name at ∷ []) (bytes_eq-Decides name p) closed.0 (λ not. found_closed name at params angles (omega (arith, same)) closed.1 (contains_rest p name params not has))

replaced_closed : (params : List (List ℕ)) (angles : List (List Node)) → length angles ≡ length params → AllByRecursion HasNoNames angles → (n : Node) → IsOver params n → HasNoNames (replaced (zip params angles) n)
replaced_closed params angles same closed (node.Name name at) h = found_closed name at params angles same closed h
replaced_closed params angles same closed (node.Number text) h = (h, tt)
replaced_closed params angles same closed other h = (tt, tt)

put_closed : (params : List (List ℕ)) (angles : List (List Node)) → length angles ≡ length params → AllByRecursion HasNoNames angles → (nodes : List Node) → IsExprOver params nodes → HasNoNames (substitute (zip params angles) nodes)
put_closed params angles same closed [] h = tt
put_closed params angles same closed (n ∷ nodes) h =
    all_append (IsOver []) _ _ (replaced_closed params angles same closed n h.0) (put_closed params angles same closed nodes h.1)

pub angles_closed : (params : List (List ℕ)) (angles exprs : List (List Node)) → length angles ≡ length params → AllByRecursion HasNoNames angles → AllByRecursion (λ (e : Expr). IsExprOver params e) exprs → AllByRecursion HasNoNames (angles_in params angles exprs)
angles_closed params angles [] same closed over = tt
angles_closed params angles (e ∷ exprs) same closed over =
    (put_closed params angles same closed e over.0, angles_closed params angles exprs same closed over.1)
