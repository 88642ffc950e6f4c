-- What the walk asks of the calls in the bodies of gates: they are well bound, and their numbers are short.
use Rattle.std.proofs.Common.{◌≡◌, ℕ, ◌<◌, List, length, Some, arith}
use Rattle.std.specs.List.{All, AllByRecursion, slice_get}
use Rattle.std.proofs.lemmas.List.Elements.{recursion_from_All}
use Rattle.std.proofs.lemmas.Option.{slice_get_within}
use Rattle.qasm_form.specs.declared.stmt.Expr.{Expr}
use Rattle.qasm_form.specs.declared.stmt.Node.{Node}
use Rattle.qasm_form.specs.declared.stmt.Node.TheVariants as node
use Rattle.qasm_names.specs.declared.gate.Bound.{Bound}
use Rattle.qasm_names.specs.declared.gate.GateDef.{GateDef}
use Rattle.qasm_names.specs.declared.gate.Target.{Target}
use Rattle.qasm_names.specs.declared.gate.Target.TheVariants as target
use Rattle.qasm_names.specs.Bound.{NamesOneOf, TargetTakes, IsWellBoundCall, IsWellBound}
use Rattle.qasm_expand.specs.AngleNodes.{IsOver, IsExprOver}
use Rattle.qasm_expand.specs.Fit.{Suits}
use Rattle.qasm_names.specs.Short.{IsShort, AreShortIn}
use Rattle.qasm_expand.specs.Top.{HaveShortNumbers}
use Rattle.qasm_expand.proofs.AdmissibleLemmas.{all_both}
use Rattle.qasm_expand.proofs.SoundOps.{get_all}

-- a call whose target stands before a gate suits it
suits_from : (gates : List GateDef) (place exprs args : ℕ) (t : Target) → place < length gates → TargetTakes gates place exprs args t → Suits gates t exprs args
suits_from gates place exprs args (target.Gate p) there (less, g, at, params, count) = (omega (arith, less, there), g, at, params, count)
suits_from gates place exprs args target.U there h = h
suits_from gates place exprs args target.Cx there h = h
suits_from gates place exprs args target.Cz there h = h
suits_from gates place exprs args target.Barrier there h = h

over_node : (params : List (List ℕ)) (n : Node) → NamesOneOf params n → IsShort n → IsOver params n
over_node params (node.Number text) h short = short
over_node params (node.Name name at) h short = h
over_node params other h short = tt

over_expr : (params : List (List ℕ)) (expr : Expr) → All (NamesOneOf params) expr → AllByRecursion IsShort expr → IsExprOver params expr
over_expr params expr h short = all_both (NamesOneOf params) IsShort (IsOver params) (over_node params) expr (recursion_from_All (NamesOneOf params) expr h) short

-- a call in the body of a gate
pub record BodyCall (gates : List GateDef) (g : GateDef) (b : Bound) : Type 0 where
  pub suits : Suits gates b.target (length b.exprs) (length b.args)
  pub below : AllByRecursion (λ k. k < g.args) b.args
  pub over : AllByRecursion (λ (e : Expr). IsExprOver g.params e) b.exprs

body_call_of : (gates : List GateDef) (place : ℕ) (g : GateDef) (b : Bound) → place < length gates → IsWellBoundCall gates place g b → AreShortIn b.exprs → BodyCall gates g b
body_call_of gates place g b there h short = record {
  suits = suits_from gates place (length b.exprs) (length b.args) b.target there h.takes;
  below = recursion_from_All (λ k. k < g.args) b.args h.within;
  over = all_both (λ (x : Expr). All (NamesOneOf g.params) x) (λ (x : Expr). AllByRecursion IsShort x) (λ (x : Expr). IsExprOver g.params x) (over_expr g.params) b.exprs (recursion_from_All (λ (x : Expr). All (NamesOneOf g.params) x) b.exprs h.names) short;
}

pub body_call_at : (gates : List GateDef) (place : ℕ) (g : GateDef) (i : ℕ) (b : Bound) → ((p : ℕ) → IsWellBound gates p) → HaveShortNumbers gates → slice_get gates place ≡ Some g → slice_get g.body i ≡ Some b → BodyCall gates g b
body_call_at gates place g i b bound short at call =
    let well : IsWellBoundCall gates place g b = get_all (IsWellBoundCall gates place g) g.body i b (recursion_from_All (IsWellBoundCall gates place g) g.body (bound place g at)) call in
    let numbers : AllByRecursion (λ (x : Bound). AreShortIn x.exprs) g.body = get_all (λ (x : GateDef). AllByRecursion (λ (y : Bound). AreShortIn y.exprs) x.body) gates place g short at in
    body_call_of gates place g b (slice_get_within gates place g at) well (get_all (λ (x : Bound). AreShortIn x.exprs) g.body i b numbers call)
