-- What the calls in the bodies of gates are bound to.
use Rattle.std.specs.Prelude.{◌≡◌, ◌≢◌, ℕ, ◌<◌, List, length, Some, slice_get}
use Rattle.std.specs.List.{All, AllPairs, Contains}
use Rattle.qasm_form.specs.declared.stmt.Expr.{Expr}
use Rattle.qasm_form.specs.declared.stmt.Node.{Node}
use Rattle.qasm_form.specs.declared.stmt.Node.TheVariants as node
use Rattle.qasm_names.specs.declared.gate.Bound.{Bound}
use Rattle.qasm_names.specs.declared.gate.GateDef.{GateDef}
use Rattle.qasm_names.specs.declared.gate.Target.{Target}
use Rattle.qasm_names.specs.declared.gate.Target.TheVariants as target

-- The node is no name, or one of these.
abbrev pub NamesOneOf : List (List ℕ) → Node → Type 0
NamesOneOf params (node.Name name at) = Contains params name
NamesOneOf params other = Unit {0}

-- the target takes so many angles and arguments, and a gate stands before this place
abbrev pub TargetTakes : List GateDef → ℕ → ℕ → ℕ → Target → Type 0
TargetTakes gates place exprs args target.U = (exprs ≡ 3) × (args ≡ 1)
TargetTakes gates place exprs args target.Cx = (exprs ≡ 0) × (args ≡ 2)
TargetTakes gates place exprs args target.Cz = (exprs ≡ 0) × (args ≡ 2)
TargetTakes gates place exprs args target.Barrier = Unit {0}
TargetTakes gates place exprs args (target.Gate p) =
    (p < place) × (g : GateDef) × (slice_get gates p ≡ Some g) × (exprs ≡ length g.params) × (args ≡ g.args)

-- the arguments differ; those of a barrier needn't
abbrev pub AreDistinctFor : List ℕ → Target → Type 0
AreDistinctFor args target.Barrier = Unit {0}
AreDistinctFor args other = AllPairs (λ a b. a ≢ b) args

-- The call's target takes what the call brings, its arguments are the gate's and apart, and its angles use the gate's
-- parameters alone.
pub record IsWellBoundCall (gates : List GateDef) (place : ℕ) (gate : GateDef) (call : Bound) : Type 0 where
  pub takes : TargetTakes gates place (length call.exprs) (length call.args) call.target
  pub within : All (λ k. k < gate.args) call.args
  pub apart : AreDistinctFor call.args call.target
  pub names : All (λ (expr : Expr). All (NamesOneOf gate.params) expr) call.exprs

-- Each call in the body of the gate at this place is so.
abbrev pub IsWellBound : List GateDef → ℕ → Type 0
IsWellBound gates place =
    (gate : GateDef) → slice_get gates place ≡ Some gate → All (IsWellBoundCall gates place gate) gate.body
