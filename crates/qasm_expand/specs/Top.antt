-- Inside: the calls of one statement, by the registers that the program's statements declare.
use Rattle.std.specs.Prelude.{◌≡◌, ℕ, List, [], ◌∷◌, Option, Some, None, map, take, slice_get}
use Rattle.std.specs.List.{AllByRecursion, flat_map, range_with_len}
use Rattle.qasm_form.specs.declared.stmt.Arg.{Arg}
use Rattle.qasm_form.specs.declared.stmt.BodyOp.{BodyOp}
use Rattle.qasm_form.specs.declared.stmt.Stmt.{Stmt}
use Rattle.qasm_names.specs.declared.gate.Bound.{Bound}
use Rattle.qasm_names.specs.declared.gate.GateDef.{GateDef}
use Rattle.qasm_names.specs.declared.gate.Target.{Target}
use Rattle.qasm_names.specs.Accepted.{Program}
use Rattle.qasm_names.specs.Applications.{applications}
use Rattle.qasm_names.specs.Environment.{environment}
use Rattle.qasm_names.specs.Short.{AreShortIn}
use Rattle.qasm_expand.specs.Calls.{Visit, at_depth}
use Rattle.qasm_expand.specs.Items.{application, measurement, items_of}
use Rattle.qasm_expand.specs.Expansion.{top_calls}
use Rattle.qasm_expand.specs.Sized.{sized}
use Rattle.qasm_expand.specs.Walks.{Walks, Passes}
use Rattle.qasm_expand.specs.declared.fault.ExpandFault.{ExpandFault}
use Rattle.qasm_expand.specs.declared.walk.Walk.{Walk}

-- The applications of a call at the top, each with depth 1, by the registers that the statements declare.
abbrev pub visits_of : List Stmt → Target → BodyOp → List Visit
visits_of all t call = at_depth 1 (map (application all t call) (range_with_len 0 (applications (sized all) call.args)))

-- The same of a measurement.
abbrev pub readings_of : List Stmt → Arg → Arg → List Visit
readings_of all from into = at_depth 1 (map (measurement all from into) (range_with_len 0 (applications (sized all) (from ∷ []))))

-- Each number in the calls of a body has at most 40 bytes.
abbrev pub AreShortBodies : List Bound → Type 0
AreShortBodies body = AllByRecursion (λ (b : Bound). AreShortIn b.exprs) body

-- So has each number in the bodies of these gates.
abbrev pub HaveShortNumbers : List GateDef → Type 0
HaveShortNumbers gates = AllByRecursion (λ (g : GateDef). AreShortBodies g.body) gates

-- the visits of the statement at a place, and of those before it
abbrev pub visits_in : Program → ℕ → Option Stmt → List Visit
visits_in p i None = []
visits_in p i (Some s) = at_depth 1 (items_of (environment p.header (take i p.statements)) p.statements s)

-- The calls of the statement at a place, each with depth 1; none where there is no statement.
abbrev pub visits_at : Program → ℕ → List Visit
visits_at p i = visits_in p i (slice_get p.statements i)

-- Those of the statements before a place.
abbrev pub visits_below : Program → ℕ → List Visit
visits_below p i = flat_map (visits_at p) (range_with_len 0 i)

-- From a walk that has counted and written nothing, all calls of the program and all below them were visited within
-- the limits.
pub record IsWalked (p : Program) (end : Walk) : Type 0 where
  pub start : Walk
  pub calls : start.calls ≡ 0
  pub nodes : start.nodes ≡ 0
  pub ops : start.ops.items ≡ []
  pub walks : Walks (environment p.header p.statements).gates start end (top_calls p)

-- From a walk that has counted nothing, the visits of the program's calls come to one that passes a limit, which the
-- fault tells; or memory was wanting.
pub record IsStopped (p : Program) (e : ExpandFault) : Type 0 where
  pub start : Walk
  pub calls : start.calls ≡ 0
  pub nodes : start.nodes ≡ 0
  pub passes : Passes (environment p.header p.statements).gates start (top_calls p) e
