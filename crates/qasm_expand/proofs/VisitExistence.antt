-- Where the bodies of all gates are well bound, the visits of all calls come to an end; so a program is within the limits, or
-- passes one first.
use Rattle.std.proofs.Common.{◌≡◌, ℕ, zero, suc, ◌<◌, List, [], ◌∷◌, ◌++◌, length, map, ◌⊎◌, inl, inr, Option, Some, None, refl, ap, subst, sym, ◌∙◌, append-nil, arith}
use Rattle.std.specs.List.{AllByRecursion, slice_get}
use Rattle.std.proofs.lemmas.List.Elements.{recursion_from_All}
use Rattle.qasm_form.specs.declared.stmt.Node.{Node}
use Rattle.qasm_names.specs.declared.gate.Bound.{Bound}
use Rattle.qasm_names.specs.declared.gate.GateDef.{GateDef}
use Rattle.qasm_names.specs.declared.gate.Target.{Target}
use Rattle.qasm_names.specs.declared.gate.Target.TheVariants as target
use Rattle.qasm_names.specs.Environment.{environment}
use Rattle.qasm_names.specs.Accepted.{Program, AreAdmissible}
use Rattle.qasm_names.specs.Bound.{TargetTakes, IsWellBoundCall, IsWellBound}
use Rattle.qasm_expand.specs.declared.fault.LimitKind.{LimitKind}
use Rattle.qasm_expand.specs.Calls.{Visit, VisitsInOrder, none, next, at_depth, opened}
use Rattle.qasm_expand.specs.Expansion.{IsWithinLimits, PassesFirst, top_calls}
use Rattle.qasm_expand.specs.Items.{Item, program_items}
use Rattle.qasm_expand.specs.Items.Item.{Applied, Barrier, Measured}
use Rattle.qasm_expand.specs.Limits.{Passed, passed_before_calls, passed_by_calls}
use Rattle.qasm_expand.specs.Replacing.{CallsOneOf, inner, body_call, body_of}
use Rattle.qasm_expand.proofs.CallsLemmas.{gate_there}
use Rattle.qasm_expand.proofs.ExistenceLemmas.{behind_there}
use Rattle.qasm_expand.proofs.VisitLemmas.{visits_before, visits_then}

-- calls, all of which and all below them are visited
record Visited (gates : List GateDef) (calls : List Visit) : Type 0 where
  visited : List Visit
  visits : VisitsInOrder gates calls visited []

visited_append : (gates : List GateDef) (xs ys : List Visit) → Visited gates xs → Visited gates ys → Visited gates (xs ++ ys)
visited_append gates xs ys h k =
    record { visited = h.visited ++ k.visited; visits = visits_then (visits_before ys h.visits) k.visits }

-- one call
abbrev IsVisited : List GateDef → ℕ → Item → Type 0
IsVisited gates d item = Visited gates (record { depth = d; item = item } ∷ [])

visited_each : (gates : List GateDef) (d : ℕ) (items : List Item) → AllByRecursion (IsVisited gates d) items → Visited gates (at_depth d items)
visited_each gates d [] h = record { visited = []; visits = none }
visited_each gates d (item ∷ items) h =
    visited_append gates (record { depth = d; item = item } ∷ []) (at_depth d items) h.0 (visited_each gates d items h.1)

-- the calls of the gate at this place
abbrev GateVisited : List GateDef → ℕ → Type 0
GateVisited gates place = (d : ℕ) (angles : List (List Node)) (qubits : List ℕ) → IsVisited gates d (Applied (target.Gate place) angles qubits)

module _ (gates : List GateDef) (bound : (place : ℕ) → IsWellBound gates place) where
  visited_inner : (n place d exprs args : ℕ) (t : Target) (angles : List (List Node)) (qubits : List ℕ) → ((p : ℕ) → p < n → p < length gates → GateVisited gates p) → place < suc n → place < length gates → TargetTakes gates place exprs args t → IsVisited gates d (inner t angles qubits)
  visited_inner n place d exprs args (target.Gate p) angles qubits below less there takes =
      below p (omega (arith, takes.0, less)) (omega (arith, takes.0, there)) d angles qubits
  visited_inner n place d exprs args target.U angles qubits below less there takes = record { visited = _; visits = next none }
  visited_inner n place d exprs args target.Cx angles qubits below less there takes = record { visited = _; visits = next none }
  visited_inner n place d exprs args target.Cz angles qubits below less there takes = record { visited = _; visits = next none }
  visited_inner n place d exprs args target.Barrier angles qubits below less there takes = record { visited = _; visits = next none }

  visited_body : (n place d : ℕ) (g : GateDef) (put : List (List ℕ × List Node)) (qubits : List ℕ) (body : List Bound) → ((p : ℕ) → p < n → p < length gates → GateVisited gates p) → place < suc n → place < length gates → AllByRecursion (IsWellBoundCall gates place g) body → AllByRecursion (IsVisited gates d) (map (body_call put qubits) body)
  visited_body n place d g put qubits [] below less there h = tt
  visited_body n place d g put qubits (b ∷ body) below less there h =
      (visited_inner n place d (length b.exprs) (length b.args) b.target _ _ below less there h.0.takes, visited_body n place d g put qubits body below less there h.1)

  gates_visited : (n place : ℕ) → place < n → place < length gates → GateVisited gates place
  gates_visited zero place less there d angles qubits = absurd (omega (arith, less))
  gates_visited (suc n) place less there d angles qubits =
      let g = gate_there gates place there in
      let body = body_of g.0 angles qubits in
      let calls = recursion_from_All (IsWellBoundCall gates place g.0) g.0.body (bound place g.0 g.1) in
      let inside : Visited gates (at_depth (suc d) body) = visited_each gates (suc d) body (visited_body n place (suc d) g.0 _ qubits g.0.body (gates_visited n) less there calls) in
      let opens : at_depth (suc d) body ≡ opened (slice_get gates place) d angles qubits ++ [] = sym (append-nil (at_depth (suc d) body)) ∙ ap (λ o. opened o d angles qubits ++ []) (sym g.1) in
      record { visited = _; visits = next (subst (λ xs. VisitsInOrder gates xs inside.visited []) opens inside.visits) }

  item_visited : (d : ℕ) (item : Item) → CallsOneOf gates item → IsVisited gates d item
  item_visited d (Applied (target.Gate place) angles qubits) c = gates_visited (length gates) place c c d angles qubits
  item_visited d (Applied target.U angles qubits) c = record { visited = _; visits = next none }
  item_visited d (Applied target.Cx angles qubits) c = record { visited = _; visits = next none }
  item_visited d (Applied target.Cz angles qubits) c = record { visited = _; visits = next none }
  item_visited d (Applied target.Barrier angles qubits) c = record { visited = _; visits = next none }
  item_visited d Barrier c = record { visited = _; visits = next none }
  item_visited d (Measured qubit bit) c = record { visited = _; visits = next none }

  items_visited : (d : ℕ) (items : List Item) → AllByRecursion (CallsOneOf gates) items → AllByRecursion (IsVisited gates d) items
  items_visited d [] h = tt
  items_visited d (item ∷ items) h = (item_visited d item h.0, items_visited d items h.1)

-- a program whose statements aren't refused is within the limits, or passes one first
pub within_or_passes : (p : Program) → AreAdmissible p.header [] p.statements → ((place : ℕ) → IsWellBound (environment p.header p.statements).gates place) → IsWithinLimits p ⊎ ((kind : LimitKind) × (count : ℕ) × PassesFirst p kind count)
within_or_passes p good bound = by_before (passed_before_calls p.statements) refl where
  gates : List GateDef
  gates = (environment p.header p.statements).gates

  all : Visited gates (top_calls p)
  all =
      visited_each gates 1 (program_items p.header p.statements) (items_visited gates bound 1 (program_items p.header p.statements) (behind_there p.header [] p.statements p.statements refl good))

  by_calls : passed_before_calls p.statements ≡ None → (o : Option Passed) → passed_by_calls 0 0 all.visited ≡ o → IsWithinLimits p ⊎ ((kind : LimitKind) × (count : ℕ) × PassesFirst p kind count)
  by_calls before None is = inl (record { before = before; visited = all.visited; all = all.visits; calls = is })
  by_calls before (Some passed) is =
      inr (passed.0, passed.1, record { visited = all.visited; left = []; calls = all.visits; first = inr (before, is) })

  by_before : (o : Option Passed) → passed_before_calls p.statements ≡ o → IsWithinLimits p ⊎ ((kind : LimitKind) × (count : ℕ) × PassesFirst p kind count)
  by_before None is = by_calls is (passed_by_calls 0 0 all.visited) refl
  by_before (Some passed) is =
      inr (passed.0, passed.1, record { visited = []; left = top_calls p; calls = none; first = inl is })
