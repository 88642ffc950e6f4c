-- The calls in their order, with their depths: a call comes right before the calls of its body, and these come before the
-- next call.
use Rattle.std.specs.Prelude.{ℕ, suc, List, [], ◌∷◌, ◌++◌, map, Option, Some, None, slice_get}
use Rattle.qasm_form.specs.declared.stmt.Node.{Node}
use Rattle.qasm_names.specs.declared.gate.GateDef.{GateDef}
use Rattle.qasm_names.specs.declared.gate.Target.TheVariants as target
use Rattle.qasm_expand.specs.Items.{Item}
use Rattle.qasm_expand.specs.Items.Item.{Applied}
use Rattle.qasm_expand.specs.Replacing.{body_of}

-- A call and its depth.
pub record Visit : Type 0 where
  pub depth : ℕ
  pub item : Item

-- Items, each with this depth.
abbrev pub at_depth : ℕ → List Item → List Visit
at_depth d items = map (λ item. record { depth = d; item = item }) items

-- The calls without their depths.
abbrev pub items_in : List Visit → List Item
items_in calls = map (λ v. v.item) calls

-- The calls of a gate's body, one deeper than the call; none where there is no gate.
abbrev pub opened : Option GateDef → ℕ → List (List Node) → List ℕ → List Visit
opened (Some g) d angles qubits = at_depth (suc d) (body_of g angles qubits)
opened None d angles qubits = []

-- The calls of the body of the gate that an item calls; none for any other item.
abbrev pub within : List GateDef → ℕ → Item → List Visit
within gates d (Applied (target.Gate place) angles qubits) = opened (slice_get gates place) d angles qubits
within gates d other = []

-- from these calls, those that come first are visited and others are left
pub data VisitsInOrder (gates : List GateDef) : List Visit → List Visit → List Visit → Type 0 where
  none : {pending : List Visit} → VisitsInOrder gates pending [] pending
  next : {v : Visit} {pending visited left : List Visit} → VisitsInOrder gates (within gates v.depth v.item ++ pending) visited left → VisitsInOrder gates (v ∷ pending) (v ∷ visited) left
