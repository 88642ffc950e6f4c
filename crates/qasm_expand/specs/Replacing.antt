-- Calls are replaced by the bodies of their gates, the first call that has a body first, until none has.
use Rattle.std.specs.Prelude.{◌≡◌, ℕ, suc, ◌<◌, Bool, true, false, IsTrue, List, ◌∷◌, ◌++◌, length, map, Some, slice_get, zip, get_or}
use Rattle.std.specs.List.{AllByRecursion}
use Rattle.qasm_form.specs.declared.stmt.Node.{Node}
use Rattle.qasm_names.specs.declared.gate.Bound.{Bound}
use Rattle.qasm_names.specs.declared.gate.GateDef.{GateDef}
use Rattle.qasm_names.specs.declared.gate.Target.{Target}
use Rattle.qasm_names.specs.declared.gate.Target.TheVariants as target
use Rattle.qasm_expand.specs.Angles.{substitute}
use Rattle.qasm_expand.specs.Items.{Item}
use Rattle.qasm_expand.specs.Items.Item.{Applied, Barrier}

-- a call of a body, where the gate is called with these angles on these qubits
abbrev pub inner : Target → List (List Node) → List ℕ → Item
inner target.Barrier angles qubits = Barrier
inner to angles qubits = Applied to angles qubits

-- A call of a body where the gate is called with these angles on these qubits.
abbrev pub body_call : List (List ℕ × List Node) → List ℕ → Bound → Item
body_call angles qubits b =
    inner b.target (map (substitute angles) b.exprs) (map (λ i. get_or qubits i 0) b.args)

-- the body of a gate that is called with these angles on these qubits
abbrev pub body_of : GateDef → List (List Node) → List ℕ → List Item
body_of g angles qubits = map (body_call (zip g.params angles) qubits) g.body

-- whether it is no call of a gate with a body
abbrev pub is_plain : Item → Bool
is_plain (Applied (target.Gate place) angles qubits) = false
is_plain other = true

-- The item calls no gate with a body; as a test, and as a property.
abbrev pub IsPlain : Item → Type 0
IsPlain item = IsTrue (is_plain item)

-- The first item that calls a gate with a body is replaced by the body.
pub record Replaces (gates : List GateDef) (old new : List Item) : Type 0 where
  pub front : List Item
  pub place : ℕ
  pub angles : List (List Node)
  pub qubits : List ℕ
  pub rest : List Item
  pub gate : GateDef
  pub plain : AllByRecursion IsPlain front
  pub is : old ≡ front ++ Applied (target.Gate place) angles qubits ∷ rest
  pub declared_at : slice_get gates place ≡ Some gate
  pub becomes : new ≡ front ++ (body_of gate angles qubits ++ rest)

-- What is left once such replacements have left no gate with a body.
pub data Expands (gates : List GateDef) : List Item → List Item → Type 0 where
  plain : {items : List Item} → AllByRecursion IsPlain items → Expands gates items items
  replaces : {old new items : List Item} → Replaces gates old new → Expands gates new items → Expands gates old items

-- How many replacements that took.
abbrev pub replacements : {gates : List GateDef} {old new : List Item} → Expands gates old new → ℕ
replacements (plain h) = 0
replacements (replaces r e) = suc (replacements e)

-- The gate that an item calls is one of these.
abbrev pub CallsOneOf : List GateDef → Item → Type 0
CallsOneOf gates (Applied (target.Gate place) angles qubits) = place < length gates
CallsOneOf gates other = Unit {0}
