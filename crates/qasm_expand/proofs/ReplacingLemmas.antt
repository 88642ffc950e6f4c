-- Calls expand to one list: the first call that has a body is replaced in one way alone.
use Rattle.std.proofs.Common.{◌≡◌, ℕ, List, [], ◌∷◌, ◌++◌, false, true, Option, Some, None, refl, ap, subst, sym as flip, ◌∙◌}
use Rattle.std.specs.List.{AllByRecursion, slice_get}
use Rattle.zac_gates.specs.Ops.{NativeCircuit}
use Rattle.qasm_form.specs.declared.stmt.Node.{Node}
use Rattle.qasm_names.specs.declared.gate.GateDef.{GateDef}
use Rattle.qasm_names.specs.declared.gate.Target.TheVariants as target
use Rattle.qasm_names.specs.Accepted.{Program}
use Rattle.qasm_expand.specs.Expansion.{IsExpansion}
use Rattle.qasm_expand.specs.Items.{Item}
use Rattle.qasm_expand.specs.Items.Item.{Applied, Barrier, Measured}
use Rattle.qasm_expand.specs.Native.{native_circuit}
use Rattle.qasm_expand.specs.Replacing.{Expands, plain, replaces, Replaces, IsPlain, body_of}

-- the body of a call, where its gate is there
abbrev body_at : Option GateDef → List (List Node) → List ℕ → List Item
body_at (Some g) angles qubits = body_of g angles qubits
body_at None angles qubits = []

-- the first call of a gate, replaced
abbrev replaced : List GateDef → List Item → List Item
replaced gates [] = []
replaced gates (Applied (target.Gate place) angles qubits ∷ items) = body_at (slice_get gates place) angles qubits ++ items
replaced gates (item ∷ items) = item ∷ replaced gates items

pub false_not_true : {P : Type 0} → false ≡ true → P
false_not_true h = cc

replaced_behind : (gates : List GateDef) (item : Item) (items : List Item) → IsPlain item → replaced gates (item ∷ items) ≡ item ∷ replaced gates items
replaced_behind gates (Applied (target.Gate place) angles qubits) items h = false_not_true h
replaced_behind gates (Applied target.U angles qubits) items h = refl
replaced_behind gates (Applied target.Cx angles qubits) items h = refl
replaced_behind gates (Applied target.Cz angles qubits) items h = refl
replaced_behind gates (Applied target.Barrier angles qubits) items h = refl
replaced_behind gates Barrier items h = refl
replaced_behind gates (Measured qubit bit) items h = refl

replaced_at : (gates : List GateDef) (front : List Item) (place : ℕ) (angles : List (List Node)) (qubits : List ℕ) (rest : List Item) (g : GateDef) → AllByRecursion IsPlain front → slice_get gates place ≡ Some g → replaced gates (front ++ Applied (target.Gate place) angles qubits ∷ rest) ≡ front ++ (body_of g angles qubits ++ rest)
replaced_at gates [] place angles qubits rest g h at = ap (λ o. body_at o angles qubits ++ rest) at
replaced_at gates (item ∷ front) place angles qubits rest g h at =
    replaced_behind gates item (front ++ Applied (target.Gate place) angles qubits ∷ rest) h.0 ∙ ap (λ xs. item ∷ xs) (replaced_at gates front place angles qubits rest g h.1 at)

replaces_is : {gates : List GateDef} {old new : List Item} → Replaces gates old new → new ≡ replaced gates old
replaces_is {gates} r =
    r.becomes ∙ flip (replaced_at gates r.front r.place r.angles r.qubits r.rest r.gate r.plain r.declared_at) ∙ ap (replaced gates) (flip r.is)

-- calls without a body have none to replace
not_plain : (front : List Item) (place : ℕ) (angles : List (List Node)) (qubits : List ℕ) (rest : List Item) → AllByRecursion IsPlain (front ++ Applied (target.Gate place) angles qubits ∷ rest) → ⊥
not_plain [] place angles qubits rest h = false_not_true h.0
not_plain (item ∷ front) place angles qubits rest h = not_plain front place angles qubits rest h.1

pub plain_stays : {gates : List GateDef} {old new : List Item} → AllByRecursion IsPlain old → Replaces gates old new → ⊥
plain_stays h r = not_plain r.front r.place r.angles r.qubits r.rest (subst (AllByRecursion IsPlain) r.is h)

pub expands_once : {gates : List GateDef} {old xs ys : List Item} → Expands gates old xs → Expands gates old ys → xs ≡ ys
expands_once (plain h) (plain k) = refl
expands_once (plain h) (replaces r e) = absurd (plain_stays h r)
expands_once (replaces r d) (plain k) = absurd (plain_stays k r)
expands_once {gates} {ys = ys} (replaces r d) (replaces s e) =
    expands_once d (subst (λ n. Expands gates n ys) (replaces_is s ∙ flip (replaces_is r)) e)

-- a program has one native list at most
pub one_expansion : (p : Program) (c d : NativeCircuit) → IsExpansion p c → IsExpansion p d → c ≡ d
one_expansion p c d h k = h.is ∙ ap (native_circuit p.statements) (expands_once h.expands k.expands) ∙ flip k.is
