-- The calls that are visited, and those that calls expand to: the visited ones without a body are left, and the others were
-- replaced.
use Rattle.std.proofs.Common.{◌≡◌, ℕ, zero, suc, ◌+◌, ◌<◌, List, [], ◌∷◌, ◌++◌, length, cond, Some, refl, ap, subst, sym as flip, ◌∙◌, arith}
use Rattle.std.specs.List.{AllByRecursion, filter, slice_get}
use Rattle.zac_gates.specs.Ops.{NativeCircuit}
use Rattle.qasm_form.specs.declared.stmt.Node.{Node}
use Rattle.qasm_names.specs.Accepted.{Program}
use Rattle.qasm_names.specs.declared.gate.GateDef.{GateDef}
use Rattle.qasm_names.specs.declared.gate.Target.TheVariants as target
use Rattle.qasm_expand.specs.Calls.{Visit, VisitsInOrder, none, next, items_in, opened, within}
use Rattle.qasm_expand.specs.Expansion.{IsExpansion, IsWithinLimits}
use Rattle.qasm_expand.specs.Items.{Item, program_items}
use Rattle.qasm_expand.specs.Items.Item.{Applied, Barrier, Measured}
use Rattle.qasm_expand.specs.Replacing.{CallsOneOf, Expands, plain, replaces, Replaces, IsPlain, body_of, is_plain, replacements}
use Rattle.qasm_expand.proofs.ExpandsLemmas.{expands_behind}
use Rattle.qasm_expand.proofs.ReplacingLemmas.{plain_stays, false_not_true}
use Rattle.qasm_expand.proofs.WalksLemmas.{items_append, items_at_depth}

-- the calls behind the first are replaced
record ReplacesBehind (gates : List GateDef) (item : Item) (others new : List Item) : Type 0 where
  left : List Item
  is : new ≡ item ∷ left
  replaces : Replaces gates others left

replaces_behind : (gates : List GateDef) (front : List Item) (place : ℕ) (angles : List (List Node)) (qubits : List ℕ) (rest : List Item) (g : GateDef) (new : List Item) (item : Item) (others : List Item) → AllByRecursion IsPlain front → slice_get gates place ≡ Some g → new ≡ front ++ (body_of g angles qubits ++ rest) → front ++ Applied (target.Gate place) angles qubits ∷ rest ≡ item ∷ others → IsPlain item → ReplacesBehind gates item others new
replaces_behind gates [] place angles qubits rest g new item others h at becomes is p =
    let first : Applied (target.Gate place) angles qubits ≡ item = cc in false_not_true (subst IsPlain (flip first) p)
replaces_behind gates (x ∷ front) place angles qubits rest g new item others h at becomes is p =
    let first : x ≡ item = cc in
    let second : front ++ Applied (target.Gate place) angles qubits ∷ rest ≡ others = cc in
    let behind : Replaces gates others (front ++ (body_of g angles qubits ++ rest)) = record { front = front; place = place; angles = angles; qubits = qubits; rest = rest; gate = g; plain = h.1; is = flip second; declared_at = at; becomes = refl } in
    record {
      left = front ++ (body_of g angles qubits ++ rest);
      is = becomes ∙ ap (λ y. y ∷ front ++ (body_of g angles qubits ++ rest)) first;
      replaces = behind;
    }

-- calls that begin with one without a body expand to it, and to what the others expand to
record KeepsFirst (gates : List GateDef) (item : Item) (others items : List Item) (count : ℕ) : Type 0 where
  rest : List Item
  is : items ≡ item ∷ rest
  expands : Expands gates others rest
  same : count ≡ replacements expands

keeps_first : {gates : List GateDef} {all items : List Item} (e : Expands gates all items) (item : Item) (others : List Item) → IsPlain item → all ≡ item ∷ others → KeepsFirst gates item others items (replacements e)
keeps_first (plain h) item others p is =
    record { rest = others; is = is; expands = plain (subst (AllByRecursion IsPlain) is h).1; same = refl }
keeps_first {gates} (replaces {new = new} r e) item others p is =
    let b = replaces_behind gates r.front r.place r.angles r.qubits r.rest r.gate new item others r.plain r.declared_at r.becomes (flip r.is ∙ is) p in
    let k = keeps_first e item b.left p b.is in
    record { rest = k.rest; is = k.is; expands = replaces b.replaces k.expands; same = ap suc k.same }

-- calls that begin with one of a gate have it replaced first
record OpensFirst (gates : List GateDef) (place : ℕ) (angles : List (List Node)) (qubits : List ℕ) (others items : List Item) (count : ℕ) : Type 0 where
  gate : GateDef
  declared_at : slice_get gates place ≡ Some gate
  left : List Item
  is : left ≡ body_of gate angles qubits ++ others
  expands : Expands gates left items
  same : count ≡ suc (replacements expands)

opens_here : (gates : List GateDef) (front : List Item) (p : ℕ) (a : List (List Node)) (q : List ℕ) (rest : List Item) (g : GateDef) (new items : List Item) (e : Expands gates new items) (place : ℕ) (angles : List (List Node)) (qubits : List ℕ) (others : List Item) → AllByRecursion IsPlain front → slice_get gates p ≡ Some g → new ≡ front ++ (body_of g a q ++ rest) → front ++ Applied (target.Gate p) a q ∷ rest ≡ Applied (target.Gate place) angles qubits ∷ others → OpensFirst gates place angles qubits others items (suc (replacements e))
opens_here gates [] p a q rest g new items e place angles qubits others h at becomes is =
    let places : p ≡ place = cc in
    let made : a ≡ angles = cc in
    let chosen : q ≡ qubits = cc in
    let behind : rest ≡ others = cc in
    record {
      gate = g;
      declared_at = ap (slice_get gates) (flip places) ∙ at;
      left = new;
      is = becomes ∙ ap (λ x. body_of g x q ++ rest) made ∙ ap (λ x. body_of g angles x ++ rest) chosen ∙ ap (λ x. body_of g angles qubits ++ x) behind;
      expands = e;
      same = refl;
    }
opens_here gates (x ∷ front) p a q rest g new items e place angles qubits others h at becomes is =
    let first : x ≡ Applied (target.Gate place) angles qubits = cc in false_not_true (subst IsPlain first h.0)

opens_first : {gates : List GateDef} {all items : List Item} (e : Expands gates all items) (place : ℕ) (angles : List (List Node)) (qubits : List ℕ) (others : List Item) → all ≡ Applied (target.Gate place) angles qubits ∷ others → OpensFirst gates place angles qubits others items (replacements e)
opens_first (plain h) place angles qubits others is = false_not_true (subst (AllByRecursion IsPlain) is h).0
opens_first {gates} {items = items} (replaces {new = new} r e) place angles qubits others is =
    opens_here gates r.front r.place r.angles r.qubits r.rest r.gate new items e place angles qubits others r.plain r.declared_at r.becomes (flip r.is ∙ is)

-- of the visited calls, those without a body are left, and the others were replaced
pub record AreLeft (visited : List Visit) (items : List Item) (count : ℕ) : Type 0 where
  pub is : items ≡ filter is_plain (items_in visited)
  pub counted : length visited ≡ count + length items

nothing_left : {gates : List GateDef} {all items : List Item} (e : Expands gates all items) → all ≡ [] → AreLeft [] items (replacements e)
nothing_left (plain h) is = record { is = is; counted = omega (arith, ap (λ (xs : List Item). length xs) is) }
nothing_left (replaces r e) is = absurd (plain_stays (subst (AllByRecursion IsPlain) (flip is) tt) r)

-- what the visits behind the first call leave
abbrev Behind : List GateDef → List Visit → List Visit → Type 0
Behind gates calls visited = (all items : List Item) (e : Expands gates all items) → all ≡ items_in calls → AreLeft visited items (replacements e)

left_plain : (gates : List GateDef) (d : ℕ) (item : Item) (pending visited : List Visit) → IsPlain item → within gates d item ≡ [] → Behind gates (within gates d item ++ pending) visited → Behind gates (record { depth = d; item = item } ∷ pending) (record { depth = d; item = item } ∷ visited)
left_plain gates d item pending visited p closed behind all items e is =
    let k = keeps_first e item (items_in pending) p is in
    let b = behind (items_in pending) k.rest k.expands (ap (λ w. items_in (w ++ pending)) (flip closed)) in
    record {
      is = k.is ∙ ap (λ xs. item ∷ xs) b.is ∙ ap (λ t. cond t (item ∷ filter is_plain (items_in visited)) (filter is_plain (items_in visited))) (flip p);
      counted = omega (arith, k.same, b.counted, ap (λ (xs : List Item). length xs) k.is);
    }

left_gate : (gates : List GateDef) (d place : ℕ) (angles : List (List Node)) (qubits : List ℕ) (pending visited : List Visit) → Behind gates (within gates d (Applied (target.Gate place) angles qubits) ++ pending) visited → Behind gates (record { depth = d; item = Applied (target.Gate place) angles qubits } ∷ pending) (record { depth = d; item = Applied (target.Gate place) angles qubits } ∷ visited)
left_gate gates d place angles qubits pending visited behind all items e is =
    let o = opens_first e place angles qubits (items_in pending) is in
    let body = body_of o.gate angles qubits in
    let opens : items_in (opened (slice_get gates place) d angles qubits) ≡ body = ap (λ g. items_in (opened g d angles qubits)) o.declared_at ∙ items_at_depth (suc d) body in
    let b = behind o.left items o.expands (o.is ∙ ap (λ xs. xs ++ items_in pending) (flip opens) ∙ flip (items_append (opened (slice_get gates place) d angles qubits) pending)) in
    record { is = b.is; counted = omega (arith, o.same, b.counted) }

left_first : (gates : List GateDef) (d : ℕ) (item : Item) (pending visited : List Visit) → Behind gates (within gates d item ++ pending) visited → Behind gates (record { depth = d; item = item } ∷ pending) (record { depth = d; item = item } ∷ visited)
left_first gates d (Applied (target.Gate place) angles qubits) pending visited = left_gate gates d place angles qubits pending visited
left_first gates d (Applied target.U angles qubits) pending visited = left_plain gates d _ pending visited refl refl
left_first gates d (Applied target.Cx angles qubits) pending visited = left_plain gates d _ pending visited refl refl
left_first gates d (Applied target.Cz angles qubits) pending visited = left_plain gates d _ pending visited refl refl
left_first gates d (Applied target.Barrier angles qubits) pending visited = left_plain gates d _ pending visited refl refl
left_first gates d Barrier pending visited = left_plain gates d _ pending visited refl refl
left_first gates d (Measured qubit bit) pending visited = left_plain gates d _ pending visited refl refl

visits_left : {gates : List GateDef} {calls visited left : List Visit} → VisitsInOrder gates calls visited left → left ≡ [] → Behind gates calls visited
visits_left none end all items e is = nothing_left e (is ∙ ap items_in end)
visits_left {gates} (next {v} {pending} {visited} h) end all items e is =
    left_first gates v.depth v.item pending visited (visits_left h end) all items e is

-- the calls that are left
pub left_of_visits : (gates : List GateDef) (calls visited : List Visit) (items : List Item) → VisitsInOrder gates calls visited [] → Expands gates (items_in calls) items → items ≡ filter is_plain (items_in visited)
left_of_visits gates calls visited items h e = (visits_left h refl (items_in calls) items e refl).is

pub visits_counted : (gates : List GateDef) (calls visited : List Visit) (items : List Item) → VisitsInOrder gates calls visited [] → (e : Expands gates (items_in calls) items) → length visited ≡ replacements e + length items
visits_counted gates calls visited items h e = (visits_left h refl (items_in calls) items e refl).counted

-- the same of a program within the limits
pub program_left : (p : Program) (c : NativeCircuit) (w : IsWithinLimits p) (x : IsExpansion p c) → AreLeft w.visited x.items (replacements x.expands)
program_left p c w x =
    let items = program_items p.header p.statements in visits_left w.all refl items x.items x.expands (flip (items_at_depth 1 items))

-- calls that are visited expand, where each names a gate that is there
pub gate_there : (gates : List GateDef) (place : ℕ) → place < length gates → (g : GateDef) × (slice_get gates place ≡ Some g)
gate_there [] place less = absurd (omega (arith, less))
gate_there (g ∷ gates) zero less = (g, refl)
gate_there (g ∷ gates) (suc place) less = gate_there gates place (omega (arith, less))

abbrev Left : List GateDef → List Visit → List Visit → Type 0
Left gates calls visited = Expands gates (items_in calls) (filter is_plain (items_in visited))

expands_plain_first : (gates : List GateDef) (d : ℕ) (item : Item) (pending visited : List Visit) → IsPlain item → within gates d item ≡ [] → Left gates (within gates d item ++ pending) visited → Left gates (record { depth = d; item = item } ∷ pending) (record { depth = d; item = item } ∷ visited)
expands_plain_first gates d item pending visited p closed h =
    let kept = filter is_plain (items_in visited) in
    let e : Expands gates (items_in pending) kept = subst (λ w. Expands gates (items_in (w ++ pending)) kept) closed h in
    subst (λ t. Expands gates (item ∷ items_in pending) (cond t (item ∷ kept) kept)) (flip p) (expands_behind (item ∷ []) (p, tt) e)

expands_gate_first : (gates : List GateDef) (d place : ℕ) (angles : List (List Node)) (qubits : List ℕ) (pending visited : List Visit) → place < length gates → Left gates (within gates d (Applied (target.Gate place) angles qubits) ++ pending) visited → Left gates (record { depth = d; item = Applied (target.Gate place) angles qubits } ∷ pending) (record { depth = d; item = Applied (target.Gate place) angles qubits } ∷ visited)
expands_gate_first gates d place angles qubits pending visited less h =
    let there = gate_there gates place less in
    let body = body_of there.0 angles qubits in
    let opens : items_in (opened (slice_get gates place) d angles qubits) ≡ body = ap (λ g. items_in (opened g d angles qubits)) there.1 ∙ items_at_depth (suc d) body in
    let kept = filter is_plain (items_in visited) in
    let e : Expands gates (body ++ items_in pending) kept = subst (λ xs. Expands gates xs kept) (items_append (opened (slice_get gates place) d angles qubits) pending ∙ ap (λ xs. xs ++ items_in pending) opens) h in
    replaces (record { front = []; place = place; angles = angles; qubits = qubits; rest = items_in pending; gate = there.0; plain = tt; is = refl; declared_at = there.1; becomes = refl }) e

expands_first : (gates : List GateDef) (d : ℕ) (item : Item) (pending visited : List Visit) → CallsOneOf gates item → Left gates (within gates d item ++ pending) visited → Left gates (record { depth = d; item = item } ∷ pending) (record { depth = d; item = item } ∷ visited)
expands_first gates d (Applied (target.Gate place) angles qubits) pending visited c = expands_gate_first gates d place angles qubits pending visited c
expands_first gates d (Applied target.U angles qubits) pending visited c = expands_plain_first gates d _ pending visited refl refl
expands_first gates d (Applied target.Cx angles qubits) pending visited c = expands_plain_first gates d _ pending visited refl refl
expands_first gates d (Applied target.Cz angles qubits) pending visited c = expands_plain_first gates d _ pending visited refl refl
expands_first gates d (Applied target.Barrier angles qubits) pending visited c = expands_plain_first gates d _ pending visited refl refl
expands_first gates d Barrier pending visited c = expands_plain_first gates d _ pending visited refl refl
expands_first gates d (Measured qubit bit) pending visited c = expands_plain_first gates d _ pending visited refl refl

visits_expand_to : {gates : List GateDef} {calls visited left : List Visit} → VisitsInOrder gates calls visited left → left ≡ [] → AllByRecursion (CallsOneOf gates) (items_in visited) → Left gates calls visited
visits_expand_to {gates} {calls = calls} none end h =
    subst (λ xs. Expands gates (items_in xs) []) (flip end) (plain tt)
visits_expand_to {gates} (next {v} {pending} {visited} h) end c =
    expands_first gates v.depth v.item pending visited c.0 (visits_expand_to h end c.1)

pub visits_expand : (gates : List GateDef) (calls visited : List Visit) → VisitsInOrder gates calls visited [] → AllByRecursion (CallsOneOf gates) (items_in visited) → Expands gates (items_in calls) (filter is_plain (items_in visited))
visits_expand gates calls visited h c = visits_expand_to h refl c
