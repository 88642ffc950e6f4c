-- What the walk over the calls of a program's top says of the program: both ways.
use Rattle.std.proofs.Common.{◌≡◌, ℕ, ◌+◌, ◌*◌, ◌≤◌, List, [], ◌∷◌, ◌++◌, length, Some, None, ◌⊎◌, inl, inr, ap, subst, sym as flip, ◌∙◌, arith, length-append}
use Rattle.std.specs.Option.{option_or}
use Rattle.std.specs.List.{flat_map}
use Rattle.std.proofs.lemmas.List.{append-nil}
use Rattle.zac_gates.specs.Ops.{pairs_in}
use Rattle.zac_gates.specs.declared.circuit.Op.{Op}
use Rattle.zac_gates.specs.declared.circuit.Op.TheVariants.{One, Two, Fence, Read}
use Rattle.qasm_names.specs.declared.gate.Target.TheVariants as target
use Rattle.qasm_names.specs.declared.gate.GateDef.{GateDef}
use Rattle.qasm_names.specs.Environment.{environment}
use Rattle.qasm_names.specs.Accepted.{Program}
use Rattle.qasm_expand.specs.declared.walk.Walk.{Walk}
use Rattle.qasm_expand.specs.declared.fault.LimitKind.{LimitKind}
use Rattle.qasm_expand.specs.declared.fault.ExpandFault.TheVariants as fault
use Rattle.qasm_expand.specs.Calls.{Visit, VisitsInOrder, none}
use Rattle.qasm_expand.specs.Expansion.{IsExpansion, IsWithinLimits, PassesFirst, top_calls}
use Rattle.qasm_expand.specs.Items.{Item, program_items}
use Rattle.qasm_expand.specs.Items.Item.{Applied, Barrier, Measured}
use Rattle.qasm_expand.specs.Limits.{Passed, passed_before_calls, passed_by_calls}
use Rattle.qasm_expand.specs.Native.{native_circuit, native_ops}
use Rattle.qasm_expand.specs.Replacing.{Expands}
use Rattle.qasm_expand.specs.Walks.{Passes, Walks, nodes_of}
use Rattle.qasm_expand.proofs.FaultsLemmas.{or_left_none}
use Rattle.qasm_expand.proofs.LimitsLemmas.{passed_append}
use Rattle.qasm_expand.proofs.VisitLemmas.{GoesOn, visits_compare, visits_end}
use Rattle.qasm_expand.proofs.WalksLemmas.{items_at_depth}

some_same : {X : Type 0} {x y : X} → Some x ≡ Some y → x ≡ y
some_same e = cc

abbrev passed : LimitKind → ℕ → Passed
passed kind count = (kind, count)

-- calls that pass no limit have no first ones that do
front_passes_none : (calls nodes : ℕ) (xs ys : List Visit) → passed_by_calls calls nodes (xs ++ ys) ≡ None → passed_by_calls calls nodes xs ≡ None
front_passes_none calls nodes xs ys h =
    or_left_none (passed_by_calls calls nodes xs) (passed_by_calls (calls + length xs) (nodes + nodes_of xs) ys) (flip (passed_append calls nodes xs ys) ∙ h)

-- a limit that the first calls pass is the one that all pass first
front_passes : (calls nodes : ℕ) (xs ys : List Visit) (p : Passed) → passed_by_calls calls nodes xs ≡ Some p → passed_by_calls calls nodes (xs ++ ys) ≡ Some p
front_passes calls nodes xs ys p h =
    passed_append calls nodes xs ys ∙ ap (λ o. option_or o (passed_by_calls (calls + length xs) (nodes + nodes_of xs) ys)) h

-- two visits of the same calls that each come to a limit come to the same
pub limit_once : (gates : List GateDef) (calls nodes : ℕ) (xs visited left others last : List Visit) (p q : Passed) → VisitsInOrder gates xs visited left → VisitsInOrder gates xs others last → passed_by_calls calls nodes visited ≡ Some p → passed_by_calls calls nodes others ≡ Some q → p ≡ q
limit_once gates calls nodes xs visited left others last p q h k passes also = by_longer (visits_compare h k)
  where
    by_longer : GoesOn gates visited left others last ⊎ GoesOn gates others last visited left → p ≡ q
    by_longer (inl g) =
        some_same (flip (front_passes calls nodes visited g.more p passes) ∙ ap (passed_by_calls calls nodes) (flip g.is) ∙ also)
    by_longer (inr g) =
        some_same (flip passes ∙ ap (passed_by_calls calls nodes) g.is ∙ front_passes calls nodes others g.more q also)

-- where all visits pass no limit, no visits do
pub limit_never : (gates : List GateDef) (calls nodes : ℕ) (xs visited others last : List Visit) (p : Passed) → VisitsInOrder gates xs visited [] → VisitsInOrder gates xs others last → passed_by_calls calls nodes visited ≡ None → passed_by_calls calls nodes others ≡ Some p → ⊥
limit_never gates calls nodes xs visited others last p h k short passes = by_longer (visits_compare h k)
  where
    differ : None ≡ Some p → ⊥
    differ e = cc

    by_longer : GoesOn gates visited [] others last ⊎ GoesOn gates others last visited [] → ⊥
    by_longer (inl g) =
        differ (flip short ∙ ap (passed_by_calls calls nodes) (flip (g.is ∙ ap (λ m. visited ++ m) (visits_end g.visits) ∙ append-nil visited)) ∙ passes)
    by_longer (inr g) =
        differ (flip (front_passes_none calls nodes others g.more (ap (passed_by_calls calls nodes) (flip g.is) ∙ short)) ∙ passes)

-- a program within the limits passes none, and one passes no two first
pub within_passes_none : (p : Program) (kind : LimitKind) (count : ℕ) → IsWithinLimits p → PassesFirst p kind count → ⊥
within_passes_none p kind count w f = by_part f.first
  where
    differ : None ≡ Some (passed kind count) → ⊥
    differ e = cc

    by_part : (passed_before_calls p.statements ≡ Some (kind, count)) ⊎ ((passed_before_calls p.statements ≡ None) × (passed_by_calls 0 0 f.visited ≡ Some (kind, count))) → ⊥
    by_part (inl before) = differ (flip w.before ∙ before)
    by_part (inr (before, calls)) =
        limit_never (environment p.header p.statements).gates 0 0 (top_calls p) w.visited f.visited f.left (kind, count) w.all f.calls w.calls calls

pub passes_once : (p : Program) (kind other : LimitKind) (count more : ℕ) → PassesFirst p kind count → PassesFirst p other more → (kind ≡ other) × (count ≡ more)
passes_once p kind other count more f g =
    let same : passed kind count ≡ passed other more = by_parts f.first g.first in
    (ap (λ (x : Passed). x.0) same, ap (λ (x : Passed). x.1) same)
  where
    differ : (x : Passed) → None ≡ Some x → ⊥
    differ x e = cc

    by_parts : (passed_before_calls p.statements ≡ Some (kind, count)) ⊎ ((passed_before_calls p.statements ≡ None) × (passed_by_calls 0 0 f.visited ≡ Some (kind, count))) → (passed_before_calls p.statements ≡ Some (other, more)) ⊎ ((passed_before_calls p.statements ≡ None) × (passed_by_calls 0 0 g.visited ≡ Some (other, more))) → passed kind count ≡ passed other more
    by_parts (inl a) (inl b) = some_same (flip a ∙ b)
    by_parts (inl a) (inr (b, c)) = absurd (differ _ (flip b ∙ a))
    by_parts (inr (a, c)) (inl b) = absurd (differ _ (flip a ∙ b))
    by_parts (inr (a, c)) (inr (b, d)) =
        limit_once (environment p.header p.statements).gates 0 0 (top_calls p) f.visited f.left g.visited g.left (kind, count) (other, more) f.calls g.calls c d

-- a limit that is passed before the calls
pub before_passes : (p : Program) (kind : LimitKind) (count : ℕ) → passed_before_calls p.statements ≡ Some (kind, count) → PassesFirst p kind count
before_passes p kind count h = record { visited = []; left = top_calls p; calls = none; first = inl h }

-- a walk over all calls of the top from the start
module _ (p : Program) (start end : Walk) (calls : start.calls ≡ 0) (nodes : start.nodes ≡ 0) (before : passed_before_calls p.statements ≡ None) where
  from_start : (visited : List Visit) → passed_by_calls start.calls start.nodes visited ≡ passed_by_calls 0 0 visited
  from_start visited = ap (λ c. passed_by_calls c start.nodes visited) calls ∙ ap (λ n. passed_by_calls 0 n visited) nodes

  pub walk_passes : (kind : LimitKind) (count : ℕ) → Passes (environment p.header p.statements).gates start (top_calls p) (fault.Limit kind count) → PassesFirst p kind count
  walk_passes kind count h = record {
    visited = h.visited;
    left = h.left;
    calls = h.some;
    first = inr (before, flip (from_start h.visited) ∙ h.first);
  }

  pub walk_within : Walks (environment p.header p.statements).gates start end (top_calls p) → IsWithinLimits p
  walk_within h = record {
    before = before;
    visited = h.visited;
    all = h.all;
    calls = flip (from_start h.visited) ∙ h.short;
  }

-- what was written is the program's native list
pub walk_expands : (p : Program) (start end : Walk) → start.ops.items ≡ [] → Walks (environment p.header p.statements).gates start end (top_calls p) → IsExpansion p (record { qubits = (native_circuit p.statements []).qubits; bits = (native_circuit p.statements []).bits; ops = end.ops.items })
walk_expands p start end empty h =
    let gates = (environment p.header p.statements).gates in
    let expands : Expands gates (program_items p.header p.statements) h.items = subst (λ xs. Expands gates xs h.items) (items_at_depth 1 (program_items p.header p.statements)) h.expands in
    let ops : end.ops.items ≡ flat_map native_ops h.items = h.ops ∙ ap (λ o. o ++ flat_map native_ops h.items) empty in
    record {
      items = h.items;
      expands = expands;
      is = ap (λ (o : List Op). record { qubits = (native_circuit p.statements []).qubits; bits = (native_circuit p.statements []).bits; ops = o }) ops;
    }

-- a walk within the limits writes few ops: each call without a body gives at most three, of which one is a pair
ops_few : (item : Item) → length (native_ops item) ≤ 3
ops_few (Applied target.U (theta ∷ phi ∷ lambda ∷ []) (q ∷ [])) = omega arith
ops_few (Applied target.Cx [] (c ∷ t ∷ [])) = omega arith
ops_few (Applied target.Cz [] (a ∷ b ∷ [])) = omega arith
ops_few (Applied target.Barrier angles qubits) = omega arith
ops_few (Applied other angles qubits) = omega arith
ops_few Barrier = omega arith
ops_few (Measured qubit bit) = omega arith

ops_of_few : (items : List Item) → length (flat_map native_ops items) ≤ 3 * length items
ops_of_few [] = omega arith
ops_of_few (i ∷ items) =
    omega (arith, ops_few i, ops_of_few items, length-append (native_ops i) (flat_map native_ops items))

pairs_append : (xs ys : List Op) → pairs_in (xs ++ ys) ≡ pairs_in xs + pairs_in ys
pairs_append [] ys = omega arith
pairs_append (One q angles ∷ xs) ys = pairs_append xs ys
pairs_append (Two a b ∷ xs) ys = omega (arith, pairs_append xs ys)
pairs_append (Fence ∷ xs) ys = pairs_append xs ys
pairs_append (Read q bit ∷ xs) ys = pairs_append xs ys

pairs_few : (item : Item) → pairs_in (native_ops item) ≤ 1
pairs_few (Applied target.U (theta ∷ phi ∷ lambda ∷ []) (q ∷ [])) = omega arith
pairs_few (Applied target.Cx [] (c ∷ t ∷ [])) = omega arith
pairs_few (Applied target.Cz [] (a ∷ b ∷ [])) = omega arith
pairs_few (Applied target.Barrier angles qubits) = omega arith
pairs_few (Applied other angles qubits) = omega arith
pairs_few Barrier = omega arith
pairs_few (Measured qubit bit) = omega arith

pairs_of_few : (items : List Item) → pairs_in (flat_map native_ops items) ≤ length items
pairs_of_few [] = omega arith
pairs_of_few (i ∷ items) =
    omega (arith, pairs_few i, pairs_of_few items, pairs_append (native_ops i) (flat_map native_ops items))

pub walk_few : (gates : List GateDef) (start end : Walk) (calls : List Visit) → start.calls ≡ 0 → start.ops.items ≡ [] → Walks gates start end calls → (length end.ops.items ≤ 786432) × (pairs_in end.ops.items ≤ 262144)
walk_few gates start end calls none_counted empty h =
    let ops : end.ops.items ≡ flat_map native_ops h.items = h.ops ∙ ap (λ o. o ++ flat_map native_ops h.items) empty in
    let few : length h.items ≤ 262144 = omega (arith, h.few, h.counted, none_counted, end.few_calls) in
    (omega (arith, ap (λ (o : List Op). length o) ops, ops_of_few h.items, few), omega (arith, ap pairs_in ops, pairs_of_few h.items, few))
