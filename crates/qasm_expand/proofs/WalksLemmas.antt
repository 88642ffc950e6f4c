-- Walks, one behind the other.
use Rattle.std.proofs.Common.{◌≡◌, ℕ, suc, ◌+◌, ◌≤◌, List, [], ◌∷◌, ◌++◌, length, take, Some, None, ◌⊎◌, inl, inr, refl, ap, subst, sym as flip, ◌∙◌, arith, append_assoc, length-append}
use Rattle.std.specs.Option.{option_or}
use Rattle.std.specs.List.{AllByRecursion, flat_map, slice_get}
use Rattle.std.proofs.lemmas.List.{append-nil, map-append}
use Rattle.std.proofs.lemmas.Grind.{flat_map-append}
use Rattle.qasm_form.specs.declared.stmt.Node.{Node}
use Rattle.qasm_names.specs.declared.gate.GateDef.{GateDef}
use Rattle.qasm_names.specs.declared.gate.Target.TheVariants as target
use Rattle.qasm_expand.specs.declared.walk.Walk.{Walk}
use Rattle.qasm_expand.specs.declared.frame.Frame.{Frame}
use Rattle.qasm_expand.specs.declared.fault.ExpandFault.{ExpandFault}
use Rattle.qasm_expand.specs.Calls.{Visit, VisitsInOrder, none, next, at_depth, items_in, opened, within}
use Rattle.qasm_expand.specs.Faults.{IsFault}
use Rattle.qasm_expand.specs.Items.{Item}
use Rattle.qasm_expand.specs.Items.Item.{Applied, Barrier, Measured}
use Rattle.qasm_expand.specs.Limits.{passed_by_calls}
use Rattle.qasm_expand.specs.Native.{native_ops}
use Rattle.qasm_expand.specs.Replacing.{Expands, plain, replaces, IsPlain, body_of}
use Rattle.qasm_expand.specs.Walks.{Passes, Steps, VisitsCall, VisitsFirst, Walks, nodes_of, pending}
use Rattle.qasm_expand.specs.Fit.{IsFit}
use Rattle.qasm_expand.proofs.AngleNodesLemmas.{all_append}
use Rattle.qasm_expand.proofs.FaultsLemmas.{fault_same}
use Rattle.qasm_expand.proofs.LimitsLemmas.{passed_append, nodes_append}
use Rattle.qasm_expand.proofs.VisitLemmas.{visits_before, visits_then}
use Rattle.qasm_expand.proofs.ExpandsLemmas.{expands_append, expands_behind}

pub items_append : (xs ys : List Visit) → items_in (xs ++ ys) ≡ items_in xs ++ items_in ys
items_append xs ys = map-append (λ (v : Visit). v.item) xs ys

pub items_at_depth : (d : ℕ) (items : List Item) → items_in (at_depth d items) ≡ items
items_at_depth d [] = refl
items_at_depth d (i ∷ items) = ap (λ xs. i ∷ xs) (items_at_depth d items)

-- some of these calls were visited, and are written, and others are left
pub record Walking (gates : List GateDef) (old new : Walk) (before left : List Visit) : Type 0 where
  pub visited : List Visit
  pub items : List Item
  pub some : VisitsInOrder gates before visited left
  pub short : passed_by_calls old.calls old.nodes visited ≡ None
  pub counted : new.calls ≡ old.calls + length visited
  pub nodes : new.nodes ≡ old.nodes + nodes_of visited
  pub plain : AllByRecursion IsPlain items
  pub leads : (all : List Item) → Expands gates (items_in left) all → Expands gates (items_in before) (items ++ all)
  pub few : length items ≤ length visited
  pub ops : new.ops.items ≡ old.ops.items ++ flat_map native_ops items

-- a call that is visited, and what it leads to
record Led (gates : List GateDef) (d : ℕ) (item : Item) : Type 0 where
  items : List Item
  plain : AllByRecursion IsPlain items
  few : length items ≤ 1
  ops : flat_map native_ops items ≡ native_ops item
  leads : (others all : List Item) → Expands gates (items_in (within gates d item) ++ others) all → Expands gates (item ∷ others) (items ++ all)

led_plain : (gates : List GateDef) (d : ℕ) (item : Item) → IsPlain item → within gates d item ≡ [] → Led gates d item
led_plain gates d item h closed = record {
  items = item ∷ [];
  plain = (h, tt);
  few = omega arith;
  ops = append-nil (native_ops item);
  leads = λ others all e. expands_behind (item ∷ []) (h, tt) (subst (λ w. Expands gates (items_in w ++ others) all) closed e);
}

led_gate : (gates : List GateDef) (d place : ℕ) (angles : List (List Node)) (qubits : List ℕ) (g : GateDef) → slice_get gates place ≡ Some g → Led gates d (Applied (target.Gate place) angles qubits)
led_gate gates d place angles qubits g is =
    let body = body_of g angles qubits in
    let opens : items_in (within gates d (Applied (target.Gate place) angles qubits)) ≡ body = ap (λ o. items_in (opened o d angles qubits)) is ∙ items_at_depth (suc d) body in
    let leads : (others all : List Item) → Expands gates (items_in (within gates d (Applied (target.Gate place) angles qubits)) ++ others) all → Expands gates (Applied (target.Gate place) angles qubits ∷ others) all = λ others all e. replaces (record { front = []; place = place; angles = angles; qubits = qubits; rest = others; gate = g; plain = tt; is = refl; declared_at = is; becomes = refl }) (subst (λ b. Expands gates (b ++ others) all) opens e) in
    record { items = []; plain = tt; few = omega arith; ops = refl; leads = leads }

led : (gates : List GateDef) (d : ℕ) (item : Item) → IsFit gates item → Led gates d item
led gates d (Applied (target.Gate place) angles qubits) fit = led_gate gates d place angles qubits fit.1.1 fit.1.2
led gates d (Applied target.U angles qubits) fit = led_plain gates d _ refl refl
led gates d (Applied target.Cx angles qubits) fit = led_plain gates d _ refl refl
led gates d (Applied target.Cz angles qubits) fit = led_plain gates d _ refl refl
led gates d (Applied target.Barrier angles qubits) fit = led_plain gates d _ refl refl
led gates d Barrier fit = led_plain gates d _ refl refl
led gates d (Measured qubit bit) fit = led_plain gates d _ refl refl

pub walking_none : (gates : List GateDef) (walk : Walk) (before : List Visit) → Walking gates walk walk before before
walking_none gates walk before = record {
  visited = [];
  items = [];
  some = none;
  short = refl;
  counted = omega arith;
  nodes = omega arith;
  plain = tt;
  leads = λ all e. e;
  few = omega arith;
  ops = flip (append-nil walk.ops.items);
}

-- the first call is visited
pub walking_visit : (gates : List GateDef) (old new : Walk) (before left : List Visit) → VisitsFirst gates old new before left → Walking gates old new before left
walking_visit gates old new before left h =
    let v = h.visit in
    let l = led gates v.depth v.item h.fit in
    let some : VisitsInOrder gates before (v ∷ []) left = subst (λ b. VisitsInOrder gates b (v ∷ []) left) (flip h.first) (subst (VisitsInOrder gates (v ∷ h.others) (v ∷ [])) (flip h.opens) (next none)) in
    let leads : (all : List Item) → Expands gates (items_in left) all → Expands gates (items_in before) (l.items ++ all) = λ all e. subst (λ b. Expands gates (items_in b) (l.items ++ all)) (flip h.first) (l.leads (items_in h.others) all (subst (λ xs. Expands gates xs all) (ap items_in h.opens ∙ items_append (within gates v.depth v.item) h.others) e)) in
    record {
      visited = v ∷ [];
      items = l.items;
      some = some;
      short = h.visits.short;
      counted = omega (arith, h.visits.counted);
      nodes = omega (arith, h.visits.nodes);
      plain = l.plain;
      leads = leads;
      few = l.few;
      ops = h.visits.ops ∙ ap (λ o. old.ops.items ++ o) (flip l.ops);
    }

-- limits of visits in two parts
short_both : (old new : Walk) (xs ys : List Visit) → passed_by_calls old.calls old.nodes xs ≡ None → new.calls ≡ old.calls + length xs → new.nodes ≡ old.nodes + nodes_of xs → passed_by_calls old.calls old.nodes (xs ++ ys) ≡ passed_by_calls new.calls new.nodes ys
short_both old new xs ys short counted nodes =
    passed_append old.calls old.nodes xs ys ∙ ap (λ o. option_or o (passed_by_calls (old.calls + length xs) (old.nodes + nodes_of xs) ys)) short ∙ ap (λ n. passed_by_calls n (old.nodes + nodes_of xs) ys) (flip counted) ∙ ap (λ n. passed_by_calls new.calls n ys) (flip nodes)

ops_both : (old new newer : Walk) (xs ys : List Item) → new.ops.items ≡ old.ops.items ++ flat_map native_ops xs → newer.ops.items ≡ new.ops.items ++ flat_map native_ops ys → newer.ops.items ≡ old.ops.items ++ flat_map native_ops (xs ++ ys)
ops_both old new newer xs ys h k =
    k ∙ ap (λ o. o ++ flat_map native_ops ys) h ∙ append_assoc old.ops.items (flat_map native_ops xs) (flat_map native_ops ys) ∙ ap (λ o. old.ops.items ++ o) (flip (flat_map-append native_ops xs ys))

-- one part of the walk behind another
pub walking_then : (gates : List GateDef) (old new newer : Walk) (before left last : List Visit) → Walking gates old new before left → Walking gates new newer left last → Walking gates old newer before last
walking_then gates old new newer before left last h k = record {
  visited = h.visited ++ k.visited;
  items = h.items ++ k.items;
  some = visits_then h.some k.some;
  short = short_both old new h.visited k.visited h.short h.counted h.nodes ∙ k.short;
  counted = omega (arith, h.counted, k.counted, length-append h.visited k.visited);
  nodes = omega (arith, h.nodes, k.nodes, nodes_append h.visited k.visited);
  plain = all_append IsPlain h.items k.items h.plain k.plain;
  leads = λ all e. subst (Expands gates (items_in before)) (flip (append_assoc h.items k.items all)) (h.leads (k.items ++ all) (k.leads all e));
  few = omega (arith, h.few, k.few, length-append h.visited k.visited, length-append h.items k.items);
  ops = ops_both old new newer h.items k.items h.ops k.ops;
}

-- nothing is left
pub walks_none : (gates : List GateDef) (walk : Walk) → Walks gates walk walk []
walks_none gates walk = record {
  visited = [];
  items = [];
  all = none;
  short = refl;
  counted = omega arith;
  nodes = omega arith;
  expands = plain tt;
  few = omega arith;
  ops = flip (append-nil walk.ops.items);
}

-- what is left is walked
pub walking_walks : (gates : List GateDef) (old new newer : Walk) (before left : List Visit) → Walking gates old new before left → Walks gates new newer left → Walks gates old newer before
walking_walks gates old new newer before left h k = record {
  visited = h.visited ++ k.visited;
  items = h.items ++ k.items;
  all = visits_then h.some k.all;
  short = short_both old new h.visited k.visited h.short h.counted h.nodes ∙ k.short;
  counted = omega (arith, h.counted, k.counted, length-append h.visited k.visited);
  nodes = omega (arith, h.nodes, k.nodes, nodes_append h.visited k.visited);
  expands = h.leads k.items k.expands;
  few = omega (arith, h.few, k.few, length-append h.visited k.visited, length-append h.items k.items);
  ops = ops_both old new newer h.items k.items h.ops k.ops;
}

-- what is left passes a limit
pub walking_passes : (gates : List GateDef) (old new : Walk) (before left : List Visit) (e : ExpandFault) → Walking gates old new before left → Passes gates new left e → Passes gates old before e
walking_passes gates old new before left e h k = record {
  visited = h.visited ++ k.visited;
  left = k.left;
  some = visits_then h.some k.some;
  first = fault_same (passed_by_calls old.calls old.nodes (h.visited ++ k.visited)) (passed_by_calls new.calls new.nodes k.visited) e (short_both old new h.visited k.visited h.short h.counted h.nodes) k.first;
}

-- the first call passes a limit
pub first_passes : (gates : List GateDef) (old : Walk) (calls : List Visit) (e : ExpandFault) → IsFault (passed_by_calls old.calls old.nodes (take 1 calls)) e → Passes gates old calls e
first_passes gates old [] e h = record { visited = []; left = []; some = none; first = h }
first_passes gates old (v ∷ vs) e h = record { visited = v ∷ []; left = within gates v.depth v.item ++ vs; some = next none; first = h }

-- calls, and those behind them
pub walks_append : (gates : List GateDef) (old new newer : Walk) (xs ys : List Visit) → Walks gates old new xs → Walks gates new newer ys → Walks gates old newer (xs ++ ys)
walks_append gates old new newer xs ys h k = record {
  visited = h.visited ++ k.visited;
  items = h.items ++ k.items;
  all = visits_then (visits_before ys h.all) k.all;
  short = short_both old new h.visited k.visited h.short h.counted h.nodes ∙ k.short;
  counted = omega (arith, h.counted, k.counted, length-append h.visited k.visited);
  nodes = omega (arith, h.nodes, k.nodes, nodes_append h.visited k.visited);
  expands = subst (λ xs. Expands gates xs (h.items ++ k.items)) (flip (items_append xs ys)) (expands_append h.expands k.expands);
  few = omega (arith, h.few, k.few, length-append h.visited k.visited, length-append h.items k.items);
  ops = ops_both old new newer h.items k.items h.ops k.ops;
}

pub passes_first : (gates : List GateDef) (old : Walk) (xs ys : List Visit) (e : ExpandFault) → Passes gates old xs e → Passes gates old (xs ++ ys) e
passes_first gates old xs ys e h =
    record { visited = h.visited; left = h.left ++ ys; some = visits_before ys h.some; first = h.first }

pub passes_second : (gates : List GateDef) (old new : Walk) (xs ys : List Visit) (e : ExpandFault) → Walks gates old new xs → Passes gates new ys e → Passes gates old (xs ++ ys) e
passes_second gates old new xs ys e h k = record {
  visited = h.visited ++ k.visited;
  left = k.left;
  some = visits_then (visits_before ys h.all) k.some;
  first = fault_same (passed_by_calls old.calls old.nodes (h.visited ++ k.visited)) (passed_by_calls new.calls new.nodes k.visited) e (short_both old new h.visited k.visited h.short h.counted h.nodes) k.first;
}

-- a call of the top that has no body
pub walks_plain : (gates : List GateDef) (old new : Walk) (v : Visit) → IsFit gates v.item → within gates v.depth v.item ≡ [] → VisitsCall old new v → Walks gates old new (v ∷ [])
walks_plain gates old new v fit closed h =
    let first : VisitsFirst gates old new (v ∷ []) [] = record { visit = v; others = []; first = refl; opens = flip (ap (λ w. w ++ []) closed); fit = fit; visits = h } in
    walking_walks gates old new new (v ∷ []) [] (walking_visit gates old new (v ∷ []) [] first) (walks_none gates new)

pub passes_plain : (gates : List GateDef) (old : Walk) (v : Visit) (e : ExpandFault) → IsFault (passed_by_calls old.calls old.nodes (v ∷ [])) e → Passes gates old (v ∷ []) e
passes_plain gates old v e h = first_passes gates old (v ∷ []) e h

-- a step of the walk
pub walking_step : (gates : List GateDef) (old new newer : Walk) (start : List Visit) (before after : List Frame) → Walking gates old new start (pending gates before) → Steps gates new newer before after → Walking gates old newer start (pending gates after)
walking_step gates old new newer start before after h s =
    by_kind h s.goes
  where
    by_kind : Walking gates old new start (pending gates before) → ((pending gates before ≡ pending gates after) × (newer ≡ new)) ⊎ VisitsFirst gates new newer (pending gates before) (pending gates after) → Walking gates old newer start (pending gates after)
    by_kind w (inl (same, stays)) =
        subst (λ n. Walking gates old n start (pending gates after)) (flip stays) (subst (Walking gates old new start) same w)
    by_kind w (inr visits) =
        walking_then gates old new newer start (pending gates before) (pending gates after) w (walking_visit gates new newer (pending gates before) (pending gates after) visits)

-- all bodies are at their end
pub walking_end : (gates : List GateDef) (old new : Walk) (start : List Visit) (frames : List Frame) → Walking gates old new start (pending gates frames) → frames ≡ [] → Walks gates old new start
walking_end gates old new start frames h none_left =
    walking_walks gates old new new start [] (subst (λ fs. Walking gates old new start (pending gates fs)) none_left h) (walks_none gates new)

at_depth_append : (d : ℕ) (xs ys : List Item) → at_depth d (xs ++ ys) ≡ at_depth d xs ++ at_depth d ys
at_depth_append d [] ys = refl
at_depth_append d (x ∷ xs) ys = ap (λ vs. record { depth = d; item = x } ∷ vs) (at_depth_append d xs ys)

-- the walk over items of the top, and those behind them
pub walks_items : (gates : List GateDef) (old new newer : Walk) (xs ys : List Item) → Walks gates old new (at_depth 1 xs) → Walks gates new newer (at_depth 1 ys) → Walks gates old newer (at_depth 1 (xs ++ ys))
walks_items gates old new newer xs ys h k =
    subst (Walks gates old newer) (flip (at_depth_append 1 xs ys)) (walks_append gates old new newer (at_depth 1 xs) (at_depth 1 ys) h k)

-- items behind those that were walked pass a limit, whatever comes behind them
pub passes_items : (gates : List GateDef) (old new : Walk) (xs ys zs : List Item) (e : ExpandFault) → Walks gates old new (at_depth 1 xs) → Passes gates new (at_depth 1 ys) e → Passes gates old (at_depth 1 (xs ++ (ys ++ zs))) e
passes_items gates old new xs ys zs e h k =
    let behind : Passes gates new (at_depth 1 (ys ++ zs)) e = subst (λ vs. Passes gates new vs e) (flip (at_depth_append 1 ys zs)) (passes_first gates new (at_depth 1 ys) (at_depth 1 zs) e k) in
    subst (λ vs. Passes gates old vs e) (flip (at_depth_append 1 xs (ys ++ zs))) (passes_second gates old new (at_depth 1 xs) (at_depth 1 (ys ++ zs)) e h behind)
