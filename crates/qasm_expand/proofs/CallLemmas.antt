-- The visit of one call.
use Rattle.std.proofs.Common.{◌≡◌, ◌≢◌, ℕ, List, [], ◌∷◌, ◌++◌, get_or, Ok, Err, Result, refl, sym as flip, ◌∙◌, ap, subst}
use Rattle.std.specs.Prelude.{map}
use Rattle.std.specs.Result.{OnOk}
use Rattle.std.specs.Option.{option_or}
use Rattle.std.specs.List.{AllByRecursion}
use Rattle.qasm_form.specs.declared.stmt.Node.{Node}
use Rattle.qasm_names.specs.declared.gate.Target.{Target}
use Rattle.qasm_names.specs.declared.gate.Target.TheVariants as target
use Rattle.qasm_expand.specs.declared.walk.Walk.{Walk}
use Rattle.qasm_expand.specs.declared.frame.Frame.{Frame}
use Rattle.qasm_expand.specs.declared.fault.ExpandFault.{ExpandFault}
use Rattle.qasm_expand.specs.Calls.{Visit}
use Rattle.qasm_expand.specs.Faults.{IsFault}
use Rattle.qasm_expand.specs.Items.{Item}
use Rattle.qasm_expand.specs.Items.Item.{Applied}
use Rattle.qasm_expand.specs.Limits.{passed_by_angles, passed_by_calls}
use Rattle.qasm_expand.specs.Native.{ops_on}
use Rattle.qasm_expand.specs.Replacing.{inner}
use Rattle.qasm_expand.specs.Walks.{Counts, AddsOps, OpensFrame, VisitsCall, IsSmall, passed_by_call}
use Rattle.qasm_expand.proofs.FaultsLemmas.{or_right_none, fault_same}
use Rattle.qasm_expand.proofs.LimitsLemmas.{passed_one, passed_angle_short}

pub on_ok_map : {T E P Q : Type 0} (r : Result T E) → (P → Q) → OnOk r P → OnOk r Q
on_ok_map (Ok x) f h = f h
on_ok_map (Err e) f h = tt

pub inner_applied : (t : Target) (angles : List (List Node)) (qubits : List ℕ) → t ≢ target.Barrier → inner t angles qubits ≡ Applied t angles qubits
inner_applied target.Barrier angles qubits not = absurd (not refl)
inner_applied other angles qubits not = refl

pub opens_same : (t : Target) (before frames : List Frame) (angles made : List (List Node)) (qubits chosen : List ℕ) (after : List Frame) → before ≡ frames → angles ≡ made → qubits ≡ chosen → OpensFrame before t angles qubits after → OpensFrame frames t made chosen after
opens_same t before frames angles made qubits chosen after e f g h =
    subst (λ x. OpensFrame frames t made x after) g (subst (λ x. OpensFrame frames t x qubits after) f (subst (λ x. OpensFrame x t angles qubits after) e h))

pub applied_visit : (old mid new : Walk) (d : ℕ) (t : Target) (angles : List (List Node)) (qubits : List ℕ) → Counts old mid d angles → AddsOps mid new (ops_on t angles qubits) → VisitsCall old new (record { depth = d; item = Applied t angles qubits })
applied_visit old mid new d t angles qubits c w = record {
  short = passed_one old.calls old.nodes (record { depth = d; item = Applied t angles qubits }) ∙ c.short;
  counted = w.calls ∙ c.calls;
  nodes = w.nodes ∙ c.nodes;
  ops = w.ops ∙ ap (λ o. o.items ++ ops_on t angles qubits) c.ops;
}

-- a call that was counted and performed
pub call_visit : (old mid new : Walk) (d depth : ℕ) (t : Target) (angles made : List (List Node)) (qubits chosen : List ℕ) → t ≢ target.Barrier → d ≡ depth → angles ≡ made → qubits ≡ chosen → Counts old mid d angles → AddsOps mid new (ops_on t angles qubits) → VisitsCall old new (record { depth = depth; item = inner t made chosen })
call_visit old mid new d depth t angles made qubits chosen not e f g c w =
    subst (λ (i : Item). VisitsCall old new (record { depth = depth; item = i })) (flip (inner_applied t made chosen not)) (subst (λ x. VisitsCall old new (record { depth = depth; item = Applied t made x })) g (subst (λ x. VisitsCall old new (record { depth = depth; item = Applied t x qubits })) f (subst (λ x. VisitsCall old new (record { depth = x; item = Applied t angles qubits })) e (applied_visit old mid new d t angles qubits c w))))

-- its angles have at most 256 nodes each
pub counted_small : (old new : Walk) (d : ℕ) (angles : List (List Node)) → Counts old new d angles → AllByRecursion IsSmall angles
counted_small old new d angles c =
    passed_angle_short old.nodes angles (or_right_none (passed_by_call old.calls d) (passed_by_angles old.nodes angles) c.short)

-- a call that passes a limit
pub call_fails : (old : Walk) (d depth : ℕ) (t : Target) (angles : List (List Node)) (qubits : List ℕ) (e : ExpandFault) → t ≢ target.Barrier → d ≡ depth → IsFault (option_or (passed_by_call old.calls d) (passed_by_angles old.nodes angles)) e → IsFault (passed_by_calls old.calls old.nodes (record { depth = depth; item = inner t angles qubits } ∷ [])) e
call_fails old d depth t angles qubits e not same h =
    let v : Item → Visit = λ i. record { depth = depth; item = i } in
    fault_same (passed_by_calls old.calls old.nodes (v (inner t angles qubits) ∷ [])) (option_or (passed_by_call old.calls d) (passed_by_angles old.nodes angles)) e (ap (λ i. passed_by_calls old.calls old.nodes (v i ∷ [])) (inner_applied t angles qubits not) ∙ passed_one old.calls old.nodes (v (Applied t angles qubits)) ∙ ap (λ x. option_or (passed_by_call old.calls x) (passed_by_angles old.nodes angles)) (flip same)) h

pub chosen_same : (chosen from of places args : List ℕ) → from ≡ of → places ≡ args → chosen ≡ map (λ i. get_or from i 0) places → chosen ≡ map (λ i. get_or of i 0) args
chosen_same chosen from of places args e f h =
    subst (λ x. chosen ≡ map (λ i. get_or of i 0) x) f (subst (λ x. chosen ≡ map (λ i. get_or x i 0) places) e h)
