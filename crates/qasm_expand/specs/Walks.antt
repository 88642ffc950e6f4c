-- Inside: what a walk over calls, and the calls below them, counts and writes.
use Rattle.std.specs.Prelude.{◌≡◌, ◌⊎◌, ℕ, ◌+◌, ◌*◌, suc, ◌<◌, ◌≤◌, List, [], ◌∷◌, ◌++◌, length, map, drop, zip, Option, None, slice_get}
use Rattle.std.specs.List.{AllByRecursion, flat_map}
use Rattle.std.specs.Option.{option_or}
use Rattle.zac_gates.specs.declared.circuit.Op.{Op}
use Rattle.qasm_form.specs.declared.stmt.Node.{Node}
use Rattle.qasm_names.specs.declared.gate.GateDef.{GateDef}
use Rattle.qasm_names.specs.declared.gate.Target.{Target}
use Rattle.qasm_names.specs.declared.gate.Target.TheVariants as target
use Rattle.qasm_expand.specs.declared.fault.ExpandFault.{ExpandFault}
use Rattle.qasm_expand.specs.declared.fault.LimitKind.TheVariants as limit
use Rattle.qasm_expand.specs.declared.walk.Walk.{Walk}
use Rattle.qasm_expand.specs.declared.frame.Frame.{Frame}
use Rattle.qasm_expand.specs.Angles.{substitute}
use Rattle.qasm_expand.specs.Calls.{Visit, VisitsInOrder, items_in, opened, within}
use Rattle.qasm_expand.specs.Faults.{IsFault}
use Rattle.qasm_expand.specs.Items.{Item}
use Rattle.qasm_expand.specs.Items.Item.{Applied}
use Rattle.qasm_expand.specs.Limits.{Passed, beyond, angles_of, nodes_in, passed_by_angles, passed_by_calls}
use Rattle.qasm_expand.specs.Native.{native_ops}
use Rattle.qasm_expand.specs.Replacing.{Expands}
use Rattle.qasm_expand.specs.Fit.{IsFit}

-- The nodes of the angles of all these calls.
abbrev pub nodes_of : List Visit → ℕ
nodes_of [] = 0
nodes_of (v ∷ vs) = nodes_in (angles_of v.item) + nodes_of vs

-- These calls and all below them were visited within the limits: they are counted, and the ops of what they expand to
-- are written.
pub record Walks (gates : List GateDef) (old new : Walk) (calls : List Visit) : Type 0 where
  pub visited : List Visit
  pub items : List Item
  pub all : VisitsInOrder gates calls visited []
  pub short : passed_by_calls old.calls old.nodes visited ≡ None
  pub counted : new.calls ≡ old.calls + length visited
  pub nodes : new.nodes ≡ old.nodes + nodes_of visited
  pub expands : Expands gates (items_in calls) items
  pub few : length items ≤ length visited
  pub ops : new.ops.items ≡ old.ops.items ++ flat_map native_ops items

-- The visits of these calls come to one that passes a limit, which the fault tells; or memory was wanting.
pub record Passes (gates : List GateDef) (old : Walk) (calls : List Visit) (fault : ExpandFault) : Type 0 where
  pub visited : List Visit
  pub left : List Visit
  pub some : VisitsInOrder gates calls visited left
  pub first : IsFault (passed_by_calls old.calls old.nodes visited) fault

-- The limits on the number of calls and on the depth, for one more call.
abbrev pub passed_by_call : ℕ → ℕ → Option Passed
passed_by_call calls depth = option_or (beyond limit.Calls 262144 (suc calls)) (beyond limit.Depth 64 depth)

-- One more call of this depth is counted, within the limits.
pub record CountsCall (old new : Walk) (depth : ℕ) : Type 0 where
  pub short : passed_by_call old.calls depth ≡ None
  pub calls : new.calls ≡ suc old.calls
  pub nodes : new.nodes ≡ old.nodes
  pub ops : new.ops ≡ old.ops

-- The nodes of these angles are counted, within the limits.
pub record CountsAngles (old new : Walk) (angles : List (List Node)) : Type 0 where
  pub short : passed_by_angles old.nodes angles ≡ None
  pub calls : new.calls ≡ old.calls
  pub nodes : new.nodes ≡ old.nodes + nodes_in angles
  pub ops : new.ops ≡ old.ops

-- the angles of a call in a body, where the gate with these parameters is called with these angles
abbrev pub angles_in : List (List ℕ) → List (List Node) → List (List Node) → List (List Node)
angles_in params angles exprs = map (substitute (zip params angles)) exprs

-- A call of this depth is counted with its angles.
pub record Counts (old new : Walk) (depth : ℕ) (angles : List (List Node)) : Type 0 where
  pub short : option_or (passed_by_call old.calls depth) (passed_by_angles old.nodes angles) ≡ None
  pub calls : new.calls ≡ suc old.calls
  pub nodes : new.nodes ≡ old.nodes + nodes_in angles
  pub ops : new.ops ≡ old.ops

-- The angle has at most 256 nodes.
abbrev pub IsSmall : List Node → Type 0
IsSmall angle = length angle ≤ 256

-- the call of a gate whose body is being performed
abbrev pub call_of : Frame → Item
call_of f = Applied (target.Gate f.place) f.angles f.qubits.items

-- the same counts, and these ops more
pub record AddsOps (old new : Walk) (more : List Op) : Type 0 where
  pub calls : new.calls ≡ old.calls
  pub nodes : new.nodes ≡ old.nodes
  pub ops : new.ops.items ≡ old.ops.items ++ more

-- There is one frame more where this is a call of a gate with a body, and else none.
abbrev pub OpensFrame : List Frame → Target → List (List Node) → List ℕ → List Frame → Type 0
OpensFrame before (target.Gate place) angles qubits after =
    (f : Frame) × (f.place ≡ place) × (f.next ≡ 0) × (f.angles ≡ angles) × (f.qubits.items ≡ qubits) × (after ≡ f ∷ before)
OpensFrame before other angles qubits after = after ≡ before

-- The frame behind the next call of its body.
abbrev pub behind_call : Frame → Frame
behind_call f = record f { next = f.next + 1 }

-- what is left of a body, below so many others
abbrev pub rest_of : List GateDef → ℕ → Frame → List Visit
rest_of gates below f = drop f.next (opened (slice_get gates f.place) (suc below) f.angles f.qubits.items)

-- What is left of all bodies, the innermost first.
abbrev pub pending : List GateDef → List Frame → List Visit
pending gates [] = []
pending gates (f ∷ fs) = rest_of gates (length fs) f ++ pending gates fs

-- The calls of these frames are fit.
abbrev pub AreFit : List GateDef → List Frame → Type 0
AreFit gates frames = AllByRecursion (λ f. IsFit gates (call_of f)) frames

-- A call was visited: it is counted with its angles, and its ops are written.
pub record VisitsCall (old new : Walk) (v : Visit) : Type 0 where
  pub short : passed_by_calls old.calls old.nodes (v ∷ []) ≡ None
  pub counted : new.calls ≡ suc old.calls
  pub nodes : new.nodes ≡ old.nodes + nodes_in (angles_of v.item)
  pub ops : new.ops.items ≡ old.ops.items ++ native_ops v.item

-- The first of these calls was visited, and the calls of its body stand before the others.
pub record VisitsFirst (gates : List GateDef) (old new : Walk) (before left : List Visit) : Type 0 where
  pub visit : Visit
  pub others : List Visit
  pub first : before ≡ visit ∷ others
  pub opens : left ≡ within gates visit.depth visit.item ++ others
  pub fit : IsFit gates visit.item
  pub visits : VisitsCall old new visit

-- The innermost body was at its end and was left, or its first call was visited.
pub record Steps (gates : List GateDef) (old new : Walk) (before after : List Frame) : Type 0 where
  pub fit : AreFit gates after
  pub less : length after + 2 * old.calls < length before + 2 * new.calls
  pub goes : ((pending gates before ≡ pending gates after) × (new ≡ old)) ⊎ VisitsFirst gates old new (pending gates before) (pending gates after)
