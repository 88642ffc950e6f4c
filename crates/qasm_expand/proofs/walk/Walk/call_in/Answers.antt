use Rattle.std.proofs.Common.{◌≡◌, ◌+◌, ◌∷◌, sym as flip, subst, length, arith}
use Rattle.std.specs.List.{AllByRecursion}
use Rattle.std.specs.Prelude.{map, get_or, reverse}
use Rattle.qasm_expand.specs.Walks.{angles_in, behind_call}
use Rattle.qasm_expand.specs.AngleNodes.{HasNoNames}
use Rattle.qasm_expand.proofs.CallLemmas.{on_ok_map, opens_same, call_visit, chosen_same, counted_small}
use Rattle.qasm_expand.proofs.AngleNodesLemmas.{angles_closed}
use Rattle.qasm_expand.proofs.walk.Walk.call_in.Goals as goal

pub perform-requires-clause-closed : goal.perform-requires-clause-closed
perform-requires-clause-closed c =
    let are : c.in_ok-angles.angles ≡ angles_in c.args.gate.now.params c.args.frame.angles c.args.call.now.exprs = cc (c.in_ok-angles.ensures.are) in
    subst (AllByRecursion HasNoNames) (flip are) (angles_closed c.args.gate.now.params c.args.frame.angles c.args.call.now.exprs c.requires.params c.requires.closed c.requires.over)

pub perform-requires-clause-small : goal.perform-requires-clause-small
perform-requires-clause-small c = counted_small _ _ _ _ c.in_ok-angles.ensures.ok

pub returns-clause-frames : goal.returns-clause-frames
returns-clause-frames c =
    let are : c.in_ok-angles.angles ≡ angles_in c.args.gate.now.params c.args.frame.angles c.args.call.now.exprs = cc (c.in_ok-angles.ensures.are) in
    let chosen : c.in_ok-qubits.qubits.items ≡ map (λ i. get_or c.args.frame.qubits.items i 0) c.args.call.now.args = chosen_same _ _ _ _ _ c.as_slice-3.ensures c.as_slice-4.ensures c.in_ok-qubits.ensures in
    on_ok_map c.perform.result (opens_same c.args.call.now.target (reverse c.push.new.stack.items) (behind_call c.args.frame ∷ reverse c.args.frames.now.items) c.in_ok-angles.angles (angles_in c.args.gate.now.params c.args.frame.angles c.args.call.now.exprs) c.in_ok-qubits.qubits.items (map (λ i. get_or c.args.frame.qubits.items i 0) c.args.call.now.args) (reverse c.perform.new.frames.items) c.in_ok-push.ensures are chosen) c.perform.ensures.frames

pub returns-clause-ok : goal.returns-clause-ok
returns-clause-ok c =
    let are : c.in_ok-angles.angles ≡ angles_in c.args.gate.now.params c.args.frame.angles c.args.call.now.exprs = cc (c.in_ok-angles.ensures.are) in
    let chosen : c.in_ok-qubits.qubits.items ≡ map (λ i. get_or c.args.frame.qubits.items i 0) c.args.call.now.args = chosen_same _ _ _ _ _ c.as_slice-3.ensures c.as_slice-4.ensures c.in_ok-qubits.ensures in
    let depth : c.len.result + 2 ≡ length c.args.frames.now.items + 2 = omega (arith, c.len.ensures) in
    on_ok_map c.perform.result (call_visit c.args.self.now c.count.new.self c.perform.new.self (c.len.result + 2) (length c.args.frames.now.items + 2) c.args.call.now.target c.in_ok-angles.angles (angles_in c.args.gate.now.params c.args.frame.angles c.args.call.now.exprs) c.in_ok-qubits.qubits.items (map (λ i. get_or c.args.frame.qubits.items i 0) c.args.call.now.args) c.requires.calls depth are chosen c.in_ok-angles.ensures.ok) c.perform.ensures.ops
