use Rattle.std.proofs.Common.{◌≡◌, ℕ, List, length, sym, subst, arith}
use Rattle.zac_gates.specs.Waiting.{HasQubitsBelow}
use Rattle.zac_gates.specs.declared.circuit.Op.{Op}
use Rattle.zac_gates.proofs.CheckingFacts.{qubits_below}
use Rattle.zac_place.specs.Homes.{IsUsedBefore}
use Rattle.zac_place.specs.Uses.{AreUsed}
use Rattle.zac_place.proofs.UseFacts.{AreUsed-visit, IsOrderBelow-used, first_pair-most, IsOrderBelow-length, used_apart}
use Rattle.zac_place.proofs.uses.qubits_by_use.Goals as goal

pub visit_pair-requires-clause-in_range : goal.visit_pair-requires-clause-in_range
visit_pair-requires-clause-in_range c =
    let number : c.args.circuit.now.qubits ≡ c.loop-i.uses.seen.len = omega (arith, c.loop-i.invariant.len) in
    subst (λ (l : List Op). HasQubitsBelow l c.loop-i.uses.seen.len) (sym c.ops-ops.ensures.value)
    (subst (λ (q : ℕ). HasQubitsBelow c.args.circuit.now.ops q) number (qubits_below c.args.circuit.now c.ops-ops.ensures.valid))

pub loop-q-preserved : goal.loop-q-preserved
loop-q-preserved c =
    let ops = c.args.circuit.now.ops in
    let q = c.loop-q.q in
    AreUsed-visit ops c.args.circuit.now.qubits _ q q c.loop-q.uses c.visit.new.self c.loop-q.invariant c.in_ok-visit.ensures
    (omega (arith, c.loop-q-test.true, c.qubits-qubits.ensures)) (first_pair-most ops q) (omega arith) (λ p le lt. absurd (omega arith))

pub returns-clause-order : goal.returns-clause-order
returns-clause-order c =
    let qubits = c.args.circuit.now.qubits in
    let ops = c.args.circuit.now.ops in
    let all : c.loop-q.q ≡ qubits = omega (arith, c.qubits-qubits.ensures) in
    IsOrderBelow-used ops qubits c.loop-q.uses (subst (λ (r : ℕ). AreUsed ops qubits (length ops) r c.loop-q.uses) all c.loop-q.invariant)

pub returns-clause-number : goal.returns-clause-number
returns-clause-number c =
    let ops = c.args.circuit.now.ops in
    omega (arith, IsOrderBelow-length (IsUsedBefore ops) (used_apart ops) c.args.circuit.now.qubits c.loop-q.uses.order.items (returns-clause-order c))
