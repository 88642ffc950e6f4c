use Rattle.std.proofs.Common.{◌≡◌, ◌<◌, ℕ, Some, None, length, arith, refl, sym, ap, ◌∙◌}
use Rattle.std.specs.List.{slice_get}
use Rattle.std.proofs.lemmas.Option.{slice_get_read}
use Rattle.std.proofs.lemmas.Grind.{get_or_default_zero}
use Rattle.zac_gates.specs.Waiting.{gate_qubits}
use Rattle.zac_gates.proofs.WaitingFacts.{fence_below, gate_awaited, read_awaited, read_of_no_qubits}
use Rattle.zac_gates.proofs.waiting.Progress.awaited.Goals as goal

pub first_before_gate-requires : goal.first_before_gate-requires
first_before_gate-requires c =
    let same = get_or_default_zero c.args.links.now.fences.items c.args.op c.index-fence.result.now (omega (arith, c.requires.op_in, c.requires.links.fences_len)) in
    omega (arith, c.index-fence.ensures, same, fence_below c.args.ops.now c.args.links.now c.args.op c.requires.links c.requires.op_in)

pub returns-in-Some : goal.returns-in-Some
returns-in-Some c =
    let ops = c.args.ops.now in
    let n = c.args.op in
    let on = c.args.self.now.on_qubit.items in
    let op = c.index-ops-op.result in
    let is : slice_get ops n ≡ Some op = slice_get_read ops (length ops) n op refl c.requires.op_in c.index-ops-op.is in
    let p : ℕ × ℕ = (c.in-Some.a, c.in-Some.b) in
    let has : gate_qubits op ≡ Some p = cc in
    let below = c.requires.in_range n op p is has in
    let left_in : c.in-Some.a < length on = omega (arith, below.0) in
    let right_in : c.in-Some.b < length on = omega (arith, below.1) in
    gate_awaited ops c.args.links.now c.args.self.now n op p c.requires.links c.requires.progress c.requires.op_in is has left_in right_in
    c.first_before_gate.result c.index-fence.result.now c.index-on_a.result.now c.index-on_b.result.now
    (c.index-fence.ensures ∙ get_or_default_zero c.args.links.now.fences.items n c.index-fence.result.now (omega (arith, c.requires.op_in, c.requires.links.fences_len)))
    (c.index-on_a.ensures ∙ get_or_default_zero on c.in-Some.a c.index-on_a.result.now left_in)
    (c.index-on_b.ensures ∙ get_or_default_zero on c.in-Some.b c.index-on_b.result.now right_in)
    c.first_before_gate.ensures

pub returns-in-None : goal.returns-in-None
returns-in-None c =
    let ops = c.args.ops.now in
    let n = c.args.op in
    let op = c.index-ops-op.result in
    let is : slice_get ops n ≡ Some op = slice_get_read ops (length ops) n op refl c.requires.op_in c.index-ops-op.is in
    let none : gate_qubits op ≡ None = sym c.gate_qubits.ensures ∙ c.in-None.is in
    read_awaited ops c.args.self.now n op c.requires.progress c.requires.op_in is
    (read_of_no_qubits op none (λ fence. c.requires.no_fence (is ∙ ap (λ o. Some o) fence)))
    c.first_before_read.result c.first_before_read.ensures
