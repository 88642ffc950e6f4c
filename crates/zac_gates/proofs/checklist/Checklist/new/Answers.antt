use Rattle.std.proofs.Common.{ℕ, List, length, sym, ap, subst, arith}
use Rattle.zac_gates.specs.declared.circuit.Op.{Op}
use Rattle.zac_gates.specs.Waiting.{HasQubitsBelow, AreLinks, IsProgress}
use Rattle.zac_gates.proofs.CheckingFacts.{qubits_below, marks_none}
use Rattle.zac_gates.proofs.checklist.Checklist.new.Goals as goal

pub of-requires-clause-in_range : goal.of-requires-clause-in_range
of-requires-clause-in_range c =
    subst (λ (l : List Op). HasQubitsBelow l c.qubits.result) (sym c.ops-ops.ensures.value)
    (subst (λ (q : ℕ). HasQubitsBelow c.args.circuit.now.ops q) (sym c.qubits.ensures) (qubits_below c.args.circuit.now c.ops-ops.ensures.valid))

pub invariant_of-result : goal.invariant_of-result
invariant_of-result c =
    let value = c.ops-ops.ensures.value in
    record {
      order_len = omega (arith, c.in_ok-order.ensures.len, ap (λ (l : List Op). length l) value);
      count_in = omega arith;
      links_are = subst (λ (l : List Op). AreLinks l c.in_ok-links.links) value c.in_ok-links.ensures.links;
      progress_is = subst (λ (l : List Op). IsProgress l c.in_ok-progress.progress) value c.in_ok-progress.ensures.progress;
      qubits_are = omega (arith, c.in_ok-progress.ensures.qubits, c.in_ok-links.ensures.first_len, c.qubits.ensures);
      marks_are = marks_none c.args.circuit.now.ops c.in_ok-progress.progress.marks.items c.in_ok-progress.ensures.unmarked;
    }
