use Rattle.std.proofs.Common.{◌≡◌, ℕ, ◌+◌, ◌*◌, ◌≤◌, List, [], fold, get_or, length, map, max, set, refl, sym, ap, ◌∙◌, subst, arith}
use Rattle.std.proofs.lemmas.Nat.{mul-le}
use Rattle.std.proofs.lemmas.List.{with_items_is}
use Rattle.std.specs.Vec.{with_items}
use Rattle.zac_arch.specs.declared.card.Figures.{Figures}
use Rattle.zair_form.specs.declared.program.Act.TheVariants as act
use Rattle.zair_form.specs.declared.step.OneGate.{OneGate}
use Rattle.zac_sched.specs.Ends.{IsFreeFrom}
use Rattle.zac_sched.specs.declared.ends.Ends.{Ends}
use Rattle.zac_sched.specs.declared.todo.Todo.TheVariants as todo
use Rattle.zac_sched.proofs.ByKind.{of_qubit, gates_free, gates_mark, qubits_kept}
use Rattle.zac_sched.proofs.Going.{begins_low, gates_last, goes_on, no_job}
use Rattle.zac_sched.proofs.ends.Ends.gates.Goals as goal

pub overflow_add-end : goal.overflow_add-end
overflow_add-end c =
    let a = c.args.card.now in
    let old = c.args.self.now in
    let ones = c.args.ones in
    let begin : c.after_gates-begin.result ≡ fold max old.laser (map (λ (g : OneGate). of_qubit old g.q) ones) =
    c.after_gates-begin.ensures ∙ (λ i. fold max old.laser (map (λ (g : OneGate). get_or (c.deref.ensures.value i) g.q 0) (c.as_slice.ensures i))) in
    let low = begins_low a old (act.Gates ones) c.after_gates-begin.result c.requires.room
    (λ earlier h. subst (λ (m : ℕ). IsFreeFrom a earlier (act.Gates ones) m) (sym begin) (gates_free a old ones c.requires.qubits earlier h)) in
    let one : c.from.result ≤ 1000000000 = omega (arith, c.from.ensures, c.figures.ensures.ranges.one_most) in
    let count : length c.as_slice-2.result.now ≤ 16000000 = subst (λ (os : List OneGate). length os ≤ 16000000) (sym c.as_slice-2.ensures) c.requires.few in
    let most = mul-le c.from.result (length c.as_slice-2.result.now) 1000000000 16000000 one count in
    omega arith

pub returns : goal.returns
returns c =
    let a = c.args.card.now in
    let old = c.args.self.now in
    let ones = c.args.ones in
    let begin : c.after_gates-begin.result ≡ fold max old.laser (map (λ (g : OneGate). of_qubit old g.q) ones) =
    c.after_gates-begin.ensures ∙ (λ i. fold max old.laser (map (λ (g : OneGate). get_or (c.deref.ensures.value i) g.q 0) (c.as_slice.ensures i))) in
    let one : c.from.result ≡ a.figures.one = c.from.ensures ∙ ap (λ (f : Figures). f.one) c.figures.ensures.figures in
    let end : ℕ = c.after_gates-begin.result + c.from.result * length c.as_slice-2.result.now in
    let some : 1 ≤ a.figures.aods = subst (λ (f : Figures). 1 ≤ f.aods) c.figures.ensures.figures c.figures.ensures.ranges.aods_least in
    let length_is : length c.mark_gates.new.qubits ≡ old.qubits.len = omega (arith, c.mark_gates.auto.qubits, c.deref_mut.ensures.len) in
    let qubits : (with_items old.qubits c.mark_gates.new.qubits).items ≡ fold (λ ns (g : OneGate). set ns g.q end) old.qubits.items ones =
    with_items_is old.qubits c.mark_gates.new.qubits length_is ∙ c.mark_gates.ensures ∙ (λ i. fold (λ (ns : List ℕ) (g : OneGate). set ns g.q end) (c.deref_mut.ensures.value i) (c.as_slice-3.ensures i)) in
    let new : Ends = record { laser = end; aods = old.aods; qubits = with_items old.qubits c.mark_gates.new.qubits; traps = old.traps; zones = old.zones; pulse = old.pulse } in
    goes_on a old new (todo.Gates ones) (act.Gates ones) c.after_gates-begin.result (a.figures.one * length ones) end
    (no_job a old (todo.Gates ones) (act.Gates ones) some (λ aod. refl))
    (λ earlier h. subst (λ (m : ℕ). IsFreeFrom a earlier (act.Gates ones) m) (sym begin) (gates_free a old ones c.requires.qubits earlier h))
    (gates_last a.figures [] ones)
    (λ i. c.after_gates-begin.result + one i * length (c.as_slice-2.ensures i))
    (gates_mark a old new ones end (record { aods = refl; traps = refl; zones = refl }) refl refl qubits)
    (qubits_kept (λ (g : OneGate). g.q) end ones old.qubits.items new.qubits.items qubits)
