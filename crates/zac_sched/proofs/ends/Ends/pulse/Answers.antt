use Rattle.std.proofs.Common.{◌≡◌, ℕ, ◌+◌, ◌≤◌, fold, get_or, length, map, max, refl, sym, ap, ◌∙◌, subst, arith}
use Rattle.std.proofs.lemmas.List.{with_items_is}
use Rattle.std.specs.Vec.{with_items}
use Rattle.zac_arch.specs.declared.card.Figures.{Figures}
use Rattle.zair_form.specs.declared.program.Act.TheVariants as act
use Rattle.zair_form.specs.declared.step.PairOf.{PairOf}
use Rattle.zac_sched.specs.Ends.{IsFreeFrom}
use Rattle.zac_sched.specs.declared.ends.Ends.{Ends}
use Rattle.zac_sched.specs.declared.todo.Todo.TheVariants as todo
use Rattle.zac_sched.proofs.ByKind.{of_qubit, note_pair, pairs_kept, pulse_free, pulse_mark}
use Rattle.zac_sched.proofs.Going.{begins_low, goes_on, no_job, one_lasts}
use Rattle.zac_sched.proofs.ends.Ends.pulse.Goals as goal

pub overflow_add-end : goal.overflow_add-end
overflow_add-end c =
    let a = c.args.card.now in
    let old = c.args.self.now in
    let pairs = c.args.pairs in
    let begin : c.after_pairs-begin.result ≡ fold max (max old.laser old.zones) (map (λ (p : PairOf). max (of_qubit old p.a) (of_qubit old p.b)) pairs) =
    c.after_pairs-begin.ensures ∙ (λ i. fold max (c.max.ensures i) (map (λ (p : PairOf). max (get_or (c.deref.ensures.value i) p.a 0) (get_or (c.deref.ensures.value i) p.b 0)) (c.as_slice.ensures i))) in
    let low = begins_low a old (act.Rydberg pairs) c.after_pairs-begin.result c.requires.room
    (λ earlier h. subst (λ (m : ℕ). IsFreeFrom a earlier (act.Rydberg pairs) m) (sym begin) (pulse_free a old pairs c.requires.qubits earlier h)) in
    let most : c.from.result ≤ 1000000000 = omega (arith, c.from.ensures, c.figures.ensures.ranges.pulse_most) in
    omega arith

pub returns : goal.returns
returns c =
    let a = c.args.card.now in
    let old = c.args.self.now in
    let pairs = c.args.pairs in
    let begin : c.after_pairs-begin.result ≡ fold max (max old.laser old.zones) (map (λ (p : PairOf). max (of_qubit old p.a) (of_qubit old p.b)) pairs) =
    c.after_pairs-begin.ensures ∙ (λ i. fold max (c.max.ensures i) (map (λ (p : PairOf). max (get_or (c.deref.ensures.value i) p.a 0) (get_or (c.deref.ensures.value i) p.b 0)) (c.as_slice.ensures i))) in
    let lasts : c.from.result ≡ a.figures.pulse = c.from.ensures ∙ ap (λ (f : Figures). f.pulse) c.figures.ensures.figures in
    let end : ℕ = c.after_pairs-begin.result + c.from.result in
    let some : 1 ≤ a.figures.aods = subst (λ (f : Figures). 1 ≤ f.aods) c.figures.ensures.figures c.figures.ensures.ranges.aods_least in
    let length_is : length c.mark_pairs.new.qubits ≡ old.qubits.len = omega (arith, c.mark_pairs.auto.qubits, c.deref_mut.ensures.len) in
    let qubits : (with_items old.qubits c.mark_pairs.new.qubits).items ≡ fold (note_pair end) old.qubits.items pairs =
    with_items_is old.qubits c.mark_pairs.new.qubits length_is ∙ c.mark_pairs.ensures ∙ (λ i. fold (note_pair end) (c.deref_mut.ensures.value i) (c.as_slice-2.ensures i)) in
    let new : Ends = record { laser = end; aods = old.aods; qubits = with_items old.qubits c.mark_pairs.new.qubits; traps = old.traps; zones = old.zones; pulse = end } in
    goes_on a old new (todo.Rydberg pairs) (act.Rydberg pairs) c.after_pairs-begin.result a.figures.pulse end
    (no_job a old (todo.Rydberg pairs) (act.Rydberg pairs) some (λ aod. refl))
    (λ earlier h. subst (λ (m : ℕ). IsFreeFrom a earlier (act.Rydberg pairs) m) (sym begin) (pulse_free a old pairs c.requires.qubits earlier h))
    (a.figures.pulse, 0, one_lasts a.figures.pulse, refl, refl)
    (λ i. c.after_pairs-begin.result + lasts i)
    (pulse_mark a old new pairs end (record { aods = refl; traps = refl; zones = refl }) refl refl qubits)
    (pairs_kept end pairs old.qubits.items new.qubits.items qubits)
