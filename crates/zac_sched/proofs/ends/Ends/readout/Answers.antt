use Rattle.std.proofs.Common.{◌≡◌, ℕ, ◌+◌, ◌≤◌, List, fold, get_or, length, map, max, set, refl, sym, ap, ◌∙◌, subst, arith}
use Rattle.std.proofs.lemmas.List.{with_items_is}
use Rattle.std.specs.Vec.{with_items}
use Rattle.zac_arch.specs.declared.card.Figures.{Figures}
use Rattle.zair_form.specs.declared.program.Act.TheVariants as act
use Rattle.zair_form.specs.declared.step.ReadOf.{ReadOf}
use Rattle.zac_sched.specs.Ends.{IsFreeFrom}
use Rattle.zac_sched.specs.declared.ends.Ends.{Ends}
use Rattle.zac_sched.specs.declared.todo.Todo.TheVariants as todo
use Rattle.zac_sched.proofs.ByKind.{of_qubit, readout_free, readout_mark, qubits_kept}
use Rattle.zac_sched.proofs.Going.{begins_low, goes_on, no_job, one_lasts}
use Rattle.zac_sched.proofs.ends.Ends.readout.Goals as goal

pub overflow_add-end : goal.overflow_add-end
overflow_add-end c =
    let a = c.args.card.now in
    let old = c.args.self.now in
    let reads = c.args.reads in
    let begin : c.after_reads-begin.result ≡ fold max old.laser (map (λ (r : ReadOf). of_qubit old r.q) reads) =
    c.after_reads-begin.ensures ∙ (λ i. fold max old.laser (map (λ (r : ReadOf). get_or (c.deref.ensures.value i) r.q 0) (c.as_slice.ensures i))) in
    let low = begins_low a old (act.Readout reads) c.after_reads-begin.result c.requires.room
    (λ earlier h. subst (λ (m : ℕ). IsFreeFrom a earlier (act.Readout reads) m) (sym begin) (readout_free a old reads c.requires.qubits earlier h)) in
    let most : c.from.result ≤ 1000000000 = omega (arith, c.from.ensures, c.figures.ensures.ranges.readout_most) in
    omega arith

pub returns : goal.returns
returns c =
    let a = c.args.card.now in
    let old = c.args.self.now in
    let reads = c.args.reads in
    let begin : c.after_reads-begin.result ≡ fold max old.laser (map (λ (r : ReadOf). of_qubit old r.q) reads) =
    c.after_reads-begin.ensures ∙ (λ i. fold max old.laser (map (λ (r : ReadOf). get_or (c.deref.ensures.value i) r.q 0) (c.as_slice.ensures i))) in
    let lasts : c.from.result ≡ a.figures.readout = c.from.ensures ∙ ap (λ (f : Figures). f.readout) c.figures.ensures.figures in
    let end : ℕ = c.after_reads-begin.result + c.from.result in
    let some : 1 ≤ a.figures.aods = subst (λ (f : Figures). 1 ≤ f.aods) c.figures.ensures.figures c.figures.ensures.ranges.aods_least in
    let length_is : length c.mark_reads.new.qubits ≡ old.qubits.len = omega (arith, c.mark_reads.auto.qubits, c.deref_mut.ensures.len) in
    let qubits : (with_items old.qubits c.mark_reads.new.qubits).items ≡ fold (λ ns (r : ReadOf). set ns r.q end) old.qubits.items reads =
    with_items_is old.qubits c.mark_reads.new.qubits length_is ∙ c.mark_reads.ensures ∙ (λ i. fold (λ (ns : List ℕ) (r : ReadOf). set ns r.q end) (c.deref_mut.ensures.value i) (c.as_slice-2.ensures i)) in
    let new : Ends = record { laser = end; aods = old.aods; qubits = with_items old.qubits c.mark_reads.new.qubits; traps = old.traps; zones = old.zones; pulse = old.pulse } in
    goes_on a old new (todo.Readout reads) (act.Readout reads) c.after_reads-begin.result a.figures.readout end
    (no_job a old (todo.Readout reads) (act.Readout reads) some (λ aod. refl))
    (λ earlier h. subst (λ (m : ℕ). IsFreeFrom a earlier (act.Readout reads) m) (sym begin) (readout_free a old reads c.requires.qubits earlier h))
    (a.figures.readout, 0, one_lasts a.figures.readout, refl, refl)
    (λ i. c.after_reads-begin.result + lasts i)
    (readout_mark a old new reads end (record { aods = refl; traps = refl; zones = refl }) refl refl qubits)
    (qubits_kept (λ (r : ReadOf). r.q) end reads old.qubits.items new.qubits.items qubits)
