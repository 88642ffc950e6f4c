use Rattle.std.proofs.Common.{ℕ, inl, inr, List, fold, length, set, refl, sym, ap, ◌∙◌, arith}
use Rattle.zac_arch.specs.declared.place.TrapId.{TrapId}
use Rattle.zac_group.specs.declared.shift.Shift.{Shift}
use Rattle.zac_sched.proofs.GridTraps.{clear_of_zones, meets}
use Rattle.zac_sched.proofs.JobGrids.{changed, changes, grid_within, marks}
use Rattle.zac_sched.proofs.ends.Ends.mark_job.Goals as goal

pub mark_traps-requires : goal.mark_traps-requires
mark_traps-requires c =
    grid_within c.args.job.now.card c.args.card.now c.args.job.now.shifts c.grid-grid.result.now c.requires.card c.laws_of_traps.ensures.one_trap c.grid-grid.ensures
    _ (ap length c.deref_mut-2.ensures.value ∙ c.requires.traps)

pub returns-then-meets_zones-clause-marked : goal.returns-then-meets_zones-clause-marked
returns-then-meets_zones-clause-marked c =
    let a = c.args.card.now in
    let old = c.args.self.now in
    let aod = c.args.aod in
    let end = c.args.end in
    let shifts = c.args.job.now.shifts in
    let grid = c.grid-grid.result.now in
    let qubits = c.mark_moves.new.qubits in
    let traps = c.mark_traps.new.traps in
    let met = meets a grid c.storage_traps.result c.storage_traps.ensures (sym c.meets_zones.ensures ∙ c.if-meets_zones.true) in
    marks c.args.job.now.card a shifts grid c.requires.card c.laws_of_traps.ensures.one_trap c.grid-grid.ensures old aod c.shifts.ensures.group c.job_resources.ensures
    end (changed old aod end qubits traps c.max-self.result)
    (changes old aod shifts grid end qubits traps c.max-self.result (omega (arith, c.mark_moves.auto.qubits, c.deref_mut.ensures.len))
    (c.mark_moves.ensures ∙ (λ i. fold (λ (ns : List ℕ) (s : Shift). set ns s.q end) (c.deref_mut.ensures.value i) (c.shifts.ensures.shifts i)))
    (omega (arith, c.mark_traps.auto.traps, c.deref_mut-2.ensures.len))
    (c.mark_traps.ensures ∙ (λ i. fold (λ (ns : List ℕ) (k : TrapId). set ns k.0 end) (c.deref_mut-2.ensures.value i) grid)))
    (inl (met, c.max-self.ensures))

pub returns-else-meets_zones-clause-marked : goal.returns-else-meets_zones-clause-marked
returns-else-meets_zones-clause-marked c =
    let a = c.args.card.now in
    let old = c.args.self.now in
    let aod = c.args.aod in
    let end = c.args.end in
    let shifts = c.args.job.now.shifts in
    let grid = c.grid-grid.result.now in
    let qubits = c.mark_moves.new.qubits in
    let traps = c.mark_traps.new.traps in
    let clear = clear_of_zones a grid c.storage_traps.result c.storage_traps.ensures (sym c.meets_zones.ensures ∙ c.if-meets_zones.false) in
    marks c.args.job.now.card a shifts grid c.requires.card c.laws_of_traps.ensures.one_trap c.grid-grid.ensures old aod c.shifts.ensures.group c.job_resources.ensures
    end (changed old aod end qubits traps old.zones)
    (changes old aod shifts grid end qubits traps old.zones (omega (arith, c.mark_moves.auto.qubits, c.deref_mut.ensures.len))
    (c.mark_moves.ensures ∙ (λ i. fold (λ (ns : List ℕ) (s : Shift). set ns s.q end) (c.deref_mut.ensures.value i) (c.shifts.ensures.shifts i)))
    (omega (arith, c.mark_traps.auto.traps, c.deref_mut-2.ensures.len))
    (c.mark_traps.ensures ∙ (λ i. fold (λ (ns : List ℕ) (k : TrapId). set ns k.0 end) (c.deref_mut-2.ensures.value i) grid)))
    (inr (clear, refl))
