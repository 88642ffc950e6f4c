use Rattle.std.proofs.Common.{inl, inr, length, refl, sym, ap, ◌∙◌}
use Rattle.zac_sched.proofs.GridTraps.{clear_of_zones, meets}
use Rattle.zac_sched.proofs.JobGrids.{begins, from_ends, grid_within}
use Rattle.zac_sched.proofs.ends.Ends.free_for.Goals as goal

pub after_jobs-from-requires : goal.after_jobs-from-requires
after_jobs-from-requires c =
    grid_within c.args.job.now.card c.args.card.now c.args.job.now.shifts c.grid-grid.result.now c.requires.card c.laws_of_traps.ensures.one_trap c.grid-grid.ensures
    _ (ap length c.deref-2.ensures.value ∙ c.requires.traps)

pub returns-then-meets_zones : goal.returns-then-meets_zones
returns-then-meets_zones c =
    let a = c.args.card.now in
    let old = c.args.self.now in
    let shifts = c.args.job.now.shifts in
    let grid = c.grid-grid.result.now in
    let from = from_ends old c.args.aod shifts _ grid _ _ c.index-from.result.now c.after_moves-from.result c.after_jobs-from.result
    c.requires.aod c.shifts.ensures.shifts c.deref.ensures.value c.deref-2.ensures.value c.index-from.ensures c.after_moves-from.ensures c.after_jobs-from.ensures in
    let met = meets a grid c.storage_traps.result c.storage_traps.ensures (sym c.meets_zones.ensures ∙ c.if-meets_zones.true) in
    begins c.args.job.now.card a shifts grid c.requires.card c.laws_of_traps.ensures.one_trap c.grid-grid.ensures old c.args.aod c.shifts.ensures.group c.job_resources.ensures
    c.requires.aod c.requires.qubits c.requires.traps c.after_jobs-from.result from c.max.result (inl (met, c.max.ensures))

pub returns-else-meets_zones : goal.returns-else-meets_zones
returns-else-meets_zones c =
    let a = c.args.card.now in
    let old = c.args.self.now in
    let shifts = c.args.job.now.shifts in
    let grid = c.grid-grid.result.now in
    let from = from_ends old c.args.aod shifts _ grid _ _ c.index-from.result.now c.after_moves-from.result c.after_jobs-from.result
    c.requires.aod c.shifts.ensures.shifts c.deref.ensures.value c.deref-2.ensures.value c.index-from.ensures c.after_moves-from.ensures c.after_jobs-from.ensures in
    let clear = clear_of_zones a grid c.storage_traps.result c.storage_traps.ensures (sym c.meets_zones.ensures ∙ c.if-meets_zones.false) in
    begins c.args.job.now.card a shifts grid c.requires.card c.laws_of_traps.ensures.one_trap c.grid-grid.ensures old c.args.aod c.shifts.ensures.group c.job_resources.ensures
    c.requires.aod c.requires.qubits c.requires.traps c.after_jobs-from.result from c.after_jobs-from.result (inr (clear, refl))
