use Rattle.std.proofs.Common.{◌≡◌, ℕ, ◌+◌, List, [], length, refl, sym, ap, ◌∙◌, subst, arith}
use Rattle.zac_aod.specs.Jobs.{JobOf}
use Rattle.zac_aod.specs.Lowering.{job_steps}
use Rattle.zac_arch.specs.Architecture.{Architecture}
use Rattle.zac_arch.specs.declared.card.Figures.{Figures}
use Rattle.zac_arch.specs.Rules.{HasFigureRanges}
use Rattle.zac_group.specs.declared.shift.Shift.{Shift}
use Rattle.zair_form.specs.Times.{LastTogether}
use Rattle.zair_form.specs.declared.program.Act.TheVariants as act
use Rattle.zair_form.specs.declared.program.Instr.{Instr}
use Rattle.zair_form.specs.declared.step.Step.{Step}
use Rattle.zac_sched.specs.Ends.{AreEnds, AreMarked, GoesOn, IsFirstLeast, IsFreeFrom}
use Rattle.zac_sched.specs.declared.todo.Todo.TheVariants as todo
use Rattle.zac_sched.proofs.Going.{begins_low, free_first_is, goes_on}
use Rattle.zac_sched.proofs.StepCounts.{as_many_on, together_most}
use Rattle.zac_sched.proofs.ends.Ends.job.Goals as goal

pub free_first-aod-requires-clause-some : goal.free_first-aod-requires-clause-some
free_first-aod-requires-clause-some c =
    omega (arith, ap length c.deref.ensures.value, c.requires.room.1.aods_are, ap (λ (f : Figures). f.aods) c.figures-figures.ensures.figures, c.figures-figures.ensures.ranges.aods_least)

pub free_first-aod-requires-clause-few : goal.free_first-aod-requires-clause-few
free_first-aod-requires-clause-few c =
    omega (arith, ap length c.deref.ensures.value, c.requires.room.1.aods_are, ap (λ (f : Figures). f.aods) c.figures-figures.ensures.figures, c.figures-figures.ensures.ranges.aods_most)

pub overflow_add-end : goal.overflow_add-end
overflow_add-end c =
    let a = c.args.card.now in
    let job = c.args.job in
    let aod = c.free_first-aod.result in
    let shifts : c.on.new.self.shifts ≡ job.shifts = ap (λ (j : JobOf). j.shifts) c.on.ensures in
    let low = begins_low a c.args.self.now (act.Job aod (job_steps a c.on.new.self.shifts aod)) c.free_for-begin.result c.requires.room c.free_for-begin.ensures in
    let card : c.on.new.self.card ≡ a = ap (λ (j : JobOf). j.card) c.on.ensures ∙ c.requires.card in
    let rules : HasFigureRanges a.figures = subst HasFigureRanges c.figures-figures.ensures.figures c.figures-figures.ensures.ranges in
    let steps : job_steps c.on.new.self.card c.on.new.self.shifts c.on.new.self.aod ≡ job_steps job.card job.shifts aod =
    ap (λ (j : JobOf). job_steps j.card j.shifts j.aod) c.on.ensures in
    let lasts : LastTogether a.figures [] (job_steps job.card job.shifts aod) c.duration.result =
    subst (λ (ss : List Step). LastTogether a.figures [] ss c.duration.result) steps
    (subst (λ (x : Architecture). LastTogether x.figures [] (job_steps c.on.new.self.card c.on.new.self.shifts c.on.new.self.aod) c.duration.result) card c.duration.ensures.lasts) in
    let most = together_most a.figures rules [] (job_steps job.card job.shifts aod) c.duration.result lasts in
    let many = as_many_on job.card job.shifts aod in
    let few = c.requires.few in
    omega arith

pub returns : goal.returns
returns c =
    let a = c.args.card.now in
    let old = c.args.self.now in
    let new = c.mark_job.new.self in
    let job = c.args.job in
    let aod = c.free_first-aod.result in
    let begin = c.free_for-begin.result in
    let end : ℕ = begin + c.duration.result in
    let steps = job_steps a job.shifts aod in
    let card : job.card ≡ a = c.requires.card in
    let shifts : c.on.new.self.shifts ≡ job.shifts = ap (λ (j : JobOf). j.shifts) c.on.ensures in
    let made : job_steps c.on.new.self.card c.on.new.self.shifts c.on.new.self.aod ≡ steps =
    ap (λ (j : JobOf). job_steps j.card j.shifts j.aod) c.on.ensures ∙ ap (λ (x : Architecture). job_steps x job.shifts aod) card in
    let on_card : c.on.new.self.card ≡ a = ap (λ (j : JobOf). j.card) c.on.ensures ∙ card in
    let lasts : LastTogether a.figures [] steps c.duration.result =
    subst (λ (ss : List Step). LastTogether a.figures [] ss c.duration.result) made
    (subst (λ (x : Architecture). LastTogether x.figures [] (job_steps c.on.new.self.card c.on.new.self.shifts c.on.new.self.aod) c.duration.result) on_card c.duration.ensures.lasts) in
    let free : (earlier : List Instr) → AreEnds a earlier old → IsFreeFrom a earlier (act.Job aod steps) begin =
    subst (λ (ss : List Shift). (earlier : List Instr) → AreEnds a earlier old → IsFreeFrom a earlier (act.Job aod (job_steps a ss aod)) begin) shifts c.free_for-begin.ensures in
    let marked : AreMarked a old (act.Job aod steps) end new = subst (λ (ss : List Shift). AreMarked a old (act.Job aod (job_steps a ss aod)) end new) shifts c.mark_job.ensures.marked in
    let least : IsFirstLeast old.aods.items aod = subst (λ (ns : List ℕ). IsFirstLeast ns aod) c.deref.ensures.value c.free_first-aod.ensures in
    subst (λ (ss : List Step). GoesOn a old (todo.Job job) (record { begin = begin; end = end; act = act.Job aod ss }) new) (sym (c.into_steps.ensures ∙ made))
    (goes_on a old new (todo.Job job) (act.Job aod steps) begin c.duration.result end
    (λ earlier h. (aod, free_first_is a earlier old aod h least, ap (λ (x : Architecture). act.Job aod (job_steps x job.shifts aod)) (sym card)))
    free lasts refl marked c.mark_job.ensures.qubits)
