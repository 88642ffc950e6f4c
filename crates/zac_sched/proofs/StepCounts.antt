-- How many steps an act has, how long they take at most, and whose they are.
use Rattle.std.proofs.Common.{◌≡◌, ℕ, ◌+◌, ◌*◌, ◌≤◌, Bool, true, not, ◌&&◌, IsTrue, List, [], ◌∷◌, ◌++◌, length, map, refl, sym, ap, ◌∙◌, arith}
use Rattle.std.specs.List.{list_all}
use Rattle.std.proofs.lemmas.Bool.{and_from, and_parts, eq-eqb}
use Rattle.std.proofs.lemmas.List.{length-map}
use Rattle.zac_aod.specs.Aods.{step_on}
use Rattle.zac_aod.specs.Lowering.{Leg, flight, job_steps, loading, unloading}
use Rattle.zac_aod.specs.Lines.{rows_of}
use Rattle.zac_aod.proofs.Durations.{lasts_most}
use Rattle.zac_aod.proofs.OtherAods.{job_on}
use Rattle.zac_arch.specs.Architecture.{Architecture}
use Rattle.zac_arch.specs.Rules.{HasFigureRanges}
use Rattle.zac_arch.specs.declared.card.Figures.{Figures}
use Rattle.zac_group.specs.declared.shift.Shift.{Shift}
use Rattle.zair_form.specs.Steps.{has_own_steps, is_init, is_step_of, steps_of}
use Rattle.zair_form.specs.Times.{LastTogether}
use Rattle.zair_form.specs.declared.step.Step.{Step}
use Rattle.zair_form.specs.declared.step.Step.TheVariants.{Move}
use Rattle.zac_sched.specs.Todos.{act_on}
use Rattle.zac_sched.specs.declared.todo.Todo.{Todo}
use Rattle.zac_sched.specs.declared.todo.Todo.TheVariants.{Gates, Rydberg, Job, Readout}

-- the steps of a job are as many whatever its AOD
pub as_many_on : (a : Architecture) (shifts : List Shift) (aod : ℕ) → length (job_steps a shifts aod) ≡ length (job_steps a shifts 0)
as_many_on a shifts aod = ap length (sym (job_on a shifts 0 aod)) ∙ length-map (job_steps a shifts 0) (step_on aod)

pub as_many : (aod : ℕ) (todo : Todo) → length (steps_of (act_on aod todo)) ≡ length (steps_of (act_on 0 todo))
as_many aod (Gates ones) = refl
as_many aod (Rydberg pairs) = refl
as_many aod (Job job) = as_many_on job.card job.shifts aod
as_many aod (Readout reads) = refl

-- no step takes more than a second
pub together_most : (f : Figures) → HasFigureRanges f → (earlier steps : List Step) (t : ℕ) → LastTogether f earlier steps t → t ≤ 1000000000 * length steps
together_most f r earlier [] t is = omega arith
together_most f r earlier (s ∷ ss) t is =
    let own : is.0 ≤ 1000000000 = lasts_most f r earlier s is.0 is.3 in
    let rest : is.1 ≤ 1000000000 * length ss = together_most f r (earlier ++ s ∷ []) ss is.1 is.4 in
    let sum : t ≡ is.0 + is.1 = is.2 in
    omega arith

-- a job has steps of its own AOD alone
abbrev own : ℕ → List Leg → Bool
own aod ls = list_all (is_step_of aod) (map (λ (leg : Leg). leg.step) ls)

its_own : (aod : ℕ) → is_step_of aod (let s : Step = Move aod [] [] in s) ≡ true
its_own aod = eq-eqb aod aod refl

loading_own : (a : Architecture) (shifts : List Shift) (aod : ℕ) (rows : List _) → IsTrue (own aod (loading a shifts aod rows))
loading_own a shifts aod [] = refl
loading_own a shifts aod (r ∷ []) = and_from _ _ (its_own aod) refl
loading_own a shifts aod (r ∷ s ∷ rs) = and_from _ _ (its_own aod) (and_from _ _ (its_own aod) (loading_own a shifts aod (s ∷ rs)))

flight_own : (a : Architecture) (shifts : List Shift) (aod : ℕ) (rows : List _) → IsTrue (own aod (flight a shifts aod rows))
flight_own a shifts aod [] = refl
flight_own a shifts aod (r ∷ rs) = and_from _ _ (its_own aod) refl

unloading_own : (a : Architecture) (shifts : List Shift) (aod : ℕ) (rows : List _) → IsTrue (own aod (unloading a shifts aod rows))
unloading_own a shifts aod [] = refl
unloading_own a shifts aod (r ∷ []) = and_from _ _ (its_own aod) refl
unloading_own a shifts aod (r ∷ s ∷ rs) = and_from _ _ (its_own aod) (and_from _ _ (its_own aod) (unloading_own a shifts aod (s ∷ rs)))

own_append : (aod : ℕ) (xs ys : List Leg) → IsTrue (own aod xs) → IsTrue (own aod ys) → IsTrue (own aod (xs ++ ys))
own_append aod [] ys first second = second
own_append aod (x ∷ xs) ys first second =
    let parts = and_parts (is_step_of aod x.step) (own aod xs) first in
    and_from (is_step_of aod x.step) (own aod (xs ++ ys)) parts.0 (own_append aod xs ys parts.1 second)

pub job_own : (a : Architecture) (shifts : List Shift) (aod : ℕ) → IsTrue (list_all (is_step_of aod) (job_steps a shifts aod))
job_own a shifts aod =
    let rows = rows_of a shifts in
    own_append aod (loading a shifts aod rows ++ flight a shifts aod rows) (unloading a shifts aod rows)
    (own_append aod (loading a shifts aod rows) (flight a shifts aod rows) (loading_own a shifts aod rows) (flight_own a shifts aod rows)) (unloading_own a shifts aod rows)

-- the act of what is to be done may stand behind the first instruction
pub act_follows : (aod : ℕ) (todo : Todo) → IsTrue (not (is_init (act_on aod todo)) && has_own_steps (act_on aod todo))
act_follows aod (Gates ones) = refl
act_follows aod (Rydberg pairs) = refl
act_follows aod (Job job) = job_own job.card job.shifts aod
act_follows aod (Readout reads) = refl
