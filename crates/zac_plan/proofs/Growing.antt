-- An agenda goes on: by one thing, and by some after others.
use Rattle.std.proofs.Common.{◌≡◌, ℕ, ◌+◌, ◌<◌, List, [], ◌∷◌, ◌++◌, length, get_or, take, refl, sym, ap, ◌∙◌, subst, arith, map, append_assoc, append-nil}
use Rattle.std.specs.List.{AllByRecursion}
use Rattle.std.proofs.lemmas.List.{map-append, take_more}
use Rattle.zac_aod.proofs.OtherAods.{fits_on, job_on}
use Rattle.zac_aod.specs.Lowering.{job_steps}
use Rattle.zac_arch.specs.Architecture.{Architecture}
use Rattle.zac_group.specs.Groups.{MoveGroup}
use Rattle.zac_sched.specs.declared.todo.Todo.{Todo}
use Rattle.zac_sched.specs.declared.todo.Todo.TheVariants.{Gates, Readout}
use Rattle.zair_form.specs.Ranges.{StepFits}
use Rattle.zair_form.specs.declared.step.OneGate.{OneGate}
use Rattle.zair_form.specs.declared.step.ReadOf.{ReadOf}
use Rattle.zac_plan.specs.declared.agenda.Agenda.{Agenda}
use Rattle.zac_plan.specs.Growth.{FitsOnEach, GoesOn}
use Rattle.zac_plan.specs.Plan.{job_of, gates_todo, reads_todo}
use Rattle.zac_plan.proofs.Lists.{all-append}

pub goes_nowhere : (t : Agenda) → GoesOn t t []
goes_nowhere t = record { added = sym (append-nil t.todo.items); fits = tt }

pub goes_on_append : (x y z : Agenda) (these those : List Todo) → GoesOn x y these → GoesOn y z those → GoesOn x z (these ++ those)
goes_on_append x y z these those h k = record {
  added = k.added ∙ ap (λ (l : List Todo). l ++ those) h.added ∙ append_assoc x.todo.items these those;
  fits = all-append FitsOnEach these those h.fits k.fits;
}

pub goes_on_by : (old new : Agenda) (todo : Todo) → FitsOnEach todo → new.todo.items ≡ old.todo.items ++ todo ∷ [] → GoesOn old new (todo ∷ [])
goes_on_by old new todo fits added = record { added = added; fits = (fits, tt) }

pub goes_on_same : (x y : Agenda) (these those : List Todo) → these ≡ those → GoesOn x y these → GoesOn x y those
goes_on_same x y these those e h = subst (GoesOn x y) e h

-- gates that are there make one instruction
pub gates_are : (ones : List OneGate) → 0 < length ones → Gates ones ∷ [] ≡ gates_todo ones
gates_are [] h = absurd (omega arith)
gates_are (g ∷ gs) h = refl

pub reads_are : (reads : List ReadOf) → 0 < length reads → Readout reads ∷ [] ≡ reads_todo reads
reads_are [] h = absurd (omega arith)
reads_are (r ∷ rs) h = refl

-- the job of a group is in range on each AOD where its steps are on AOD 0
pub job_fits : (a : Architecture) (g : MoveGroup) → AllByRecursion StepFits (job_steps a g.shifts 0) → FitsOnEach (job_of a g)
job_fits a g fits aod id =
    (id, subst (AllByRecursion StepFits) (job_on a g.shifts 0 aod) (fits_on aod (job_steps a g.shifts 0) id fits))

-- four parts one after another
pub four_go_on : (v w x y z : Agenda) (some1 some2 some3 some4 : List Todo) → GoesOn v w some1 → GoesOn w x some2 → GoesOn x y some3 → GoesOn y z some4 →
    GoesOn v z (some1 ++ (some2 ++ (some3 ++ some4)))
four_go_on v w x y z some1 some2 some3 some4 h i j k =
    goes_on_append v w z some1 (some2 ++ (some3 ++ some4)) h (goes_on_append w x z some2 (some3 ++ some4) i (goes_on_append x y z some3 some4 j k))

-- one group more
pub jobs_more : (a : Architecture) (x y z : Agenda) (groups : List MoveGroup) (k : ℕ) (d : MoveGroup) → k < length groups →
    GoesOn x y (map (job_of a) (take k groups)) → GoesOn y z (job_of a (get_or groups k d) ∷ []) → GoesOn x z (map (job_of a) (take (k + 1) groups))
jobs_more a x y z groups k d within h k_more =
    goes_on_same x z (map (job_of a) (take k groups) ++ job_of a (get_or groups k d) ∷ []) (map (job_of a) (take (k + 1) groups))
    (sym (ap (map (job_of a)) (take_more groups k d within) ∙ map-append (job_of a) (take k groups) (get_or groups k d ∷ [])))
    (goes_on_append x y z (map (job_of a) (take k groups)) (job_of a (get_or groups k d) ∷ []) h k_more)
