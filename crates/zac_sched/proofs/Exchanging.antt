-- Two steps of acts that don't conflict change places.
use Rattle.std.proofs.Common.{◌≡◌}
use Rattle.zac_arch.specs.Architecture.{Architecture}
use Rattle.zair_form.specs.declared.program.Act.{Act}
use Rattle.zair_form.specs.declared.step.Step.{Step}
use Rattle.zair_state.specs.Resources.{Conflict}
use Rattle.zair_state.specs.Result.{after}
use Rattle.zair_state.specs.State.{State}
use Rattle.zac_sched.specs.Exchange.{IsTidyStep}
use Rattle.zac_sched.proofs.Commuting.{same_state}
use Rattle.zac_sched.proofs.Surroundings.{CardLaws}
use Rattle.zac_sched.proofs.Transfer.{tidy_where_shown}
use Rattle.zac_sched.proofs.Unmoved.{shows_before, shows_behind}

apart_too : (a : Architecture) (x y : Act) → ¬ Conflict a x y → ¬ Conflict a y x
apart_too a x y apart both = apart (both.0, both.2, both.1)

-- The later step is tidy before the earlier one, the earlier one behind it, and both orders end in one state.
pub exchange : (a : Architecture) → CardLaws a → (s : State) (x y : Act) (step next : Step) → ¬ Conflict a x y → IsTidyStep a s x step → IsTidyStep a (after s step) y next →
    IsTidyStep a s y next × IsTidyStep a (after s next) x step × (after (after s next) step ≡ after (after s step) next)
exchange a laws s x y step next apart first second =
    let earlier = tidy_where_shown a laws (after s step) s y next (shows_before a laws s x y step apart first) second in
    let later = tidy_where_shown a laws s (after s next) x step (shows_behind a laws s y x next (apart_too a x y apart) earlier) first in
    (earlier, later, same_state a s x y step next apart first second)
