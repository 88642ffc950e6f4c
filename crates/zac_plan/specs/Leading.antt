-- Inside: what is to be done leads from one state at rest to another, whichever AODs make its jobs.
use Rattle.std.specs.Prelude.{◌≡◌, ℕ, ◌<◌, List, [], ◌∷◌, length}
use Rattle.zac_arch.specs.Architecture.{Architecture}
use Rattle.zac_arch.specs.declared.place.TrapId.{TrapId}
use Rattle.zac_sched.specs.Exchange.{AreTidySteps}
use Rattle.zac_sched.specs.Todos.{IsOfCard, NamesQubitsBelow, act_on}
use Rattle.zac_sched.specs.declared.todo.Todo.{Todo}
use Rattle.zair_form.specs.Steps.{steps_of}
use Rattle.zair_state.specs.Moves.{MovesGoSomewhere}
use Rattle.zair_state.specs.Run.{after_all}
use Rattle.zair_state.specs.State.{opening}

-- It leads from where the atoms rest before it to where they rest behind it: whichever AOD of the card makes it, its
-- steps are tidy one after another, and in each of its moves some beam goes somewhere.
pub record Leads (a : Architecture) (before : List TrapId) (todo : Todo) (behind : List TrapId) : Type 0 where
  pub of_card : IsOfCard a todo
  pub names : NamesQubitsBelow (length before) todo
  pub as_many : length behind ≡ length before
  pub tidy : (aod : ℕ) → aod < a.figures.aods → AreTidySteps a (opening a before) (act_on aod todo) (steps_of (act_on aod todo))
  pub ends : (aod : ℕ) → aod < a.figures.aods → after_all (opening a before) (steps_of (act_on aod todo)) ≡ opening a behind
  pub moves : (aod : ℕ) → MovesGoSomewhere (act_on aod todo)

-- One thing after another leads from where the atoms rest before them to where they rest behind them.
abbrev pub LeadOn : Architecture → List TrapId → List Todo → List TrapId → Type 0
LeadOn a before [] behind = before ≡ behind
LeadOn a before (t ∷ ts) behind = (between : List TrapId) × Leads a before t between × LeadOn a between ts behind
