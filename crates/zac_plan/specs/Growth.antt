-- Inside: how an agenda grows while a circuit is planned.
use Rattle.std.specs.Prelude.{◌≡◌, ℕ, zero, suc, ◌+◌, ◌≤◌, List, [], ◌∷◌, ◌++◌, length}
use Rattle.std.specs.List.{AllByRecursion, slice_index_or}
use Rattle.zac_arch.specs.Architecture.{Architecture, site_count}
use Rattle.zac_gates.specs.Ops.{NativeCircuit}
use Rattle.zac_gates.specs.declared.circuit.Op.{Op}
use Rattle.zac_group.specs.Groups.{MoveGroup}
use Rattle.zac_group.specs.declared.shift.Shift.{Shift}
use Rattle.zac_stage.specs.Numbers.{NumbersFollow}
use Rattle.zac_stage.specs.Staging.{Staging, IsStaging}
use Rattle.zair_form.specs.Ranges.{ActFits, IsId}
use Rattle.zair_form.specs.declared.step.PairOf.{PairOf}
use Rattle.zac_sched.specs.Todos.{act_on}
use Rattle.zac_sched.specs.declared.todo.Todo.{Todo}
use Rattle.zac_sched.specs.declared.todo.Todo.TheVariants.{Rydberg}
use Rattle.zac_plan.specs.Plan.{AreGateSites, AreJobs, AreReturns, IsRearrangement, Rearrangement, after_arrivals, after_returns, after_shifts, arrivals, gates_at, gates_todo, leaving, pairs_at, places, returns, shifts_to}
use Rattle.zac_plan.specs.Seats.{rests_in}
use Rattle.zac_reuse.specs.Keeping.{IsGreatest, IsKeeping}
use Rattle.zac_world.specs.Places.{Places}
use Rattle.zac_plan.specs.declared.agenda.Agenda.{Agenda}

-- Whichever AOD makes it, what the act carries is in range.
abbrev pub FitsOnEach : Todo → Type 0
FitsOnEach todo = (aod : ℕ) → IsId aod → ActFits (act_on aod todo)

-- An agenda has grown by just this, and all that it carries is in range.
pub record GoesOn (old new : Agenda) (todo : List Todo) : Type 0 where
  pub added : new.todo.items ≡ old.todo.items ++ todo
  pub fits : AllByRecursion FitsOnEach todo

-- An agenda has grown by the jobs of a phase of moves.
pub record GrowsByJobs (a : Architecture) (old new : Agenda) (shifts : List Shift) : Type 0 where
  pub jobs : List Todo
  pub are : AreJobs a shifts jobs
  pub goes_on : GoesOn old new jobs

-- An agenda has grown by the jobs that bring home what leaves the sites, and the world is as behind them.
pub record GrowsByReturns (a : Architecture) (ops : List Op) (before : List PairOf) (kept : List (ℕ × ℕ)) (old new : Agenda) (from to : Places) : Type 0 where
  pub targets : List ℕ
  pub chosen : AreReturns a (rests_in from) (leaving ops before kept) targets
  pub grows : GrowsByJobs a old new (shifts_to (rests_in from) (leaving ops before kept) targets)
  pub moved : to ≡ places a (after_shifts (rests_in from) (shifts_to (rests_in from) (leaving ops before kept) targets))

-- An agenda has grown by the jobs that bring the atoms of a pulse together, and the world is as behind them.
pub record GrowsByArrivals (a : Architecture) (pairs : List PairOf) (old new : Agenda) (from to : Places) : Type 0 where
  pub sites : List ℕ
  pub chosen : AreGateSites a (rests_in from) pairs sites
  pub grows : GrowsByJobs a old new (arrivals a (rests_in from) pairs sites)
  pub moved : to ≡ places a (after_shifts (rests_in from) (arrivals a (rests_in from) pairs sites))

-- An agenda has grown by the jobs that bring home what leaves the sites between two pulses, where a greatest set of
-- gates is kept.
pub record IsSentHome (a : Architecture) (ops : List Op) (before pulse : List ℕ) (old new : Agenda) (from to : Places) : Type 0 where
  pub kept : List (ℕ × ℕ)
  pub keeping : IsKeeping ops before pulse kept
  pub greatest : IsGreatest ops before pulse kept
  pub grows : GrowsByReturns a ops (pairs_at ops before) kept old new from to

-- An agenda has grown by what is done with a pulse, and the world is as in the pulse.
pub record GrowsByRound (a : Architecture) (ops : List Op) (before slot pulse : List ℕ) (old new : Agenda) (from to : Places) : Type 0 where
  pub chosen : Rearrangement
  pub right : IsRearrangement a ops (rests_in from) before pulse chosen
  pub return_jobs : List Todo
  pub arrival_jobs : List Todo
  pub returned : AreJobs a (returns ops (rests_in from) before chosen) return_jobs
  pub arrived : AreJobs a (arrivals a (after_returns ops (rests_in from) before chosen) (pairs_at ops pulse) chosen.sites) arrival_jobs
  pub goes_on : GoesOn old new
      (gates_todo (gates_at ops slot) ++ (return_jobs ++ (arrival_jobs ++ Rydberg (pairs_at ops pulse) ∷ [])))
  pub moved : to ≡ places a (after_arrivals a ops (rests_in from) before pulse chosen)

-- The numbers of the ops of this slot or pulse; none where there is no such.
abbrev pub numbers_at : List (List ℕ) → ℕ → List ℕ
numbers_at lists t = slice_index_or lists t []

-- Those of the pulse before this one; none before the first.
abbrev pub pulse_before : List (List ℕ) → ℕ → List ℕ
pulse_before pulses zero = []
pulse_before pulses (suc t) = numbers_at pulses t

-- How many moves groups have together.
abbrev pub moves_in : List MoveGroup → ℕ
moves_in [] = 0
moves_in (g ∷ gs) = length g.shifts + moves_in gs

-- These are the stages of the circuit for pulses of at most as many pairs as the card has sites. The numbers follow
-- what must follow, and each pulse has a pair and at most as many pairs as there are sites.
pub record IsStagingOf (a : Architecture) (c : NativeCircuit) (s : Staging) : Type 0 where
  pub right : IsStaging s
  pub circuit : s.circuit ≡ c
  pub sites : s.sites ≡ site_count a
  pub follow : NumbersFollow s.circuit.ops s.numbers
  pub few : AllByRecursion (λ pulse. length pulse ≤ s.sites) s.pairs
  pub some : AllByRecursion (λ pulse. 1 ≤ length pulse) s.pairs
