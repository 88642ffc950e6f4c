-- A worked example with parked beams: three atoms are carried from a square of four, and the fourth stays.
use Rattle.std.specs.Prelude.{ℕ, ◌+◌, List, [], ◌∷◌}
use Rattle.zac_arch.specs.Architecture.{Architecture}
use Rattle.zac_arch.specs.Tiny.{tiny_figures}
use Rattle.zac_arch.specs.declared.card.ZoneKind.TheVariants.{Storage, Entangling}
use Rattle.zair_form.specs.declared.step.Caught.{Caught}
use Rattle.zair_form.specs.declared.step.Dropped.{Dropped}
use Rattle.zair_form.specs.declared.step.Step.{Step}
use Rattle.zair_form.specs.declared.step.Step.TheVariants.{Activate, Move, Deactivate}
use Rattle.zair_form.specs.declared.program.Instr.{Instr}
use Rattle.zair_form.specs.declared.program.Act.{Act}
use Rattle.zair_form.specs.declared.program.Act.TheVariants.{Job}
use Rattle.zair_state.specs.State.{State, opening}
use Rattle.zair_state.specs.Examples.{trap, beam}

-- A square of four storage traps, and two sites above one another.
abbrev pub square_card : Architecture
square_card = record {
  figures = tiny_figures;
  zones =
      record { kind = Storage; x = 0; y = 0; dx = 30; dy = 30; pair = 0; columns = 2; rows = 2 }
      ∷ record { kind = Entangling; x = 0; y = 130; dx = 120; dy = 100; pair = 20; columns = 1; rows = 2 }
      ∷ [];
}

-- Qubits 0 to 3 rest in the traps of their numbers.
abbrev pub filled : State
filled = opening square_card (trap 0 ∷ trap 1 ∷ trap 2 ∷ trap 3 ∷ [])

-- A qubit caught at this row and this column.
abbrev pub caught_at : ℕ → ℕ → ℕ → Caught
caught_at q row column = record { q = q; row = row; column = column }

-- A qubit dropped into this trap.
abbrev pub dropped_into : ℕ → ℕ → Dropped
dropped_into q t = record { q = q; trap = trap t }

-- The lower two atoms are caught.
abbrev pub catch_lower : Step
catch_lower = Activate 0 (beam 0 0 ∷ []) (beam 0 0 ∷ beam 1 30 ∷ []) (caught_at 0 0 0 ∷ caught_at 1 0 1 ∷ [])

-- They are parked beside their traps.
abbrev pub park_lower : Step
park_lower = Move 0 (beam 0 10 ∷ []) (beam 0 0 ∷ beam 1 40 ∷ [])

-- of the upper row the left atom is caught, beside the right one that stays
abbrev pub catch_upper : Step
catch_upper = Activate 0 (beam 1 30 ∷ []) [] (caught_at 2 1 0 ∷ [])

-- All beams go to the sites, the upper row to a place beside its own.
abbrev pub fly : Step
fly = Move 0 (beam 0 130 ∷ beam 1 240 ∷ []) (beam 0 0 ∷ beam 1 20 ∷ [])

-- The lower two atoms are dropped, and one row and one column are switched off.
abbrev pub drop_lower : Step
drop_lower = Deactivate 0 (0 ∷ []) (1 ∷ []) (dropped_into 0 4 ∷ dropped_into 1 5 ∷ [])

-- The last atom goes onto its trap.
abbrev pub lower_upper : Step
lower_upper = Move 0 (beam 1 230 ∷ []) (beam 0 0 ∷ [])

-- It is dropped.
abbrev pub drop_upper : Step
drop_upper = Deactivate 0 (1 ∷ []) (0 ∷ []) (dropped_into 2 6 ∷ [])

-- Those seven steps.
abbrev pub parking_steps : List Step
parking_steps = catch_lower ∷ park_lower ∷ catch_upper ∷ fly ∷ drop_lower ∷ lower_upper ∷ drop_upper ∷ []

-- The job of them.
abbrev pub parking_job : Act
parking_job = Job 0 parking_steps

-- The instruction of that job, from 0 to 189,332.
abbrev pub parking : Instr
parking = record { begin = 0; end = 189332; act = parking_job }

-- A job of the second AOD that carries the atom that stayed.
abbrev pub later_job : Act
later_job =
    Job 1
    (Activate 1 (beam 0 30 ∷ []) (beam 0 30 ∷ []) (caught_at 3 0 0 ∷ [])
    ∷ Move 1 (beam 0 230 ∷ []) (beam 0 20 ∷ [])
    ∷ Deactivate 1 (0 ∷ []) (0 ∷ []) (dropped_into 3 7 ∷ [])
    ∷ [])

-- All rows and columns are switched on at once, for three of the four atoms.
abbrev pub catch_all_at_once : Step
catch_all_at_once =
    Activate 0 (beam 0 0 ∷ beam 1 30 ∷ []) (beam 0 0 ∷ beam 1 30 ∷ []) (caught_at 0 0 0 ∷ caught_at 1 0 1 ∷ caught_at 2 1 0 ∷ [])

-- the job that carries the last atom begins when the first has ended, or a nanosecond before
abbrev pub later : ℕ → Instr
later begin = record { begin = begin; end = begin + 115334; act = later_job }
