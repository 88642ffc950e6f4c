-- Moves in which some beam goes somewhere.
use Rattle.std.specs.Prelude.{◌+◌, ◌<◌, List, [], ◌∷◌, ◌++◌}
use Rattle.std.specs.List.{flat_map}
use Rattle.zair_form.specs.declared.program.Act.{Act}
use Rattle.zair_form.specs.declared.step.Step.{Step}
use Rattle.zair_form.specs.declared.step.Step.TheVariants.{Activate, Move, Deactivate, One, Pulse, Readout}
use Rattle.zair_form.specs.Steps.{steps_of}
use Rattle.zair_form.specs.Times.{rows_set, columns_set, greatest_change}

-- If the step, after the earlier ones of its instruction, is a move, then some beam goes somewhere.
abbrev pub GoesSomewhere : List Step → Step → Type 0
GoesSomewhere earlier (Activate aod rows columns atoms) = Unit {0}
GoesSomewhere earlier (Move aod rows columns) =
    0 < greatest_change (flat_map columns_set earlier) columns + greatest_change (flat_map rows_set earlier) rows
GoesSomewhere earlier (Deactivate aod rows columns atoms) = Unit {0}
GoesSomewhere earlier (One gate) = Unit {0}
GoesSomewhere earlier (Pulse pairs) = Unit {0}
GoesSomewhere earlier (Readout reads) = Unit {0}

-- So it is with each of these steps after those before it.
abbrev pub EachGoesSomewhere : List Step → List Step → Type 0
EachGoesSomewhere earlier [] = Unit {0}
EachGoesSomewhere earlier (s ∷ ss) = GoesSomewhere earlier s × EachGoesSomewhere (earlier ++ s ∷ []) ss

-- In each move of the instruction some beam goes somewhere.
abbrev pub MovesGoSomewhere : Act → Type 0
MovesGoSomewhere act = EachGoesSomewhere [] (steps_of act)
