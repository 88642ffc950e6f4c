-- The orders in which the steps of a program may come.
use Rattle.std.specs.Prelude.{◌≡◌, ◌<◌, ◌⊎◌, List, [], ◌∷◌, ◌++◌}
use Rattle.std.specs.List.{AllPairs}
use Rattle.zac_arch.specs.declared.card.Figures.{Figures}
use Rattle.zair_form.specs.declared.program.Instr.{Instr}
use Rattle.zair_form.specs.Times.{Timed, AreTimedSteps}

-- The second list has the members of the first, each as often, in some order.
abbrev pub IsOrderOf : List Timed → List Timed → Type 0
IsOrderOf [] order = order ≡ []
IsOrderOf (x ∷ xs) order =
    (before : List Timed) × (behind : List Timed) × (order ≡ before ++ x ∷ behind) × IsOrderOf xs (before ++ behind)

-- The order has all timed steps of the program, and of any two steps in it, the first begins before the second ends.
-- So a step that has ended when another begins stands before it, and two steps without duration at one moment allow no
-- order.
pub record IsAllowed (f : Figures) (program : List Instr) (order : List Timed) : Type 0 where
  pub steps : List Timed
  pub timed : AreTimedSteps f 0 program steps
  pub same : IsOrderOf steps order
  pub allowed : AllPairs (λ x y. x.begin < y.end) order

-- The first step begins earlier; or both begin at one moment, and its instruction comes earlier, or it comes earlier
-- in the same instruction.
abbrev pub IsNamedBefore : Timed → Timed → Type 0
IsNamedBefore x y =
    (x.begin < y.begin) ⊎ ((x.begin ≡ y.begin) × ((x.instr < y.instr) ⊎ ((x.instr ≡ y.instr) × (x.place < y.place))))

-- The order has all timed steps of the program, each named before every later one.
pub record IsNamedOrder (f : Figures) (program : List Instr) (order : List Timed) : Type 0 where
  pub steps : List Timed
  pub timed : AreTimedSteps f 0 program steps
  pub same : IsOrderOf steps order
  pub named : AllPairs IsNamedBefore order
