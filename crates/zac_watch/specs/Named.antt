-- The named order of a program's steps, by their numbers.
use Rattle.std.specs.Prelude.{◌≡◌, ℕ, List, map}
use Rattle.zac_arch.specs.declared.card.Figures.{Figures}
use Rattle.zair_form.specs.Times.{Timed}
use Rattle.zair_form.specs.declared.program.Instr.{Instr}
use Rattle.zair_state.specs.Orders.{IsNamedOrder}

-- Of each step in the order the number of its instruction, and its place there.
abbrev pub places_in : List Timed → List (ℕ × ℕ)
places_in order = map (λ t. (t.instr, t.place)) order

-- These are the steps of the program's named order: by begin, then by instruction, then by place.
abbrev pub AreInNamedOrder : Figures → List Instr → List (ℕ × ℕ) → Type 0
AreInNamedOrder f program places = (order : List Timed) × IsNamedOrder f program order × (places ≡ places_in order)
