-- Inside: the last ends that `schedule` keeps.
use Rattle.std.specs.Prelude.{◌≡◌, ℕ, ◌<◌, ◌≤◌, ◌⊎◌, List, [], ◌∷◌, ◌++◌, length, slice_index}
use Rattle.std.specs.List.{All, Any}
use Rattle.zac_arch.specs.Architecture.{Architecture, storage_count, trap_count}
use Rattle.zair_form.specs.declared.program.Act.{Act}
use Rattle.zair_form.specs.declared.program.Act.TheVariants.{Init, Gates, Rydberg, Job, Readout}
use Rattle.zair_form.specs.declared.program.Instr.{Instr}
use Rattle.zair_state.specs.Resources.{Conflict, Uses}
use Rattle.zair_state.specs.Resources.{Resource as resource}
use Rattle.zac_sched.specs.Schedule.{IsLastEnd, IsNext}
use Rattle.zac_sched.specs.declared.ends.Ends.{Ends}
use Rattle.zac_sched.specs.declared.todo.Todo.{Todo}

-- the greatest end of those instructions whose act is such a one; 0 where none is
pub record IsLatest (Such : Act → Type 0) (earlier : List Instr) (end : ℕ) : Type 0 where
  pub all : All (λ i. Such i.act → i.end ≤ end) earlier
  pub some : (end ≡ 0) ⊎ Any (λ i. Such i.act × (i.end ≡ end)) earlier

-- it is a job that uses this trap, or `Init`
abbrev pub TakesTrap : Architecture → ℕ → Act → Type 0
TakesTrap a t (Init homes) = Unit {0}
TakesTrap a t (Gates ones) = ⊥
TakesTrap a t (Rydberg pairs) = ⊥
TakesTrap a t (Job aod steps) = Uses a (Job aod steps) (resource.Trap t)
TakesTrap a t (Readout reads) = ⊥

-- it is a job that uses some trap of the entangling zones, or `Init`
abbrev pub TakesZoneTrap : Architecture → Act → Type 0
TakesZoneTrap a (Init homes) = Unit {0}
TakesZoneTrap a (Gates ones) = ⊥
TakesZoneTrap a (Rydberg pairs) = ⊥
TakesZoneTrap a (Job aod steps) =
    (t : ℕ) × (storage_count a ≤ t) × (t < trap_count a) × Uses a (Job aod steps) (resource.Trap t)
TakesZoneTrap a (Readout reads) = ⊥

-- it is a pulse, or `Init`
abbrev pub IsPulseOrInit : Act → Type 0
IsPulseOrInit (Init homes) = Unit {0}
IsPulseOrInit (Gates ones) = ⊥
IsPulseOrInit (Rydberg pairs) = Unit {0}
IsPulseOrInit (Job aod steps) = ⊥
IsPulseOrInit (Readout reads) = ⊥

-- these are the last ends over the earlier instructions
pub record AreEnds (a : Architecture) (earlier : List Instr) (ends : Ends) : Type 0 where
  pub laser : IsLastEnd a earlier resource.Laser ends.laser
  pub aods_are : length ends.aods.items ≡ a.figures.aods
  pub aods : (n : ℕ) → n < a.figures.aods → IsLastEnd a earlier (resource.Aod n) (slice_index ends.aods.items n)
  pub qubits : (q : ℕ) → q < length ends.qubits.items → IsLastEnd a earlier (resource.Qubit q) (slice_index ends.qubits.items q)
  pub traps_are : length ends.traps.items ≡ trap_count a
  pub traps : (t : ℕ) → t < trap_count a → IsLatest (TakesTrap a t) earlier (slice_index ends.traps.items t)
  pub zones : IsLatest (TakesZoneTrap a) earlier ends.zones
  pub pulse : IsLatest IsPulseOrInit earlier ends.pulse

-- from this moment on all is free that the act uses, and before it something is not
abbrev pub IsFreeFrom : Architecture → List Instr → Act → ℕ → Type 0
IsFreeFrom a earlier act = IsLatest (λ x. Conflict a x act) earlier

-- behind one more instruction, of this act and with this end, which comes behind all that conflict with it, these are the last ends
abbrev pub AreMarked : Architecture → Ends → Act → ℕ → Ends → Type 0
AreMarked a old act end new =
    (earlier : List Instr) (begin : ℕ) → AreEnds a earlier old → All (λ e. Conflict a e.act act → e.end ≤ end) earlier →
    AreEnds a (earlier ++ (record { begin = begin; end = end; act = act }) ∷ []) new

-- there are instructions of which these are the last ends, and they leave room for one more
abbrev pub HasRoom : Architecture → Ends → Type 0
HasRoom a ends = (earlier : List Instr) × AreEnds a earlier ends × All (λ i. i.end ≤ 16000000000000000) earlier

-- behind all earlier instructions of which these are the last ends, this one is the next, and these are the last ends then
pub record GoesOn (a : Architecture) (old : Ends) (todo : Todo) (i : Instr) (new : Ends) : Type 0 where
  pub next : (earlier : List Instr) → AreEnds a earlier old → IsNext a earlier todo i
  pub ends : (earlier : List Instr) → AreEnds a earlier old → AreEnds a (earlier ++ i ∷ []) new
  pub qubits : length new.qubits.items ≡ length old.qubits.items

-- the first of the places of the least number
pub record IsFirstLeast (ns : List ℕ) (k : ℕ) : Type 0 where
  pub within : k < length ns
  pub least : (j : ℕ) → j < length ns →
      (slice_index ns k < slice_index ns j) ⊎ ((slice_index ns k ≡ slice_index ns j) × (k ≤ j))
