-- Inside: the crossings of an AOD, by number, and how often a step lists each.
use Rattle.std.specs.Prelude.{◌≡◌, ◌==◌, ◌&&◌, ℕ, ◌+◌, ◌*◌, ◌<◌, ◌≤◌, ◌⊎◌, ◌↔◌, Option, Some, None, List, length, slice_get, slice_set, slice_index_or, min, count_by}
use Rattle.std.specs.List.{AllPairs, Any, Contains}
use Rattle.zair_form.specs.declared.step.Beam.{Beam}
use Rattle.zair_form.specs.declared.step.Caught.{Caught}
use Rattle.zair_form.specs.declared.step.Dropped.{Dropped}
use Rattle.zair_form.specs.declared.step.Step.{Step}
use Rattle.zair_form.specs.declared.step.Step.TheVariants.{Activate, Move, Deactivate, One, Pulse, Readout}
use Rattle.zair_state.specs.declared.place.Place.TheVariants.{Trap, Held}
use Rattle.zac_arch.specs.Architecture.{Architecture, StandsAt}
use Rattle.zac_arch.specs.declared.place.TrapId.{TrapId}
use Rattle.zair_state.specs.Legal.{Picks, Drops}
use Rattle.zair_state.specs.State.{State, IsAt, beams_of, crossing}

-- The number of the crossing of an AOD's row and column of these ids among all that AODs can have: ids are below 256.
abbrev pub crossing_number : ℕ → ℕ → ℕ → ℕ
crossing_number aod row column = aod * 65536 + (row * 256 + column)

-- The beams stand by rising id and are 64 at most.
pub record AreByRisingId (beams : List Beam) : Type 0 where
  pub rising : AllPairs (λ b c. b.id < c.id) beams
  pub few : length beams ≤ 64

-- The row and the column of these ids are the i-th and the j-th of their lists, and n is i * 64 + j.
abbrev pub IsCrossingOf : List Beam → List Beam → ℕ → ℕ → ℕ → Type 0
IsCrossingOf rows columns row column n =
    (i : ℕ) × (j : ℕ) × (r : Beam) × (c : Beam) × (slice_get rows i ≡ Some r) × (slice_get columns j ≡ Some c)
    × (r.id ≡ row) × (c.id ≡ column) × (n ≡ i * 64 + j)

-- The counts with one more at a place, if there is one; 2 stands for more too.
abbrev pub counted : Option ℕ → List ℕ → List ℕ
counted None counts = counts
counted (Some n) counts = slice_set counts n (min 2 (slice_index_or counts n 0 + 1))

-- Each crossing of the rows and columns has its count of how many of the atoms name it; 2 stands for more too.
abbrev pub CountsCaught : List Beam → List Beam → List Caught → List ℕ → Type 0
CountsCaught rows columns atoms counts =
    (row column n : ℕ) → IsCrossingOf rows columns row column n
    → slice_index_or counts n 0 ≡ min 2 (count_by (λ c. (c.row == row) && (c.column == column)) atoms)

-- Each crossing of the AOD that holds an atom has its count of how often the atom is listed; 2 stands for more too.
abbrev pub CountsDropped : State → ℕ → List Dropped → List ℕ → Type 0
CountsDropped s aod atoms counts =
    (q row column n : ℕ) → IsAt s q (Held aod row column) → IsCrossingOf (beams_of s aod).rows (beams_of s aod).columns row column n
    → slice_index_or counts n 0 ≡ min 2 (count_by (λ d. d.q == q) atoms)

-- A caught atom of the step names the crossing of these ids.
abbrev pub IsNamed : Step → ℕ → ℕ → Type 0
IsNamed (Activate aod rows columns atoms) row column = Any (λ c. (c.row ≡ row) × (c.column ≡ column)) atoms
IsNamed (Move aod rows columns) row column = ⊥
IsNamed (Deactivate aod rows columns atoms) row column = ⊥
IsNamed (One gate) row column = ⊥
IsNamed (Pulse pairs) row column = ⊥
IsNamed (Readout reads) row column = ⊥

-- The counts of the crossings of a row tell which of them the step names.
abbrev pub CountNamed : Step → ℕ → List Beam → List ℕ → Type 0
CountNamed step row columns counts =
    (j : ℕ) (c : Beam) → slice_get columns j ≡ Some c → (1 ≤ slice_index_or counts j 0) ↔ IsNamed step row c.id

-- The atom can't be caught as it is listed, or its crossing has the count of more than one.
abbrev pub IsWrongPick : Architecture → State → ℕ → List Beam → List Beam → List Beam → List Beam → List ℕ → Caught → Type 0
IsWrongPick a s aod new_rows new_columns rows columns counts c =
    ¬ Picks a s aod new_rows new_columns rows columns c
    ⊎ ((n : ℕ) × IsCrossingOf rows columns c.row c.column n × (2 ≤ slice_index_or counts n 0))

-- The atom can't be dropped as it is listed, or the crossing that holds it has the count of more than one.
abbrev pub IsWrongDrop : Architecture → State → ℕ → List ℕ → List ℕ → List ℕ → Dropped → Type 0
IsWrongDrop a s aod rows columns counts d =
    ¬ Drops a s aod rows columns d
    ⊎ ((row : ℕ) × (column : ℕ) × (n : ℕ) × IsAt s d.q (Held aod row column)
    × IsCrossingOf (beams_of s aod).rows (beams_of s aod).columns row column n × (2 ≤ slice_index_or counts n 0))

-- The crossing of the row and the column holds the qubit's atom, and stands exactly on a trap with an atom.
abbrev pub CarriesOntoFull : Architecture → State → ℕ → Beam → Beam → ℕ → Type 0
CarriesOntoFull a s aod row column q =
    IsAt s q (Held aod row.id column.id) × ((t : TrapId) × StandsAt a t.0 (crossing row column) × ((p : ℕ) × IsAt s p (Trap t)))

-- The qubit's atom is held at a crossing of the AOD that is switched off and has the count 0.
abbrev pub IsLeftBehind : State → ℕ → List ℕ → List ℕ → List ℕ → ℕ → Type 0
IsLeftBehind s aod rows columns counts q =
    (row : ℕ) × (column : ℕ) × (n : ℕ) × IsAt s q (Held aod row column) × (Contains rows row ⊎ Contains columns column)
    × IsCrossingOf (beams_of s aod).rows (beams_of s aod).columns row column n × (slice_index_or counts n 0 ≡ 0)
