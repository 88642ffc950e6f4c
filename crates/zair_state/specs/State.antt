-- States of the machine: where each atom is, and which beams each AOD has.
use Rattle.std.specs.Prelude.{◌≡◌, ◌≢◌, ℕ, ◌+◌, ◌≤◌, List, [], Some, length, map, replicate}
use Rattle.std.specs.List.{slice_get, slice_index_or, All, AllAdjacentBelow, Contains}
use Rattle.zac_arch.specs.Architecture.{Architecture, trap_points, StandsAt, IsLit}
use Rattle.zac_arch.specs.Distances.{IsFarther, IsWithin}
use Rattle.zac_arch.specs.declared.place.Point.{Point}
use Rattle.zac_arch.specs.declared.place.TrapId.{TrapId}
use Rattle.zair_form.specs.declared.step.Beam.{Beam}
use Rattle.zair_state.specs.declared.place.Place.{Place}
use Rattle.zair_state.specs.declared.place.Place.TheVariants.{Trap}

-- the active beams of one AOD, its rows and its columns, each by rising id
pub record Beams : Type 0 where
  pub rows : List Beam
  pub columns : List Beam

-- An AOD without a beam.
abbrev pub idle : Beams
idle = record { rows = []; columns = [] }

-- The place of each qubit, and the beams of each AOD.
pub record State : Type 0 where
  pub places : List Place
  pub aods : List Beams

-- The state at the begin: each qubit rests in its home, and each AOD of the card is idle.
abbrev pub opening : Architecture → List TrapId → State
opening a homes = record { places = map (λ home. Trap home) homes; aods = replicate a.figures.aods idle }

-- The qubit's place is this one.
abbrev pub IsAt : State → ℕ → Place → Type 0
IsAt s q place = slice_get s.places q ≡ Some place

-- The beams of an AOD; none where the state has no such AOD.
abbrev pub beams_of : State → ℕ → Beams
beams_of s aod = slice_index_or s.aods aod idle

-- One of the beams has this id.
abbrev pub HasId : List Beam → ℕ → Type 0
HasId beams id = Contains (map (λ b. b.id) beams) id

-- The point with the x of a column beam and the y of a row beam.
abbrev pub crossing : Beam → Beam → Point
crossing row column = record { x = column.at; y = row.at }

-- The property holds of each of the rows with each of the columns.
abbrev pub EachCrossing : List Beam → List Beam → (Beam → Beam → Type 0) → Type 0
EachCrossing rows columns P = (row column : Beam) → Contains rows row → Contains columns column → P row column

-- The point is farther than the reach from every crossing of every other AOD.
abbrev pub IsFreeOfOthers : Architecture → State → ℕ → Point → Type 0
IsFreeOfOthers a s aod p =
    (other : ℕ) → other ≢ aod → EachCrossing (beams_of s other).rows (beams_of s other).columns
    (λ row column. IsFarther a.figures.reach p (crossing row column))

-- The point is free of others, and farther than the reach from every trap.
pub record IsClear (a : Architecture) (s : State) (aod : ℕ) (p : Point) : Type 0 where
  pub free : IsFreeOfOthers a s aod p
  pub off_traps : All (λ trap. IsFarther a.figures.reach p trap) (trap_points a)

-- Each beam stands at 1,000,000 or less, and each but the first is at least the gap above the one before it in the
-- list.
pub record ArePlaced (gap : ℕ) (beams : List Beam) : Type 0 where
  pub on_the_field : All (λ b. b.at ≤ 1000000) beams
  pub spaced : AllAdjacentBelow (λ b c. b.at + gap ≤ c.at) beams (length beams)

-- The qubit rests in a trap that stands at this point, and the point is lit.
abbrev pub RestsLit : Architecture → State → ℕ → Point → Type 0
RestsLit a s q p = (t : TrapId) × IsAt s q (Trap t) × StandsAt a t.0 p × IsLit a p

-- Two different qubits rest in lit traps that are within the blockade radius of one another.
pub record AreInRange (a : Architecture) (s : State) (q r : ℕ) : Type 0 where
  pub two : q ≢ r
  pub q_at : Point
  pub r_at : Point
  pub q_rests : RestsLit a s q q_at
  pub r_rests : RestsLit a s r r_at
  pub near : IsWithin a.figures.radius q_at r_at
