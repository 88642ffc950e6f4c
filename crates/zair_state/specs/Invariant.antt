-- What holds of every state that legal steps reach from an opening state with distinct homes.
use Rattle.std.specs.Prelude.{◌≡◌, ℕ, ◌+◌, ◌-◌, ◌*◌, ◌<◌, ◌≤◌, ◌⊎◌, List, length}
use Rattle.std.specs.List.{AllPairs, Contains}
use Rattle.zac_arch.specs.Architecture.{Architecture, trap_count}
use Rattle.zac_arch.specs.declared.place.TrapId.{TrapId}
use Rattle.zair_form.specs.declared.step.Beam.{Beam}
use Rattle.zair_state.specs.declared.place.Place.{Place}
use Rattle.zair_state.specs.declared.place.Place.TheVariants.{Trap, Held}
use Rattle.zair_state.specs.State.{State, beams_of, IsAt, HasId, crossing, EachCrossing, IsClear, ArePlaced}
use Rattle.zair_state.specs.Legal.{CarriesOverEmptyTrap}

-- Beams are at most so many and stand by rising id, each on the field and at least gap above the one of next lower id.
pub record AreInOrder (gap most : ℕ) (beams : List Beam) : Type 0 where
  pub few : length beams ≤ most
  pub rising : AllPairs (λ b c. b.id < c.id) beams
  pub placed : ArePlaced gap beams

-- The AOD has an active row and an active column of these ids.
abbrev pub IsActive : State → ℕ → ℕ → ℕ → Type 0
IsActive s aod row column = HasId (beams_of s aod).rows row × HasId (beams_of s aod).columns column

-- A crossing is farther than reach from every crossing of another AOD; and it is farther than reach from every trap, or holds an atom exactly over an empty one.
abbrev pub IsOutOfReach : Architecture → State → ℕ → Beam → Beam → Type 0
IsOutOfReach a s aod row column = IsClear a s aod (crossing row column) ⊎ CarriesOverEmptyTrap a s aod row column

-- A state is sound: each atom is alone at its place, which the card has or active beams hold; the beams of each AOD stand in order; and each crossing keeps out of reach.
pub record IsSound (a : Architecture) (s : State) : Type 0 where
  -- there are as many AODs as the card says
  pub all_aods : length s.aods ≡ a.figures.aods
  -- each place names a trap of the card
  pub in_traps : (q : ℕ) (t : TrapId) → IsAt s q (Trap t) → t.0 < trap_count a
  -- no trap has two atoms, and no crossing holds two
  pub apart : (q r : ℕ) (place : Place) → IsAt s q place → IsAt s r place → q ≡ r
  -- each held atom is at a crossing of two active beams
  pub held : (q aod row column : ℕ) → IsAt s q (Held aod row column) → IsActive s aod row column
  -- the rows of each AOD are within the card's count, on the field and a gap apart, by rising id
  pub rows : (aod : ℕ) → AreInOrder a.figures.gap a.figures.rows (beams_of s aod).rows
  -- and so are its columns
  pub columns : (aod : ℕ) → AreInOrder a.figures.gap a.figures.columns (beams_of s aod).columns
  -- each crossing is free of others, and clear or holding an atom exactly over an empty trap
  pub crossings : (aod : ℕ) → EachCrossing (beams_of s aod).rows (beams_of s aod).columns (IsOutOfReach a s aod)

-- n times the position of a beam at the fraction k/n of its way.
abbrev pub on_the_way : ℕ → ℕ → ℕ → ℕ → ℕ
on_the_way n k from to = (n - k) * from + k * to

-- At each fraction k/n of the way from the old positions to the new ones, a beam stands at least gap above each of lower id.
abbrev pub KeepsGap : ℕ → List Beam → List Beam → Type 0
KeepsGap gap old new =
    (n k : ℕ) (b c b' c' : Beam) → k ≤ n → b.id < c.id → Contains old b → Contains old c → Contains new b' → Contains new c' →
    b'.id ≡ b.id → c'.id ≡ c.id → n * gap + on_the_way n k b.at b'.at ≤ on_the_way n k c.at c'.at
