-- Where the beams of one axis begin and end, while groups are made.
use Rattle.std.specs.Prelude.{◌≡◌, ℕ, ◌<◌, ◌≤◌, List, ◌∷◌, length, map}
use Rattle.std.specs.List.{All, AllPairs, Contains, slice_index_or}
use Rattle.std.specs.Ordering.{nat_cmp}
use Rattle.zac_group.specs.declared.tracks.Joining.{Joining}
use Rattle.zac_group.specs.declared.tracks.Joining.TheVariants.{Shared, Between, Crossing}
use Rattle.zac_group.specs.declared.tracks.Track.{Track}
use Rattle.zac_group.specs.Groups.{count_distinct}

-- where the first begins compares with where the second begins as their ends do: less, equal or greater
abbrev pub KeepsOrder : Track → Track → Type 0
KeepsOrder s t = nat_cmp s.from t.from ≡ nat_cmp s.to t.to

-- the first begins and ends before the second
pub record IsBelow (s t : Track) : Type 0 where
  pub from : s.from < t.from
  pub to : s.to < t.to

-- each begins and ends before the later ones
abbrev pub AreRising : List Track → Type 0
AreRising tracks = AllPairs IsBelow tracks

-- the tracks rise, and are those of the other list
pub record AreTracksOf (all tracks : List Track) : Type 0 where
  pub rising : AreRising tracks
  pub these : All (Contains all) tracks
  pub those : All (Contains tracks) all

-- the tracks before the place are below this one, and those from it on are above it
pub record IsBetween (tracks : List Track) (t : Track) (place : ℕ) : Type 0 where
  pub within : place ≤ length tracks
  pub below : (k : ℕ) (d : Track) → k < place → IsBelow (slice_index_or tracks k d) t
  pub above : (k : ℕ) (d : Track) → place ≤ k → k < length tracks → IsBelow t (slice_index_or tracks k d)

-- the track keeps order with all of these, and with it they begin at no more places than so many
abbrev pub Takes : List Track → Track → ℕ → Type 0
Takes tracks t most = All (KeepsOrder t) tracks × (count_distinct (map (λ (u : Track). u.from) (t ∷ tracks)) ≤ most)

-- how a track joins others: it is one of them, or it lies between two of them, or with one of them it does not keep order
abbrev pub IsJoining : List Track → Track → Joining → Type 0
IsJoining tracks t Shared = Contains tracks t
IsJoining tracks t (Between place) = IsBetween tracks t place
IsJoining tracks t Crossing = ¬ All (KeepsOrder t) tracks
