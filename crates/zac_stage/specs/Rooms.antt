-- Which pulses have room, by counts and by links past those that are full.
use Rattle.std.specs.Prelude.{◌≡◌, ◌≢◌, ℕ, ◌+◌, ◌^◌, ◌<◌, ◌≤◌, ◌⊎◌, List, length, slice_index}

-- no pulse has more pairs than sites, each full pulse is linked to a later one up to which all are full, and each other
-- one to itself
pub record AreRooms (counts links : List ℕ) (sites : ℕ) : Type 0 where
  pub some : 1 ≤ sites
  pub few : sites < 2 ^ 32
  pub len : length links ≡ length counts
  pub low : (t : ℕ) → t < length counts → t ≤ slice_index links t
  pub high : (t : ℕ) → t < length counts → slice_index links t ≤ length counts
  pub full : (t k : ℕ) → t < length counts → t ≤ k → k < slice_index links t → slice_index counts k ≡ sites
  pub room : (t : ℕ) → t < length counts → slice_index links t ≡ t → slice_index counts t < sites

-- the least pulse from a number on that has room: it has, and all from the number up to it are full
pub record IsLeastRoom (counts : List ℕ) (sites floor least : ℕ) : Type 0 where
  pub from_floor : floor ≤ least
  pub within : least ≤ length counts
  pub room : slice_index counts least < sites
  pub full : (k : ℕ) → floor ≤ k → k < least → slice_index counts k ≡ sites

-- there is this pulse, and the counts are as they were
pub record IsGrown (old new : List ℕ) (t : ℕ) : Type 0 where
  pub same : (k : ℕ) → slice_index new k ≡ slice_index old k
  pub there : t < length new
  pub longer : length old ≤ length new
  pub size : (length new ≡ length old) ⊎ (length new ≡ t + 1)

-- there is this pulse, and its count is one more
pub record IsRaised (old new : List ℕ) (t : ℕ) : Type 0 where
  pub here : slice_index new t ≡ slice_index old t + 1
  pub others : (k : ℕ) → k ≢ t → slice_index new k ≡ slice_index old k
  pub there : t < length new
  pub longer : length old ≤ length new
  pub size : (length new ≡ length old) ⊎ (length new ≡ t + 1)
