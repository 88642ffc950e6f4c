-- The empty storage traps within reach of a point.
use Rattle.std.specs.Prelude.{ℕ, ◌≤◌, ◌&&◌, Bool, nat_le, List, map, filter}
use Rattle.std.specs.List.{range_with_len}
use Rattle.zac_arch.specs.Architecture.{Architecture}
use Rattle.zac_arch.specs.declared.place.Point.{Point}
use Rattle.zac_world.specs.Nearest.{distance_from}
use Rattle.zac_world.specs.Places.{Places, is_empty}
use Rattle.zac_world.specs.declared.walk.Candidate.{Candidate}
use Rattle.zac_world.specs.declared.walk.Disc.{Disc}

-- The trap is within reach of the centre.
abbrev pub is_within : Architecture → Disc → ℕ → Bool
is_within a d t = nat_le (distance_from a d.centre t) d.reach

-- The trap with its distance.
abbrev pub candidate : Architecture → Point → ℕ → Candidate
candidate a p t = record { distance = distance_from a p t; trap = record { 0 = t } }

-- Of so many traps from a number on, those that are within reach and empty, by rising number.
abbrev pub candidates_in : Places → Disc → ℕ → ℕ → List Candidate
candidates_in p d first count =
    map (candidate p.architecture d.centre)
    (filter (λ t. is_within p.architecture d t && is_empty p.traps t) (range_with_len first count))

-- The centre is on the field, and the reach is no more than a few fields.
pub record FitsDisc (d : Disc) : Type 0 where
  pub x_most : d.centre.x ≤ 1000000
  pub y_most : d.centre.y ≤ 1000000
  pub reach_most : d.reach ≤ 10000000
