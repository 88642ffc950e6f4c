use Rattle.std.proofs.Common.{◌≡◌, map, take, slice_index}
use Rattle.zac_place.proofs.placed.places_at.Given as goal

-- the places at the columns so far
abbrev pub invariant-loop-column : goal.invariant-loop-column
invariant-loop-column l = l.places.items ≡ map (slice_index l.offered) (take l.column-index l.columns)
