-- The moves of a group while groups are made.
use Rattle.std.specs.Prelude.{◌≡◌, ◌≤◌, List, length, map}
use Rattle.std.specs.List.{All, AllPairs}
use Rattle.zac_arch.specs.Architecture.{Architecture, IsInZone}
use Rattle.zac_group.specs.declared.members.Members.{Members}
use Rattle.zac_group.specs.declared.route.Route.{Route}
use Rattle.zac_group.specs.declared.shift.Shift.{Shift}
use Rattle.zac_group.specs.declared.tracks.Track.{Track}
use Rattle.zac_group.specs.Groups.{IsWithinLimits}
use Rattle.zac_group.specs.Moves.{HasTraps, IsCompatible, point_at, source_x, source_y, target_x, target_y}
use Rattle.zac_group.specs.Tracks.{AreTracksOf}

-- the move is between traps of the card, and its points and zones are those of its traps
pub record IsRoute (a : Architecture) (r : Route) : Type 0 where
  pub traps : HasTraps a r.shift
  pub from : r.from ≡ point_at a r.shift.from
  pub to : r.to ≡ point_at a r.shift.to
  pub from_zone : IsInZone a r.shift.from.0 r.zones.from
  pub to_zone : IsInZone a r.shift.to.0 r.zones.to

-- where the column of a move begins and ends
abbrev pub column_of : Architecture → Shift → Track
column_of a s = record { from = source_x a s; to = target_x a s }

-- where the row of a move begins and ends
abbrev pub row_of : Architecture → Shift → Track
row_of a s = record { from = source_y a s; to = target_y a s }

-- where the column and the row of a route begin and end
abbrev pub column : Route → Track
column r = record { from = r.from.x; to = r.to.x }

abbrev pub row : Route → Track
row r = record { from = r.from.y; to = r.to.y }

-- the moves of routes
abbrev pub moves : List Route → List Shift
moves routes = map (λ (r : Route). r.shift) routes

-- there is a move; all have the zones of the group; the tracks are theirs; any two are compatible; and they are within
-- the limits of an AOD
pub record IsMembers (a : Architecture) (m : Members) : Type 0 where
  pub some : 1 ≤ length m.routes.items
  pub routes : All (IsRoute a) m.routes.items
  pub zones : All (λ (r : Route). r.zones ≡ m.zones) m.routes.items
  pub columns : AreTracksOf (map (column_of a) (moves m.routes.items)) m.columns.items
  pub rows : AreTracksOf (map (row_of a) (moves m.routes.items)) m.rows.items
  pub compatible : AllPairs (IsCompatible a) (moves m.routes.items)
  pub within : IsWithinLimits a (moves m.routes.items)
