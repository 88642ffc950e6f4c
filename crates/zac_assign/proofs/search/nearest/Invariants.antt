use Rattle.std.proofs.Common.{ℕ, ◌≡◌, ◌≢◌, ◌<◌, ◌≤◌, false, slice_index}
use Rattle.std.specs.Prelude.{MatchOption}
use Rattle.zac_assign.specs.Search.{is_used}
use Rattle.zac_assign.proofs.search.nearest.Given as goal

abbrev pub invariant-loop-column : goal.invariant-loop-column
invariant-loop-column l = MatchOption l.best
    ((l.least ≡ 4294967295) × ((c : ℕ) → c < l.column → is_used l.room.used.items c ≢ false))
    (λ best. (best < l.column) × (is_used l.room.used.items best ≡ false) × (l.least ≡ slice_index l.room.distance.items best) × ((c : ℕ) → c < l.column → is_used l.room.used.items c ≡ false → l.least ≤ slice_index l.room.distance.items c))
