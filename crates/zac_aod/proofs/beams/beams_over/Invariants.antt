use Rattle.std.proofs.Common.{◌≡◌, ◌<◌, ℕ, Bool, Option, length, take}
use Rattle.std.specs.List.{slice_index_or}
use Rattle.zac_aod.specs.Layout.{place_over}
use Rattle.zac_aod.specs.Stages.{beams_over}
use Rattle.zac_aod.specs.declared.line.Line.{Line}
use Rattle.zac_aod.proofs.beams.beams_over.Given as goal

abbrev pub invariant-loop-number : goal.invariant-loop-number
invariant-loop-number g l = (active : Line → Bool) → (at : Line → ℕ)
    → ((k : ℕ) → (d : Line) → (r : Option ℕ) → k < length l.lines → goal.F-post g l.place k (slice_index_or l.lines k d) r → r ≡ place_over active at (slice_index_or l.lines k d))
    → l.beams.items ≡ beams_over active at 0 (take l.number l.lines)
