use Rattle.std.proofs.Common.{◌≡◌, ◌<◌, ℕ, Bool, Option, length, map, filter, take}
use Rattle.std.specs.List.{slice_index_or}
use Rattle.zac_aod.specs.Layout.{place_over}
use Rattle.zac_aod.specs.declared.line.Line.{Line}
use Rattle.zac_aod.proofs.Lookups.{beam_of_atom, in_column}
use Rattle.zac_aod.proofs.layout.Layout.columns_in.Given as goal

abbrev pub invariant-loop-atom : goal.invariant-loop-atom
invariant-loop-atom g l = (test : Line → Bool) → (at : Line → ℕ)
    → ((k : ℕ) → (d : Line) → (r : Option ℕ) → k < length l.self.columns.items → goal.F-post g l.place k (slice_index_or l.self.columns.items k d) r → r ≡ place_over test at (slice_index_or l.self.columns.items k d))
    → l.beams.items ≡ map (beam_of_atom l.self.columns.items at) (filter (in_column l.self.columns.items test) (take l.atom-index l.atoms))
