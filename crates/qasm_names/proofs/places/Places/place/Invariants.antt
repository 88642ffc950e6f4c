use Rattle.std.proofs.Common.{◌≡◌, ℕ, ◌<◌, false, get_or, List}
use Rattle.std.specs.Str.{bytes_eq}
use Rattle.qasm_names.proofs.places.Places.place.Given as goal

abbrev pub invariant-loop-place : goal.invariant-loop-place
invariant-loop-place l = (k : ℕ) (d : List ℕ) → k < l.place → bytes_eq l.word (get_or l.words k d) ≡ false
