use Rattle.std.proofs.Common.{◌≡◌, drop}
use Rattle.std.specs.List.{zip}
use Rattle.std.specs.Map.{lookup}
use Rattle.std.specs.Str.{bytes_eq}
use Rattle.qasm_expand.proofs.substitution.angle_for.Given as goal

abbrev pub invariant-loop-place : goal.invariant-loop-place
invariant-loop-place l =
    lookup (bytes_eq l.name) (zip (drop l.place l.params) (drop l.place l.angles)) ≡ lookup (bytes_eq l.name) (zip l.params l.angles)
