use Rattle.std.proofs.Common.{◌≡◌, get_or, take}
use Rattle.std.specs.Prelude.{map}
use Rattle.qasm_expand.proofs.frame.qubits_at.Given as goal

abbrev pub invariant-loop-place : goal.invariant-loop-place
invariant-loop-place l = l.chosen.items ≡ map (λ i. get_or l.qubits i 0) (take l.place-index l.places)
