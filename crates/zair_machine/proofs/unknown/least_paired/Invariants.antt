use Rattle.std.proofs.Common.{◌≤◌, [], ◌∷◌, take}
use Rattle.std.specs.List.{Contains, flat_map}
use Rattle.zair_form.specs.declared.step.PairOf.{PairOf}
use Rattle.zair_state.specs.Least.{IsLeastOf}
use Rattle.zair_machine.proofs.unknown.least_paired.Given as goal

abbrev pub invariant-loop-p : goal.invariant-loop-p
invariant-loop-p l = IsLeastOf (λ n. Contains (flat_map (λ (x : PairOf). x.a ∷ x.b ∷ []) (take l.p-index l.pairs)) n × (l.qubits ≤ n)) l.least
