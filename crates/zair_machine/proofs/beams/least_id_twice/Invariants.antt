use Rattle.std.proofs.Common.{ℕ, map, take}
use Rattle.zair_state.specs.Least.{IsLeastOf}
use Rattle.zair_state.specs.Faults.{IsTwice}
use Rattle.zair_machine.proofs.beams.least_id_twice.Given as goal

abbrev pub invariant-loop-k : goal.invariant-loop-k
invariant-loop-k l = IsLeastOf (IsTwice (map (λ (i : ℕ). i) (take l.k l.ids))) l.least
