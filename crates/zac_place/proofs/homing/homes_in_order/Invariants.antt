use Rattle.std.proofs.Common.{ℕ, ◌≡◌, ◌<◌, Some, length}
use Rattle.std.specs.List.{slice_get}
use Rattle.zac_place.specs.declared.offsets.RankedTrap.{RankedTrap}
use Rattle.zac_place.proofs.homing.homes_in_order.Given as goal

-- the qubits so far are in their homes
abbrev pub invariant-loop-k : goal.invariant-loop-k
invariant-loop-k l =
    record {
      number : length l.homes.items ≡ length l.qubits;
      homes : (k q : ℕ) (trap : RankedTrap) → k < l.k → slice_get l.qubits k ≡ Some q → slice_get l.traps k ≡ Some trap → slice_get l.homes.items q ≡ Some (record { 0 = trap.number });
    }
