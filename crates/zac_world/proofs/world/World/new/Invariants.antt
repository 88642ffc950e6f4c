use Rattle.std.proofs.Common.{◌≡◌, ◌+◌, is_some, length, map}
use Rattle.zac_arch.specs.Architecture.{trap_count}
use Rattle.zac_pairing.specs.Pairing.{free_count}
use Rattle.zac_world.proofs.PlacesFacts.{AreHomed}
use Rattle.zac_world.proofs.world.World.new.Given as goal

-- the qubits so far are in their homes, as many traps are taken, and their flags are set
abbrev pub invariant-loop-q : goal.invariant-loop-q
invariant-loop-q l =
    record {
      homed : AreHomed l.homes l.pairing.left.items l.q;
      right_len : length l.pairing.right.items ≡ trap_count l.card;
      taken : l.taken ≡ map is_some l.pairing.right.items;
      free : free_count l.pairing.right.items + l.q ≡ length l.pairing.right.items;
    }
