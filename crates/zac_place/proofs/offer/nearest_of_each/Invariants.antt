use Rattle.std.proofs.Common.{ℕ, ◌<◌, get_or}
use Rattle.zac_place.specs.Offers.{HasNearest}
use Rattle.zac_place.specs.Returns.{AreNear}
use Rattle.zac_place.proofs.offer.nearest_of_each.Given as goal

-- just the traps that are nearest to the qubits so far are offered
abbrev pub invariant-loop-q : goal.invariant-loop-q
invariant-loop-q l =
    record {
      near : AreNear l.world l.leaving l.offered.items;
      complete : (k d : ℕ) → k < l.q-index → HasNearest l.world l.leaving l.offered.items (get_or l.leaving k d);
    }
