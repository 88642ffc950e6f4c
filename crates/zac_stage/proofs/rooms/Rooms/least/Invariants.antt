use Rattle.std.proofs.Common.{◌≡◌, ℕ, ◌<◌, ◌≤◌, ◌-◌, length, slice_index}
use Rattle.zac_stage.specs.Rooms.{AreRooms}
use Rattle.zac_stage.proofs.rooms.Rooms.least.Given as goal

-- all pulses from the floor up to here are full
abbrev pub invariant-loop-at : goal.invariant-loop-at
invariant-loop-at l =
    record {
      rooms : AreRooms l.self.counts.items l.self.links.items l.self.sites;
      counts : l.self.counts ≡ l.fn.self.counts;
      sites : l.self.sites ≡ l.fn.self.sites;
      behind : l.floor ≤ l.at;
      within : l.at ≤ length l.self.counts.items;
      full : (k : ℕ) → l.floor ≤ k → k < l.at → slice_index l.self.counts.items k ≡ l.self.sites;
    }

abbrev pub decreases-loop-at : goal.decreases-loop-at
decreases-loop-at l = length l.self.links.items - l.at
