-- How far the numbers have come.
use Rattle.std.specs.Prelude.{◌≡◌, ◌≤◌, ℕ, List, length}
use Rattle.zac_gates.specs.declared.circuit.Op.{Op}
use Rattle.zac_stage.specs.declared.numbering.Walk.{Walk}
use Rattle.zac_stage.specs.Rooms.{AreRooms}
use Rattle.zac_stage.specs.Tops.{AreNumbered, AreTops}

-- the first i ops have their numbers, and what is kept tells what they come to
pub record IsWalk (ops : List Op) (sites : ℕ) (w : Walk) (i : ℕ) : Type 0 where
  pub sites_are : w.rooms.sites ≡ sites
  pub numbered : AreNumbered ops sites w.numbers.items i
  pub rooms : AreRooms w.rooms.counts.items w.rooms.links.items sites
  pub tops : AreTops ops w.numbers.items w.rooms.counts.items w.tops.items w.fence i
  pub few : length w.rooms.counts.items ≤ i
