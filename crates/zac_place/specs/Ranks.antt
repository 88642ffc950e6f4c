-- Inside: storage traps with their nearness to site 0.
use Rattle.std.specs.Prelude.{ℕ, ◌≡◌}
use Rattle.zac_arch.specs.Architecture.{Architecture}
use Rattle.zac_place.specs.Homes.{rise, run}
use Rattle.zac_place.specs.declared.offsets.RankedTrap.{RankedTrap}

-- the trap's number
abbrev pub number_of : RankedTrap → ℕ
number_of r = r.number

-- the nearness is that of the trap
pub record IsRanked (a : Architecture) (r : RankedTrap) : Type 0 where
  pub rise_is : r.rise ≡ rise a r.number
  pub run_is : r.run ≡ run a r.number
