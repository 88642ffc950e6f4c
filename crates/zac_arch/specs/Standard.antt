-- The standard card: 10,000 storage traps in a square, and 140 sites above them.
use Rattle.std.specs.Prelude.{[], ◌∷◌}
use Rattle.zac_arch.specs.Architecture.{Architecture}
use Rattle.zac_arch.specs.Tiny.{built_in_figures}
use Rattle.zac_arch.specs.declared.card.Zone.{Zone}
use Rattle.zac_arch.specs.declared.card.ZoneKind.TheVariants.{Storage, Entangling}

-- 100 rows of 100 storage traps from (0,0) on
abbrev pub standard_storage : Zone
standard_storage = record { kind = Storage; x = 0; y = 0; dx = 30; dy = 30; pair = 0; columns = 100; rows = 100 }

-- 7 rows of 20 sites from (0,3070) on
abbrev pub standard_entangling : Zone
standard_entangling =
    record { kind = Entangling; x = 0; y = 3070; dx = 120; dy = 100; pair = 20; columns = 20; rows = 7 }

-- the standard card
abbrev pub standard_architecture : Architecture
standard_architecture = record { figures = built_in_figures 64 64; zones = standard_storage ∷ standard_entangling ∷ [] }
