-- The tiny card: four storage traps in a row, and two sites in a row above them.
use Rattle.std.specs.Prelude.{ℕ, [], ◌∷◌}
use Rattle.zac_arch.specs.Architecture.{Architecture}
use Rattle.zac_arch.specs.declared.card.Figures.{Figures}
use Rattle.zac_arch.specs.declared.card.Zone.{Zone}
use Rattle.zac_arch.specs.declared.card.ZoneKind.TheVariants.{Storage, Entangling}

-- the figures of both built-in cards, with so many row beams and column beams of an AOD
abbrev pub built_in_figures : ℕ → ℕ → Figures
built_in_figures rows columns = record {
  gap = 10;
  park = 10;
  reach = 5;
  radius = 60;
  accel = 2750;
  activate = 15000;
  deactivate = 15000;
  one = 52000;
  pulse = 360;
  readout = 1000000;
  aods = 2;
  rows = rows;
  columns = columns;
}

-- The figures of the tiny card; among them reach 5, radius 60, two AODs, and at most four rows and four columns each.
abbrev pub tiny_figures : Figures
tiny_figures = built_in_figures 4 4

-- A storage zone with traps at (0,0), (30,0), (60,0) and (90,0).
abbrev pub tiny_storage : Zone
tiny_storage = record { kind = Storage; x = 0; y = 0; dx = 30; dy = 30; pair = 0; columns = 4; rows = 1 }

-- An entangling zone with two sites: traps at (0,100) and (20,100), and at (120,100) and (140,100).
abbrev pub tiny_entangling : Zone
tiny_entangling = record { kind = Entangling; x = 0; y = 100; dx = 120; dy = 100; pair = 20; columns = 2; rows = 1 }

-- The tiny card: those figures, and those two zones.
abbrev pub tiny_architecture : Architecture
tiny_architecture = record { figures = tiny_figures; zones = tiny_storage ∷ tiny_entangling ∷ [] }
