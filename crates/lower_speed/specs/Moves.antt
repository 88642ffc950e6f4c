-- The moves that are measured, and the zones of their cards.
use Rattle.std.specs.Prelude.{◌≡◌, ℕ, ◌+◌, ◌*◌, ◌<◌, List, length}
use Rattle.std.specs.List.{slice_index_or}
use Rattle.zac_arch.specs.declared.card.Zone.{Zone}
use Rattle.zac_arch.specs.declared.card.ZoneKind.TheVariants.{Storage, Entangling}
use Rattle.zac_group.specs.declared.shift.Shift.{Shift}

-- the zones of so many rows and columns of sites
abbrev pub storage : ℕ → ℕ → Zone
storage rows sites = record { kind = Storage; x = 0; y = 0; dx = 30; dy = 30; pair = 0; columns = 2 * sites; rows = rows }

abbrev pub entangling : ℕ → ℕ → Zone
entangling rows sites = record { kind = Entangling; x = 0; y = 2100; dx = 120; dy = 100; pair = 20; columns = sites; rows = rows }

-- the first moves, each from a storage trap to the trap of the sites that has its place
pub record AreMoves (traps first : ℕ) (shifts : List Shift) : Type 0 where
  pub long : length shifts ≡ first
  pub qubits : (k : ℕ) (d : Shift) → k < first → (slice_index_or shifts k d).q ≡ k
  pub sources : (k : ℕ) (d : Shift) → k < first → (slice_index_or shifts k d).from.0 ≡ k
  pub targets : (k : ℕ) (d : Shift) → k < first → (slice_index_or shifts k d).to.0 ≡ traps + k
