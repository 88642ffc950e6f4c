-- The moves that are measured, and the zones of their card.
use Rattle.std.specs.Prelude.{◌≡◌, ℕ, ◌+◌, ◌-◌, ◌<◌, Bool, true, false, List, length}
use Rattle.std.specs.List.{slice_index_or}
use Rattle.zac_arch.specs.declared.card.Zone.{Zone}
use Rattle.zac_arch.specs.declared.card.ZoneKind.TheVariants.{Storage, Entangling}
use Rattle.zac_group.specs.declared.shift.Shift.{Shift}

-- the zones
abbrev pub storage : Zone
storage = record { kind = Storage; x = 0; y = 0; dx = 30; dy = 30; pair = 0; columns = 64; rows = 32 }

abbrev pub entangling : Zone
entangling = record { kind = Entangling; x = 0; y = 1100; dx = 120; dy = 100; pair = 20; columns = 32; rows = 32 }

-- the place to which the move at a place goes
abbrev pub place : Bool → ℕ → ℕ → ℕ
place true count k = count - 1 - k
place false count k = k

-- the first moves of so many
pub record AreMoves (turned : Bool) (count first : ℕ) (shifts : List Shift) : Type 0 where
  pub long : length shifts ≡ first
  pub qubits : (k : ℕ) (d : Shift) → k < first → (slice_index_or shifts k d).q ≡ k
  pub sources : (k : ℕ) (d : Shift) → k < first → (slice_index_or shifts k d).from.0 ≡ k
  pub targets : (k : ℕ) (d : Shift) → k < first → (slice_index_or shifts k d).to.0 ≡ 2048 + place turned count k
