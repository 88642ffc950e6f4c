-- Where a beam stands at a trap or is parked beside it.
use Rattle.std.specs.Prelude.{◌≡◌, ◌≢◌, ℕ, ◌+◌, ◌⊎◌}
use Rattle.zac_arch.specs.declared.place.Point.{Point}

-- q is one of the four corners of the square of side park whose lower left corner is p: p itself, or a point
-- where a crossing is parked beside p in x, in y, or in both
pub record IsCorner (park : ℕ) (p q : Point) : Type 0 where
  pub along_x : (q.x ≡ p.x) ⊎ (q.x ≡ p.x + park)
  pub along_y : (q.y ≡ p.y) ⊎ (q.y ≡ p.y + park)

-- q is one of these corners other than p itself
pub record IsParkedBeside (park : ℕ) (p q : Point) : Type 0 where
  pub corner : IsCorner park p q
  pub elsewhere : q ≢ p
