-- Distances between points, and how long a move takes.
use Rattle.std.specs.Prelude.{ℕ, ◌+◌, ◌-◌, ◌*◌, ◌^◌, ◌<◌, ◌≤◌}
use Rattle.zac_arch.specs.declared.place.Point.{Point}

-- How far two numbers are apart.
abbrev pub difference : ℕ → ℕ → ℕ
difference m n = (m - n) + (n - m)

-- The square of the distance of two points.
abbrev pub squared_distance : Point → Point → ℕ
squared_distance p q =
    difference p.x q.x * difference p.x q.x + difference p.y q.y * difference p.y q.y

-- Two points are at most this far apart.
abbrev pub IsWithin : ℕ → Point → Point → Type 0
IsWithin d p q = squared_distance p q ≤ d * d

-- Two points are farther apart than this.
abbrev pub IsFarther : ℕ → Point → Point → Type 0
IsFarther d p q = d * d < squared_distance p q

-- With greatest column change dx and greatest row change dy, in tenths of a micrometre, t nanoseconds
-- are enough: t is at least sqrt(d / accel), d being the diagonal and accel in metres per second
-- squared; so accel^2 * t^4 >= (dx^2 + dy^2) * 10^22.
abbrev pub IsTimeEnough : ℕ → ℕ → ℕ → ℕ → Type 0
IsTimeEnough accel dx dy t = (dx * dx + dy * dy) * 10 ^ 22 ≤ accel * accel * (t * t * (t * t))

-- The time is enough, and no lesser time is.
pub record IsMoveTime (accel dx dy t : ℕ) : Type 0 where
  pub enough : IsTimeEnough accel dx dy t
  pub least : (s : ℕ) → IsTimeEnough accel dx dy s → t ≤ s
