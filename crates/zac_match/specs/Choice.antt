use Rattle.std.specs.Prelude.{ℕ, ◌≢◌, ◌<◌, ◌≤◌, List, length}
use Rattle.std.specs.List.{All, AllPairs, Contains}

-- Each edge's left end is below the count of left vertices, and its right end below that of right ones.
pub record EndsBelow (left right : ℕ) (given : List (ℕ × ℕ)) : Type 0 where
  pub each : All (λ e. (e.0 < left) × (e.1 < right)) given

-- No two of the edges share their left end, and no two share their right end.
abbrev pub NoEndTwice : List (ℕ × ℕ) → Type 0
NoEndTwice edges = AllPairs (λ a b. (a.0 ≢ b.0) × (a.1 ≢ b.1)) edges

-- The chosen edges are given ones, with no end twice.
pub record IsChoice (given chosen : List (ℕ × ℕ)) : Type 0 where
  pub given_edges : All (Contains given) chosen
  pub no_end_twice : NoEndTwice chosen

-- Every choice of the given edges has at most as many members as this one.
abbrev pub IsGreatest : List (ℕ × ℕ) → List (ℕ × ℕ) → Type 0
IsGreatest given chosen = (others : List (ℕ × ℕ)) → IsChoice given others → length others ≤ length chosen
