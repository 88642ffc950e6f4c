-- Inside: the least offset of a refusal.
use Rattle.std.specs.Prelude.{ℕ, ◌≤◌, min, Option, Some, None, MatchOption}

-- The least offset at which the property holds, or none where it holds at none.
pub record IsLeastOffset (P : ℕ → Type 0) (result : Option ℕ) : Type 0 where
  pub is : MatchOption result ((at : ℕ) → ¬ P at) (λ a. P a × ((b : ℕ) → P b → a ≤ b))

-- The lesser of two offsets, of those that there are.
abbrev pub earlier : Option ℕ → Option ℕ → Option ℕ
earlier None b = b
earlier (Some a) None = Some a
earlier (Some a) (Some b) = Some (min a b)
