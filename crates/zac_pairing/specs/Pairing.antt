-- Pairings of two sides: which end has which partner.
use Rattle.std.specs.Prelude.{ℕ, ◌≡◌, List, Option, Some, None, slice_index_or, slice_set, sum_by}

-- The partner of an end, if it has one.
abbrev pub mate : List (Option ℕ) → ℕ → Option ℕ
mate mates k = slice_index_or mates k None

-- The partners of the left ends and those of the right ends tell the same pairs.
pub record IsPairing (left right : List (Option ℕ)) : Type 0 where
  pub there : (u v : ℕ) → mate left u ≡ Some v → mate right v ≡ Some u
  pub back : (u v : ℕ) → mate right v ≡ Some u → mate left u ≡ Some v

-- the partners of one side once an end of it, if there is one, is left by its partner
abbrev pub freed : List (Option ℕ) → Option ℕ → List (Option ℕ)
freed mates None = mates
freed mates (Some k) = slice_set mates k None

-- 1 for an end with no partner, and 0 for one with a partner.
abbrev pub one_if_free : Option ℕ → ℕ
one_if_free None = 1
one_if_free (Some k) = 0

-- how many ends of a side have no partner
abbrev pub free_count : List (Option ℕ) → ℕ
free_count mates = sum_by one_if_free mates
