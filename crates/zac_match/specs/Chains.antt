use Rattle.std.specs.Prelude.{ℕ, ◌≡◌, ◌+◌, ◌<◌, List, Option, Some, None, slice_index_or}

-- the number of the last edge of a vertex, or of the edge before an edge at the same vertex
abbrev pub link : List (Option ℕ) → ℕ → Option ℕ
link links k = slice_index_or links k None

-- the edges of this number and above are not on the chain that begins here
abbrev pub bound : Option ℕ → ℕ
bound None = 0
bound (Some e) = e + 1

-- The left end of the edge of this number.
abbrev pub left_end : List (ℕ × ℕ) → ℕ → ℕ
left_end given k = (slice_index_or given k (0, 0)).0

-- Each of the first n edges is on a chain that begins with the last edge of its left vertex and goes down through
-- earlier edges of that vertex, leaving out none.
pub record AreChained (given : List (ℕ × ℕ)) (last before : List (Option ℕ)) (n : ℕ) : Type 0 where
  pub last_sound : (u e : ℕ) → link last u ≡ Some e → (e < n) × (left_end given e ≡ u)
  pub last_complete : (k : ℕ) → k < n → k < bound (link last (left_end given k))
  pub before_sound : (e f : ℕ) → e < n → link before e ≡ Some f → (f < e) × (left_end given f ≡ left_end given e)
  pub before_complete : (e k : ℕ) → e < n → k < e → left_end given k ≡ left_end given e → k < bound (link before e)
