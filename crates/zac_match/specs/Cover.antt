use Rattle.std.specs.Prelude.{ℕ, ◌≡◌, ◌≢◌, ◌<◌, List, Option, Some, None, Bool, true, false, ◌&&◌, eqb, IsSome, slice_index_or}
use Rattle.std.specs.List.{Contains, AllPairs, All, list_any}
use Rattle.zac_pairing.specs.Pairing.{mate}

-- whether one of the given edges has these ends
abbrev pub is_edge : List (ℕ × ℕ) → ℕ → ℕ → Bool
is_edge given u v = list_any (λ e. eqb e.0 u && eqb e.1 v) given

-- The edges are exactly the pairs, and no two have one left end.
pub record Lists (left : List (Option ℕ)) (edges : List (ℕ × ℕ)) : Type 0 where
  pub sound : All (λ e. mate left e.0 ≡ Some e.1) edges
  pub complete : (u v : ℕ) → mate left u ≡ Some v → Contains edges (u, v)
  pub once : AllPairs (λ a b. a.0 ≢ b.0) edges

-- The right vertex is marked.
abbrev pub IsMarked : List Bool → ℕ → Type 0
IsMarked marks v = slice_index_or marks v false ≡ true

-- Each edge of a left vertex below a bound that has no mate leads to a marked vertex; so does each edge of a left
-- vertex whose mate is marked; and each marked vertex has a mate.
pub record IsClosed (given : List (ℕ × ℕ)) (left right : List (Option ℕ)) (marks : List Bool) (upto : ℕ) : Type 0 where
  pub from_free : (u v : ℕ) → u < upto → Contains given (u, v) → mate left u ≡ None → IsMarked marks v
  pub from_marked : (u v w : ℕ) → Contains given (u, v) → mate left u ≡ Some w → IsMarked marks w → IsMarked marks v
  pub mated : (v : ℕ) → IsMarked marks v → IsSome (mate right v)
