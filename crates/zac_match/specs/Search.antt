use Rattle.std.specs.Prelude.{ℕ, ◌≡◌, ◌<◌, ◌⊎◌, List, [], ◌∷◌, ◌++◌, Option, Some, Bool, true, false, IsSome, slice_index_or, slice_set, length, sum_by}
use Rattle.std.specs.List.{Contains}
use Rattle.zac_pairing.specs.Pairing.{mate}
use Rattle.zac_pairing.specs.Tree.{left_at, IsTree, HasPairs}
use Rattle.zac_pairing.specs.declared.tree.Step.{Step}
use Rattle.zac_match.specs.Cover.{IsMarked, is_edge}

-- How far a search has come: its steps are a tree with edges; mates of its vertices are marked; marks from before are
-- kept; and each vertex that it marked has a mate, which is in the tree.
pub record IsSearch (given : List (ℕ × ℕ)) (left right : List (Option ℕ)) (before marks : List Bool) (steps : List Step) : Type 0 where
  pub tree : IsTree left steps (length steps)
  pub edges : HasPairs (is_edge given) left steps (length steps)
  pub through : (j w : ℕ) → j < length steps → mate left (left_at steps j) ≡ Some w → IsMarked marks w
  pub kept : (v : ℕ) → IsMarked before v → IsMarked marks v
  pub mated : (v : ℕ) → IsMarked marks v → IsMarked before v ⊎ IsSome (mate right v)
  pub queued : (u w : ℕ) → mate left u ≡ Some w → IsMarked marks w → IsMarked before w ⊎ ((j : ℕ) × (j < length steps) × (left_at steps j ≡ u))

-- A right vertex was looked at: either it was marked and nothing changed, or it has a mate and was not marked, and now
-- it is marked and its mate is the last step.
abbrev pub Visits : List (Option ℕ) → ℕ → ℕ → List Bool → List Bool → List Step → List Step → Type 0
Visits right v from marks marks' steps steps' =
    (IsMarked marks v × (marks' ≡ marks) × (steps' ≡ steps))
    ⊎ ((u : ℕ) × (mate right v ≡ Some u) × (slice_index_or marks v false ≡ false) × (marks' ≡ slice_set marks v true) × (steps' ≡ steps ++ record { left = u; from = from } ∷ []))

-- What a search without an end leaves: each edge of the root leads to a marked vertex; so does each edge of a vertex
-- whose mate the search marked; old marks are kept; and each vertex that it marked has a mate.
pub record Closes (given : List (ℕ × ℕ)) (left right : List (Option ℕ)) (before marks : List Bool) (root : ℕ) : Type 0 where
  pub from_root : (v : ℕ) → Contains given (root, v) → IsMarked marks v
  pub from_marked : (u v w : ℕ) → Contains given (u, v) → mate left u ≡ Some w → IsMarked marks w → IsMarked before w ⊎ IsMarked marks v
  pub kept : (v : ℕ) → IsMarked before v → IsMarked marks v
  pub mated : (v : ℕ) → IsMarked marks v → IsMarked before v ⊎ IsSome (mate right v)

-- 1 for a vertex that is not marked, else 0
abbrev pub one_if_unmarked : Bool → ℕ
one_if_unmarked true = 0
one_if_unmarked false = 1

-- How many vertices are not marked.
abbrev pub unmarked_count : List Bool → ℕ
unmarked_count marks = sum_by one_if_unmarked marks
