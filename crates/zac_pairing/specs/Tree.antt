-- The tree of left ends that a search reaches.
use Rattle.std.specs.Prelude.{ℕ, ◌≡◌, ◌≢◌, ◌<◌, ◌≤◌, List, Option, Some, None, Bool, true, IsSome, slice_index_or, length}
use Rattle.zac_pairing.specs.Pairing.{mate}
use Rattle.zac_pairing.specs.declared.tree.Step.{Step}

-- The step that stands for a place outside the list.
abbrev pub no_step : Step
no_step = record { left = 0; from = 0 }

-- The left end that the step at a place reached.
abbrev pub left_at : List Step → ℕ → ℕ
left_at steps k = (slice_index_or steps k no_step).left

-- the place of the step from whose left end it was reached
abbrev pub from_at : List Step → ℕ → ℕ
from_at steps k = (slice_index_or steps k no_step).from

-- The first n steps are a tree: there is a first one, whose left end has no partner; the left ends are distinct; each
-- later one has a partner and was reached from an earlier step.
pub record IsTree (left : List (Option ℕ)) (steps : List Step) (n : ℕ) : Type 0 where
  pub some : 0 < n
  pub within : n ≤ length steps
  pub root : mate left (left_at steps 0) ≡ None
  pub in_left : (j : ℕ) → j < n → left_at steps j < length left
  pub distinct : (i j : ℕ) → i < j → j < n → left_at steps i ≢ left_at steps j
  pub earlier : (j : ℕ) → 0 < j → j < n → from_at steps j < j
  pub later : (j : ℕ) → 0 < j → j < n → IsSome (mate left (left_at steps j))

-- The test passes for the left end from which each later one was reached, with that later one's own partner.
pub record HasPairs (test : ℕ → ℕ → Bool) (left : List (Option ℕ)) (steps : List Step) (n : ℕ) : Type 0 where
  pub each : (j v : ℕ) → 0 < j → j < n → mate left (left_at steps j) ≡ Some v → test (left_at steps (from_at steps j)) v ≡ true

-- The test passes for each left end that has a partner, with that partner.
pub record AllPass (test : ℕ → ℕ → Bool) (left : List (Option ℕ)) : Type 0 where
  pub each : (u v : ℕ) → mate left u ≡ Some v → test u v ≡ true
