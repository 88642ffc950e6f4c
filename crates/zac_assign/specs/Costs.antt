use Rattle.std.specs.Prelude.{ℕ, ◌≡◌, ◌≤◌, ◌*◌, List, length}
use Rattle.std.specs.List.{All}

-- There are as many costs as rows times columns, each at most 8,000,000. It is the invariant of `Costs`.
pub record FillsTable (rows columns : ℕ) (costs : List ℕ) : Type 0 where
  pub full : length costs ≡ rows * columns
  pub small : All (λ cost. cost ≤ 8000000) costs
