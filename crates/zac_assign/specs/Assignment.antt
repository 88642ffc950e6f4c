use Rattle.std.specs.Prelude.{ℕ, ◌≡◌, ◌≢◌, ◌+◌, ◌*◌, ◌<◌, ◌≤◌, List, [], ◌∷◌, length, slice_index, slice_index_or, ℤ, pos, ◌+ℤ◌, ◌≤ℤ◌}
use Rattle.std.specs.List.{All, AllPairs, Contains}

-- A number of rows, a number of columns, and the costs, row after row. It is the model of `Costs`.
pub record Table : Type 0 where
  pub rows : ℕ
  pub columns : ℕ
  pub costs : List ℕ

-- What a row pays at a column.
abbrev pub cost_at : Table → ℕ → ℕ → ℕ
cost_at table row column = slice_index table.costs (row * table.columns + column)

-- There is a column for each row, each column exists, and no column comes twice.
pub record IsAssignment (table : Table) (columns : List ℕ) : Type 0 where
  pub each_row : length columns ≡ table.rows
  pub in_range : All (λ column. column < table.columns) columns
  pub distinct : AllPairs (λ a b. a ≢ b) columns

-- What the rows from this one on pay at these columns.
abbrev pub total_from : Table → ℕ → List ℕ → ℕ
total_from table row [] = 0
total_from table row (column ∷ columns) = cost_at table row column + total_from table (row + 1) columns

-- What all rows pay.
abbrev pub total : Table → List ℕ → ℕ
total table columns = total_from table 0 columns

-- No assignment costs less than these columns.
abbrev pub IsLeast : Table → List ℕ → Type 0
IsLeast table columns = (others : List ℕ) → IsAssignment table others → total table columns ≤ total table others

-- The price at a place of a list, and 0 outside it.
abbrev pub price_at : List ℤ → ℕ → ℤ
price_at prices k = slice_index_or prices k (pos 0)

-- There is a price for each row and each column; the two prices of a row and a column are together at most their cost,
-- and equal to it at the row's chosen column; a column's price is at most 0, and 0 where no row has the column.
pub record ProvesLeast (table : Table) (columns : List ℕ) (row_price column_price : List ℤ) : Type 0 where
  pub each_row : length row_price ≡ table.rows
  pub each_column : length column_price ≡ table.columns
  pub bound : (row column : ℕ) → row < table.rows → column < table.columns → (price_at row_price row +ℤ price_at column_price column) ≤ℤ pos (cost_at table row column)
  pub chosen : (row : ℕ) → row < table.rows → price_at row_price row +ℤ price_at column_price (slice_index columns row) ≡ pos (cost_at table row (slice_index columns row))
  pub at_most_zero : (column : ℕ) → column < table.columns → price_at column_price column ≤ℤ pos 0
  pub zero_elsewhere : (column : ℕ) → column < table.columns → (Contains columns column → ⊥) → price_at column_price column ≡ pos 0

-- Whatever the table: where prices prove an assignment least in that way, no assignment costs less.
abbrev pub PricesBoundEveryChoice : Type 0
PricesBoundEveryChoice = (table : Table) (columns : List ℕ) (row_price column_price : List ℤ) → IsAssignment table columns → ProvesLeast table columns row_price column_price → IsLeast table columns
