-- Inside: the costs of rows at the places that are offered, as a table.
use Rattle.std.specs.Prelude.{ℕ, ◌≡◌, ◌<◌, List, length, Some}
use Rattle.std.specs.List.{slice_get}
use Rattle.zac_arch.specs.declared.place.SiteId.{SiteId}
use Rattle.zac_assign.specs.Assignment.{Table, cost_at}

-- the table has a column for each place that is offered, in their order, and what a row pays there
pub record Tabulates (cost : ℕ → ℕ → ℕ) (offered : List ℕ) (rows : ℕ) (table : Table) : Type 0 where
  pub rows_are : table.rows ≡ rows
  pub columns_are : table.columns ≡ length offered
  pub costs_are : (row k place : ℕ) → row < rows → slice_get offered k ≡ Some place → cost_at table row k ≡ cost row place

-- the site's number
abbrev pub site_number : SiteId → ℕ
site_number s = s.0
