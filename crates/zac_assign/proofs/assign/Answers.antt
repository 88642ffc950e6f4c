use Rattle.std.proofs.Common.{rules, ℕ, ℤ, ◌≡◌, ◌<◌, Some, List, length, sym, subst}
use Rattle.std.specs.Prelude.{slice_index}
use Rattle.zac_assign.specs.Assignment.{IsAssignment, ProvesLeast}
use Rattle.zac_pairing.specs.Pairing.{mate}
use Rattle.zac_assign.proofs.Bound.{IsAssignment-chosen, ProvesLeast-chosen, IsLeast-from_prices}
use Rattle.zac_assign.proofs.assign.Goals as goal

pub returns-clause-assignment : goal.returns-clause-assignment
returns-clause-assignment c =
    let t = c.args.costs.now in
    let columns = c.add_rows.new.pairs.left.items in
    let rows = c.add_rows.new.pairs.right.items in
    let chosen = c.in_ok-chosen_columns.field-0.items in
    let columns_len : length columns ≡ t.rows = search rules in
    let rows_len : length rows ≡ t.columns = search rules in
    let chosen_len : length chosen ≡ t.rows = search rules in
    let own : (r : ℕ) → r < t.rows → mate columns r ≡ Some (slice_index chosen r) = λ r h. c.in_ok-chosen_columns.ensures.own r (search rules) in
    let P : List ℕ → Type 0 = λ x. IsAssignment t x in
    subst P (sym c.of.ensures) (IsAssignment-chosen t c.add_rows.new.price c.add_rows.new.fee columns rows chosen c.in_ok-add_rows.ensures.prices c.add_rows.new.pairs.pairing columns_len rows_len chosen_len own)

pub returns-clause-prices : goal.returns-clause-prices
returns-clause-prices c =
    let t = c.args.costs.now in
    let columns = c.add_rows.new.pairs.left.items in
    let rows = c.add_rows.new.pairs.right.items in
    let price = c.add_rows.new.price in
    let fee = c.add_rows.new.fee in
    let chosen = c.in_ok-chosen_columns.field-0.items in
    let row_price = c.in_ok-row_prices.field-0.items in
    let column_price = c.in_ok-column_prices.field-0.items in
    let columns_len : length columns ≡ t.rows = search rules in
    let rows_len : length rows ≡ t.columns = search rules in
    let chosen_len : length chosen ≡ t.rows = search rules in
    let own : (r : ℕ) → r < t.rows → mate columns r ≡ Some (slice_index chosen r) = λ r h. c.in_ok-chosen_columns.ensures.own r (search rules) in
    let price_len : length price ≡ t.rows = search rules in
    let fee_len : length fee ≡ t.columns = search rules in
    let row_price_len : length row_price ≡ length price = search rules in
    let column_price_len : length column_price ≡ length fee = search rules in
    let P : List ℕ → Type 0 = λ x. ProvesLeast t x c.of-2.result c.of-3.result in
    let Q : List ℤ → Type 0 = λ x. ProvesLeast t chosen x c.of-3.result in
    let R : List ℤ → Type 0 = λ x. ProvesLeast t chosen row_price x in
    subst P (sym c.of.ensures) (subst Q (sym c.of-2.ensures) (subst R (sym c.of-3.ensures)
    (ProvesLeast-chosen t price fee columns rows chosen c.in_ok-add_rows.ensures.prices c.add_rows.new.pairs.pairing columns_len rows_len chosen_len own row_price column_price price_len fee_len row_price_len column_price_len c.in_ok-row_prices.ensures.each c.in_ok-column_prices.ensures.each)))

pub returns-clause-least : goal.returns-clause-least
returns-clause-least c = IsLeast-from_prices c.args.costs.now c.of.result c.of-2.result c.of-3.result (returns-clause-assignment c) (returns-clause-prices c)
