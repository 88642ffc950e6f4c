use Rattle.std.proofs.Common.{rules, ℕ, ◌≡◌, ◌≢◌, ◌+◌, ◌-◌, ◌<◌, false, length, vec_len, sym, arith, refl, subst}
use Rattle.std.specs.Prelude.{slice_index}
use Rattle.std.proofs.lemmas.List.{get_or_read_under}
use Rattle.std.proofs.lemmas.Option.{MatchOption-at_none}
use Rattle.zac_assign.specs.Assignment.{cost_at}
use Rattle.zac_pairing.specs.Tree.{left_at}
use Rattle.zac_assign.specs.Search.{is_used, RaisesRows, RaisesColumns}
use Rattle.zac_assign.proofs.SearchFacts.{some_unused, j_above, raised_price_small, raised_fee_small, column_in, columns_distinct, ArePrices-raised, IsSearch-raised, nearest_tight}
use Rattle.zac_assign.proofs.search.approach.Goals as goal

pub unreachable-requires : goal.unreachable-requires
unreachable-requires c =
    let r = c.requires in
    let room = c.args.room.now in
    let some = some_unused r.prices c.args.pairs.now.pairing (search rules) (search rules) r.small r.some_free r.search in
    let none : (x : ℕ) → x < vec_len room.distance → is_used room.used.items x ≢ false = MatchOption-at_none _ _ c.in_default.is c.nearest.ensures.none in
    none some.0 (omega (arith, some.1, r.distance_len)) some.2

pub overflow_sub-by : goal.overflow_sub-by
overflow_sub-by c =
    let r = c.requires in
    let room = c.args.room.now in
    let above = j_above r.prices c.args.pairs.now.pairing (search rules) (search rules) r.small r.some_free r.search (search rules) c.in-Some.ensures.found in
    let d : c.index.result.now ≡ slice_index room.distance.items c.in-Some.column = get_or_read_under room.distance.items c.in-Some.column (length room.distance.items) c.index.result.now 0 c.index.ensures c.in-Some.ensures.found.inside refl in
    omega (arith, above, d)

pub raise_rows-requires-clause-fits : goal.raise_rows-requires-clause-fits
raise_rows-requires-clause-fits c = λ k h.
    let r = c.requires in
    let room = c.args.room.now in
    let small = raised_price_small r.prices c.args.pairs.now.pairing (search rules) (search rules) r.small r.some_free r.search (search rules) c.in-Some.ensures.found k h in
    let d : c.index.result.now ≡ slice_index room.distance.items c.in-Some.column = get_or_read_under room.distance.items c.in-Some.column (length room.distance.items) c.index.result.now 0 c.index.ensures c.in-Some.ensures.found.inside refl in
    omega (arith, small, d)

pub raise_columns-requires-clause-inside : goal.raise_columns-requires-clause-inside
raise_columns-requires-clause-inside c = λ k x h e.
    let r = c.requires in
    let room = c.args.room.now in
    let inside = column_in r.prices c.args.pairs.now.pairing (search rules) (search rules) r.small r.some_free r.search (search rules) c.in-Some.ensures.found k x e in
    omega (arith, inside, r.fee_len)

pub raise_columns-requires-clause-fits : goal.raise_columns-requires-clause-fits
raise_columns-requires-clause-fits c = λ k x h e.
    let r = c.requires in
    let room = c.args.room.now in
    let inside = column_in r.prices c.args.pairs.now.pairing (search rules) (search rules) r.small r.some_free r.search (search rules) c.in-Some.ensures.found k x e in
    let small = raised_fee_small r.prices c.args.pairs.now.pairing (search rules) (search rules) r.small r.some_free r.search (search rules) c.in-Some.ensures.found k x h inside in
    let d : c.index.result.now ≡ slice_index room.distance.items c.in-Some.column = get_or_read_under room.distance.items c.in-Some.column (length room.distance.items) c.index.result.now 0 c.index.ensures c.in-Some.ensures.found.inside refl in
    omega (arith, small, d)

pub raise_columns-requires-clause-distinct : goal.raise_columns-requires-clause-distinct
raise_columns-requires-clause-distinct c =
    let r = c.requires in
    let room = c.args.room.now in
    columns_distinct r.prices c.args.pairs.now.pairing (search rules) (search rules) r.small r.some_free r.search (search rules) c.in-Some.ensures.found

pub returns-clause-prices : goal.returns-clause-prices
returns-clause-prices c =
    let r = c.requires in
    let room = c.args.room.now in
    let d : c.index.result.now ≡ slice_index room.distance.items c.in-Some.column = get_or_read_under room.distance.items c.in-Some.column (length room.distance.items) c.index.result.now 0 c.index.ensures c.in-Some.ensures.found.inside refl in
    let P : ℕ → Type 0 = λ x. RaisesRows room.steps.items (length room.steps.items) (x - c.args.raised) c.args.price.now c.raise_rows.new.price in
    let Q : ℕ → Type 0 = λ x. RaisesColumns c.args.pairs.now.left.items room.steps.items (length room.steps.items) (x - c.args.raised) c.args.fee.now c.raise_columns.new.fee in
    ArePrices-raised r.prices c.args.pairs.now.pairing (search rules) (search rules) r.small r.some_free r.search (search rules) c.in-Some.ensures.found (subst P d c.raise_rows.ensures) (subst Q d c.raise_columns.ensures)

pub returns-clause-search : goal.returns-clause-search
returns-clause-search c =
    let r = c.requires in
    let room = c.args.room.now in
    let d : c.index.result.now ≡ slice_index room.distance.items c.in-Some.column = get_or_read_under room.distance.items c.in-Some.column (length room.distance.items) c.index.result.now 0 c.index.ensures c.in-Some.ensures.found.inside refl in
    let P : ℕ → Type 0 = λ x. RaisesRows room.steps.items (length room.steps.items) (x - c.args.raised) c.args.price.now c.raise_rows.new.price in
    let Q : ℕ → Type 0 = λ x. RaisesColumns c.args.pairs.now.left.items room.steps.items (length room.steps.items) (x - c.args.raised) c.args.fee.now c.raise_columns.new.fee in
    IsSearch-raised r.prices c.args.pairs.now.pairing (search rules) (search rules) r.small r.some_free r.search (search rules) c.in-Some.ensures.found (subst P d c.raise_rows.ensures) (subst Q d c.raise_columns.ensures)

pub returns-clause-own : goal.returns-clause-own
returns-clause-own c =
    let r = c.requires in
    let room = c.args.room.now in
    let from_in : c.in-Some.column < length room.from.items = search rules in
    let d : c.index.result.now ≡ slice_index room.distance.items c.in-Some.column = get_or_read_under room.distance.items c.in-Some.column (length room.distance.items) c.index.result.now 0 c.index.ensures c.in-Some.ensures.found.inside refl in
    let f : c.index-2.result.now ≡ slice_index room.from.items c.in-Some.column = get_or_read_under room.from.items c.in-Some.column (length room.from.items) c.index-2.result.now 0 c.index-2.ensures from_in refl in
    let P : ℕ → Type 0 = λ x. RaisesRows room.steps.items (length room.steps.items) (x - c.args.raised) c.args.price.now c.raise_rows.new.price in
    let Q : ℕ → Type 0 = λ x. RaisesColumns c.args.pairs.now.left.items room.steps.items (length room.steps.items) (x - c.args.raised) c.args.fee.now c.raise_columns.new.fee in
    let tight = nearest_tight r.prices c.args.pairs.now.pairing (search rules) (search rules) r.small r.some_free r.search (search rules) c.in-Some.ensures.found (subst P d c.raise_rows.ensures) (subst Q d c.raise_columns.ensures) in
    let O : ℕ → Type 0 = λ x. slice_index c.raise_rows.new.price (left_at room.steps.items x) ≡ cost_at c.args.costs.now (left_at room.steps.items x) c.in-Some.column + slice_index c.raise_columns.new.fee c.in-Some.column in
    subst O (sym f) tight.1
