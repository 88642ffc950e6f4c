use Rattle.std.proofs.Common.{◌≡◌, ◌≢◌, ◌+◌, ◌*◌, ◌<◌, inl, inr, ap, ◌∙◌, arith}
use Rattle.std.proofs.lemmas.List.{get_or-set_other}
use Rattle.std.proofs.lemmas.Nat.{same_from_place}
use Rattle.zac_assign.specs.Assignment.{Table, cost_at}
use Rattle.zac_assign.proofs.table.Costs.set.Goals as goal

pub returns-clause-others : goal.returns-clause-others
returns-clause-others c = λ r x x_in apart.
    let inside = c.self.inside in
    let same_columns : inside.columns ≡ c.args.self.now.columns = ap (λ (t : Table). t.columns) c.self.view_is in
    let x_below : x < inside.columns = omega arith in
    let column_below : c.args.column < inside.columns = omega (arith, c.requires.column_in) in
    let other : r * inside.columns + x ≢ c.args.row * inside.columns + c.args.column = λ s.
    let p = same_from_place r x c.args.row c.args.column inside.columns x_below column_below s in
    elim apart [ inl d ↦ d p.0 | inr d ↦ d p.1 ] in
    get_or-set_other inside.items.items (c.args.row * inside.columns + c.args.column) (r * inside.columns + x) c.args.cost 0 other
    ∙ ap (λ t. cost_at t r x) c.self.view_is
