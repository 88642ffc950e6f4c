use Rattle.std.proofs.Common.{nat_lt, get_or, ap, ◌∙◌}
use Rattle.zac_aod.specs.declared.span.Span.{Span}
use Rattle.zac_aod.proofs.Spans.{used_before}
use Rattle.zac_aod.proofs.layout.Layout.is_used_before.Goals as goal

pub returns : goal.returns
returns c = λ d.
    let a = c.args.self.now.card.now in
    let shifts = c.args.self.now.shifts.now in
    let span : Span = c.index.result.now in
    ap (λ (s : Span). nat_lt s.first c.args.row) c.index.ensures
    ∙ used_before a shifts (get_or c.args.self.now.columns.items c.args.column d) (get_or c.args.self.now.spans.items c.args.column span) c.args.row
    (c.args.self.now.spans_are.each c.args.column d span c.requires)
