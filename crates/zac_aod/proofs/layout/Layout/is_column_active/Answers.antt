use Rattle.std.proofs.Common.{◌≡◌, ◌||◌, true, false, get_or, ap, sym, ◌∙◌}
use Rattle.zac_aod.specs.Stages.{is_loaded}
use Rattle.zac_aod.specs.declared.span.Span.{Span}
use Rattle.zac_aod.proofs.Spans.{active_by_span}
use Rattle.zac_aod.proofs.layout.Layout.is_column_active.Goals as goal

pub returns-then-is_loaded : goal.returns-then-is_loaded
returns-then-is_loaded c = λ d.
    let span : Span = c.index-span.result.now in
    let stage = c.args.stage in
    let first : is_loaded stage span.first ≡ true = sym c.is_loaded.ensures ∙ c.if-is_loaded.true in
    c.if-is_loaded.true
    ∙ ap (λ b. b || is_loaded stage span.last) (sym first)
    ∙ ap (λ (s : Span). is_loaded stage s.first || is_loaded stage s.last) c.index-span.ensures
    ∙ active_by_span c.args.self.now.card.now c.args.self.now.shifts.now (get_or c.args.self.now.columns.items c.args.column d)
    (get_or c.args.self.now.spans.items c.args.column span) stage (c.args.self.now.spans_are.each c.args.column d span c.requires)

pub returns-else-is_loaded : goal.returns-else-is_loaded
returns-else-is_loaded c = λ d.
    let span : Span = c.index-span.result.now in
    let stage = c.args.stage in
    let first : is_loaded stage span.first ≡ false = sym c.is_loaded.ensures ∙ c.if-is_loaded.false in
    c.is_loaded-else-is_loaded.ensures
    ∙ ap (λ b. b || is_loaded stage span.last) (sym first)
    ∙ ap (λ (s : Span). is_loaded stage s.first || is_loaded stage s.last) c.index-span.ensures
    ∙ active_by_span c.args.self.now.card.now c.args.self.now.shifts.now (get_or c.args.self.now.columns.items c.args.column d)
    (get_or c.args.self.now.spans.items c.args.column span) stage (c.args.self.now.spans_are.each c.args.column d span c.requires)
