use Rattle.std.proofs.Common.{ℕ, ◌-◌, ap, ◌∙◌, arith}
use Rattle.std.specs.Int.{div_ceil}
use Rattle.zac_world.proofs.SpanFacts.{within}
use Rattle.zac_world.proofs.span.within_reach.Goals as goal

pub returns-clause-near : goal.returns-clause-near
returns-clause-near c i lt =
    let quotient = c.div_ceil-begin.ensures ∙ ap (λ (m : ℕ). div_ceil m c.args.step) (c.saturating_sub-2.ensures ∙ ap (λ (m : ℕ). m - c.args.first) c.saturating_sub.ensures) in
    within c.args.first c.args.step c.args.count c.args.n c.args.reach i c.div_ceil-begin.result c.min.result c.min-end.result c.requires.rises (omega arith) (omega arith) quotient (omega arith) lt
