use Rattle.std.proofs.Common.{◌∷◌, ◌+◌, ap, ◌∙◌, arith}
use Rattle.zair_read.proofs.CompactParts.{one_digit}
use Rattle.zair_read.proofs.compact.number.Goals as goal

pub returns-then-first-eq0 : goal.returns-then-first-eq0
returns-then-first-eq0 c =
    (c.in-Some.ensures.1 ∙ ap (λ n. (48 + n) ∷ c.in-Some.rest.now) c.if-first-eq0.true ∙ one_digit 0 c.in-Some.rest.now (omega arith), omega arith)

pub returns-then-value-most : goal.returns-then-value-most
returns-then-value-most c =
    (c.in-Some.ensures.1 ∙ one_digit c.in-Some.first c.in-Some.rest.now c.in-Some.ensures.0 ∙ c.in_ok-value.ensures, c.if-value-most.true)
