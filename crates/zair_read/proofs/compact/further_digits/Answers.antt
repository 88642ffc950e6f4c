use Rattle.std.proofs.Common.{◌++◌, decimal, ap, ◌∙◌, arith}
use Rattle.zair_read.proofs.CompactParts.{digit_more}
use Rattle.zair_read.proofs.compact.further_digits.Goals as goal

pub digits-preserved : goal.digits-preserved
digits-preserved c =
    let read = c.in-Some.ensures in (
      omega arith,
      c.digits.invariant.1
          ∙ ap (λ s. decimal c.digits.value ++ s) read.1
          ∙ digit_more c.digits.value c.in-Some.digit c.in-Some.later.now c.digits.invariant.0 c.if-value-gt-SHORT.false read.0,
    )
