use Rattle.std.proofs.Common.{◌-◌, ◌<◌, ◌*◌, ◌^◌, ◌%◌, ℕ, sym, ap, ◌∙◌, arith}
use Rattle.zac_flags.specs.Words.{has_bit}
use Rattle.zac_flags.proofs.WordFacts.{all_bits, first_bits, shl_one}
use Rattle.zac_flags.proofs.bits.bits_below.Goals as goal

pub returns-then-count-lt-WORD : goal.returns-then-count-lt-WORD
returns-then-count-lt-WORD c i lt =
    ap (λ (w : ℕ). has_bit (w - 1) i) (shl_one c.args.count c.if-count-lt-WORD.true) ∙ first_bits c.args.count i lt

pub returns-else-count-lt-WORD : goal.returns-else-count-lt-WORD
returns-else-count-lt-WORD c = all_bits c.args.count c.if-count-lt-WORD.false
