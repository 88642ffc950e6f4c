use Rattle.std.proofs.Common.{rules, ◌≡◌, ℕ, ◌+◌, ◌-◌, ◌*◌, ◌<◌, ◌^◌, ◌||◌, ◌&&◌, not, Bool, false, List, get_or, ap, sym, ◌∙◌, subst, nat_lt, bit_and, bit_or, w64}
use Rattle.std.specs.Int.{bit_not}
use Rattle.std.proofs.lemmas.Nat.{or_lt}
use Rattle.zac_flags.specs.Words.{AreBits, has_bit}
use Rattle.zac_flags.proofs.UnsetFacts.{by_masks}
use Rattle.zac_flags.proofs.WordFacts.{bits_and, bits_not, bits_or}
use Rattle.zac_flags.proofs.flags.Flags.unset.Goals as goal

pub returns : goal.returns
returns c i lt =
    let first = c.args.number * 64 in
    let one : ℕ → Bool = λ j. get_or c.args.self.now (first + j) false in
    let other : ℕ → Bool = λ j. get_or c.args.other.now (first + j) false in
    let below_end : ℕ → Bool = λ j. nat_lt j (c.args.end - first) in
    let below_begin : ℕ → Bool = λ j. nat_lt j (c.args.begin - first) in
    let word_fits : c.word.result < 2 ^ 64 = search rules in
    let other_fits : c.word-2.result < 2 ^ 64 = search rules in
    let mask_fits : c.bits_below-2.result < 2 ^ 64 = search rules in
    let before : AreBits c.bits_below-2.result below_begin = subst (λ (n : ℕ). AreBits c.bits_below-2.result (λ j. nat_lt j n)) c.saturating_sub.ensures c.bits_below-2.ensures in
    bits_and (bit_not w64 (bit_or c.word.result c.word-2.result)) (bit_and c.bits_below.result (bit_not w64 c.bits_below-2.result)) (λ j. not (one j || other j)) (λ j. below_end j && not (below_begin j))
    (bits_not (bit_or c.word.result c.word-2.result) (λ j. one j || other j) (or_lt 64 c.word.result c.word-2.result word_fits other_fits) (bits_or c.word.result c.word-2.result one other c.word.ensures c.word-2.ensures))
    (bits_and c.bits_below.result (bit_not w64 c.bits_below-2.result) below_end (λ j. not (below_begin j)) c.bits_below.ensures (bits_not c.bits_below-2.result below_begin mask_fits before))
    i lt
    ∙ by_masks c.args.begin c.args.end c.args.number i (one i) (other i) c.requires
