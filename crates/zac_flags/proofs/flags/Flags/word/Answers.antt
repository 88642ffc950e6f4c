use Rattle.std.proofs.Common.{rules, ◌≡◌, ℕ, ◌+◌, ◌*◌, Bool, false, List, get_or, ap, ◌∙◌}
use Rattle.zac_flags.specs.Words.{has_bit}
use Rattle.zac_flags.proofs.FlagFacts.{word_read}
use Rattle.zac_flags.proofs.flags.Flags.word.Goals as goal

pub returns : goal.returns
returns c i lt =
    let words = c.self.inside.words.items in
    let number = c.args.number in
    let read : c.unwrap_or.result ≡ get_or words number 0 = search rules in
    ap (λ (w : ℕ). has_bit w i) read ∙ word_read words c.self.inside.count number c.self.invariant i lt
    ∙ ap (λ (l : List Bool). get_or l (number * 64 + i) false) c.self.view_is
