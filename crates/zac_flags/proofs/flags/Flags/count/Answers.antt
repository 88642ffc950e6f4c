use Rattle.std.proofs.Common.{Bool, List, length, ap, sym, ◌∙◌}
use Rattle.std.proofs.lemmas.List.FromFn.{length-map-range_with_len}
use Rattle.zac_flags.specs.Words.{flag_at}
use Rattle.zac_flags.proofs.flags.Flags.count.Goals as goal

pub returns : goal.returns
returns c =
    sym (length-map-range_with_len (flag_at c.self.inside.words.items) 0 c.self.inside.count) ∙ ap (λ (l : List Bool). length l) c.self.view_is
