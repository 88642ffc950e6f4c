use Rattle.std.proofs.Common.{rules, ◌≡◌}
use Rattle.zac_flags.proofs.FlagFacts.{none_set, zeros}
use Rattle.zac_flags.proofs.flags.Flags.none.Goals as goal

pub returns : goal.returns
returns c =
    let is : c.in_ok-words.words.items ≡ zeros c.div_ceil.result = search rules in
    none_set _ c.div_ceil.result c.args.count is
