use Rattle.std.proofs.Common.{◌∷◌, suc, length, All, arith}
use Rattle.zac_group.specs.Groups.{count_distinct}
use Rattle.zac_group.specs.Tracks.{KeepsOrder}
use Rattle.zac_group.proofs.TrackFacts.{begins, between_keeps, count_between, count_shared, shared_keeps, within_limit}
use Rattle.zac_group.proofs.tracks.takes.Goals as goal

pub returns-in-Shared : goal.returns-in-Shared
returns-in-Shared c =
    let ts = c.args.tracks.now in
    within_limit (length ts) (count_distinct (begins (c.args.track ∷ ts))) c.args.most (All (KeepsOrder c.args.track) ts)
    (shared_keeps ts c.args.track c.requires c.in-Shared.ensures) (count_shared ts c.args.track c.requires c.in-Shared.ensures)

pub returns-in-Between : goal.returns-in-Between
returns-in-Between c =
    let ts = c.args.tracks.now in
    let between = c.in-Between.ensures in
    let counted = count_between ts c.args.track _ c.requires between in
    within_limit (suc (length ts)) (count_distinct (begins (c.args.track ∷ ts))) c.args.most (All (KeepsOrder c.args.track) ts)
    (between_keeps ts c.args.track _ between) (omega arith)
