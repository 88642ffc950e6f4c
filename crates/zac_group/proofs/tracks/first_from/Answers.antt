use Rattle.std.proofs.Common.{ltb, rules, arith}
use Rattle.std.proofs.lemmas.Bool.{ltb-true, ltb-false}
use Rattle.std.proofs.lemmas.List.Sorted.{IsPartitionPoint-from_clause, IsPartitionedBy-ltb}
use Rattle.zac_group.specs.declared.tracks.Track.{Track}
use Rattle.zac_group.proofs.TrackFacts.{begins_rise}
use Rattle.zac_group.proofs.tracks.first_from.Goals as goal

pub returns-clause-before : goal.returns-clause-before
returns-clause-before c =
    let parted = IsPartitionedBy-ltb (λ (t : Track). t.from) c.args.tracks.now c.args.from (begins_rise c.args.tracks.now c.requires) in
    let point = IsPartitionPoint-from_clause (λ (t : Track). ltb t.from c.args.from) _ _ c.partition_point.ensures.partitioned parted (λ a r q k. search rules) in
    λ k d h. ltb-true _ _ (point.0 k d (omega arith) h)

pub returns-clause-rest : goal.returns-clause-rest
returns-clause-rest c =
    let parted = IsPartitionedBy-ltb (λ (t : Track). t.from) c.args.tracks.now c.args.from (begins_rise c.args.tracks.now c.requires) in
    let point = IsPartitionPoint-from_clause (λ (t : Track). ltb t.from c.args.from) _ _ c.partition_point.ensures.partitioned parted (λ a r q k. search rules) in
    λ k d le lt. ltb-false _ _ (point.1 k d le lt)
