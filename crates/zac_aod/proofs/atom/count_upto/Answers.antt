use Rattle.std.proofs.Common.{nat_le, leb-true, leb-false, rules}
use Rattle.std.proofs.lemmas.List.Sorted.{IsPartitionPoint-from_clause, IsPartitionedBy-leb}
use Rattle.zac_aod.specs.declared.atom.Atom.{Atom}
use Rattle.zac_aod.proofs.Lookups.{rows_sorted}
use Rattle.zac_aod.proofs.atom.count_upto.Goals as goal

pub returns-clause-upto : goal.returns-clause-upto
returns-clause-upto c = λ k d far lt.
    let parted = IsPartitionedBy-leb (λ (a : Atom). a.row) c.args.atoms.now c.args.row (rows_sorted c.args.atoms.now c.requires) in
    let point = IsPartitionPoint-from_clause (λ (a : Atom). nat_le a.row c.args.row) c.args.atoms.now c.partition_point.result c.partition_point.ensures.partitioned parted (λ a r q k. search rules) in
    leb-true _ _ (point.0 k d far lt)

pub returns-clause-rest : goal.returns-clause-rest
returns-clause-rest c = λ k d far lt.
    let parted = IsPartitionedBy-leb (λ (a : Atom). a.row) c.args.atoms.now c.args.row (rows_sorted c.args.atoms.now c.requires) in
    let point = IsPartitionPoint-from_clause (λ (a : Atom). nat_le a.row c.args.row) c.args.atoms.now c.partition_point.result c.partition_point.ensures.partitioned parted (λ a r q k. search rules) in
    leb-false _ _ (point.1 k d far lt)
