use Rattle.std.proofs.Common.{ap, arith, length}
use Rattle.std.proofs.lemmas.List.{length-map}
use Rattle.std.proofs.lemmas.List.FromFn.{length-range_with_len}
use Rattle.zac_arch.specs.Architecture.{storage_count}
use Rattle.zac_place.specs.Ranks.{number_of}
use Rattle.zac_place.proofs.FillingFacts.{IsOrderBelow-sorted}
use Rattle.zac_place.proofs.offsets.traps_by_filling.Goals as goal

pub returns-clause-order : goal.returns-clause-order
returns-clause-order c =
    let given = c.in_ok-ranked.ranked.items in
    let sorted = c.sort.new.self.items in
    IsOrderBelow-sorted c.args.card.now (storage_count c.args.card.now) given sorted c.in_ok-sort.ensures.permutation c.in_ok-ranked.ensures.ranked c.in_ok-ranked.ensures.numbers c.in_ok-sort.ensures.sorted

pub returns-clause-number : goal.returns-clause-number
returns-clause-number c =
    omega (arith, c.in_ok-sort.ensures.len, ap length c.in_ok-ranked.ensures.numbers, length-map c.in_ok-ranked.ranked.items number_of, length-range_with_len 0 (storage_count c.args.card.now))
