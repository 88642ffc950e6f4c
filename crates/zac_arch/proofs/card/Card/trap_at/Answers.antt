use Rattle.std.proofs.Common.{sym, le_of_lt, le_of_eq}
use Rattle.std.proofs.lemmas.Option.{slice_get_within}
use Rattle.zac_arch.proofs.Finding.{before_fits, stands_behind, none_more}
use Rattle.zac_arch.proofs.Walks.{count_more, traps_of_fit, pair_in}
use Rattle.zac_arch.proofs.card.Card.trap_at.Goals as goal

pub place_at-requires-clause-column_distance : goal.place_at-requires-clause-column_distance
place_at-requires-clause-column_distance c =
    pair_in c.args.self.now c.ruled_zones-zones.ensures.rules _ c.ruled_zones-zones.ensures.zones _ _ c.loop-zone-test.true

pub place_at-requires-clause-fits : goal.place_at-requires-clause-fits
place_at-requires-clause-fits c =
    traps_of_fit c.args.self.now c.ruled_zones-zones.ensures.rules _ c.ruled_zones-zones.ensures.zones _ _ c.loop-zone-test.true

pub traps_of-before-requires : goal.traps_of-before-requires
traps_of-before-requires c =
    traps_of_fit c.args.self.now c.ruled_zones-zones.ensures.rules _ c.ruled_zones-zones.ensures.zones _ _ c.loop-zone-test.true

pub overflow_add-result : goal.overflow_add-result
overflow_add-result c =
    before_fits c.args.self.now c.ruled_zones-zones.ensures.rules c.ruled_zones-zones.result.now c.ruled_zones-zones.ensures.zones c.loop-zone.zone-index _ c.loop-zone.before c.in-Some.place c.loop-zone-test.true c.loop-zone.invariant.traps_so_far (le_of_lt (slice_get_within _ _ _ c.in-Some.ensures))

pub overflow_add-before : goal.overflow_add-before
overflow_add-before c =
    before_fits c.args.self.now c.ruled_zones-zones.ensures.rules c.ruled_zones-zones.result.now c.ruled_zones-zones.ensures.zones c.loop-zone.zone-index _ c.loop-zone.before c.traps_of-before.result c.loop-zone-test.true c.loop-zone.invariant.traps_so_far (le_of_eq c.traps_of-before.ensures)

pub returns-in-Some : goal.returns-in-Some
returns-in-Some c =
    stands_behind c.args.self.now c.ruled_zones-zones.result.now c.ruled_zones-zones.ensures.zones c.loop-zone.zone-index c.loop-zone.before c.in-Some.place _ c.args.p c.loop-zone-test.true c.loop-zone.invariant.traps_so_far c.in-Some.ensures

pub loop-zone-preserved : goal.loop-zone-preserved
loop-zone-preserved c = record {
  traps_so_far = rw (c.loop-zone.invariant.traps_so_far, c.traps_of-before.ensures) (sym (count_more c.ruled_zones-zones.result.now c.loop-zone.zone-index _ c.loop-zone-test.true));
  none_so_far = none_more c.ruled_zones-zones.result.now c.loop-zone.zone-index _ c.args.p c.loop-zone-test.true c.loop-zone.invariant.none_so_far c.in_default.ensures;
}
