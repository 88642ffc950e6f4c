use Rattle.std.proofs.Common.{◌<◌, length}
use Rattle.zac_arch.proofs.Walks.{last_fits, stands_by_place}
use Rattle.zac_arch.proofs.card.Card.point.Goals as goal

pub point_in-requires-clause-x_fits : goal.point_in-requires-clause-x_fits
point_in-requires-clause-x_fits c =
    let z = c.ruled_zones-zones.ensures in
    let lt : c.place_of-number.result.0 < length c.ruled_zones-zones.result.now = rw z.zones c.place_of-number.ensures.zone_in in
    (last_fits c.args.self.now z.rules c.ruled_zones-zones.result.now z.zones c.place_of-number.result.0 _ lt).0

pub point_in-requires-clause-y_fits : goal.point_in-requires-clause-y_fits
point_in-requires-clause-y_fits c =
    let z = c.ruled_zones-zones.ensures in
    let lt : c.place_of-number.result.0 < length c.ruled_zones-zones.result.now = rw z.zones c.place_of-number.ensures.zone_in in
    (last_fits c.args.self.now z.rules c.ruled_zones-zones.result.now z.zones c.place_of-number.result.0 _ lt).1

pub returns : goal.returns
returns c =
    let z = c.ruled_zones-zones.ensures in
    let lt : c.place_of-number.result.0 < length c.ruled_zones-zones.result.now = rw z.zones c.place_of-number.ensures.zone_in in
    stands_by_place c.args.self.now c.ruled_zones-zones.result.now z.zones c.args.t.0 c.place_of-number.result.0 c.place_of-number.result.1 _ c.point_in.result lt c.place_of-number.ensures.place c.point_in.ensures
