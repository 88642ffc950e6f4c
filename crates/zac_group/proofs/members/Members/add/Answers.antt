use Rattle.std.proofs.Common.{◌++◌, ◌∷◌, [], All, refl, subst, sym}
use Rattle.zac_group.specs.declared.members.Members.{Members}
use Rattle.zac_group.specs.declared.tracks.Track.{Track}
use Rattle.zac_group.specs.Tracks.{AreTracksOf, KeepsOrder}
use Rattle.zac_group.proofs.MemberFacts.{fits_columns, fits_rows, members_more}
use Rattle.zac_group.proofs.members.Members.add.Goals as goal

pub join-requires-clause-order : goal.join-requires-clause-order
join-requires-clause-order c =
    subst (λ (t : Track). All (KeepsOrder t) c.args.self.now.columns.items) (sym c.column.ensures)
    (fits_columns c.args.card.now c.args.self.now c.args.route c.requires.members c.requires.route c.requires.fits).0

pub join-requires-2-clause-order : goal.join-requires-2-clause-order
join-requires-2-clause-order c =
    subst (λ (t : Track). All (KeepsOrder t) c.args.self.now.rows.items) (sym c.row.ensures)
    (fits_rows c.args.card.now c.args.self.now c.args.route c.requires.members c.requires.route c.requires.fits).0

pub returns-clause-members : goal.returns-clause-members
returns-clause-members c =
    let old = c.args.self.now in
    let new : Members = record { routes = c.push.new.self; zones = old.zones; columns = c.join.new.tracks; rows = c.join-2.new.tracks } in
    members_more c.args.card.now c.args.route old new c.requires.members c.requires.route c.requires.fits c.in_ok-push.ensures.items refl
    (subst (λ (t : Track). AreTracksOf (old.columns.items ++ t ∷ []) new.columns.items) c.column.ensures c.in_ok-join.ensures)
    (subst (λ (t : Track). AreTracksOf (old.rows.items ++ t ∷ []) new.rows.items) c.row.ensures c.in_ok-join-2.ensures)
