use Rattle.std.proofs.Common.{List, ◌++◌, ◌∷◌, [], subst, sym}
use Rattle.std.specs.List.{Contains}
use Rattle.zac_group.specs.declared.tracks.Track.{Track}
use Rattle.zac_group.specs.Tracks.{AreTracksOf, IsBetween}
use Rattle.zac_group.proofs.TrackFacts.{joined_between, joined_shared}
use Rattle.zac_group.proofs.tracks.join.Goals as goal

pub returns-in-Shared : goal.returns-in-Shared
returns-in-Shared c =
    joined_shared c.args.tracks.now.items c.args.track c.requires.rising
    (subst (λ (l : List Track). Contains l c.args.track) c.as_slice.ensures.value c.in-Shared.ensures)

pub returns-in_ok-insert-in-Between : goal.returns-in_ok-insert-in-Between
returns-in_ok-insert-in-Between c =
    let ts = c.args.tracks.now.items in
    subst (λ (l : List Track). AreTracksOf (ts ++ c.args.track ∷ []) l) (sym c.in_ok-insert-in-Between.ensures.items)
    (joined_between ts c.args.track c.in-Between.place c.requires.rising
    (subst (λ (l : List Track). IsBetween l c.args.track c.in-Between.place) c.as_slice.ensures.value c.in-Between.ensures))
