use Rattle.std.proofs.Common.{◌-◌, ◌<◌, get_or, arith}
use Rattle.zac_group.specs.declared.tracks.Track.{Track}
use Rattle.zac_group.specs.Tracks.{IsBelow}
use Rattle.zac_group.proofs.TrackFacts.{lies_between}
use Rattle.zac_group.proofs.tracks.place_of.Goals as goal
use Rattle.zac_group.proofs.tracks.place_of.Goals.{then-place-tracks+else-next-track+else-next-track-3, else-place-tracks}
use Rattle.zac_group.proofs.tracks.place_of.Goals.{else-place-gt0-via-then-place-gt0+else-track-tracks, else-place-gt0-via-else-place-gt0}

pub returns : goal.returns
returns c =
    let ts = c.args.tracks.now in
    let t = c.args.track in
    let place = c.first_from-place.result in
    let found = c.first_from-place.ensures in
    let z : Track = record { from = 0; to = 0 } in
    lies_between ts t z place c.requires found.within found.before
    (λ lt. elim c.if-place-tracks.branch as (λ _. IsBelow t (get_or ts place z)) [
      | then-place-tracks+else-next-track+else-next-track-3 w ↦
          let further = found.rest place z (omega arith) lt in
          let apart = w.if-next-track.false in
          let end = w.if-next-track-3.false in
          record { from = omega arith; to = end }
      | else-place-tracks w ↦ absurd (let no = w.if-place-tracks.false in omega arith)
    ])
    (λ pos. elim c.else-place-gt0.branch as (λ _. (get_or ts (place - 1) z).to < t.to) [
      | else-place-gt0-via-then-place-gt0+else-track-tracks w ↦ w.if-track-tracks.false
      | else-place-gt0-via-else-place-gt0 w ↦ absurd (let no = w.if-place-gt0.false in omega arith)
    ])
