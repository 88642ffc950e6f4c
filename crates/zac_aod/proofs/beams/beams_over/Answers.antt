use Rattle.std.proofs.Common.{List, sym, ◌∙◌}
use Rattle.zac_aod.specs.declared.line.Line.{Line}
use Rattle.zac_aod.proofs.Gathering.{placed_off, placed_on}
use Rattle.zac_aod.proofs.beams.beams_over.Goals as goal
use Rattle.zac_aod.proofs.beams.beams_over.Goals.{in-Some+in_ok-push, in_default}

pub loop-number-preserved : goal.loop-number-preserved
loop-number-preserved g c = λ active at gives.
    let lines : List Line = c.args.lines.now in
    let z : Line = record { from = 0; to = 0 } in
    let k = c.loop-number.number in
    let within = c.loop-number-test.true in
    let given = gives k z c.place.result within c.place.ensures in
    let so_far = c.loop-number.invariant active at gives in
    elim c.match-place.branch [
      | in-Some+in_ok-push w ↦
          rw w.beams-is
          (w.in_ok-push.ensures.items ∙ placed_on active at lines k z within w.in-Some.at (sym w.in-Some.is ∙ given) c.loop-number.beams.items so_far)
      | in_default w ↦
          rw w.beams-is
          (placed_off active at lines k z within (sym w.in_default.is ∙ given) c.loop-number.beams.items so_far)
    ]
