use Rattle.std.proofs.Common.{◌≡◌, map, take}
use Rattle.zair_form.specs.declared.step.Beam.{Beam}
use Rattle.zac_aod.proofs.beams.ids.Given as goal

abbrev pub invariant-loop-beam : goal.invariant-loop-beam
invariant-loop-beam l = l.ids.items ≡ map (λ (b : Beam). b.id) (take l.beam-index l.beams)
