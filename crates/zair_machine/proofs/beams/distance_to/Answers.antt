use Rattle.std.proofs.Common.{◌≡◌, refl}
use Rattle.std.specs.List.{Any}
use Rattle.zac_arch.specs.Distances.{difference}
use Rattle.zair_form.specs.declared.step.Beam.{Beam}
use Rattle.zair_state.proofs.Minima.{least_start, least_more, least_whole, at_any}
use Rattle.zair_machine.proofs.beams.distance_to.Goals as goal

pub loop-b-init : goal.loop-b-init
loop-b-init c = least_start (λ (b : Beam). difference c.args.n b.at) (λ b. Unit {0})

pub loop-b-preserved : goal.loop-b-preserved
loop-b-preserved c =
    rw (c.lesser_if-least.ensures, c.abs_diff.ensures) (least_more (λ (b : Beam). difference c.args.n b.at) (λ b. Unit {0}) c.args.beams.now c.loop-b.b-index _ _ c.loop-b.least c.loop-b-test.true ((λ _. tt, λ _. refl)) c.loop-b.invariant)

pub returns : goal.returns
returns c =
    least_whole (λ (b : Beam). difference c.args.n b.at) (λ b. Unit {0}) (λ d. Any (λ (b : Beam). difference c.args.n b.at ≡ d) c.args.beams.now) c.args.beams.now c.loop-b.b-index c.loop-b.least c.loop-b-test.false (at_any (λ (b : Beam). difference c.args.n b.at) c.args.beams.now) c.loop-b.invariant
