use Rattle.std.proofs.Common.{take}
use Rattle.zair_form.specs.declared.step.Beam.{Beam}
use Rattle.zair_state.proofs.Minima.{least_twice_more, least_twice_start, least_twice_whole, any_id, same_trans}
use Rattle.zair_machine.proofs.beams.least_twice.Goals as goal

pub loop-k-init : goal.loop-k-init
loop-k-init c = least_twice_start

pub loop-k-preserved : goal.loop-k-preserved
loop-k-preserved c =
    rw c.lesser_id_if-least.ensures (least_twice_more (λ (b : Beam). b.id) c.args.beams.now c.loop-k.k _ _ c.loop-k.least c.loop-k-test.true (same_trans _ _ _ c.has_id_from_behind.ensures (any_id (take c.loop-k.k c.args.beams.now) _)) c.loop-k.invariant)

pub returns : goal.returns
returns c = least_twice_whole (λ (b : Beam). b.id) c.args.beams.now c.loop-k.k c.loop-k.least c.loop-k-test.false c.loop-k.invariant
