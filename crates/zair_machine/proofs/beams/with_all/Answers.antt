use Rattle.std.proofs.Common.{List, length, get_or, sym, ap, ◌∙◌, arith}
use Rattle.zair_form.specs.declared.step.Beam.{Beam}
use Rattle.std.proofs.Common.{◌-◌}
use Rattle.zair_state.specs.Result.{with_beam}
use Rattle.zair_machine.proofs.AfterBeams.{put_one_more, none_put, all_put, length_put}
use Rattle.zair_machine.proofs.beams.with_all.Goals as goal

pub loop-k-init : goal.loop-k-init
loop-k-init c = c.copy_of-beams.ensures ∙ sym (none_put c.args.listed.now c.args.active.now)

pub put_in-requires : goal.put_in-requires
put_in-requires c = omega (arith, ap length c.loop-k.invariant, length_put c.args.listed.now c.args.active.now c.loop-k.k (omega arith), c.loop-k-test.true, c.requires)

pub loop-k-preserved : goal.loop-k-preserved
loop-k-preserved c =
    c.put_in.ensures ∙ ap (λ (l : List Beam). with_beam (get_or c.args.listed.now (length c.args.listed.now - 1 - c.loop-k.k) (record { id = 0; at = 0 })) l) c.loop-k.invariant ∙ sym (put_one_more c.args.listed.now c.args.active.now c.loop-k.k (record { id = 0; at = 0 }) c.loop-k-test.true)

pub returns : goal.returns
returns c = c.loop-k.invariant ∙ all_put c.args.listed.now c.args.active.now c.loop-k.k c.loop-k-test.false
