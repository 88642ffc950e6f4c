use Rattle.std.proofs.Common.{List, [], ◌∷◌, ◌++◌, take, sym, ap, subst, ◌∙◌, arith}
use Rattle.zac_arch.specs.Rules.{HasFigureRanges}
use Rattle.zair_form.specs.Times.{Lasts}
use Rattle.zair_form.specs.Timing.{AreLastOf}
use Rattle.zair_form.specs.declared.step.Step.{Step}
use Rattle.zac_aod.proofs.Durations.{lasts_most}
use Rattle.zac_aod.proofs.Gathering.{take_more}
use Rattle.zac_aod.proofs.Totals.{total_more, total_whole}
use Rattle.zac_aod.proofs.lowering.duration.Goals as goal

pub overflow_add-total : goal.overflow_add-total
overflow_add-total c =
    let f = c.args.card.now.figures in
    let earlier : List Step = take c.loop-step.step-index c.args.steps.now in
    let ranges : HasFigureRanges f = subst HasFigureRanges c.figures-ranges.ensures.figures c.figures-ranges.ensures.ranges in
    let own = lasts_most f ranges earlier c.step-item.result c.lasts-total.result (c.lasts-total.ensures.time earlier c.loop-step.invariant.last) in
    let most = c.loop-step.invariant.most in
    let before = c.loop-step-test.true in
    let few = c.requires in
    omega arith

pub loop-step-preserved : goal.loop-step-preserved
loop-step-preserved c =
    let f = c.args.card.now.figures in
    let steps : List Step = c.args.steps.now in
    let k = c.loop-step.step-index in
    let s : Step = c.step-item.result in
    let time = c.lasts-total.ensures.time (take k steps) c.loop-step.invariant.last in
    let ranges : HasFigureRanges f = subst HasFigureRanges c.figures-ranges.ensures.figures c.figures-ranges.ensures.ranges in
    let own = lasts_most f ranges (take k steps) s c.lasts-total.result time in
    let most = c.loop-step.invariant.most in
    record {
      last = subst (λ (ss : List Step). AreLastOf c.lasts-total.new.self ss) (ap (λ (x : Step). take k steps ++ x ∷ []) c.step-item.is ∙ sym (take_more steps k s c.loop-step-test.true))
          (c.lasts-total.ensures.next (take k steps) c.loop-step.invariant.last);
      most = omega arith;
      total = total_more f steps k s c.loop-step.total c.lasts-total.result c.loop-step-test.true c.loop-step.invariant.total
          (subst (λ (x : Step). Lasts f (take k steps) x c.lasts-total.result) c.step-item.is time);
    }

pub returns : goal.returns
returns c = total_whole c.args.card.now.figures c.args.steps.now c.loop-step.step-index c.loop-step.total c.loop-step-test.false c.loop-step.invariant.total
