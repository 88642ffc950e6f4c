use Rattle.std.proofs.Common.{◌≡◌, ◌+◌, ◌<◌, ◌++◌, List, [], ◌∷◌, take, ap, sym, ◌∙◌, subst, arith}
use Rattle.std.proofs.lemmas.List.{take_more}
use Rattle.zair_form.specs.Times.{Lasts, LastTogether}
use Rattle.zair_form.specs.Timing.{AreLastOf}
use Rattle.zair_form.specs.declared.step.Step.{Step}
use Rattle.zac_watch.proofs.TimedFacts.{more_together}
use Rattle.zac_watch.proofs.lengths.job_lasts.Goals as goal

pub loop-step-preserved : goal.loop-step-preserved
loop-step-preserved c =
    let f = c.args.card.now.figures in
    let steps = c.args.steps.now in
    let k = c.loop-step.step-index in
    let s = c.step-item.result in
    let d = c.from-lasts.result in
    let timer_is = c.loop-step.invariant.timer_is in
    let more : take (k + 1) steps ≡ take k steps ++ s ∷ [] = take_more steps k s c.loop-step-test.true ∙ ap (λ (x : Step). take k steps ++ x ∷ []) (sym c.step-item.is) in
    let few = c.loop-step.invariant.few in
    let small : c.lasts.result < 18446744073709551616 = c.lasts.type_inv in
    let same : d ≡ c.lasts.result = c.from-lasts.ensures in
    record {
      together = subst (λ (l : List Step). LastTogether f [] l (c.loop-step.lasts + d)) (sym more)
          (more_together f [] (take k steps) s c.loop-step.lasts d c.loop-step.invariant.together
          (subst (Lasts f (take k steps) s) (sym c.from-lasts.ensures) (c.lasts.ensures.time (take k steps) timer_is)));
      timer_is = subst (AreLastOf c.lasts.new.self) (sym more) (c.lasts.ensures.next (take k steps) timer_is);
      few = omega arith;
    }
