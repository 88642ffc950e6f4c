use Rattle.std.proofs.Common.{◌≡◌, ◌+◌, ◌<◌, ◌++◌, List, [], ◌∷◌, length, take, ap, sym, ◌∙◌, subst, arith}
use Rattle.std.proofs.lemmas.List.{take_more, length-take-le}
use Rattle.zair_form.specs.Timing.{AreLastOf}
use Rattle.zair_form.specs.Times.{Lasts}
use Rattle.zair_form.specs.declared.step.Step.{Step}
use Rattle.zac_watch.proofs.TimedFacts.{IsAddedSoFar, one_more_added}
use Rattle.zac_watch.proofs.slot.add_job.Goals as goal

pub loop-place-preserved : goal.loop-place-preserved
loop-place-preserved c =
    let steps = c.args.steps.now in
    let k = c.loop-place.place in
    let s = c.index-steps-place.result in
    let within = c.loop-place-test.true in
    let so_far = c.loop-place.invariant.so_far in
    let timer_is = c.loop-place.invariant.timer_is in
    let d = c.from-now-in-loop-place.result in
    let more : take (k + 1) steps ≡ take k steps ++ s ∷ [] = take_more steps k s within ∙ ap (λ (x : Step). take k steps ++ x ∷ []) (sym c.index-steps-place.is) in
    let k_is : k ≡ length (take k steps) = sym (length-take-le k steps (omega arith)) in
    let small : c.lasts.result < 18446744073709551616 = c.lasts.type_inv in
    let early = c.loop-place.invariant.early in
    let same : d ≡ c.lasts.result = c.from-now-in-loop-place.ensures in
    record {
      so_far = subst (λ (l : List Step). IsAddedSoFar c.args.card.now.figures c.args.number c.args.begin l c.args.slots.now.items (c.loop-place.now + d) c.push.new.self.items) (sym more)
          (one_more_added c.args.card.now.figures c.args.number c.args.begin (take k steps) c.args.slots.now.items c.loop-place.now c.loop-place.slots.items k s d c.push.new.self.items
          k_is so_far (subst (Lasts c.args.card.now.figures (take k steps) s) (sym c.from-now-in-loop-place.ensures) (c.lasts.ensures.time (take k steps) timer_is)) c.in_ok-push.ensures.items);
      timer_is = subst (AreLastOf c.lasts.new.self) (sym more) (c.lasts.ensures.next (take k steps) timer_is);
      early = omega arith;
    }
