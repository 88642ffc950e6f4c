use Rattle.std.proofs.Common.{◌≡◌, ◌+◌, ◌≤◌, List, length, map, take, ap, sym, ◌∙◌, subst, arith}
use Rattle.std.proofs.lemmas.List.{length-take-le, length-map}
use Rattle.zac_arch.specs.declared.card.Figures.{Figures}
use Rattle.zair_form.specs.declared.step.Step.{Step}
use Rattle.zair_form.specs.declared.step.Step.TheVariants.{One}
use Rattle.zac_watch.proofs.TimedFacts.{IsAddedSoFar, one_more_added, next_item, more_gates}
use Rattle.zac_watch.proofs.slot.add_gates.Goals as goal

pub loop-place-preserved : goal.loop-place-preserved
loop-place-preserved c =
    let ones = c.args.ones.now in
    let k = c.loop-place.place in
    let next = next_item ones k c.loop-place-test.true in
    let d = c.from-duration.result in
    let more = more_gates ones k next in
    let done = map (λ gate. One gate) (take k ones) in
    let k_is : k ≡ length done = sym (length-map (take k ones) _ ∙ length-take-le k ones (omega arith)) in
    let same : d ≡ c.args.card.now.figures.one = c.from-duration.ensures ∙ ap (λ (g : Figures). g.one) c.figures.ensures.figures in
    let few : c.figures.result.one ≤ 1000000000 = c.figures.ensures.ranges.one_most in
    let plain : d ≡ c.figures.result.one = c.from-duration.ensures in
    let early = c.loop-place.invariant.early in
    record {
      so_far = subst (λ (l : List Step). IsAddedSoFar c.args.card.now.figures c.args.number c.args.begin l c.args.slots.now.items (c.loop-place.now + d) c.push.new.self.items) (sym more)
          (one_more_added c.args.card.now.figures c.args.number c.args.begin done c.args.slots.now.items c.loop-place.now c.loop-place.slots.items k (One next.item) d c.push.new.self.items
          k_is c.loop-place.invariant.so_far same c.in_ok-push.ensures.items);
      early = omega arith;
    }
