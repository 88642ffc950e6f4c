use Rattle.std.proofs.Common.{◌≡◌, ◌+◌, ◌≤◌, ◌++◌, ℕ, List, [], ◌∷◌, length, take, ap, sym, ◌∙◌, subst, arith}
use Rattle.std.proofs.lemmas.List.{take_more, length-take-le}
use Rattle.zair_form.specs.declared.program.Instr.{Instr}
use Rattle.zair_form.specs.Steps.{steps_of}
use Rattle.zac_watch.specs.Slots.{AreSlotsOf, WereAdded}
use Rattle.zac_watch.proofs.TimedFacts.{one_more_instr}
use Rattle.zac_watch.proofs.slot.slots_of.Goals as goal

pub loop-number-preserved : goal.loop-number-preserved
loop-number-preserved c =
    let f = c.args.card.now.figures in
    let program = c.args.program.now in
    let k = c.loop-number.number in
    let i = c.instr-item.result in
    let items = c.instrs-instr-items.result.now in
    let same : items ≡ program = c.instrs-instr-items.ensures.value in
    let at_items : take (k + 1) items ≡ take k items ++ i ∷ [] =
    take_more items k i c.loop-number-test.true ∙ ap (λ (x : Instr). take k items ++ x ∷ []) (sym c.instr-item.is) in
    let more : take (k + 1) program ≡ take k program ++ i ∷ [] = subst (λ (l : List Instr). take (k + 1) l ≡ take k l ++ i ∷ []) same at_items in
    let within : k ≤ length program = omega (arith, ap length same) in
    let at : k ≡ length (take k program) = sym (length-take-le k program within) in
    subst (λ (l : List Instr). AreSlotsOf f l c.add_steps.new.slots.items) (sym more)
    (one_more_instr f (take k program) i c.loop-number.slots.items c.add_steps.new.slots.items c.loop-number.invariant
    (subst (λ (n : ℕ). WereAdded f n i.begin (steps_of i.act) c.loop-number.slots.items c.add_steps.new.slots.items) at c.in_ok-add_steps.ensures))
