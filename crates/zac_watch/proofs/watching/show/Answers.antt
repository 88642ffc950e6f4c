use Rattle.std.proofs.Common.{◌<◌, ℕ, [], ◌∷◌, subst, sym, ◌∙◌, arith}
use Rattle.std.proofs.lemmas.List.{take_at}
use Rattle.zac_watch.specs.Shown.{WereShown}
use Rattle.zac_watch.proofs.ShownFacts.{one_more_watch, all_shown}
use Rattle.zac_watch.proofs.watching.show.Goals as goal

pub loop-watch-preserved : goal.loop-watch-preserved
loop-watch-preserved g c =
    one_more_watch _ _ c.loop-watch.watch-index c.args.panel.now.items c.loop-watch.watch-items c.args.step.now c.watch-item.result c.show_one.new.watch
    c.loop-watch.invariant (subst (λ (n : ℕ). c.loop-watch.watch-index < n) (sym c.loop-watch.auto.watch-items) c.loop-watch-test.true) c.show_one.ensures.kind c.show_one.ensures.sum

pub returns : goal.returns
returns g c =
    let shown = all_shown _ _ c.loop-watch.watch-index c.args.panel.now.items c.loop-watch.watch-items (c.args.step.now ∷ []) c.loop-watch.invariant (omega (arith, c.loop-watch-test.false)) in
    subst (λ l. WereShown (λ w. (goal.Watch-dyn g (w.vtable, w.value)).kind w.value) (λ w. (goal.Watch-dyn g (w.vtable, w.value)).sum w.value) c.args.panel.now.items l (c.args.step.now ∷ []))
    (sym (take_at c.loop-watch.watch-items _ c.args.panel.now.len (c.loop-watch.auto.watch-items ∙ c.deref_mut-watch-items.ensures.len))) shown
