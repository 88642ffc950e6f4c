use Rattle.std.proofs.Common.{[], ◌∷◌}
use Rattle.zac_watch.proofs.ShownFacts.{ArePartlyShown}
use Rattle.zac_watch.proofs.watching.show.Given as goal

abbrev pub invariant-loop-watch : goal.invariant-loop-watch
invariant-loop-watch g l =
    ArePartlyShown (λ w. (goal.Watch-dyn g (w.vtable, w.value)).kind w.value) (λ w. (goal.Watch-dyn g (w.vtable, w.value)).sum w.value)
    l.watch-index l.fn.panel.items l.watch-items (l.step ∷ [])
