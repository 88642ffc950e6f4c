use Rattle.zac_watch.specs.Shown.{WereShown}
use Rattle.zac_watch.proofs.WatchFacts.{IsShownSoFar}
use Rattle.zac_watch.proofs.watching.watched.Given as goal

abbrev pub invariant-loop-number : goal.invariant-loop-number
invariant-loop-number g l =
    IsShownSoFar l.card l.program l.instr-items l.number l.machine
    (WereShown (λ w. (goal.Watch-dyn g (w.vtable, w.value)).kind w.value) (λ w. (goal.Watch-dyn g (w.vtable, w.value)).sum w.value) l.fn.panel.items l.panel.items)
