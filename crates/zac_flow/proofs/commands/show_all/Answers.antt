use Rattle.zac_watch.specs.Shown.{WereShown}
use Rattle.zac_watch.specs.declared.fault.WatchFault.TheVariants.{Home, Machine}
use Rattle.zac_flow.proofs.Showing.{shown_whole, shown_in_want, as_told}
use Rattle.zac_flow.proofs.commands.show_all.Goals as goal

pub unreachable-requires : goal.unreachable-requires
unreachable-requires g c =
    let told = as_told c.args.compiled.now.card c.args.compiled.now.program
    (WereShown (λ w. (goal.Watch-dyn g (w.vtable, w.value)).kind w.value) (λ w. (goal.Watch-dyn g (w.vtable, w.value)).sum w.value) c.args.panel.now.items c.watched.new.panel.items)
    c.in-Err-Home.field-0 (Home _) c.in-Err-Home.field-0-is c.in-Err-Home.ensures.err in
    c.performing_programs_are_watched_whole.ensures.homes c.args.compiled.now.card c.requires.0 c.args.compiled.now.program _ c.requires.1 told.0.0

pub unreachable-requires-in-Err-Machine : goal.unreachable-requires-in-Err-Machine
unreachable-requires-in-Err-Machine g c =
    let told = as_told c.args.compiled.now.card c.args.compiled.now.program
    (WereShown (λ w. (goal.Watch-dyn g (w.vtable, w.value)).kind w.value) (λ w. (goal.Watch-dyn g (w.vtable, w.value)).sum w.value) c.args.panel.now.items c.watched.new.panel.items)
    c.in-Err-Machine.field-0 (Machine _ _) c.in-Err-Machine.field-0-is c.in-Err-Machine.ensures.err in
    c.performing_programs_are_watched_whole.ensures.steps c.args.compiled.now.card c.requires.0 c.args.compiled.now.program told.order _ _ c.requires.1 told.named told.illegal

pub returns-in-Ok-clause-ok : goal.returns-in-Ok-clause-ok
returns-in-Ok-clause-ok g c =
    shown_whole (λ w. (goal.Watch-dyn g (w.vtable, w.value)).kind w.value) (λ w. (goal.Watch-dyn g (w.vtable, w.value)).sum w.value)
    c.args.compiled.now.card c.args.compiled.now.program c.args.panel.now.items c.watched.new.panel.items c.in-Ok.ensures.ok

pub returns-in-Err-Memory-clause-err : goal.returns-in-Err-Memory-clause-err
returns-in-Err-Memory-clause-err g c = λ _.
    shown_in_want (λ w. (goal.Watch-dyn g (w.vtable, w.value)).kind w.value) (λ w. (goal.Watch-dyn g (w.vtable, w.value)).sum w.value)
    c.args.compiled.now.card c.args.compiled.now.program c.args.panel.now.items c.watched.new.panel.items c.in-Err-Memory.field-0 c.in-Err-Memory.field-0-is c.in-Err-Memory.ensures.err
