use Rattle.std.proofs.Common.{ℕ, ◌++◌, ◌∷◌, [], refl, ap, sym, ◌∙◌, subst}
use Rattle.zair_form.specs.declared.program.Act.{Act}
use Rattle.zair_form.specs.declared.step.Step.TheVariants.{Pulse, Readout}
use Rattle.zair_form.specs.Steps.{steps_of}
use Rattle.zac_watch.specs.Slots.{WereAdded}
use Rattle.zac_watch.proofs.TimedFacts.{only_one_added}
use Rattle.zac_watch.proofs.slot.add_steps.Goals as goal

pub returns-in_ok-push-in-Rydberg : goal.returns-in_ok-push-in-Rydberg
returns-in_ok-push-in-Rydberg c =
    let f = c.args.card.now.figures in
    subst (λ (act : Act). WereAdded f c.args.number c.args.begin (steps_of act) c.args.slots.now.items c.push.new.self.items) (sym c.in-Rydberg.is)
    (only_one_added f c.args.number c.args.begin (Pulse c.in-Rydberg.pairs) f.pulse c.args.slots.now.items c.push.new.self.items refl
    (c.in_ok-push-in-Rydberg.ensures.items ∙ ap (λ (m : ℕ). c.args.slots.now.items ++ (record { begin = m; instr = c.args.number; place = 0 }) ∷ []) c.from.ensures))

pub returns-in_ok-push-in-Readout : goal.returns-in_ok-push-in-Readout
returns-in_ok-push-in-Readout c =
    let f = c.args.card.now.figures in
    subst (λ (act : Act). WereAdded f c.args.number c.args.begin (steps_of act) c.args.slots.now.items c.push-in-Readout.new.self.items) (sym c.in-Readout.is)
    (only_one_added f c.args.number c.args.begin (Readout c.in-Readout.reads) f.readout c.args.slots.now.items c.push-in-Readout.new.self.items refl
    (c.in_ok-push-in-Readout.ensures.items ∙ ap (λ (m : ℕ). c.args.slots.now.items ++ (record { begin = m; instr = c.args.number; place = 0 }) ∷ []) c.from.ensures))
