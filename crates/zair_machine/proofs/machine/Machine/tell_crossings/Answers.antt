use Rattle.std.proofs.Common.{subst}
use Rattle.zair_state.specs.FirstFault.{Tells}
use Rattle.zair_machine.proofs.Told.{met_more, end_told}
use Rattle.zair_machine.proofs.machine.Machine.tell_crossings.Goals as goal

pub tell_pick-requires-clause-met : goal.tell_pick-requires-clause-met
tell_pick-requires-clause-met c =
    met_more c.args.self.now.card c.args.self.now.state c.args.step.now 5 (met_more c.args.self.now.card c.args.self.now.state c.args.step.now 4 c.requires.met (subst (Tells c.args.self.now.card c.args.self.now.state c.args.step.now 4) c.in_default.is c.tell_order.ensures)) (subst (Tells c.args.self.now.card c.args.self.now.state c.args.step.now 5) c.in_default-tell_gap.is c.tell_gap.ensures)

pub returns : goal.returns
returns c =
    end_told c.args.self.now.card c.args.self.now.state c.args.step.now 7 c.tell_pick.result
    (met_more c.args.self.now.card c.args.self.now.state c.args.step.now 6 (met_more c.args.self.now.card c.args.self.now.state c.args.step.now 5 (met_more c.args.self.now.card c.args.self.now.state c.args.step.now 4 c.requires.met (subst (Tells c.args.self.now.card c.args.self.now.state c.args.step.now 4) c.in_default.is c.tell_order.ensures)) (subst (Tells c.args.self.now.card c.args.self.now.state c.args.step.now 5) c.in_default-tell_gap.is c.tell_gap.ensures)) (subst (Tells c.args.self.now.card c.args.self.now.state c.args.step.now 6) c.in_default-tell_touch.is c.tell_touch.ensures))
    c.tell_pick.ensures
