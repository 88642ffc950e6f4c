use Rattle.std.proofs.Common.{subst}
use Rattle.zair_state.specs.FirstFault.{Tells}
use Rattle.zair_machine.proofs.Told.{met_more, met_at_first, end_told}
use Rattle.zair_machine.proofs.machine.Machine.tell_beams.Goals as goal

pub returns : goal.returns
returns c =
    end_told c.args.self.now.card c.args.self.now.state c.args.step.now 3 c.tell_limit.result
    (met_more c.args.self.now.card c.args.self.now.state c.args.step.now 2 (met_more c.args.self.now.card c.args.self.now.state c.args.step.now 1 (met_more c.args.self.now.card c.args.self.now.state c.args.step.now 0 (met_at_first c.args.self.now.card c.args.self.now.state c.args.step.now) (subst (Tells c.args.self.now.card c.args.self.now.state c.args.step.now 0) c.in_default.is c.tell_unknown.ensures)) (subst (Tells c.args.self.now.card c.args.self.now.state c.args.step.now 1) c.in_default-tell_busy.is c.tell_busy.ensures)) (subst (Tells c.args.self.now.card c.args.self.now.state c.args.step.now 2) c.in_default-tell_not_active.is c.tell_not_active.ensures))
    c.tell_limit.ensures
