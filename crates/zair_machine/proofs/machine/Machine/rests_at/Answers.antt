use Rattle.std.proofs.Common.{subst}
use Rattle.std.proofs.lemmas.Bool.{false≢true}
use Rattle.zair_state.specs.declared.place.Place.{Place}
use Rattle.zair_state.specs.State.{IsAt}
use Rattle.zair_state.proofs.Picking.{rests_told, held_rests_not}
use Rattle.zair_machine.proofs.machine.Machine.rests_at.Goals as goal

pub returns-in-Trap : goal.returns-in-Trap
returns-in-Trap c =
    rests_told c.args.self.now.card c.args.self.now.state c.args.q c.in-Trap.home c.args.p c.stands_at.result (subst (λ (x : Place). IsAt c.args.self.now.state c.args.q x) c.in-Trap.is c.place.ensures) c.stands_at.ensures

pub returns-in-Held : goal.returns-in-Held
returns-in-Held c =
    (λ t. absurd (false≢true t), λ h. absurd (held_rests_not c.args.self.now.card c.args.self.now.state c.args.q _ _ _ c.args.p (subst (λ (x : Place). IsAt c.args.self.now.state c.args.q x) c.in-Held.is c.place.ensures) h))
