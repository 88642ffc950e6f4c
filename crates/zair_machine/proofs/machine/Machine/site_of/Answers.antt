use Rattle.std.proofs.Common.{subst}
use Rattle.zair_state.specs.State.{IsAt}
use Rattle.zair_state.specs.declared.place.Place.{Place}
use Rattle.zair_machine.proofs.Together.{site_told}
use Rattle.zair_machine.proofs.machine.Machine.site_of.Goals as goal

pub returns-in-Trap : goal.returns-in-Trap
returns-in-Trap c =
    site_told c.args.self.now.card c.args.self.now.state c.args.q c.in-Trap.t c.site_of_home.result (subst (λ (p : Place). IsAt c.args.self.now.state c.args.q p) c.in-Trap.is c.place.ensures) c.site_of_home.ensures
