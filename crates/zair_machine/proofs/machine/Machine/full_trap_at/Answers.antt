use Rattle.std.proofs.Common.{ℕ}
use Rattle.zac_arch.specs.Architecture.{StandsAt}
use Rattle.zac_arch.specs.declared.place.TrapId.{TrapId}
use Rattle.zair_state.proofs.Minima.{at_none}
use Rattle.zair_machine.proofs.machine.Machine.full_trap_at.Goals as goal

pub returns-in-None : goal.returns-in-None
returns-in-None c = λ t at. absurd (at_none ((t : ℕ) → ¬ StandsAt c.args.self.now.card t c.args.p) (λ (t : TrapId). StandsAt c.args.self.now.card t.0 c.args.p) c.trap_at.result c.in-None.is c.trap_at.ensures t.0 at)
