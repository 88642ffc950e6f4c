use Rattle.std.proofs.Common.{◌≡◌, ℕ, subst}
use Rattle.std.proofs.lemmas.Bool.{false≢true}
use Rattle.zac_arch.specs.Architecture.{Architecture, StandsAt}
use Rattle.zac_arch.specs.declared.place.Point.{Point}
use Rattle.zac_arch.specs.declared.place.TrapId.{TrapId}
use Rattle.zair_state.proofs.Minima.{at_some, at_none}
use Rattle.zair_state.proofs.Picking.{stands_told}
use Rattle.zair_machine.proofs.machine.Machine.stands_at.Goals as goal

pub returns-in-Some : goal.returns-in-Some
returns-in-Some c =
    let at = at_some ((t : ℕ) → ¬ StandsAt c.args.self.now.card t c.args.p) (λ (t : TrapId). StandsAt c.args.self.now.card t.0 c.args.p) c.trap_at.result _ c.in-Some.is c.trap_at.ensures in
    stands_told c.args.self.now.card c.args.t.0 _ c.args.p (subst (λ (a : Architecture). (t u : ℕ) (p : Point) → StandsAt a t p → StandsAt a u p → t ≡ u) c.card.ensures c.laws_of_traps.ensures.one_trap) at

pub returns-in-None : goal.returns-in-None
returns-in-None c =
    (λ t. absurd (false≢true t), λ h. absurd (at_none ((t : ℕ) → ¬ StandsAt c.args.self.now.card t c.args.p) (λ (t : TrapId). StandsAt c.args.self.now.card t.0 c.args.p) c.trap_at.result c.in-None.is c.trap_at.ensures c.args.t.0 h))
