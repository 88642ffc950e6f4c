use Rattle.std.proofs.Common.{ℕ}
use Rattle.std.proofs.lemmas.Bool.{false≢true}
use Rattle.zac_arch.specs.Architecture.{StandsAt}
use Rattle.zac_arch.specs.declared.place.TrapId.{TrapId}
use Rattle.zair_state.specs.declared.place.Place.TheVariants.{Held}
use Rattle.zair_state.specs.State.{IsAt, crossing}
use Rattle.zair_state.proofs.Minima.{at_some, at_none}
use Rattle.zair_machine.proofs.machine.Machine.is_on_trap_with_atom.Goals as goal

pub returns-in-Some-Some : goal.returns-in-Some-Some
returns-in-Some-Some c =
    let p = crossing c.args.row c.args.column in
    let stands = at_some ((t : ℕ) → ¬ StandsAt c.args.self.now.card t p) (λ (t : TrapId). StandsAt c.args.self.now.card t.0 p) c.trap_at.result _ c.in-Some-Some.is-0 c.trap_at.ensures in
    let held = at_some ((q : ℕ) → ¬ IsAt c.args.self.now.state q (Held c.args.aod c.args.row.id c.args.column.id)) (λ (q : ℕ). IsAt c.args.self.now.state q (Held c.args.aod c.args.row.id c.args.column.id)) c.atom_at.result _ c.in-Some-Some.is-1 c.atom_at.ensures in
    (λ t. record { q = _; holds = held; trap = _; exact = stands; free = c.is_free.ensures.0 t }, λ h. c.is_free.ensures.1 h.free)

pub returns-in_default : goal.returns-in_default
returns-in_default c =
    (λ t. absurd (false≢true t), λ h. absurd (at_none ((q : ℕ) → ¬ IsAt c.args.self.now.state q (Held c.args.aod c.args.row.id c.args.column.id)) (λ (q : ℕ). IsAt c.args.self.now.state q (Held c.args.aod c.args.row.id c.args.column.id)) c.atom_at.result c.in_default.is-1 c.atom_at.ensures h.q h.holds))

pub returns-in_default-2 : goal.returns-in_default-2
returns-in_default-2 c =
    let p = crossing c.args.row c.args.column in
    (λ t. absurd (false≢true t), λ h. absurd (at_none ((t : ℕ) → ¬ StandsAt c.args.self.now.card t p) (λ (t : TrapId). StandsAt c.args.self.now.card t.0 p) c.trap_at.result c.in_default.is-0 c.trap_at.ensures h.trap h.exact))
