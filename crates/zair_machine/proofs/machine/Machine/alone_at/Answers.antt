use Rattle.std.proofs.Common.{ℕ}
use Rattle.zair_state.specs.declared.place.Place.TheVariants.{Trap}
use Rattle.zair_state.specs.State.{IsAt}
use Rattle.zair_state.proofs.Minima.{at_none, at_some}
use Rattle.zair_machine.proofs.Together.{rests_left, rests_right, together_needs_left, together_needs_right}
use Rattle.zair_machine.proofs.machine.Machine.alone_at.Goals as goal

pub returns-in-Some-None : goal.returns-in-Some-None
returns-in-Some-None c = (
  rests_left c.args.self.now.card c.args.self.now.state c.args.site c.site_traps.result.0 c.site_traps.result.1 c.site_traps.ensures.left c.site_traps.ensures.right c.in-Some-None.q (at_some ((q : ℕ) → ¬ IsAt c.args.self.now.state q (Trap c.site_traps.result.0)) (λ (q : ℕ). IsAt c.args.self.now.state q (Trap c.site_traps.result.0)) c.atom_at.result c.in-Some-None.q c.in-Some-None.is-0 c.atom_at.ensures),
  together_needs_right c.args.self.now.card c.args.self.now.state c.args.site c.site_traps.result.0 c.site_traps.result.1 c.site_traps.ensures.left c.site_traps.ensures.right c.most_beams-sound.ensures.sound.apart (at_none ((q : ℕ) → ¬ IsAt c.args.self.now.state q (Trap c.site_traps.result.1)) (λ (q : ℕ). IsAt c.args.self.now.state q (Trap c.site_traps.result.1)) c.atom_at-2.result c.in-Some-None.is-1 c.atom_at-2.ensures) c.in-Some-None.q,
)

pub returns-in-None-Some : goal.returns-in-None-Some
returns-in-None-Some c = (
  rests_right c.args.self.now.card c.args.self.now.state c.args.site c.site_traps.result.0 c.site_traps.result.1 c.site_traps.ensures.left c.site_traps.ensures.right c.in-None-Some.r (at_some ((q : ℕ) → ¬ IsAt c.args.self.now.state q (Trap c.site_traps.result.1)) (λ (q : ℕ). IsAt c.args.self.now.state q (Trap c.site_traps.result.1)) c.atom_at-2.result c.in-None-Some.r c.in-None-Some.is-1 c.atom_at-2.ensures),
  together_needs_left c.args.self.now.card c.args.self.now.state c.args.site c.site_traps.result.0 c.site_traps.result.1 c.site_traps.ensures.left c.site_traps.ensures.right c.most_beams-sound.ensures.sound.apart (at_none ((q : ℕ) → ¬ IsAt c.args.self.now.state q (Trap c.site_traps.result.0)) (λ (q : ℕ). IsAt c.args.self.now.state q (Trap c.site_traps.result.0)) c.atom_at.result c.in-None-Some.is-0 c.atom_at.ensures) c.in-None-Some.r,
)
