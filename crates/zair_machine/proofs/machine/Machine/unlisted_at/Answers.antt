use Rattle.std.proofs.Common.{rules, ℕ}
use Rattle.zair_state.specs.declared.place.Place.TheVariants.{Trap}
use Rattle.zair_state.specs.State.{IsAt}
use Rattle.zair_state.proofs.Minima.{at_none, at_some}
use Rattle.zair_machine.proofs.Together.{two_there, together_needs_left, together_needs_right}
use Rattle.zair_machine.proofs.machine.Machine.unlisted_at.Goals as goal

pub returns-in-Some-Some : goal.returns-in-Some-Some
returns-in-Some-Some c =
    let q_at = at_some ((q : ℕ) → ¬ IsAt c.args.self.now.state q (Trap c.site_traps.result.0)) (λ (q : ℕ). IsAt c.args.self.now.state q (Trap c.site_traps.result.0)) c.atom_at.result c.in-Some-Some.q c.in-Some-Some.is-0 c.atom_at.ensures in
    let r_at = at_some ((q : ℕ) → ¬ IsAt c.args.self.now.state q (Trap c.site_traps.result.1)) (λ (q : ℕ). IsAt c.args.self.now.state q (Trap c.site_traps.result.1)) c.atom_at-2.result c.in-Some-Some.r c.in-Some-Some.is-1 c.atom_at-2.ensures in
    let t = two_there c.args.self.now.card c.args.self.now.state c.args.site c.site_traps.result.0 c.site_traps.result.1 c.site_traps.ensures.left c.site_traps.ensures.right c.most_beams-sound.ensures.sound.apart c.in-Some-Some.q c.in-Some-Some.r q_at r_at in
    rw (c.min.ensures, c.max.ensures) (t.0, t.1, search rules, t.2)

pub returns-in_default : goal.returns-in_default
returns-in_default c = λ q r h. absurd (together_needs_right c.args.self.now.card c.args.self.now.state c.args.site c.site_traps.result.0 c.site_traps.result.1 c.site_traps.ensures.left c.site_traps.ensures.right c.most_beams-sound.ensures.sound.apart (at_none ((q : ℕ) → ¬ IsAt c.args.self.now.state q (Trap c.site_traps.result.1)) (λ (q : ℕ). IsAt c.args.self.now.state q (Trap c.site_traps.result.1)) c.atom_at-2.result c.in_default.is-1 c.atom_at-2.ensures) q r h)

pub returns-in_default-2 : goal.returns-in_default-2
returns-in_default-2 c = λ q r h. absurd (together_needs_left c.args.self.now.card c.args.self.now.state c.args.site c.site_traps.result.0 c.site_traps.result.1 c.site_traps.ensures.left c.site_traps.ensures.right c.most_beams-sound.ensures.sound.apart (at_none ((q : ℕ) → ¬ IsAt c.args.self.now.state q (Trap c.site_traps.result.0)) (λ (q : ℕ). IsAt c.args.self.now.state q (Trap c.site_traps.result.0)) c.atom_at.result c.in_default.is-0 c.atom_at.ensures) q r h)
