use Rattle.std.proofs.Common.{ℕ, IsTrue, refl, subst}
use Rattle.zac_arch.specs.Architecture.{Architecture, StandsAt}
use Rattle.zac_arch.specs.Distances.{IsFarther}
use Rattle.zac_arch.specs.declared.place.Point.{Point}
use Rattle.zair_state.proofs.Minima.{Same}
use Rattle.zair_machine.proofs.Reaching.{clear_told, not_clear}
use Rattle.zair_machine.proofs.machine.Machine.is_clear.Goals as goal

pub returns-then-not-is_off_traps : goal.returns-then-not-is_off_traps
returns-then-not-is_off_traps c =
    let told : Same (IsTrue c.is_off_traps.result) ((t : ℕ) (q : Point) → StandsAt c.args.self.now.card t q → IsFarther c.args.self.now.card.figures.reach c.args.p q) = subst (λ (a : Architecture). Same (IsTrue c.is_off_traps.result) ((t : ℕ) (q : Point) → StandsAt a t q → IsFarther a.figures.reach c.args.p q)) c.card.ensures c.is_off_traps.ensures in
    not_clear c.args.self.now.card c.args.self.now.state c.args.aod c.args.p c.is_off_traps.result c.if-not-is_off_traps.true told

pub returns : goal.returns
returns c =
    let told : Same (IsTrue c.is_off_traps.result) ((t : ℕ) (q : Point) → StandsAt c.args.self.now.card t q → IsFarther c.args.self.now.card.figures.reach c.args.p q) = subst (λ (a : Architecture). Same (IsTrue c.is_off_traps.result) ((t : ℕ) (q : Point) → StandsAt a t q → IsFarther a.figures.reach c.args.p q)) c.card.ensures c.is_off_traps.ensures in
    clear_told c.args.self.now.card c.args.self.now.state c.args.aod c.args.p c.is_off_traps.result c.is_free.result c.is_free.result (rw c.if-not-is_off_traps.false refl) told c.is_free.ensures
