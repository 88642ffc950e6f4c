use Rattle.std.proofs.Common.{sym, ◌∙◌}
use Rattle.std.proofs.lemmas.Bool.{false≢true}
use Rattle.zair_machine.proofs.machine.Machine.picks_at.Goals as goal

pub returns-then-not-is_new : goal.returns-then-not-is_new
returns-then-not-is_new c =
    (λ t. absurd (false≢true t), λ h. absurd (false≢true (sym c.if-not-is_new.true ∙ c.is_new.ensures.1 h.0)))

pub returns-then-not-rests_at : goal.returns-then-not-rests_at
returns-then-not-rests_at c =
    (λ t. absurd (false≢true t), λ h. absurd (false≢true (sym c.if-not-rests_at.true ∙ c.rests_at.ensures.1 h.1)))

pub returns : goal.returns
returns c =
    (λ t. (c.is_new.ensures.0 c.if-not-is_new.false, c.rests_at.ensures.0 c.if-not-rests_at.false, c.is_free.ensures.0 t), λ h. c.is_free.ensures.1 h.2)
