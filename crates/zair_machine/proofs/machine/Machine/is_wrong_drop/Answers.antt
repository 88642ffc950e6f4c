use Rattle.std.proofs.Common.{inl, inr, refl, sym, ◌∙◌}
use Rattle.std.proofs.lemmas.Bool.{false≢true}
use Rattle.zair_machine.proofs.machine.Machine.is_wrong_drop.Goals as goal

pub returns-then-not-drops : goal.returns-then-not-drops
returns-then-not-drops c = (λ t. inl (λ h. false≢true (sym c.if-not-drops.true ∙ c.drops.ensures.1 h)), λ h. refl)

pub returns : goal.returns
returns c =
    (λ t. inr (c.is_repeated.ensures.0 t), λ h. elim h [ inl none ↦ absurd (none (c.drops.ensures.0 c.if-not-drops.false)) | inr many ↦ c.is_repeated.ensures.1 many ])
