use Rattle.std.proofs.Common.{inl, inr, refl, sym, ◌∙◌}
use Rattle.std.proofs.lemmas.Bool.{false≢true}
use Rattle.zair_machine.proofs.machine.Machine.is_wrong_pick.Goals as goal

pub picks-requires-clause-rows_rising : goal.picks-requires-clause-rows_rising
picks-requires-clause-rows_rising c = c.requires.rows_rising.rising

pub picks-requires-clause-columns_rising : goal.picks-requires-clause-columns_rising
picks-requires-clause-columns_rising c = c.requires.columns_rising.rising

pub returns-then-not-picks : goal.returns-then-not-picks
returns-then-not-picks c = (λ t. inl (λ h. false≢true (sym c.if-not-picks.true ∙ c.picks.ensures.1 h)), λ h. refl)

pub returns : goal.returns
returns c = (λ t. inr (c.is_shared.ensures.0 t), λ h. elim h [ inl none ↦ absurd (none (c.picks.ensures.0 c.if-not-picks.false)) | inr many ↦ c.is_shared.ensures.1 many ])
