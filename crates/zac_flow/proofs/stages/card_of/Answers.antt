use Rattle.std.proofs.Common.{◌≡◌, ◌⊎◌, List, ℕ, sym, subst}
use Rattle.zac_archfile.specs.Faults.{IsFault}
use Rattle.zac_archfile.specs.declared.fault.CardFault.TheVariants as card
use Rattle.zac_archfile.specs.declared.fault.CardFault.{CardFault}
use Rattle.zac_flow.specs.Inputs.{IsRefusedCard}
use Rattle.zac_fault.specs.declared.status.Fault.{Fault}
use Rattle.zac_fault.specs.declared.status.Fault.TheVariants.{Card, Memory}
use Rattle.zac_flow.proofs.Meaning.{of_card_text}
use Rattle.zac_flow.proofs.stages.card_of.Goals as goal

pub returns-in-Err : goal.returns-in-Err
returns-in-Err c =
    let told : (c.in-Err.fault ≡ card.Memory) ⊎ IsFault c.in-Text.bytes c.in-Err.fault =
    subst (λ (l : List ℕ). (c.in-Err.fault ≡ card.Memory) ⊎ IsFault l c.in-Err.fault) c.as_slice.ensures c.in-Err.ensures.fault in
    let P : Fault → Type 0 = λ f. (f ≡ Memory) ⊎ ((cause : CardFault) × (f ≡ Card cause) × IsRefusedCard c.args.card.now cause) in
    record { ok = tt; fault = subst P (sym c.from.ensures) (of_card_text c.args.card.now c.in-Text.bytes c.in-Err.fault c.in-Text.is told) }
