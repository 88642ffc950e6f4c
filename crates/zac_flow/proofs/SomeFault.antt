-- A card and a source have a fault, or are read, pass no limit and fit the storage.
use Rattle.std.proofs.Common.{◌≡◌, ℕ, ◌<◌, ◌≤◌, ◌⊎◌, inl, inr, List, Option, None, Some, length, refl}
use Rattle.std.specs.Prelude.{IfSome}
use Rattle.std.proofs.lemmas.Bool.{cases_lt}
use Rattle.zac_arch.specs.Architecture.{Architecture, storage_count}
use Rattle.zac_arch.specs.Standard.{standard_architecture}
use Rattle.zac_arch.specs.Tiny.{tiny_architecture}
use Rattle.zac_archfile.specs.Faults.{IsFault}
use Rattle.zac_archfile.specs.Texts.{IsCardText}
use Rattle.zac_archfile.specs.declared.fault.CardFault.{CardFault}
use Rattle.zac_gates.specs.Ops.{NativeCircuit}
use Rattle.qasm_expand.specs.Expansion.{IsExpansion, IsWithinLimits, PassesFirst}
use Rattle.qasm_expand.specs.Items.{qubit_count}
use Rattle.qasm_expand.specs.declared.fault.LimitKind.{LimitKind}
use Rattle.qasm_names.specs.Accepted.{Program}
use Rattle.zac_flow.specs.Compiled.{AreReadAs}
use Rattle.zac_flow.specs.Faults.{IsFaultOf}
use Rattle.qasm_source.specs.Source.{source_limit, IsAccepted, IsRefusedAt}
use Rattle.qasm_source.specs.declared.source_fault.Refusal.{Refusal}
use Rattle.zac_flow.specs.Inputs.{AreShort, IsShortCard, IsCardOf, IsRefusedCard, zair_limit}
use Rattle.zac_flow.specs.declared.inputs.CardInput.{CardInput}
use Rattle.zac_flow.specs.declared.inputs.CardInput.TheVariants.{Tiny, Standard, Text}
use Rattle.zac_flow.specs.declared.inputs.Inputs.{Inputs}
use Rattle.zac_fault.specs.declared.status.Fault.{Fault}
use Rattle.zac_fault.specs.declared.status.Fault.TheVariants.{Long, Card, Source, Limit, Qubits}
use Rattle.zac_fault.specs.declared.status.InputFile.TheVariants as file

-- a source is accepted with a native list and within the limits, or passes one first, or is refused
abbrev pub IsAnswered : List ℕ → Type 0
IsAnswered source =
    ((p : Program) × (c : NativeCircuit) × IsAccepted source p × IsWithinLimits p × IsExpansion p c) ⊎ ((p : Program) × (k : LimitKind) × (count : ℕ) × IsAccepted source p × PassesFirst p k count) ⊎ ((k : Refusal) × (at : ℕ) × IsRefusedAt source k at)

-- the text is that of a card, or has a fault
abbrev pub SomeCard : Type 0
SomeCard = (bytes : List ℕ) → ((a : Architecture) × IsCardText bytes a) ⊎ ((f : CardFault) × IsFault bytes f)

-- card and source have a fault, or are read, pass no limit and fit the storage
abbrev pub IsFaultyOrFits : Inputs → Type 0
IsFaultyOrFits i =
    ((a : Architecture) × (p : Program) × AreReadAs i a p × IsWithinLimits p × (qubit_count p.statements ≤ storage_count a)) ⊎ ((f : Fault) × IsFaultOf i f)

module _ (some_card : SomeCard) (answered : (source : List ℕ) → IsAnswered source) where
  card_or_fault : (c : CardInput) → ((a : Architecture) × IsCardOf c a) ⊎ ((f : CardFault) × IsRefusedCard c f)
  card_or_fault Tiny = inl (tiny_architecture, refl)
  card_or_fault Standard = inl (standard_architecture, refl)
  card_or_fault (Text bytes) = some_card bytes

  module _ (i : Inputs) (none : i.zair ≡ None) (short : IsShortCard i.card) where
    no_text : (o : Option (List ℕ)) → o ≡ None → IfSome o (λ bytes. length bytes ≤ zair_limit)
    no_text None e = tt
    no_text (Some bytes) e = absurd (cc)

    behind_both : length i.source ≤ source_limit → ((a : Architecture) × IsCardOf i.card a) ⊎ ((f : CardFault) × IsRefusedCard i.card f) → IsAnswered i.source → IsFaultyOrFits i
    behind_both within (inr w) source =
        inr (Card w.0, (record { card = short; source = within; zair = no_text i.zair none }, w.1))
    behind_both within (inl card) (inr (inr w)) =
        inr (Source w.0 w.1, (record { card = short; source = within; zair = no_text i.zair none }, card, w.2))
    behind_both within (inl card) (inr (inl w)) =
        let both : AreShort i = record { card = short; source = within; zair = no_text i.zair none } in
        let read : AreReadAs i card.0 w.0 = record { short = both; card = card.1; accepted = w.3 } in
        inr (Limit w.1 w.2, (card.0, w.0, read, w.4))
    behind_both within (inl card) (inl w) = by_room (cases_lt (storage_count card.0) (qubit_count w.0.statements)) where
      both : AreShort i
      both = record { card = short; source = within; zair = no_text i.zair none }

      read : AreReadAs i card.0 w.0
      read = record { short = both; card = card.1; accepted = w.2 }

      by_room : (storage_count card.0 < qubit_count w.0.statements) ⊎ (qubit_count w.0.statements ≤ storage_count card.0) → IsFaultyOrFits i
      by_room (inl more) =
          inr (Qubits (qubit_count w.0.statements) (storage_count card.0), (card.0, w.0, read, w.3, refl, refl, more, none))
      by_room (inr fits) = inl (card.0, w.0, read, w.3, fits)

    by_length : (source_limit < length i.source) ⊎ (length i.source ≤ source_limit) → IsFaultyOrFits i
    by_length (inl long) = inr (Long file.Source, (short, long))
    by_length (inr within) = behind_both within (card_or_fault i.card) (answered i.source)

    pub faulty_or_fits : IsFaultyOrFits i
    faulty_or_fits = by_length (cases_lt source_limit (length i.source))
