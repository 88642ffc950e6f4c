-- What a file that isn't read means.
use Rattle.std.proofs.Common.{◌≡◌, ℕ, ◌<◌, ◌+◌, ◌⊎◌, inl, inr, List, Option, None, Some, length, replicate, refl, sym, subst, arith}
use Rattle.std.proofs.lemmas.List.{length-replicate}
use Rattle.zac_archfile.specs.Faults.{IsFault}
use Rattle.zac_archfile.specs.declared.fault.CardFault.{CardFault}
use Rattle.zac_archfile.specs.declared.fault.CardFault.TheVariants as card
use Rattle.zac_io.specs.Outside.{NamedFiles, IsLonger, Holds}
use Rattle.zac_fault.specs.Statuses.{card_fault_of}
use Rattle.zac_flow.specs.Faults.{MeansByFiles, IsCardFile}
use Rattle.qasm_source.specs.Source.{source_limit}
use Rattle.zac_flow.specs.Inputs.{Gives, GivesCard, AreShort, IsShortCard, IsRefusedCard, card_limit, zair_limit}
use Rattle.zac_flow.specs.Due.{two_files, three_files}
use Rattle.zac_flow.specs.Words.{FileWords}
use Rattle.zac_flow.specs.declared.inputs.Inputs.{Inputs}
use Rattle.zac_flow.specs.declared.inputs.CardInput.{CardInput}
use Rattle.zac_flow.specs.declared.inputs.CardInput.TheVariants.{Text}
use Rattle.zac_fault.specs.declared.status.Fault.{Fault}
use Rattle.zac_fault.specs.declared.status.Fault.TheVariants.{Read, Long, Card, Memory}
use Rattle.zac_fault.specs.declared.status.InputFile.TheVariants as file

-- there are lists longer than any number
long_list : (n : ℕ) → (l : List ℕ) × (n < length l)
long_list n =
    let zeros : List ℕ = replicate (n + 1) 0 in
    let count : length zeros ≡ n + 1 = length-replicate {A = ℕ} (n + 1) 0 in
    (zeros, omega (arith, count))

-- a file that is longer than its limit may have such bytes
held_longer : (files : Option NamedFiles) (text : List ℕ) (limit : ℕ) → IsLonger files text limit → (bytes : List ℕ) × Holds files text bytes × (limit < length bytes)
held_longer None text limit h = let long = long_list limit in (long.0, tt, long.1)
held_longer (Some file) text limit h = found (file text) refl h where
  found : (held : Option (List ℕ)) → file text ≡ held → IsLonger (Some (λ _. held)) text limit → (bytes : List ℕ) × Holds (Some file) text bytes × (limit < length bytes)
  found None e h = absurd h
  found (Some bytes) e h = (bytes, e, h)

module _ (files : Option NamedFiles) (w : FileWords) (f : Fault) where
  means : (g : Fault) → f ≡ g → MeansByFiles files w g → MeansByFiles files w f
  means g e h = subst (λ (x : Fault). MeansByFiles files w x) (sym e) h

  -- a card's file that isn't read
  pub of_card : IsCardFile w.card → (f ≡ Read file.Card) ⊎ (f ≡ Memory) ⊎ ((f ≡ Long file.Card) × IsLonger files w.card card_limit) → MeansByFiles files w f
  of_card is (inl read) = means (Read file.Card) read is
  of_card is (inr (inl memory)) = means Memory memory tt
  of_card is (inr (inr long)) =
      let held = held_longer files w.card card_limit long.1 in
      means (Long file.Card) long.0 (Text held.0, (is.0, is.1, held.1), held.2)

  -- a source's file that isn't read
  pub of_source : (c : CardInput) → GivesCard files w.card c → IsShortCard c →
      (f ≡ Read file.Source) ⊎ (f ≡ Memory) ⊎ ((f ≡ Long file.Source) × IsLonger files w.source source_limit) → MeansByFiles files w f
  of_source c given short (inl read) = means (Read file.Source) read (c, given, short)
  of_source c given short (inr (inl memory)) = means Memory memory tt
  of_source c given short (inr (inr long)) =
      let held = held_longer files w.source source_limit long.1 in
      means (Long file.Source) long.0
      (record { card = c; source = held.0; zair = None }, record { card = given; source = held.1; zair = tt }, (short, held.2))

-- a text's file that isn't read
pub of_text : (files : Option NamedFiles) (card source zair : List ℕ) (f : Fault) (i : Inputs) → Gives files (two_files card source) i → AreShort i →
    (f ≡ Read file.Zair) ⊎ (f ≡ Memory) ⊎ ((f ≡ Long file.Zair) × IsLonger files zair zair_limit) → MeansByFiles files (three_files card source zair) f
of_text files card source zair f i given short (inl read) =
    means files (three_files card source zair) f (Read file.Zair) read (i, given, short, (λ e. absurd (cc)))
of_text files card source zair f i given short (inr (inl memory)) = means files (three_files card source zair) f Memory memory tt
of_text files card source zair f i given short (inr (inr long)) =
    let held = held_longer files zair zair_limit long.1 in
    means files (three_files card source zair) f (Long file.Zair) long.0 (
      record { card = i.card; source = i.source; zair = Some held.0 },
      record { card = given.card; source = given.source; zair = held.1 },
      (short.card, short.source, held.2),
    )

told : (c : CardInput) (bytes : List ℕ) (f : CardFault) → c ≡ Text bytes → IsFault bytes f → IsRefusedCard c f
told c bytes f is h = subst (λ (x : CardInput). IsRefusedCard x f) (sym is) h

-- what is told of a card's text
pub of_card_text : (c : CardInput) (bytes : List ℕ) (f : CardFault) → c ≡ Text bytes → (f ≡ card.Memory) ⊎ IsFault bytes f →
    (card_fault_of f ≡ Memory) ⊎ ((cause : CardFault) × (card_fault_of f ≡ Card cause) × IsRefusedCard c cause)
of_card_text c bytes card.Memory is h = inl refl
of_card_text c bytes card.NotJson is (inl e) = absurd (cc)
of_card_text c bytes (card.Missing field) is (inl e) = absurd (cc)
of_card_text c bytes card.Unknown is (inl e) = absurd (cc)
of_card_text c bytes (card.NotWhole field) is (inl e) = absurd (cc)
of_card_text c bytes (card.Range field) is (inl e) = absurd (cc)
of_card_text c bytes (card.Invalid rule) is (inl e) = absurd (cc)
of_card_text c bytes card.NotJson is (inr h) = inr (card.NotJson, refl, told c bytes card.NotJson is h)
of_card_text c bytes (card.Missing field) is (inr h) = inr (card.Missing field, refl, told c bytes (card.Missing field) is h)
of_card_text c bytes card.Unknown is (inr h) = inr (card.Unknown, refl, told c bytes card.Unknown is h)
of_card_text c bytes (card.NotWhole field) is (inr h) = inr (card.NotWhole field, refl, told c bytes (card.NotWhole field) is h)
of_card_text c bytes (card.Range field) is (inr h) = inr (card.Range field, refl, told c bytes (card.Range field) is h)
of_card_text c bytes (card.Invalid rule) is (inr h) = inr (card.Invalid rule, refl, told c bytes (card.Invalid rule) is h)
