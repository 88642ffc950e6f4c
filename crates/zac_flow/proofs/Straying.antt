-- Which strays rise while the files of a command are read.
use Rattle.std.proofs.Common.{◌≡◌, ℕ, ◌≤◌, ◌⊎◌, inl, inr, Bool, true, false, IsTrue, List, Option, None, Some, length, refl, sym, ap, subst, is_none}
use Rattle.zac_io.specs.Outside.{NamedFiles, Rose, RoseWhere, Holds, is_missing}
use Rattle.zac_flow.specs.Answers.{LacksFirst, LacksOne, StraysRise}
use Rattle.zac_flow.specs.Due.{two_files, three_files}
use Rattle.zac_flow.specs.Faults.{IsCardFile}
use Rattle.zac_flow.specs.Inputs.{Gives, GivesCard, AreShort, IsShortCard, card_limit}
use Rattle.zac_flow.specs.Words.{FileWords}
use Rattle.zac_flow.specs.declared.inputs.CardInput.{CardInput}
use Rattle.zac_flow.specs.declared.inputs.Inputs.{Inputs}
use Rattle.zac_flow.specs.declared.inputs.CardInput.TheVariants.{Tiny, Standard, Text}

-- a file that may hold bytes isn't missing
held : (files : Option NamedFiles) (name bytes : List ℕ) → Holds files name bytes → is_missing files name ≡ false
held None name bytes h = refl
held (Some file) name bytes h = ap (λ (x : Option (List ℕ)). is_none x) h

-- a count that rises somewhere rises, or stays
pub either : (b : Bool) (old new : ℕ) → RoseWhere b old new → (new ≡ old) ⊎ Rose old new
either true old new h = inr h
either false old new h = inl h

stays : (b : Bool) (old new : ℕ) → RoseWhere b old new → (IsTrue b → ⊥) → new ≡ old
stays true old new h not = absurd (not refl)
stays false old new h not = h

rises : (b : Bool) (old new : ℕ) → RoseWhere b old new → IsTrue b → Rose old new
rises true old new h is = h
rises false old new h is = absurd (cc)

same_words : (v w : FileWords) → Some v ≡ Some w → v ≡ w
same_words v w e = cc

module _ (files : Option NamedFiles) (w : FileWords) where
  -- what is known of the one command with files
  risen : (old new : ℕ) → (LacksFirst files w → Rose old new) → (¬ LacksOne files w → new ≡ old) → (new ≡ old) ⊎ Rose old new → StraysRise files (Some w) old new
  risen old new rise stay one = record {
    rise = λ v e lacks. rise (subst (λ (x : FileWords). LacksFirst files x) (sym (same_words w v e)) lacks);
    stay = λ none. stay (none w refl);
    either = one;
  }

  -- a card's file was not read
  pub strays_of_card : (old new : ℕ) → IsCardFile w.card → RoseWhere (is_missing files w.card) old new → StraysRise files (Some w) old new
  strays_of_card old new is h = risen old new rise stay (either (is_missing files w.card) old new h) where
    rise : LacksFirst files w → Rose old new
    rise (inl lacks) = rises (is_missing files w.card) old new h lacks.1
    rise (inr lacks) = absurd (lacks.0 is)

    stay : ¬ LacksOne files w → new ≡ old
    stay none = stays (is_missing files w.card) old new h (λ missing. none (inl (is, missing)))

  -- no stray rose while the card was given
  pub none_of_card : (c : CardInput) (old new : ℕ) → GivesCard files w.card c → (IsCardFile w.card → RoseWhere (is_missing files w.card) old new) →
      (¬ IsCardFile w.card → new ≡ old) → new ≡ old
  none_of_card Tiny old new given file other = other (λ is. is.0 given)
  none_of_card Standard old new given file other = other (λ is. is.1 given)
  none_of_card (Text bytes) old new given file other =
      let h : RoseWhere (is_missing files w.card) old new = file (given.0, given.1) in
      subst (λ (b : Bool). RoseWhere b old new) (held files w.card bytes given.2) h

  -- a card that is given isn't missing
  card_there : (c : CardInput) → GivesCard files w.card c → IsCardFile w.card → IsTrue (is_missing files w.card) → ⊥
  card_there Tiny given is missing = is.0 given
  card_there Standard given is missing = is.1 given
  card_there (Text bytes) given is missing = let e : is_missing files w.card ≡ false = held files w.card bytes given.2 in absurd (cc)

  -- the source was looked for behind a card
  pub strays_of_source : (c : CardInput) (old new : ℕ) → GivesCard files w.card c → IsShortCard c → RoseWhere (is_missing files w.source) old new →
      StraysRise files (Some w) old new
  strays_of_source c old new given short h = risen old new rise stay (either (is_missing files w.source) old new h) where
    rise : LacksFirst files w → Rose old new
    rise (inl lacks) = absurd (card_there c given lacks.0 lacks.1)
    rise (inr lacks) = rises (is_missing files w.source) old new h lacks.1

    stay : ¬ LacksOne files w → new ≡ old
    stay none = stays (is_missing files w.source) old new h (λ missing. none (inr (inl ((c, given, short), missing))))

  source_there : (bytes : List ℕ) → Holds files w.source bytes → IsTrue (is_missing files w.source) → ⊥
  source_there bytes holds missing = let e : is_missing files w.source ≡ false = held files w.source bytes holds in absurd (cc)

module _ (files : Option NamedFiles) (card source zair : List ℕ) where
  abbrev pub two : FileWords
  two = two_files card source

  abbrev pub three : FileWords
  three = three_files card source zair

  -- what is known where card and source alone were looked for
  pub strays_of_two : (old new : ℕ) → StraysRise files (Some two) old new → StraysRise files (Some three) old new
  strays_of_two old new h = risen files three old new (λ lacks. h.rise two refl lacks) stay h.either where
    fewer : ¬ LacksOne files three → ¬ LacksOne files two
    fewer none (inl lacks) = none (inl lacks)
    fewer none (inr (inl lacks)) = none (inr (inl lacks))
    fewer none (inr (inr lacks)) = lacks.2

    stay : ¬ LacksOne files three → new ≡ old
    stay none = h.stay (λ v e. subst (λ (x : FileWords). ¬ LacksOne files x) (same_words two v e) (fewer none))

  -- the text was looked for behind card and source
  pub strays_of_text : (i : Inputs) (old mid new : ℕ) → Gives files two i → AreShort i → StraysRise files (Some two) old mid →
      RoseWhere (is_missing files zair) mid new → StraysRise files (Some three) old new
  strays_of_text i old mid new given short first h =
      subst (λ (n : ℕ). StraysRise files (Some three) n new) same (risen files three mid new rise stay (either (is_missing files zair) mid new h)) where
        lacks_none : ¬ LacksOne files two
        lacks_none (inl lacks) = card_there files two i.card given.card lacks.0 lacks.1
        lacks_none (inr (inl lacks)) = source_there files two i.source given.source lacks.1
        lacks_none (inr (inr lacks)) = lacks.2

        same : mid ≡ old
        same = first.stay (λ v e. subst (λ (x : FileWords). ¬ LacksOne files x) (same_words two v e) lacks_none)

        rise : LacksFirst files three → Rose mid new
        rise (inl lacks) = absurd (card_there files two i.card given.card lacks.0 lacks.1)
        rise (inr lacks) = absurd (source_there files two i.source given.source lacks.1)

        stay : ¬ LacksOne files three → new ≡ mid
        stay none = stays (is_missing files zair) mid new h (λ missing. none (inr (inr ((i.card, given.card, short.card), (i.source, given.source, short.source), missing))))
