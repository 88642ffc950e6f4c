-- What a command is given has one fault at most, and none where it compiles.
use Rattle.std.proofs.Common.{◌≡◌, ℕ, ◌<◌, ◌≤◌, List, Option, None, Some, length, refl, sym, ap, ◌∙◌, subst, arith}
use Rattle.zac_arch.specs.Architecture.{Architecture, storage_count}
use Rattle.std.specs.Prelude.{IfSome, IsSomeAnd}
use Rattle.zac_archfile.specs.Faults.{IsFault}
use Rattle.zac_archfile.specs.Texts.{IsCardText}
use Rattle.zac_archfile.specs.declared.fault.CardFault.{CardFault}
use Rattle.zac_gates.specs.Ops.{NativeCircuit}
use Rattle.qasm_expand.specs.Expansion.{IsWithinLimits, IsExpansion, PassesFirst}
use Rattle.qasm_expand.specs.Items.{qubit_count}
use Rattle.qasm_expand.specs.declared.fault.LimitKind.{LimitKind}
use Rattle.qasm_names.specs.Accepted.{Program}
use Rattle.zac_watch.specs.Replaying.{IsReplayFault, Replays}
use Rattle.zac_watch.specs.declared.fault.ReplayFault.{ReplayFault}
use Rattle.zac_watch.specs.declared.fault.ReplayFault.TheVariants as replay
use Rattle.zair_form.specs.declared.program.Instr.{Instr}
use Rattle.zair_read.specs.Texts.{IsProgramText, IsFirstWrong}
use Rattle.zac_flow.specs.Compiled.{AreReadAs, IsServed, ReplaysIn}
use Rattle.zac_fault.specs.Statuses.{status_of}
use Rattle.zac_flow.specs.Faults.{IsFaultOf}
use Rattle.qasm_source.specs.Source.{source_limit, IsAccepted, IsRefusedAt}
use Rattle.zac_flow.specs.Inputs.{AreShort, IsShortCard, IsCardOf, IsRefusedCard, zair_limit}
use Rattle.zac_flow.specs.declared.inputs.CardInput.{CardInput}
use Rattle.zac_flow.specs.declared.inputs.CardInput.TheVariants.{Tiny, Standard, Text}
use Rattle.zac_flow.specs.declared.inputs.Inputs.{Inputs}
use Rattle.qasm_source.specs.declared.source_fault.Refusal.{Refusal}
use Rattle.zac_fault.specs.declared.status.Fault.{Fault}
use Rattle.zac_fault.specs.declared.status.Fault.TheVariants.{Usage, Read, Long, Card, Source, Limit, Qubits, Zair, NotTheCircuit, Write, Memory}
use Rattle.zac_fault.specs.declared.status.InputFile.TheVariants as file

-- what is known of the texts of cards
pub record CardsAreOne : Type 0 where
  pub card : (bytes : List ℕ) (a b : Architecture) → IsCardText bytes a → IsCardText bytes b → a ≡ b
  pub fault : (bytes : List ℕ) (f g : CardFault) → IsFault bytes f → IsFault bytes g → f ≡ g
  pub not_both : (bytes : List ℕ) (a : Architecture) (f : CardFault) → IsCardText bytes a → IsFault bytes f → ⊥

-- what is known of cards, of sources and of limits
pub record Laws : Type 0 where
  pub cards : CardsAreOne
  pub one_program : (source : List ℕ) (p q : Program) → IsAccepted source p → IsAccepted source q → p ≡ q
  pub one_refusal : (source : List ℕ) (k l : Refusal) (a b : ℕ) → IsRefusedAt source k a → IsRefusedAt source l b → (k ≡ l) × (a ≡ b)
  pub not_both : (source : List ℕ) (p : Program) (k : Refusal) (at : ℕ) → IsAccepted source p → IsRefusedAt source k at → ⊥
  pub one_limit : (p : Program) (kind other : LimitKind) (count more : ℕ) → PassesFirst p kind count → PassesFirst p other more → (kind ≡ other) × (count ≡ more)
  pub not_passed : (p : Program) (kind : LimitKind) (count : ℕ) → IsWithinLimits p → PassesFirst p kind count → ⊥

-- what is known of the texts of programs
pub record TextsAreOne : Type 0 where
  pub one_line : (bytes : List ℕ) (m n : ℕ) → IsFirstWrong bytes m → IsFirstWrong bytes n → m ≡ n
  pub not_both : (bytes : List ℕ) (program : List Instr) (n : ℕ) → IsProgramText bytes program → IsFirstWrong bytes n → ⊥

-- what is known of texts that replay
pub record ReplaysAreOne : Type 0 where
  pub one_program : (bytes : List ℕ) (is js : List Instr) → IsProgramText bytes is → IsProgramText bytes js → is ≡ js
  pub one_circuit : (p : Program) (c d : NativeCircuit) → IsExpansion p c → IsExpansion p d → c ≡ d
  pub no_fault : (a : Architecture) (c : NativeCircuit) (program : List Instr) (number : ℕ) (f : ReplayFault) → Replays a c program number → IsReplayFault a c program f → f ≡ replay.Memory

-- a text isn't both too long and not
zair_both : (o : Option (List ℕ)) → IsSomeAnd o (λ bytes. zair_limit < length bytes) → IfSome o (λ bytes. length bytes ≤ zair_limit) → ⊥
zair_both None long short = long
zair_both (Some bytes) long short = omega (arith, long, short)

-- there is a text, or none
some_or_none : (o : Option (List ℕ)) (bytes : List ℕ) → o ≡ None → o ≡ Some bytes → ⊥
some_or_none o bytes none some = let e : None ≡ Some bytes = sym none ∙ some in absurd (cc)

-- a text that is too long is one
long_or_none : (o : Option (List ℕ)) → o ≡ None → IsSomeAnd o (λ bytes. zair_limit < length bytes) → ⊥
long_or_none None none long = long
long_or_none (Some bytes) none long = some_or_none (Some bytes) bytes none refl

same_bytes : (o : Option (List ℕ)) (b d : List ℕ) → o ≡ Some b → o ≡ Some d → d ≡ b
same_bytes o b d left right = let e : Some d ≡ Some b = sym right ∙ left in cc

-- each fault of a card and a source comes behind a card within its limit
pub short_card : (i : Inputs) (g : Fault) → IsFaultOf i g → IsShortCard i.card
short_card i (Long file.Source) h = h.0
short_card i (Long file.Card) h = absurd h
short_card i (Card g) h = h.0.card
short_card i (Source l at) h = h.0.card
short_card i (Limit l m) h = h.2.short.card
short_card i (Qubits m t) h = h.2.short.card
short_card i (Long file.Zair) h = h.0
short_card i (Zair line) h = h.2.short.card
short_card i (NotTheCircuit f) h = h.2.is.short.card
short_card i Usage h = absurd h
short_card i (Read which) h = absurd h
short_card i Write h = absurd h
short_card i Memory h = absurd h

module _ (law : Laws) where
  card_once : (c : CardInput) (a b : Architecture) → IsCardOf c a → IsCardOf c b → a ≡ b
  card_once Tiny a b left right = left ∙ sym right
  card_once Standard a b left right = left ∙ sym right
  card_once (Text bytes) a b left right = law.cards.card bytes a b left right

  card_fault_once : (c : CardInput) (f g : CardFault) → IsRefusedCard c f → IsRefusedCard c g → f ≡ g
  card_fault_once Tiny f g left right = absurd left
  card_fault_once Standard f g left right = absurd left
  card_fault_once (Text bytes) f g left right = law.cards.fault bytes f g left right

  card_or_fault : (c : CardInput) (a : Architecture) (f : CardFault) → IsCardOf c a → IsRefusedCard c f → ⊥
  card_or_fault Tiny a f is refused = refused
  card_or_fault Standard a f is refused = refused
  card_or_fault (Text bytes) a f is refused = law.cards.not_both bytes a f is refused

  module _ (i : Inputs) where
    same_program : (p q : Program) → IsAccepted i.source p → IsAccepted i.source q → p ≡ q
    same_program p q left right = law.one_program i.source p q left right

    same_count : (p q : Program) → IsAccepted i.source p → IsAccepted i.source q → qubit_count p.statements ≡ qubit_count q.statements
    same_count p q left right = ap (λ (x : Program). qubit_count x.statements) (same_program p q left right)

    -- a reading that passes no limit, and one that does
    both : (p q : Program) (k : LimitKind) (n : ℕ) → IsAccepted i.source p → IsAccepted i.source q → IsWithinLimits p → PassesFirst q k n → ⊥
    both p q k n left right within passes =
        law.not_passed q k n (subst IsWithinLimits (same_program p q left right) within) passes

    long_only : IsShortCard i.card → source_limit < length i.source → (g : Fault) → IsFaultOf i g → Long file.Source ≡ g
    long_only card long (Long file.Source) h = refl
    long_only card long (Long file.Card) h = absurd h
    long_only card long (Card f) h = absurd (omega (arith, long, h.0.source))
    long_only card long (Source k at) h = absurd (omega (arith, long, h.0.source))
    long_only card long (Limit k n) h = absurd (omega (arith, long, h.2.short.source))
    long_only card long (Qubits n s) h = absurd (omega (arith, long, h.2.short.source))
    long_only card long (Long file.Zair) h = absurd (omega (arith, long, h.1))
    long_only card long (Zair line) h = absurd (omega (arith, long, h.2.short.source))
    long_only card long (NotTheCircuit why) h = absurd (omega (arith, long, h.2.is.short.source))
    long_only card long Usage h = absurd h
    long_only card long (Read which) h = absurd h
    long_only card long Write h = absurd h
    long_only card long Memory h = absurd h

    card_only : AreShort i → (f : CardFault) → IsRefusedCard i.card f → (g : Fault) → IsFaultOf i g → Card f ≡ g
    card_only short f refused (Long file.Source) h = absurd (omega (arith, short.source, h.1))
    card_only short f refused (Long file.Card) h = absurd h
    card_only short f refused (Card g) h = ap (λ (x : CardFault). Card x) (card_fault_once i.card f g refused h.1)
    card_only short f refused (Source k at) h = absurd (card_or_fault i.card h.1.0 f h.1.1 refused)
    card_only short f refused (Limit k n) h = absurd (card_or_fault i.card h.0 f h.2.card refused)
    card_only short f refused (Qubits n s) h = absurd (card_or_fault i.card h.0 f h.2.card refused)
    card_only short f refused (Long file.Zair) h = absurd (zair_both i.zair h.2 short.zair)
    card_only short f refused (Zair line) h = absurd (card_or_fault i.card h.0 f h.2.card refused)
    card_only short f refused (NotTheCircuit why) h = absurd (card_or_fault i.card h.0 f h.2.is.card refused)
    card_only short f refused Usage h = absurd h
    card_only short f refused (Read which) h = absurd h
    card_only short f refused Write h = absurd h
    card_only short f refused Memory h = absurd h

    same_source : (k l : Refusal) (a b : ℕ) → (k ≡ l) × (a ≡ b) → Source k a ≡ Source l b
    same_source k l a b e = λ j. Source (e.0 j) (e.1 j)

    refused_only : AreShort i → (a : Architecture) → IsCardOf i.card a → (k : Refusal) (at : ℕ) → IsRefusedAt i.source k at → (g : Fault) → IsFaultOf i g → Source k at ≡ g
    refused_only short a is k at refused (Long file.Source) h = absurd (omega (arith, short.source, h.1))
    refused_only short a is k at refused (Long file.Card) h = absurd h
    refused_only short a is k at refused (Card g) h = absurd (card_or_fault i.card a g is h.1)
    refused_only short a is k at refused (Source l other) h = same_source k l at other (law.one_refusal i.source k l at other refused h.2)
    refused_only short a is k at refused (Limit l n) h = absurd (law.not_both i.source h.1 k at h.2.accepted refused)
    refused_only short a is k at refused (Qubits n s) h = absurd (law.not_both i.source h.1 k at h.2.accepted refused)
    refused_only short a is k at refused (Long file.Zair) h = absurd (zair_both i.zair h.2 short.zair)
    refused_only short a is k at refused (Zair line) h = absurd (law.not_both i.source h.1 k at h.2.accepted refused)
    refused_only short a is k at refused (NotTheCircuit why) h = absurd (law.not_both i.source h.2.source k at h.2.is.accepted refused)
    refused_only short a is k at refused Usage h = absurd h
    refused_only short a is k at refused (Read which) h = absurd h
    refused_only short a is k at refused Write h = absurd h
    refused_only short a is k at refused Memory h = absurd h

    same_limit : (k l : LimitKind) (m n : ℕ) → (k ≡ l) × (m ≡ n) → Limit k m ≡ Limit l n
    same_limit k l m n e = λ j. Limit (e.0 j) (e.1 j)

    limit_only : (a : Architecture) (p : Program) (k : LimitKind) (n : ℕ) → AreReadAs i a p → PassesFirst p k n → (g : Fault) → IsFaultOf i g → Limit k n ≡ g
    limit_only a p k n is passes (Long file.Source) h = absurd (omega (arith, is.short.source, h.1))
    limit_only a p k n is passes (Long file.Card) h = absurd h
    limit_only a p k n is passes (Card g) h = absurd (card_or_fault i.card a g is.card h.1)
    limit_only a p k n is passes (Source l at) h = absurd (law.not_both i.source p l at is.accepted h.2)
    limit_only a p k n is passes (Limit l m) h =
        same_limit k l n m (law.one_limit p k l n m passes (subst (λ (x : Program). PassesFirst x l m) (same_program h.1 p h.2.accepted is.accepted) h.3))
    limit_only a p k n is passes (Qubits m s) h = absurd (both h.1 p k n h.2.accepted is.accepted h.3 passes)
    limit_only a p k n is passes (Long file.Zair) h = absurd (zair_both i.zair h.2 is.short.zair)
    limit_only a p k n is passes (Zair line) h = absurd (both h.1 p k n h.2.accepted is.accepted h.3 passes)
    limit_only a p k n is passes (NotTheCircuit why) h = absurd (both h.2.source p k n h.2.is.accepted is.accepted h.2.limits passes)
    limit_only a p k n is passes Usage h = absurd h
    limit_only a p k n is passes (Read which) h = absurd h
    limit_only a p k n is passes Write h = absurd h
    limit_only a p k n is passes Memory h = absurd h

    same_qubits : (m n s t : ℕ) → m ≡ n → s ≡ t → Qubits m s ≡ Qubits n t
    same_qubits m n s t e f = λ j. Qubits (e j) (f j)

    qubits_only : (n s : ℕ) → IsFaultOf i (Qubits n s) → (g : Fault) → IsFaultOf i g → Qubits n s ≡ g
    qubits_only n s many (Long file.Source) h = absurd (omega (arith, many.2.short.source, h.1))
    qubits_only n s many (Long file.Card) h = absurd h
    qubits_only n s many (Card g) h = absurd (card_or_fault i.card many.0 g many.2.card h.1)
    qubits_only n s many (Source l at) h = absurd (law.not_both i.source many.1 l at many.2.accepted h.2)
    qubits_only n s many (Limit l m) h = absurd (both many.1 h.1 l m many.2.accepted h.2.accepted many.3 h.3)
    qubits_only n s many (Qubits m t) h =
        same_qubits n m s t (many.4 ∙ same_count many.1 h.1 many.2.accepted h.2.accepted ∙ sym h.4)
        (many.5 ∙ ap storage_count (card_once i.card many.0 h.0 many.2.card h.2.card) ∙ sym h.5)
    qubits_only n s many (Long file.Zair) h = absurd (zair_both i.zair h.2 many.2.short.zair)
    qubits_only n s many (Zair line) h = absurd (some_or_none i.zair h.4 many.7 h.5)
    qubits_only n s many (NotTheCircuit why) h = absurd (some_or_none i.zair h.3 many.7 h.4)
    qubits_only n s many Usage h = absurd h
    qubits_only n s many (Read which) h = absurd h
    qubits_only n s many Write h = absurd h
    qubits_only n s many Memory h = absurd h

    long_text_only : IsFaultOf i (Long file.Zair) → (g : Fault) → IsFaultOf i g → Long file.Zair ≡ g
    long_text_only long (Long file.Source) h = absurd (omega (arith, long.1, h.1))
    long_text_only long (Long file.Card) h = absurd h
    long_text_only long (Long file.Zair) h = refl
    long_text_only long (Card f) h = absurd (zair_both i.zair long.2 h.0.zair)
    long_text_only long (Source k at) h = absurd (zair_both i.zair long.2 h.0.zair)
    long_text_only long (Limit k n) h = absurd (zair_both i.zair long.2 h.2.short.zair)
    long_text_only long (Qubits n s) h = absurd (zair_both i.zair long.2 h.2.short.zair)
    long_text_only long (Zair line) h = absurd (zair_both i.zair long.2 h.2.short.zair)
    long_text_only long (NotTheCircuit why) h = absurd (zair_both i.zair long.2 h.2.is.short.zair)
    long_text_only long Usage h = absurd h
    long_text_only long (Read which) h = absurd h
    long_text_only long Write h = absurd h
    long_text_only long Memory h = absurd h

    module _ (texts : TextsAreOne) where
      line_only : (line : ℕ) → IsFaultOf i (Zair line) → (g : Fault) → IsFaultOf i g → Zair line ≡ g
      line_only line wrong (Long file.Source) h = absurd (omega (arith, wrong.2.short.source, h.1))
      line_only line wrong (Long file.Card) h = absurd h
      line_only line wrong (Long file.Zair) h = absurd (zair_both i.zair h.2 wrong.2.short.zair)
      line_only line wrong (Card g) h = absurd (card_or_fault i.card wrong.0 g wrong.2.card h.1)
      line_only line wrong (Source l at) h = absurd (law.not_both i.source wrong.1 l at wrong.2.accepted h.2)
      line_only line wrong (Limit l m) h = absurd (both wrong.1 h.1 l m wrong.2.accepted h.2.accepted wrong.3 h.3)
      line_only line wrong (Qubits n s) h = absurd (some_or_none i.zair wrong.4 h.7 wrong.5)
      line_only line wrong (Zair other) h =
          ap (λ (n : ℕ). Zair n) (texts.one_line wrong.4 line other wrong.6 (subst (λ (b : List ℕ). IsFirstWrong b other) (same_bytes i.zair wrong.4 h.4 wrong.5 h.5) h.6))
      line_only line wrong (NotTheCircuit why) h =
          absurd (texts.not_both wrong.4 h.5 line (subst (λ (b : List ℕ). IsProgramText b h.5) (same_bytes i.zair wrong.4 h.3 wrong.5 h.4) h.6) wrong.6)
      line_only line wrong Usage h = absurd h
      line_only line wrong (Read which) h = absurd h
      line_only line wrong Write h = absurd h
      line_only line wrong Memory h = absurd h

      replay_only : (f : ReplayFault) → IsFaultOf i (NotTheCircuit f) → (g : Fault) → IsFaultOf i g → status_of (NotTheCircuit f) ≡ status_of g
      replay_only f wrong (Long file.Source) h = absurd (omega (arith, wrong.2.is.short.source, h.1))
      replay_only f wrong (Long file.Card) h = absurd h
      replay_only f wrong (Long file.Zair) h = absurd (zair_both i.zair h.2 wrong.2.is.short.zair)
      replay_only f wrong (Card g) h = absurd (card_or_fault i.card wrong.0 g wrong.2.is.card h.1)
      replay_only f wrong (Source l at) h = absurd (law.not_both i.source wrong.2.source l at wrong.2.is.accepted h.2)
      replay_only f wrong (Limit l m) h = absurd (both wrong.2.source h.1 l m wrong.2.is.accepted h.2.accepted wrong.2.limits h.3)
      replay_only f wrong (Qubits n s) h = absurd (some_or_none i.zair wrong.3 h.7 wrong.4)
      replay_only f wrong (Zair line) h = ap status_of (sym (line_only line h (NotTheCircuit f) wrong))
      replay_only f wrong (NotTheCircuit why) h = refl
      replay_only f wrong Usage h = absurd h
      replay_only f wrong (Read which) h = absurd h
      replay_only f wrong Write h = absurd h
      replay_only f wrong Memory h = absurd h

      -- the faults of it have one status
      pub status_once : (f g : Fault) → IsFaultOf i f → IsFaultOf i g → status_of f ≡ status_of g
      status_once (Long file.Source) g left right = ap status_of (long_only left.0 left.1 g right)
      status_once (Long file.Card) g left right = absurd left
      status_once (Long file.Zair) g left right = ap status_of (long_text_only left g right)
      status_once (Card f) g left right = ap status_of (card_only left.0 f left.1 g right)
      status_once (Source k at) g left right = ap status_of (refused_only left.0 left.1.0 left.1.1 k at left.2 g right)
      status_once (Limit k n) g left right = ap status_of (limit_only left.0 left.1 k n left.2 left.3 g right)
      status_once (Qubits n s) g left right = ap status_of (qubits_only n s left g right)
      status_once (Zair line) g left right = ap status_of (line_only line left g right)
      status_once (NotTheCircuit why) g left right = replay_only why left g right
      status_once Usage g left right = absurd left
      status_once (Read which) g left right = absurd left
      status_once Write g left right = absurd left
      status_once Memory g left right = absurd left

    -- without a text each fault of it is the same
    pub fault_once : i.zair ≡ None → (f g : Fault) → IsFaultOf i f → IsFaultOf i g → f ≡ g
    fault_once none (Long file.Source) g left right = long_only left.0 left.1 g right
    fault_once none (Long file.Card) g left right = absurd left
    fault_once none (Long file.Zair) g left right = absurd (long_or_none i.zair none left.2)
    fault_once none (Card f) g left right = card_only left.0 f left.1 g right
    fault_once none (Source k at) g left right = refused_only left.0 left.1.0 left.1.1 k at left.2 g right
    fault_once none (Limit k n) g left right = limit_only left.0 left.1 k n left.2 left.3 g right
    fault_once none (Qubits n s) g left right = qubits_only n s left g right
    fault_once none (Zair line) g left right = absurd (some_or_none i.zair left.4 none left.5)
    fault_once none (NotTheCircuit why) g left right = absurd (some_or_none i.zair left.3 none left.4)
    fault_once none Usage g left right = absurd left
    fault_once none (Read which) g left right = absurd left
    fault_once none Write g left right = absurd left
    fault_once none Memory g left right = absurd left

    -- a card and a source that are read, pass no limit and fit the storage have no fault
    pub fits_or_fault : i.zair ≡ None → (a : Architecture) (p : Program) → AreReadAs i a p → IsWithinLimits p → qubit_count p.statements ≤ storage_count a → (g : Fault) → IsFaultOf i g → ⊥
    fits_or_fault none a p is within fits (Long file.Source) h = omega (arith, is.short.source, h.1)
    fits_or_fault none a p is within fits (Long file.Card) h = h
    fits_or_fault none a p is within fits (Card g) h = card_or_fault i.card a g is.card h.1
    fits_or_fault none a p is within fits (Source l at) h = law.not_both i.source p l at is.accepted h.2
    fits_or_fault none a p is within fits (Limit l m) h = both p h.1 l m is.accepted h.2.accepted within h.3
    fits_or_fault none a p is within fits (Qubits m t) h =
        omega (arith, same_count h.1 p h.2.accepted is.accepted, ap storage_count (card_once i.card h.0 a h.2.card is.card), fits, h.4, h.5, h.6)
    fits_or_fault none a p is within fits (Long file.Zair) h = long_or_none i.zair none h.2
    fits_or_fault none a p is within fits (Zair line) h = some_or_none i.zair h.4 none h.5
    fits_or_fault none a p is within fits (NotTheCircuit why) h = some_or_none i.zair h.3 none h.4
    fits_or_fault none a p is within fits Usage h = h
    fits_or_fault none a p is within fits (Read which) h = h
    fits_or_fault none a p is within fits Write h = h
    fits_or_fault none a p is within fits Memory h = h

    module _ (texts : TextsAreOne) (programs : ReplaysAreOne) where
      -- a text that replays has no fault of the replay
      no_replay_fault : (program : List Instr) (steps : ℕ) (r : ReplaysIn i program steps) (why : ReplayFault) → IsFaultOf i (NotTheCircuit why) → ⊥
      no_replay_fault program steps r why h = h.8 (programs.no_fault r.card r.circuit program steps why r.replays here) where
        card : h.0 ≡ r.card
        card = card_once i.card h.0 r.card h.2.is.card r.is.is.card

        source : h.2.source ≡ r.is.source
        source = same_program h.2.source r.is.source h.2.is.accepted r.is.is.accepted

        circuit : h.1 ≡ r.circuit
        circuit = programs.one_circuit r.is.source h.1 r.circuit (subst (λ (x : Program). IsExpansion x h.1) source h.2.expansion) r.is.expansion

        same : h.5 ≡ program
        same =
            programs.one_program r.bytes h.5 program
            (subst (λ (b : List ℕ). IsProgramText b h.5) (same_bytes i.zair r.bytes h.3 r.zair h.4) h.6) r.text

        here : IsReplayFault r.card r.circuit program why
        here =
            subst (λ (x : List Instr). IsReplayFault r.card r.circuit x why) same
            (subst (λ (x : NativeCircuit). IsReplayFault r.card x h.5 why) circuit (subst (λ (x : Architecture). IsReplayFault x h.1 h.5 why) card h.7))

      -- a text that replays has no fault
      replays_or_fault : (program : List Instr) (steps : ℕ) → ReplaysIn i program steps → (g : Fault) → IsFaultOf i g → ⊥
      replays_or_fault program steps r (Long file.Source) h = omega (arith, r.is.is.short.source, h.1)
      replays_or_fault program steps r (Long file.Card) h = h
      replays_or_fault program steps r (Long file.Zair) h = zair_both i.zair h.2 r.is.is.short.zair
      replays_or_fault program steps r (Card g) h = card_or_fault i.card r.card g r.is.is.card h.1
      replays_or_fault program steps r (Source l at) h = law.not_both i.source r.is.source l at r.is.is.accepted h.2
      replays_or_fault program steps r (Limit l m) h = both r.is.source h.1 l m r.is.is.accepted h.2.accepted r.is.limits h.3
      replays_or_fault program steps r (Qubits m t) h = some_or_none i.zair r.bytes h.7 r.zair
      replays_or_fault program steps r (Zair line) h =
          texts.not_both r.bytes program line r.text (subst (λ (b : List ℕ). IsFirstWrong b line) (same_bytes i.zair r.bytes h.4 r.zair h.5) h.6)
      replays_or_fault program steps r (NotTheCircuit why) h = no_replay_fault program steps r why h
      replays_or_fault program steps r Usage h = h
      replays_or_fault program steps r (Read which) h = h
      replays_or_fault program steps r Write h = h
      replays_or_fault program steps r Memory h = h

      -- what is as its command wants it has no fault
      pub served_or_fault : (o : Option (List ℕ)) → i.zair ≡ o → IsServed i o → (g : Fault) → IsFaultOf i g → ⊥
      served_or_fault None none served g h = fits_or_fault none served.0 served.1 served.2 served.3 served.4 g h
      served_or_fault (Some bytes) some served g h = replays_or_fault served.0 served.1 served.2 g h
