-- How a run ends: the status that its files deserve.
use Rattle.std.proofs.Common.{◌≡◌, ◌≢◌, ℕ, ◌<◌, ◌≤◌, ◌⊎◌, inl, inr, List, Option, None, Some, codes, length, refl, sym, ap, ◌∙◌, subst, arith}
use Rattle.zac_arch.specs.Architecture.{storage_count}
use Rattle.zac_gates.specs.Ops.{NativeCircuit}
use Rattle.zac_io.specs.Outside.{NamedFiles}
use Rattle.zair_form.specs.declared.program.Instr.{Instr}
use Rattle.zac_flow.specs.Answers.{Does, HasCard, HasInputs, IsExact}
use Rattle.zac_flow.specs.Compiled.{CompilesTo, MayCompileTo, IsServed}
use Rattle.zac_flow.specs.Due.{two_files}
use Rattle.zac_fault.specs.Statuses.{status_of}
use Rattle.zac_flow.specs.Faults.{IsFaultOf, IsFaultOrWant, Means, MeansOf, MeansByFiles, without_text}
use Rattle.qasm_source.specs.Source.{source_limit}
use Rattle.zac_flow.specs.Inputs.{Gives, GivesCard, GivesText, AreShort, IsLongCard, IsShortCard}
use Rattle.zac_flow.specs.Panel.{Reading}
use Rattle.zac_flow.specs.Words.{Command, Compile, Report, Replay, Make, Drill, FileWords, file_words}
use Rattle.zac_flow.specs.declared.inputs.CardInput.{CardInput}
use Rattle.zac_flow.specs.declared.inputs.CardInput.TheVariants.{Tiny, Standard, Text}
use Rattle.zac_flow.specs.declared.inputs.Inputs.{Inputs}
use Rattle.zac_fault.specs.declared.status.Fault.{Fault}
use Rattle.zac_fault.specs.declared.status.Fault.TheVariants.{Usage, Read, Long, Card, Source, Limit, Qubits, Zair, NotTheCircuit, Write, Memory}
use Rattle.zac_fault.specs.declared.status.InputFile.TheVariants as file
use Rattle.zac_fault.specs.declared.status.Status.{Status}
use Rattle.zac_fault.specs.declared.status.Status.TheVariants.{Done, NoMemory, ReadFault, WriteFault, TooLong}
use Rattle.zac_flow.proofs.OneFault.{short_card}

-- what is known of the faults of what a command is given
pub record FaultsAreOne : Type 0 where
  pub one : (i : Inputs) (f g : Fault) → IsFaultOf i f → IsFaultOf i g → status_of f ≡ status_of g
  pub none : (i : Inputs) (f : Fault) → IsServed i i.zair → IsFaultOf i f → ⊥

-- what a shelf tells of a card is what is given
same_card : (files : Option NamedFiles) (w : FileWords) (c d : CardInput) → HasCard files w c → GivesCard files w.card d → d ≡ c
same_card None w c d on given = absurd on
same_card (Some file) w Tiny Tiny on given = refl
same_card (Some file) w Tiny Standard on given = let e : codes "@tiny" ≡ codes "@standard" = sym on ∙ given in absurd (cc)
same_card (Some file) w Tiny (Text b) on given = absurd (given.0 on)
same_card (Some file) w Standard Tiny on given = let e : codes "@tiny" ≡ codes "@standard" = sym given ∙ on in absurd (cc)
same_card (Some file) w Standard Standard on given = refl
same_card (Some file) w Standard (Text b) on given = absurd (given.1 on)
same_card (Some file) w (Text b) Tiny on given = absurd (on.0 given)
same_card (Some file) w (Text b) Standard on given = absurd (on.1 given)
same_card (Some file) w (Text b) (Text d) on given = let same : Some d ≡ Some b = sym given.2 ∙ on.2 in cc

-- a source alike, also behind the words without a text
same_source : (files : Option NamedFiles) (v w : FileWords) (i j : Inputs) → v.source ≡ w.source → HasInputs files v i → Gives files w j → j.source ≡ i.source
same_source None v w i j e on given = absurd on
same_source (Some file) v w i j e on given =
    let same : Some j.source ≡ Some i.source = sym given.source ∙ ap file (sym e) ∙ on.source in cc

-- a text alike
same_text : (files : NamedFiles) (word a b : Option (List ℕ)) → GivesText (Some files) word a → GivesText (Some files) word b → b ≡ a
same_text files None None None on given = refl
same_text files None (Some a) b on given = absurd on
same_text files None None (Some b) on given = absurd given
same_text files (Some word) None b on given = absurd on
same_text files (Some word) (Some a) None on given = absurd given
same_text files (Some word) (Some a) (Some b) on given = sym given ∙ on

has_card : (files : Option NamedFiles) (w : FileWords) (i : Inputs) → HasInputs files w i → HasCard files w i.card
has_card None w i on = absurd on
has_card (Some file) w i on = on.card

-- a card alike, also behind the words without a text
same_card_of : (files : Option NamedFiles) (v w : FileWords) (i j : Inputs) → v.card ≡ w.card → HasInputs files v i → Gives files w j → j.card ≡ i.card
same_card_of files v w i j e on given =
    same_card files v i.card j.card (has_card files v i on) (subst (λ (x : List ℕ). GivesCard files x j.card) (sym e) given.card)

same_inputs : (files : Option NamedFiles) (w : FileWords) (i j : Inputs) → HasInputs files w i → Gives files w j → j ≡ i
same_inputs None w i j on given = absurd on
same_inputs (Some file) w i j on given =
    let e = same_card_of (Some file) w w i j refl on given in
    let f = same_source (Some file) w w i j refl on given in
    let g = same_text file w.zair i.zair j.zair on.zair given.zair in
    λ k. record { card = e k; source = f k; zair = g k }

-- a card isn't both too long and not
long_or_short : (c : CardInput) → IsLongCard c → IsShortCard c → ⊥
long_or_short Tiny long short = long
long_or_short Standard long short = long
long_or_short (Text b) long short = omega (arith, long, short)

-- what compiles without a text is served
compiled_served : (files : Option NamedFiles) (i : Inputs) (program : List Instr) (zair : Option (List ℕ)) → GivesText files None zair → CompilesTo i program → IsServed i zair
compiled_served files i program None given c =
    let count : c.circuit.qubits ≡ _ = ap (λ (x : NativeCircuit). x.qubits) c.is.expansion.is in
    (c.card, c.is.source, c.is.is, c.is.limits, omega (arith, count, c.fits))
compiled_served files i program (Some bytes) given c = absurd given

may_compile_served : (files : Option NamedFiles) (card source : List ℕ) (program : List Instr) → MayCompileTo files (two_files card source) program →
    (i : Inputs) × Gives files (two_files card source) i × IsServed i i.zair
may_compile_served files card source program (i, given, c) = (i, given, compiled_served files i program i.zair given.zair c)

-- a command with files that did its work was given what it wants
does_served : (files : Option NamedFiles) (command : Command) (w : FileWords) (old new : Option (List ℕ)) (panel panel' : List Reading) →
    file_words (Some command) ≡ Some w → Does files (Some command) old new panel panel' → (i : Inputs) × Gives files w i × IsServed i i.zair
does_served files (Compile card source) w old new panel panel' e does =
    let same : two_files card source ≡ w = cc in
    subst (λ (x : FileWords). (i : Inputs) × Gives files x i × IsServed i i.zair) same (may_compile_served files card source does.program does.compiles)
does_served files (Report card source) w old new panel panel' e (text, (program, compiles, shown, is), appends) =
    let same : two_files card source ≡ w = cc in
    subst (λ (x : FileWords). (i : Inputs) × Gives files x i × IsServed i i.zair) same (may_compile_served files card source program compiles)
does_served files (Replay card source zair) w old new panel panel' e (text, (i, given, program, steps, replays, is), appends) =
    (i, subst (λ (x : FileWords). Gives files x i) (cc) given, subst (λ (x : Option (List ℕ)). IsServed i x) (sym replays.zair) (program, steps, replays))
does_served files (Make n k) w old new panel panel' e does = absurd (cc)
does_served files (Drill n k) w old new panel panel' e does = absurd (cc)

-- what is served is within its limits
served_short : (i : Inputs) (zair : Option (List ℕ)) → IsServed i zair → AreShort i
served_short i None (a, source, is, limits, fits) = is.short
served_short i (Some bytes) (program, steps, replays) = replays.is.is.short

-- behind a fault that isn't of a length the source is within its limit
short_source : (i : Inputs) (f : Fault) → IsFaultOf i f → (status_of f ≡ TooLong) ⊎ (length i.source ≤ source_limit)
short_source i Usage h = absurd h
short_source i (Read which) h = absurd h
short_source i (Long which) h = inl refl
short_source i (Card f) h = inr h.0.source
short_source i (Source k at) h = inr h.0.source
short_source i (Limit k n) h = inr h.2.short.source
short_source i (Qubits n s) h = inr h.2.short.source
short_source i (Zair line) h = inr h.2.short.source
short_source i (NotTheCircuit f) h = inr h.2.is.short.source
short_source i Write h = absurd h
short_source i Memory h = absurd h

module _ (law : FaultsAreOne) (files : Option NamedFiles) (w : FileWords) where
  abbrev HasFault : Fault → Type 0
  HasFault f = (j : Inputs) × Gives files w j × IsFaultOf j f

  -- what is served has no fault
  served_or_fault : (j : Inputs) → Gives files w j → IsServed j j.zair → (i : Inputs) → HasInputs files w i → (g : Fault) → IsFaultOf i g → ⊥
  served_or_fault j given served i on g h =
      law.none i g (subst (λ (x : Inputs). IsServed x x.zair) (same_inputs files w i j on given) served) h

  served_or_long : (j : Inputs) → Gives files w j → IsServed j j.zair → (c : CardInput) → HasCard files w c → IsLongCard c → ⊥
  served_or_long j given served c on long =
      long_or_short c long (subst IsShortCard (same_card files w c j.card on given.card) (served_short j j.zair served).card)

  served_or_long_source : (j : Inputs) → Gives files w j → IsServed j j.zair → (i : Inputs) → HasInputs files (without_text w) i → IsFaultOf i (Long file.Source) → ⊥
  served_or_long_source j given served i on long =
      let short : length j.source ≤ source_limit = (served_short j j.zair served).source in
      let same : length j.source ≡ length i.source = ap (λ (x : List ℕ). length x) (same_source files (without_text w) w i j refl on given) in
      omega (arith, short, same, long.1)

  of_inputs : (i : Inputs) → HasInputs files w i → (f : Fault) → HasFault f → IsFaultOrWant i f
  of_inputs i on f (j, given, h) = inr (subst (λ (x : Inputs). IsFaultOf x f) (same_inputs files w i j on given) h)

  -- where no call fails, a fault behind a card within its limit is one of what is given, or want of memory
  of_files : (i : Inputs) → HasInputs files w i → IsShortCard i.card → (f : Fault) → MeansByFiles files w f →
      status_of f ≢ ReadFault → status_of f ≢ WriteFault → IsFaultOrWant i f
  of_files i on short Usage h read write = absurd h.2
  of_files i on short (Read which) h read write = absurd (read refl)
  of_files i on short Write h read write = absurd (write refl)
  of_files i on short Memory h read write = inl refl
  of_files i on short (Long file.Card) h read write =
      absurd (long_or_short h.0 h.2 (subst IsShortCard (sym (same_card files w i.card h.0 (has_card files w i on) h.1)) short))
  of_files i on short (Long file.Source) (j, given, long) read write =
      let same : length j.source ≡ length i.source = ap (λ (x : List ℕ). length x) (same_source files w (without_text w) i j refl on given) in
      inr (short, omega (arith, long.1, same))
  of_files i on short (Long file.Zair) h read write = of_inputs i on (Long file.Zair) h
  of_files i on short (Card f) h read write = of_inputs i on (Card f) h
  of_files i on short (Source k at) h read write = of_inputs i on (Source k at) h
  of_files i on short (Limit k n) h read write = of_inputs i on (Limit k n) h
  of_files i on short (Qubits n s) h read write = of_inputs i on (Qubits n s) h
  of_files i on short (Zair line) h read write = of_inputs i on (Zair line) h
  of_files i on short (NotTheCircuit f) h read write = of_inputs i on (NotTheCircuit f) h

  -- behind a card that is too long no fault is one of what is given
  long_behind : (c : CardInput) → HasCard files w c → IsLongCard c → (f : Fault) → HasFault f → ⊥
  long_behind c on long f (j, given, h) =
      long_or_short c long (subst IsShortCard (same_card files w c j.card on given.card) (short_card j f h))

  of_long : (c : CardInput) → HasCard files w c → IsLongCard c → (f : Fault) → MeansByFiles files w f →
      status_of f ≢ ReadFault → status_of f ≢ WriteFault → (status_of f ≡ TooLong) ⊎ (status_of f ≡ NoMemory)
  of_long c on long Usage h read write = absurd h.2
  of_long c on long (Read which) h read write = absurd (read refl)
  of_long c on long Write h read write = absurd (write refl)
  of_long c on long Memory h read write = inr refl
  of_long c on long (Long which) h read write = inl refl
  of_long c on long (Card f) h read write = absurd (long_behind c on long (Card f) h)
  of_long c on long (Source k at) h read write = absurd (long_behind c on long (Source k at) h)
  of_long c on long (Limit k n) h read write = absurd (long_behind c on long (Limit k n) h)
  of_long c on long (Qubits n s) h read write = absurd (long_behind c on long (Qubits n s) h)
  of_long c on long (Zair line) h read write = absurd (long_behind c on long (Zair line) h)
  of_long c on long (NotTheCircuit f) h read write = absurd (long_behind c on long (NotTheCircuit f) h)

  -- behind a source that is too long a fault of what is given is one of a length
  source_behind : (i : Inputs) → HasInputs files (without_text w) i → IsFaultOf i (Long file.Source) → (f : Fault) → HasFault f →
      (status_of f ≡ TooLong) ⊎ (status_of f ≡ NoMemory)
  source_behind i on long f (j, given, h) =
      elim (short_source j f h) [
        | inl too_long ↦ inl too_long
        | inr short ↦ absurd (apart short)
      ] where
        apart : length j.source ≤ source_limit → ⊥
        apart short =
            let same : length j.source ≡ length i.source = ap (λ (x : List ℕ). length x) (same_source files (without_text w) w i j refl on given) in
            omega (arith, short, same, long.1)

  of_long_source : (i : Inputs) → HasInputs files (without_text w) i → IsFaultOf i (Long file.Source) → (f : Fault) → MeansByFiles files w f →
      status_of f ≢ ReadFault → status_of f ≢ WriteFault → (status_of f ≡ TooLong) ⊎ (status_of f ≡ NoMemory)
  of_long_source i on long Usage h read write = absurd h.2
  of_long_source i on long (Read which) h read write = absurd (read refl)
  of_long_source i on long Write h read write = absurd (write refl)
  of_long_source i on long Memory h read write = inr refl
  of_long_source i on long (Long which) h read write = inl refl
  of_long_source i on long (Card f) h read write = source_behind i on long (Card f) h
  of_long_source i on long (Source k at) h read write = source_behind i on long (Source k at) h
  of_long_source i on long (Limit k n) h read write = source_behind i on long (Limit k n) h
  of_long_source i on long (Qubits n s) h read write = source_behind i on long (Qubits n s) h
  of_long_source i on long (Zair line) h read write = source_behind i on long (Zair line) h
  of_long_source i on long (NotTheCircuit f) h read write = source_behind i on long (NotTheCircuit f) h

module _ (law : FaultsAreOne) (files : Option NamedFiles) where
  pub done_exact : (command : Command) (old new : Option (List ℕ)) (panel panel' : List Reading) → Does files (Some command) old new panel panel' → IsExact files (Some command) Done
  done_exact command old new panel panel' does = record {
    long_card = λ w c e on long. let s = served w e in absurd (served_or_long law files w s.0 s.1 s.2 c on long);
    long_source = λ w i e on long. let s = served w e in absurd (served_or_long_source law files w s.0 s.1 s.2 i on long);
    refused = λ w i g e on h. let s = served w e in absurd (served_or_fault law files w s.0 s.1 s.2 i on g h);
    accepted = λ w i e on is. inl refl;
    made = λ other e none. inl refl;
  } where
    served : (w : FileWords) → file_words (Some command) ≡ Some w → (i : Inputs) × Gives files w i × IsServed i i.zair
    served w e = does_served files command w old new panel panel' e does

  -- the status of a refusal is the one that the files deserve
  pub refused_exact : (command : Command) (f : Fault) (status : Status) → status ≡ status_of f → Means files (Some command) f → status ≢ ReadFault → status ≢ WriteFault → IsExact files (Some command) status
  refused_exact command f status is means read write = record {
    long_card = λ w c e on long. alike (of_long law files w c on long f (by_files w e) calm_read calm_write);
    long_source = λ w i e on long. alike (of_long_source law files w i on long f (by_files w e) calm_read calm_write);
    refused = λ w i g e on h. refused w i e on g h;
    accepted = λ w i e on served. accepted w i e on served;
    made = λ other e none. made none;
  } where
    by_files : (w : FileWords) → file_words (Some command) ≡ Some w → MeansByFiles files w f
    by_files w e = subst (λ (o : Option FileWords). MeansOf files o f) e means

    calm_read : status_of f ≢ ReadFault
    calm_read e = read (is ∙ e)

    calm_write : status_of f ≢ WriteFault
    calm_write e = write (is ∙ e)

    alike : {s t : Status} → (status_of f ≡ s) ⊎ (status_of f ≡ t) → (status ≡ s) ⊎ (status ≡ t)
    alike (inl e) = inl (is ∙ e)
    alike (inr e) = inr (is ∙ e)

    refused : (w : FileWords) (i : Inputs) → file_words (Some command) ≡ Some w → HasInputs files w i → (g : Fault) → IsFaultOf i g → (status ≡ status_of g) ⊎ (status ≡ NoMemory)
    refused w i e on g h =
        elim (of_files law files w i on (short_card i g h) f (by_files w e) calm_read calm_write) [
          | inl memory ↦ inr (is ∙ ap status_of memory)
          | inr own ↦ inl (is ∙ law.one i f g own h)
        ]

    accepted : (w : FileWords) (i : Inputs) → file_words (Some command) ≡ Some w → HasInputs files w i → IsServed i i.zair → (status ≡ Done) ⊎ (status ≡ NoMemory)
    accepted w i e on served =
        elim (of_files law files w i on (served_short i i.zair served).card f (by_files w e) calm_read calm_write) [
          | inl memory ↦ inr (is ∙ ap status_of memory)
          | inr own ↦ absurd (law.none i f served own)
        ]

    made : file_words (Some command) ≡ None → (status ≡ Done) ⊎ (status ≡ NoMemory)
    made none =
        elim (subst (λ (o : Option FileWords). MeansOf files o f) none means) [
          | inl wrote ↦ absurd (write (is ∙ ap status_of wrote))
          | inr memory ↦ inr (is ∙ ap status_of memory)
        ]

-- words that name no command deserve nothing but their own status
pub none_exact : (files : Option NamedFiles) (status : Status) → IsExact files None status
none_exact files status = record {
  long_card = λ w c e on long. inl (absurd (cc));
  long_source = λ w i e on long. inl (absurd (cc));
  refused = λ w i g e on h. inl (absurd (cc));
  accepted = λ w i e on served. inl (absurd (cc));
  made = λ other e none. inl (absurd (cc));
}
