-- The timed steps of a program: to which instruction each belongs, and how the times of two of them lie.
use Rattle.std.proofs.Common.{◌≡◌, ℕ, ◌+◌, ◌<◌, ◌≤◌, ◌⊎◌, List, [], ◌∷◌, ◌++◌, length, sym, ap, ◌∙◌, subst, inl, inr, arith}
use Rattle.std.specs.List.{AllByRecursion}
use Rattle.std.proofs.lemmas.List.{length_push}
use Rattle.zac_arch.specs.Architecture.{Architecture}
use Rattle.zac_arch.specs.Distances.{IsMoveTime}
use Rattle.zac_arch.specs.declared.card.Figures.{Figures}
use Rattle.zair_form.specs.declared.program.Act.{Act}
use Rattle.zair_form.specs.declared.program.Instr.{Instr}
use Rattle.zair_form.specs.declared.step.Step.{Step}
use Rattle.zair_form.specs.declared.step.Step.TheVariants.{Activate, Move, Deactivate, One, Pulse, Readout}
use Rattle.zair_form.specs.Steps.{steps_of}
use Rattle.zair_form.specs.Times.{Timed, AreTimed, AreTimedSteps, HasLength, Lasts, LastTogether}
use Rattle.zair_state.specs.Resources.{Conflict}
use Rattle.zac_sched.proofs.Later.{EachLater, all_append, all_weaker, later_append, later_from_all}

-- two least times are one
move_time_same : (accel dx dy t u : ℕ) → IsMoveTime accel dx dy t → IsMoveTime accel dx dy u → t ≡ u
move_time_same accel dx dy t u first second =
    let low = first.least u second.enough in
    let high = second.least t first.enough in
    omega arith

-- a step has one duration
lasts_same : (f : Figures) (earlier : List Step) (s : Step) (t u : ℕ) → Lasts f earlier s t → Lasts f earlier s u → t ≡ u
lasts_same f earlier (Activate aod rows columns atoms) t u first second = first ∙ sym second
lasts_same f earlier (Move aod rows columns) t u first second = move_time_same _ _ _ t u first second
lasts_same f earlier (Deactivate aod rows columns atoms) t u first second = first ∙ sym second
lasts_same f earlier (One gate) t u first second = first ∙ sym second
lasts_same f earlier (Pulse pairs) t u first second = first ∙ sym second
lasts_same f earlier (Readout reads) t u first second = first ∙ sym second

-- the timed step is one of this instruction at this place or a later one, and lies between these moments
record Lies (number least from to : ℕ) (t : Timed) : Type 0 where
  instr : t.instr ≡ number
  place : least ≤ t.place
  begins : from ≤ t.begin
  rises : t.begin ≤ t.end
  ends : t.end ≤ to

-- the first comes before the second in one instruction
record IsBefore (x y : Timed) : Type 0 where
  instr : x.instr ≡ y.instr
  place : x.place < y.place
  times : x.end ≤ y.begin

-- The timed step belongs to this instruction: it is of this act, and lies between the instruction's begin and end.
pub record BelongsTo (act : ℕ → Act) (i : Instr) (t : Timed) : Type 0 where
  pub acts : act t.instr ≡ i.act
  pub begins : i.begin ≤ t.begin
  pub ends : t.end ≤ i.end

earlier_too : (number least' least from' from to' to : ℕ) (t : Timed) → least' ≤ least → from' ≤ from → to ≤ to' →
    Lies number least from to t → Lies number least' from' to' t
earlier_too number least' least from' from to' to t le_place le_from le_to lies =
    let place = lies.place in
    let begins = lies.begins in
    let ends = lies.ends in
    record { instr = lies.instr; place = omega arith; begins = omega arith; rises = lies.rises; ends = omega arith }

before_these : (number here least from to : ℕ) (t u : Timed) → t.instr ≡ number → t.place ≡ here → here < least → t.end ≤ from →
    Lies number least from to u → IsBefore t u
before_these number here least from to t u instr place later ends lies =
    let begins = lies.begins in
    let beyond = lies.place in
    record { instr = instr ∙ sym lies.instr; place = omega arith; times = omega arith }

belongs : (act : ℕ → Act) (number : ℕ) (i : Instr) (long : ℕ) (t : Timed) → act number ≡ i.act → i.end ≡ i.begin + long →
    Lies number 0 i.begin (i.begin + long) t → (t.instr ≡ number) × BelongsTo act i t
belongs act number i long t acts end lies =
    let ends = lies.ends in
    (lies.instr, record { acts = ap act lies.instr ∙ acts; begins = lies.begins; ends = omega arith })

-- the steps of one instruction
own_steps : (f : Figures) (number : ℕ) (earlier : List Step) (from : ℕ) (ss : List Step) (ts : List Timed) (long : ℕ) →
    AreTimed f number earlier from ss ts → LastTogether f earlier ss long →
    AllByRecursion (Lies number (length earlier) from (from + long)) ts × EachLater IsBefore ts
own_steps f number earlier from [] [] long timed together = (tt, tt)
own_steps f number earlier from [] (t ∷ ts) long timed together = absurd timed
own_steps f number earlier from (s ∷ ss) [] long timed together = absurd timed
own_steps f number earlier from (s ∷ ss) (t ∷ ts) long timed together =
    let own = timed.0.duration in
    let same : own ≡ together.0 = lasts_same f earlier s own together.0 timed.0.lasts together.3 in
    let number_of : t.instr ≡ number = timed.0.instr in
    let place : t.place ≡ length earlier = timed.0.place in
    let begin : t.begin ≡ from = timed.0.begin in
    let end : t.end ≡ from + own = timed.0.end in
    let sum : long ≡ together.0 + together.1 = together.2 in
    let more : length (earlier ++ s ∷ []) ≡ length earlier + 1 = length_push earlier s in
    let rest = own_steps f number (earlier ++ s ∷ []) t.end ss ts together.1 timed.1 together.4 in
    let first : Lies number (length earlier) from (from + long) t = record {
      instr = number_of;
      place = omega arith;
      begins = omega arith;
      rises = omega arith;
      ends = omega arith;
    } in
    let wider = λ (u : Timed) (lies : Lies number (length (earlier ++ s ∷ [])) t.end (t.end + together.1) u).
    earlier_too number (length earlier) (length (earlier ++ s ∷ [])) from t.end (from + long) (t.end + together.1) u
    (omega arith) (omega arith) (omega arith) lies in
    let behind = λ (u : Timed) (lies : Lies number (length (earlier ++ s ∷ [])) t.end (t.end + together.1) u).
    before_these number (length earlier) (length (earlier ++ s ∷ [])) t.end (t.end + together.1) t u
    number_of place (omega arith) (omega arith) lies in (
      (first, all_weaker (Lies number (length (earlier ++ s ∷ [])) t.end (t.end + together.1)) (Lies number (length earlier) from (from + long)) ts wider rest.0),
      (all_weaker (Lies number (length (earlier ++ s ∷ [])) t.end (t.end + together.1)) (IsBefore t) ts behind rest.0, rest.1),
    )

-- the acts of the program's instructions, the first of which has this number
abbrev pub AreActs : (ℕ → Act) → ℕ → List Instr → Type 0
AreActs act number [] = Unit {0}
AreActs act number (i ∷ is) = (act number ≡ i.act) × AreActs act (number + 1) is

-- an instruction's own steps belong to it
own_belong : (act : ℕ → Act) (f : Figures) (number : ℕ) (i : Instr) (ts : List Timed) → act number ≡ i.act → HasLength f i →
    AreTimed f number [] i.begin (steps_of i.act) ts →
    AllByRecursion (λ t. (t.instr ≡ number) × BelongsTo act i t) ts
own_belong act f number i ts acts long timed =
    all_weaker (Lies number 0 i.begin (i.begin + long.0)) (λ (t : Timed). (t.instr ≡ number) × BelongsTo act i t) ts
    (λ t lies. belongs act number i long.0 t acts long.1 lies)
    (own_steps f number [] i.begin (steps_of i.act) ts long.0 timed long.2).0

-- Each timed step belongs to an instruction of the program, and what holds of all instructions holds of this one.
pub each_belongs : (act : ℕ → Act) (f : Figures) (P : Instr → Type 0) (number : ℕ) (program : List Instr) (ts : List Timed) →
    AreActs act number program → AllByRecursion (HasLength f) program → AllByRecursion P program → AreTimedSteps f number program ts →
    AllByRecursion (λ t. (i : Instr) × P i × BelongsTo act i t × (number ≤ t.instr)) ts
each_belongs act f P number [] ts acts lengths all timed =
    subst (AllByRecursion (λ (t : Timed). (i : Instr) × P i × BelongsTo act i t × (number ≤ t.instr))) (sym timed) tt
each_belongs act f P number (i ∷ is) ts acts lengths all timed =
    let Q = λ (t : Timed). (j : Instr) × P j × BelongsTo act j t × (number ≤ t.instr) in
    let own = all_weaker (λ (t : Timed). (t.instr ≡ number) × BelongsTo act i t) Q timed.0
    (λ t h. let e : t.instr ≡ number = h.0 in (i, all.0, h.1, omega arith))
    (own_belong act f number i timed.0 acts.0 lengths.0 timed.3) in
    let rest = all_weaker (λ (t : Timed). (j : Instr) × P j × BelongsTo act j t × (number + 1 ≤ t.instr)) Q timed.1
    (λ t h. let later : number + 1 ≤ t.instr = h.3 in (h.0, h.1, h.2, omega arith))
    (each_belongs act f P (number + 1) is timed.1 acts.1 lengths.1 all.1 timed.4) in
    subst (AllByRecursion Q) (sym timed.2) (all_append Q timed.0 timed.1 own rest)

-- the first comes before the second in the list: in an earlier instruction, or earlier in the same
abbrev pub IsListedBefore : Timed → Timed → Type 0
IsListedBefore x y = (x.instr < y.instr) ⊎ ((x.instr ≡ y.instr) × (x.place < y.place))

-- the first is listed before the second; and if their acts conflict, it has ended when the second begins
pub record ComesBefore (a : Architecture) (act : ℕ → Act) (x y : Timed) : Type 0 where
  pub listed : IsListedBefore x y
  pub ended : Conflict a (act x.instr) (act y.instr) → x.end ≤ y.begin

-- the steps of one instruction come one before the other
later_in_one : (a : Architecture) (act : ℕ → Act) (number : ℕ) (i : Instr) (ts : List Timed) → HasLength a.figures i →
    AreTimed a.figures number [] i.begin (steps_of i.act) ts → EachLater (ComesBefore a act) ts
later_in_one a act number i ts long timed =
    let steps = own_steps a.figures number [] i.begin (steps_of i.act) ts long.0 timed long.2 in
    later_from_all (Lies number 0 i.begin (i.begin + long.0)) IsBefore (ComesBefore a act) ts
    (λ x y p q before. record { listed = inr (before.instr, before.place); ended = λ conflict. before.times })
    steps.0 steps.1

-- the timed step belongs to an instruction of at least this number that is apart from the given one
abbrev IsOfLater : Architecture → (ℕ → Act) → Instr → ℕ → Timed → Type 0
IsOfLater a act i least t = (j : Instr) × (Conflict a i.act j.act → i.end ≤ j.begin) × BelongsTo act j t × (least ≤ t.instr)

apart_times : (x y : Timed) (i j : Instr) → x.end ≤ i.end → i.end ≤ j.begin → j.begin ≤ y.begin → x.end ≤ y.begin
apart_times x y i j ends apart begins = omega arith

comes_before : (a : Architecture) (act : ℕ → Act) (number : ℕ) (i : Instr) (x y : Timed) → x.instr ≡ number → BelongsTo act i x →
    IsOfLater a act i (number + 1) y → ComesBefore a act x y
comes_before a act number i x y e here there =
    let least : number + 1 ≤ y.instr = there.3 in
    let ended = λ (conflict : Conflict a (act x.instr) (act y.instr)).
    let of_first = subst (λ (u : Act). Conflict a u (act y.instr)) here.acts conflict in
    let of_both = subst (λ (u : Act). Conflict a i.act u) there.2.acts of_first in
    apart_times x y i there.0 here.ends (there.1 of_both) there.2.begins in
    record { listed = inl (omega arith); ended = ended }

-- so it is with each two timed steps of a program whose instructions are apart
pub each_comes_before : (a : Architecture) (act : ℕ → Act) (number : ℕ) (program : List Instr) (ts : List Timed) →
    AreActs act number program → AllByRecursion (HasLength a.figures) program →
    EachLater (λ i j. Conflict a i.act j.act → i.end ≤ j.begin) program → AreTimedSteps a.figures number program ts →
    EachLater (ComesBefore a act) ts
each_comes_before a act number [] ts acts lengths apart timed = subst (EachLater (ComesBefore a act)) (sym timed) tt
each_comes_before a act number (i ∷ is) ts acts lengths apart timed =
    let own = later_in_one a act number i timed.0 lengths.0 timed.3 in
    let rest = each_comes_before a act (number + 1) is timed.1 acts.1 lengths.1 apart.1 timed.4 in
    let far = each_belongs act a.figures (λ j. Conflict a i.act j.act → i.end ≤ j.begin) (number + 1) is timed.1 acts.1 lengths.1 apart.0 timed.4 in
    let across = all_weaker (λ (x : Timed). (x.instr ≡ number) × BelongsTo act i x) (λ x. AllByRecursion (ComesBefore a act x) timed.1) timed.0
    (λ x here. all_weaker (λ (y : Timed). IsOfLater a act i (number + 1) y) (ComesBefore a act x) timed.1
    (λ y there. comes_before a act number i x y here.0 here.1 there) far)
    (own_belong act a.figures number i timed.0 acts.0 lengths.0 timed.3) in
    subst (EachLater (ComesBefore a act)) (sym timed.2) (later_append (ComesBefore a act) timed.0 timed.1 own rest across)
