-- Timed steps, one after another.
use Rattle.std.proofs.Common.{◌≡◌, ℕ, zero, suc, ◌+◌, ◌*◌, ◌<◌, List, [], ◌∷◌, ◌++◌, length, map, take, refl, ap, sym, ◌∙◌, subst, arith, append_assoc, zero-add, suc-mul, get_or}
use Rattle.std.proofs.lemmas.List.{append-nil, map-append, take_more}
use Rattle.zac_arch.specs.declared.card.Figures.{Figures}
use Rattle.zair_form.specs.declared.step.Step.{Step}
use Rattle.zair_form.specs.declared.step.OneGate.{OneGate}
use Rattle.zair_form.specs.declared.step.Step.TheVariants.{One}
use Rattle.zair_form.specs.declared.program.Instr.{Instr}
use Rattle.zair_form.specs.Steps.{steps_of}
use Rattle.zair_form.specs.Times.{Timed, AreTimed, AreTimedSteps, Lasts, LastTogether}
use Rattle.zair_state.proofs.OneDuration.{Lasts-same}
use Rattle.zac_watch.specs.declared.slot.Slot.{Slot}
use Rattle.zac_watch.specs.Slots.{slot_of, WereAdded, AreSlotsOf}

-- when the last of these steps ends; where there is none, this moment
abbrev pub ended : ℕ → List Timed → ℕ
ended from [] = from
ended from (t ∷ ts) = ended t.end ts

-- the next step behind these
abbrev next_of : ℕ → List Step → ℕ → Step → ℕ → Timed
next_of number done from s lasts = record { instr = number; place = length done; step = s; begin = from; end = from + lasts }

more_timed : (f : Figures) (n : ℕ) (earlier : List Step) (from : ℕ) (ss : List Step) (ts : List Timed) (s : Step) (d : ℕ) →
    AreTimed f n earlier from ss ts → Lasts f (earlier ++ ss) s d →
    AreTimed f n earlier from (ss ++ s ∷ []) (ts ++ next_of n (earlier ++ ss) (ended from ts) s d ∷ [])
more_timed f n earlier from [] [] s d timed lasts =
    let plain = append-nil earlier in (
      record {
        instr = refl;
        place = ap length plain;
        step = refl;
        begin = refl;
        duration = d;
        lasts = subst (λ (l : List Step). Lasts f l s d) plain lasts;
        end = refl;
      },
      tt,
    )
more_timed f n earlier from [] (t ∷ ts) s d timed lasts = absurd timed
more_timed f n earlier from (r ∷ ss) [] s d timed lasts = absurd timed
more_timed f n earlier from (r ∷ ss) (t ∷ ts) s d timed lasts =
    let same : (earlier ++ r ∷ []) ++ ss ≡ earlier ++ r ∷ ss = append_assoc earlier (r ∷ []) ss in
    let rest = more_timed f n (earlier ++ r ∷ []) t.end ss ts s d timed.1 (subst (λ (l : List Step). Lasts f l s d) (sym same) lasts) in
    (timed.0, subst (λ (l : List Step). AreTimed f n (earlier ++ r ∷ []) t.end (ss ++ s ∷ []) (ts ++ next_of n l (ended t.end ts) s d ∷ [])) same rest)

ended_more : (from : ℕ) (ts : List Timed) (t : Timed) → ended from (ts ++ t ∷ []) ≡ t.end
ended_more from [] t = refl
ended_more from (u ∷ ts) t = ended_more u.end ts t

-- the steps of an instruction so far: they are timed, the last ends at this moment, and their slots were added
pub record IsAddedSoFar (f : Figures) (number from : ℕ) (done : List Step) (old : List Slot) (until : ℕ) (slots : List Slot) : Type 0 where
  pub own : List Timed
  pub timed : AreTimed f number [] from done own
  pub until_is : until ≡ ended from own
  pub slots_are : slots ≡ old ++ map slot_of own

pub none_added : (f : Figures) (number from : ℕ) (old : List Slot) → IsAddedSoFar f number from [] old from old
none_added f number from old = record { own = []; timed = tt; until_is = refl; slots_are = sym (append-nil old) }

pub one_more_added : (f : Figures) (number from : ℕ) (done : List Step) (old : List Slot) (until : ℕ) (slots : List Slot) (k : ℕ) (s : Step) (d : ℕ) (new : List Slot) → k ≡ length done →
    IsAddedSoFar f number from done old until slots → Lasts f done s d →
    new ≡ slots ++ (record { begin = until; instr = number; place = k }) ∷ [] →
    IsAddedSoFar f number from (done ++ s ∷ []) old (until + d) new
one_more_added f number from done old until slots k s d new k_is so_far lasts new_is =
    let t : Timed = next_of number done (ended from so_far.own) s d in
    let begin : slot_of t ≡ record { begin = until; instr = number; place = k } =
    ap (λ (m : ℕ). record { begin = m; instr = number; place = length done }) (sym so_far.until_is)
    ∙ ap (λ (m : ℕ). record { begin = until; instr = number; place = m }) (sym k_is) in
    let joined : map slot_of (so_far.own ++ t ∷ []) ≡ map slot_of so_far.own ++ slot_of t ∷ [] = map-append slot_of so_far.own (t ∷ []) in
    record {
      own = so_far.own ++ t ∷ [];
      timed = more_timed f number [] from done so_far.own s d so_far.timed lasts;
      until_is = ap (λ (m : ℕ). m + d) so_far.until_is ∙ sym (ended_more from so_far.own t);
      slots_are =
          new_is ∙ ap (λ (l : List Slot). l ++ (record { begin = until; instr = number; place = k }) ∷ []) so_far.slots_are
          ∙ ap (λ (x : Slot). (old ++ map slot_of so_far.own) ++ x ∷ []) (sym begin)
          ∙ append_assoc old (map slot_of so_far.own) (slot_of t ∷ [])
          ∙ ap (λ (l : List Slot). old ++ l) (sym joined);
    }

-- an act with one step
pub only_one_added : (f : Figures) (number from : ℕ) (s : Step) (d : ℕ) (old new : List Slot) → Lasts f [] s d →
    new ≡ old ++ (record { begin = from; instr = number; place = 0 }) ∷ [] → WereAdded f number from (s ∷ []) old new
only_one_added f number from s d old new lasts new_is =
    let so_far = one_more_added f number from [] old from old 0 s d new refl (none_added f number from old) lasts new_is in
    (so_far.own, so_far.timed, so_far.slots_are)

-- one instruction more
more_timed_steps : (f : Figures) (p : ℕ) (program : List Instr) (i : Instr) (ts own : List Timed) → AreTimedSteps f p program ts →
    AreTimed f (p + length program) [] i.begin (steps_of i.act) own → AreTimedSteps f p (program ++ i ∷ []) (ts ++ own)
more_timed_steps f p [] i ts own timed more =
    (own, [], ap (λ (l : List Timed). l ++ own) timed ∙ sym (append-nil own), subst (λ (n : ℕ). AreTimed f n [] i.begin (steps_of i.act) own) (omega arith) more, refl)
more_timed_steps f p (j ∷ program) i ts own timed more =
    let at : p + length (j ∷ program) ≡ (p + 1) + length program = omega arith in
    let rest = more_timed_steps f (p + 1) program i timed.1 own timed.4 (subst (λ (n : ℕ). AreTimed f n [] i.begin (steps_of i.act) own) at more) in
    (timed.0, timed.1 ++ own, ap (λ (l : List Timed). l ++ own) timed.2 ∙ append_assoc timed.0 timed.1 own, timed.3, rest)

pub one_more_instr : (f : Figures) (program : List Instr) (i : Instr) (slots new : List Slot) → AreSlotsOf f program slots →
    WereAdded f (length program) i.begin (steps_of i.act) slots new → AreSlotsOf f (program ++ i ∷ []) new
one_more_instr f program i slots new are added = (
  are.0 ++ added.0,
  more_timed_steps f 0 program i are.0 added.0 are.1 (subst (λ (n : ℕ). AreTimed f n [] i.begin (steps_of i.act) added.0) (sym (zero-add (length program))) added.1),
  added.2 ∙ ap (λ (l : List Slot). l ++ map slot_of added.0) are.2 ∙ sym (map-append slot_of are.0 added.0),
)

-- one step more of a time together
pub more_together : (f : Figures) (earlier ss : List Step) (s : Step) (t d : ℕ) → LastTogether f earlier ss t → Lasts f (earlier ++ ss) s d →
    LastTogether f earlier (ss ++ s ∷ []) (t + d)
more_together f earlier [] s t d together lasts =
    (d, 0, omega (arith, together), subst (λ (l : List Step). Lasts f l s d) (append-nil earlier) lasts, refl)
more_together f earlier (r ∷ ss) s t d together lasts =
    let same : (earlier ++ r ∷ []) ++ ss ≡ earlier ++ r ∷ ss = append_assoc earlier (r ∷ []) ss in
    let rest = more_together f (earlier ++ r ∷ []) ss s together.1 d together.4 (subst (λ (l : List Step). Lasts f l s d) (sym same) lasts) in
    (together.0, together.1 + d, omega (arith, together.2), together.3, rest)

-- the first so many and one more
pub record IsNextOf {X : Type 0} (xs : List X) (k : ℕ) : Type 0 where
  pub item : X
  pub more : take (k + 1) xs ≡ take k xs ++ item ∷ []

item_at : {X : Type 0} (xs : List X) (k : ℕ) → k < length xs → X
item_at [] k lt = absurd (omega arith)
item_at (x ∷ xs) zero lt = x
item_at (x ∷ xs) (suc k) lt = item_at xs k (omega arith)

pub next_item : {X : Type 0} (xs : List X) (k : ℕ) → k < length xs → IsNextOf xs k
next_item xs k lt = record { item = get_or xs k (item_at xs k lt); more = take_more xs k (item_at xs k lt) lt }

-- gates take together as long as one of them, so many times
pub gates_together : (f : Figures) (earlier : List Step) (ones : List OneGate) → LastTogether f earlier (map (λ gate. One gate) ones) (length ones * f.one)
gates_together f earlier [] = omega arith
gates_together f earlier (g ∷ ones) =
    let more : suc (length ones) * f.one ≡ f.one + length ones * f.one = omega (arith, suc-mul (length ones) f.one) in
    (f.one, length ones * f.one, more, refl, gates_together f (earlier ++ One g ∷ []) ones)

-- gates so far and one more
pub more_gates : (ones : List OneGate) (k : ℕ) (next : IsNextOf ones k) →
    map (λ gate. One gate) (take (k + 1) ones) ≡ map (λ gate. One gate) (take k ones) ++ One next.item ∷ []
more_gates ones k next =
    ap (map (λ (gate : OneGate). One gate)) next.more ∙ map-append (λ (gate : OneGate). One gate) (take k ones) (next.item ∷ [])

-- steps take one time together
pub together_same : (f : Figures) (earlier ss : List Step) (t u : ℕ) → LastTogether f earlier ss t → LastTogether f earlier ss u → t ≡ u
together_same f earlier [] t u one other = one ∙ sym other
together_same f earlier (s ∷ ss) t u one other =
    let own = Lasts-same f earlier s one.0 other.0 one.3 other.3 in
    let rest = together_same f (earlier ++ s ∷ []) ss one.1 other.1 one.4 other.4 in
    omega (arith, one.2, other.2)
