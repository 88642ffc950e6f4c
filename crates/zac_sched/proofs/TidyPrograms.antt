-- A tidy program performs its circuit in every order that its times allow, and all these orders do the same.
use Rattle.std.proofs.Common.{◌≡◌, ℕ, zero, suc, ◌+◌, ◌≤◌, ◌⊎◌, List, [], ◌∷◌, refl, sym, ap, ◌∙◌, subst, inl, inr, arith, add-one}
use Rattle.std.specs.List.{AllByRecursion}
use Rattle.std.proofs.lemmas.List.Elements.{recursion_from_All}
use Rattle.zac_arch.specs.Architecture.{Architecture}
use Rattle.zac_arch.specs.Rules.{HasFigureRanges}
use Rattle.zac_gates.specs.Log.{Entry, Realises}
use Rattle.zac_gates.specs.Ops.{NativeCircuit}
use Rattle.zair_form.specs.declared.program.Act.{Act}
use Rattle.zair_form.specs.declared.program.Act.TheVariants.{Init}
use Rattle.zair_form.specs.declared.program.Instr.{Instr}
use Rattle.zair_form.specs.declared.step.Step.{Step}
use Rattle.zair_form.specs.Steps.{homes}
use Rattle.zair_form.specs.Times.{Timed, HasLength}
use Rattle.zair_state.specs.Orders.{IsAllowed, IsNamedOrder}
use Rattle.zair_state.specs.Performs.{EachPulseFindsItsPairs, IsSafeOrder, Performs, listed_steps, steps_in}
use Rattle.zair_state.specs.Resources.{AreApart, Conflict, Uses}
use Rattle.zair_state.specs.Resources.{Resource as resource}
use Rattle.zair_state.specs.Result.{after}
use Rattle.zair_state.specs.Run.{IsLegalRun, after_all, log_of}
use Rattle.zair_state.specs.State.{State, opening}
use Rattle.zac_sched.specs.Exchange.{IsTidyProgram, IsTidyStep, AreTidy, OrdersAgree}
use Rattle.zac_sched.proofs.AllowedOrders.{MayPrecede, reordering_from_allowed}
use Rattle.zac_sched.proofs.Durations.{each_takes_time, timed_steps_of}
use Rattle.zac_sched.proofs.Later.{later_from_all, later_from_AllPairs, later_weaker}
use Rattle.zac_sched.proofs.NamedOrder.{named_and_allowed}
use Rattle.zac_sched.proofs.Reordering.{OneIsSilent, reordered, same_entries}
use Rattle.zac_sched.proofs.TidyRuns.{IsTidyAt, after_timed, all_listed, each_silent_or_lit, end_in, entries_of, legal_in, log_in, tidy_run}
use Rattle.zac_sched.proofs.Timing.{AreActs, ComesBefore, IsListedBefore, each_comes_before}

-- steps of acts that don't conflict may change places
abbrev pub StepsChangePlaces : Architecture → Type 0
StepsChangePlaces a = (s : State) (x y : Act) (step next : Step) → ¬ Conflict a x y → IsTidyStep a s x step → IsTidyStep a (after s step) y next →
    IsTidyStep a s y next × IsTidyStep a (after s next) x step × (after (after s next) step ≡ after (after s step) next)

-- in a legal run each pulse finds its pairs
abbrev pub PulsesFindTheirPairs : Type 0
PulsesFindTheirPairs = (a : Architecture) (s : State) (steps : List Step) → IsLegalRun a s steps → EachPulseFindsItsPairs a s steps

-- the act of the instruction of this number
abbrev act_at : List Instr → ℕ → Act
act_at [] n = Init []
act_at (i ∷ is) zero = i.act
act_at (i ∷ is) (suc n) = act_at is n

acts_later : (act act' : ℕ → Act) (number : ℕ) (program : List Instr) → ((n : ℕ) → act' (n + 1) ≡ act n) → AreActs act number program →
    AreActs act' (number + 1) program
acts_later act act' number [] later acts = tt
acts_later act act' number (i ∷ is) later acts = (later number ∙ acts.0, acts_later act act' (number + 1) is later acts.1)

are_acts : (program : List Instr) → AreActs (act_at program) 0 program
are_acts [] = tt
are_acts (i ∷ is) = (refl, acts_later (act_at is) (act_at (i ∷ is)) 0 is (λ n. ap (act_at (i ∷ is)) (add-one n)) (are_acts is))

-- what the list and an allowed order of the program's steps have in common
record DoesTheSame (a : Architecture) (s : State) (program : List Instr) (steps : List Step) : Type 0 where
  legal : IsLegalRun a s steps
  log : log_of steps ≡ log_of (listed_steps program)
  end : after_all s steps ≡ after_all s (listed_steps program)

-- the acts of the two steps don't conflict
abbrev AreFree : Architecture → (ℕ → Act) → Timed → Timed → Type 0
AreFree a act x y = ¬ Conflict a (act x.instr) (act y.instr)

-- a step that begins before an earlier one ends does not conflict with it
free_if_early : (a : Architecture) (act : ℕ → Act) (x y : Timed) → ComesBefore a act x y → MayPrecede y x → AreFree a act x y
free_if_early a act x y comes early conflict = let ended = comes.ended conflict in absurd (omega arith)

-- of two steps of acts that don't conflict one has no entry
one_silent : (a : Architecture) (x y : Act) (es fs : List Entry) → (es ≡ []) ⊎ Uses a x resource.Laser → (fs ≡ []) ⊎ Uses a y resource.Laser →
    ¬ Conflict a x y → (es ≡ []) ⊎ (fs ≡ [])
one_silent a x y es fs (inl e) second free = inl e
one_silent a x y es fs (inr lit) (inl e) free = inr e
one_silent a x y es fs (inr lit) (inr other) free = absurd (free (resource.Laser, lit, other))

does_the_same : (a : Architecture) → StepsChangePlaces a → (program : List Instr) (s : State) → AllByRecursion (HasLength a.figures) program →
    AreApart a program → AreTidy a s program → (order : List Timed) → IsAllowed a.figures program order → DoesTheSame a s program (steps_in order)
does_the_same a exchange program s lengths apart tidy order allowed =
    let act : ℕ → Act = act_at program in
    let ts = allowed.steps in
    let comes = each_comes_before a act 0 program ts (are_acts program) lengths
    (later_from_AllPairs (λ (i j : Instr). Conflict a i.act j.act → i.end ≤ j.begin) program apart) allowed.timed in
    let precede = later_from_AllPairs MayPrecede order allowed.allowed in
    let run = tidy_run a act 0 program ts s (are_acts program) allowed.timed tidy in
    let free = later_weaker (ComesBefore a act) (λ x y. MayPrecede y x → AreFree a act x y) ts (free_if_early a act) comes in
    let changed = reordered (IsTidyAt a act) after_timed (AreFree a act)
    (λ t x y may first second. exchange t (act x.instr) (act y.instr) x.step y.step may first second) ts order s
    (reordering_from_allowed (AreFree a act) ts order free allowed.same precede) run in
    let quiet = later_from_all (λ (t : Timed). (entries_of t ≡ []) ⊎ Uses a (act t.instr) resource.Laser)
    (λ x y. MayPrecede y x → AreFree a act x y) (λ x y. MayPrecede y x → OneIsSilent entries_of x y) ts
    (λ x y p q h early. one_silent a (act x.instr) (act y.instr) (entries_of x) (entries_of y) p q (h early))
    (each_silent_or_lit a act s ts run) free in
    let same_log = same_entries entries_of ts order (reordering_from_allowed (OneIsSilent entries_of) ts order quiet allowed.same precede) in
    let listed = all_listed a.figures 0 program ts allowed.timed in
    record {
      legal = legal_in a act s order changed.0;
      log = sym (log_in order) ∙ same_log ∙ log_in ts ∙ ap log_of listed;
      end = sym (end_in s order) ∙ changed.1 ∙ end_in s ts ∙ ap (after_all s) listed;
    }

pub orders_agree : (a : Architecture) → StepsChangePlaces a → (c : NativeCircuit) (program : List Instr) → IsTidyProgram a c program → OrdersAgree a program
orders_agree a exchange c program tidy order allowed =
    let lengths = recursion_from_All (HasLength a.figures) program tidy.lengths in
    let same = does_the_same a exchange program (opening a (homes program)) lengths tidy.apart tidy.tidy order allowed in
    (same.log, same.end)

module _ (a : Architecture) (exchange : StepsChangePlaces a) (pairs : PulsesFindTheirPairs) (c : NativeCircuit) (program : List Instr)
    (tidy : IsTidyProgram a c program) where
  safe_where_same : (steps : List Step) → DoesTheSame a (opening a (homes program)) program steps → IsSafeOrder a c program steps
  safe_where_same steps same = record {
    legal = same.legal;
    pairs = pairs a (opening a (homes program)) steps same.legal;
    realises = subst (Realises c.ops) (sym same.log) tidy.realises;
  }

  safe_in_list_order : IsSafeOrder a c program (listed_steps program)
  safe_in_list_order =
      let start : State = opening a (homes program) in
      let timed = timed_steps_of a.figures 0 program (recursion_from_All (HasLength a.figures) program tidy.lengths) in
      let run = tidy_run a (act_at program) 0 program timed.0 start (are_acts program) timed.1 tidy.tidy in
      let legal = subst (IsLegalRun a start) (all_listed a.figures 0 program timed.0 timed.1)
      (legal_in a (act_at program) start timed.0 run) in
      safe_where_same (listed_steps program) (record { legal = legal; log = refl; end = refl })

  safe_in_order : (order : List Timed) → IsAllowed a.figures program order → IsSafeOrder a c program (steps_in order)
  safe_in_order order allowed =
      safe_where_same (steps_in order) (does_the_same a exchange program (opening a (homes program))
      (recursion_from_All (HasLength a.figures) program tidy.lengths) tidy.apart tidy.tidy order allowed)

  named_order : HasFigureRanges a.figures → (order : List Timed) × IsAllowed a.figures program order × IsNamedOrder a.figures program order
  named_order ranges =
      let lengths = recursion_from_All (HasLength a.figures) program tidy.lengths in
      let timed = timed_steps_of a.figures 0 program lengths in
      let comes = each_comes_before a (act_at program) 0 program timed.0 (are_acts program) lengths
      (later_from_AllPairs (λ (i j : Instr). Conflict a i.act j.act → i.end ≤ j.begin) program tidy.apart) timed.1 in
      let listed = later_weaker (ComesBefore a (act_at program)) IsListedBefore timed.0 (λ x y comes. comes.listed) comes in
      named_and_allowed a.figures program timed.0 timed.1 listed
      (each_takes_time a.figures ranges 0 program timed.0 timed.1 tidy.moves)

  pub tidy_performs : HasFigureRanges a.figures → Performs a c program
  tidy_performs ranges = record {
    form = tidy.form;
    homes = tidy.homes;
    lengths = tidy.lengths;
    listed = safe_in_list_order;
    orders = safe_in_order;
    named = named_order ranges;
    apart = tidy.apart;
  }
