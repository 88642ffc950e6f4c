-- The schedule of a plan is a tidy program, and carries what is in range.
use Rattle.std.proofs.Common.{◌≡◌, ℕ, ◌*◌, ◌≤◌, not, ◌&&◌, List, [], ◌∷◌, ◌++◌, IsTrue, length, refl, sym, ap, ◌∙◌, subst, arith}
use Rattle.std.specs.Prelude.{IfOk, Result, Ok, Err}
use Rattle.std.specs.List.{All, AllByRecursion, flat_map, list_all}
use Rattle.std.proofs.lemmas.Bool.{and_from}
use Rattle.std.proofs.lemmas.List.Elements.{All-from_recursion, recursion_from_All}
use Rattle.zac_arch.specs.Architecture.{Architecture}
use Rattle.zac_arch.specs.declared.place.TrapId.{TrapId}
use Rattle.zac_gates.specs.Log.{Entry, Realises}
use Rattle.zac_gates.specs.Ops.{NativeCircuit}
use Rattle.zac_place.specs.Homes.{AreApartInStorage}
use Rattle.zac_sched.specs.Exchange.{AreTidy, AreTidySteps, IsTidyProgram}
use Rattle.zac_sched.specs.Schedule.{AreNext, IsSchedule, start}
use Rattle.zac_sched.specs.Todos.{IsOfCard, NamesQubitsBelow, act_on}
use Rattle.zac_sched.specs.declared.todo.Todo.{Todo}
use Rattle.zac_sched.specs.declared.todo.Todo.TheVariants.{Gates, Job, Readout, Rydberg}
use Rattle.zac_stage.specs.Staging.{Staging}
use Rattle.zair_form.specs.Ranges.{ActFits, ProgramFits}
use Rattle.zair_form.specs.Steps.{has_own_steps, is_init, may_follow, steps_of}
use Rattle.zair_form.specs.Times.{HasLength}
use Rattle.zair_form.specs.declared.program.Act.{Act}
use Rattle.zair_form.specs.declared.program.Instr.{Instr}
use Rattle.zair_state.specs.Moves.{MovesGoSomewhere}
use Rattle.zair_state.specs.Homes.{AreHomes}
use Rattle.zair_state.specs.Performs.{listed_steps}
use Rattle.zair_state.specs.Resources.{AreApart}
use Rattle.zair_state.specs.Run.{after_all, log_of}
use Rattle.zair_state.specs.State.{State, opening}
use Rattle.zac_plan.specs.Growth.{FitsOnEach, IsStagingOf}
use Rattle.zac_plan.specs.Leading.{LeadOn}
use Rattle.zac_plan.specs.Plan.{IsPlan}
use Rattle.zac_plan.proofs.Jobs.{job_own}
use Rattle.zac_plan.proofs.Logs.{AreOnes, ArePairs, entries_at, log_of-append, performed, plan_log, same_log, steps_on_first, todo_log}
use Rattle.zac_plan.proofs.Turns.{pulses_are_pairs, slots_are_ones, stages_realise}

-- homes apart in storage are homes
pub are_homes : (a : Architecture) (n : ℕ) (homes : List TrapId) → AreApartInStorage a n homes → AreHomes a n homes
are_homes a n homes h = record {
  each = h.each;
  in_storage = h.in_storage;
  distinct = λ i j d before within e. h.distinct i j d before within (ap (λ (t : TrapId). t.0) e);
}

-- what is to be done may stand behind the homes
follows : (aod : ℕ) (todo : Todo) → IsTrue (not (is_init (act_on aod todo)) && has_own_steps (act_on aod todo))
follows aod (Gates ones) = refl
follows aod (Rydberg pairs) = refl
follows aod (Job job) = job_own job.card job.shifts aod
follows aod (Readout reads) = refl

-- What is known of instructions that do, one after another, what is to be done.
module _ (a : Architecture) where
  all_follow : (earlier : List Instr) (todo : List Todo) (instrs : List Instr) → AreNext a earlier todo instrs → IsTrue (list_all may_follow instrs)
  all_follow earlier [] instrs next = subst (λ (l : List Instr). IsTrue (list_all may_follow l)) (sym next) refl
  all_follow earlier (t ∷ ts) [] next = absurd next
  all_follow earlier (t ∷ ts) (i ∷ is) next =
      and_from (may_follow i) (list_all may_follow is)
      (subst (λ (act : Act). IsTrue (not (is_init act) && has_own_steps act)) (sym next.0.does) (follows next.0.aod t))
      (all_follow (earlier ++ i ∷ []) ts is next.1)

  all_last : (earlier : List Instr) (todo : List Todo) (instrs : List Instr) → AreNext a earlier todo instrs → AllByRecursion (HasLength a.figures) instrs
  all_last earlier [] instrs next = subst (AllByRecursion (HasLength a.figures)) (sym next) tt
  all_last earlier (t ∷ ts) [] next = absurd next
  all_last earlier (t ∷ ts) (i ∷ is) next = (next.0.lasts, all_last (earlier ++ i ∷ []) ts is next.1)

  all_move : (earlier : List Instr) (todo : List Todo) (instrs : List Instr) (before behind : List TrapId) → AreNext a earlier todo instrs → LeadOn a before todo behind →
      AllByRecursion (λ (i : Instr). MovesGoSomewhere i.act) instrs
  all_move earlier [] instrs before behind next lead = subst (AllByRecursion (λ (i : Instr). MovesGoSomewhere i.act)) (sym next) tt
  all_move earlier (t ∷ ts) [] before behind next lead = absurd next
  all_move earlier (t ∷ ts) (i ∷ is) before behind next lead =
      (subst MovesGoSomewhere (sym next.0.does) (lead.1.moves next.0.aod), all_move (earlier ++ i ∷ []) ts is lead.0 behind next.1 lead.2)

  all_tidy : (earlier : List Instr) (todo : List Todo) (instrs : List Instr) (before behind : List TrapId) → AreNext a earlier todo instrs → LeadOn a before todo behind →
      AreTidy a (opening a before) instrs
  all_tidy earlier [] instrs before behind next lead = subst (AreTidy a (opening a before)) (sym next) tt
  all_tidy earlier (t ∷ ts) [] before behind next lead = absurd next
  all_tidy earlier (t ∷ ts) (i ∷ is) before behind next lead =
      let aod : ℕ = next.0.aod in
      let known = next.0.free_first.known in
      let ends : after_all (opening a before) (steps_of i.act) ≡ opening a lead.0 =
      ap (λ (act : Act). after_all (opening a before) (steps_of act)) next.0.does ∙ lead.1.ends aod known in (
        subst (λ (act : Act). AreTidySteps a (opening a before) act (steps_of act)) (sym next.0.does) (lead.1.tidy aod known),
        subst (λ (s : State). AreTidy a s is) (sym ends) (all_tidy (earlier ++ i ∷ []) ts is lead.0 behind next.1 lead.2),
      )

  all_log : (earlier : List Instr) (todo : List Todo) (instrs : List Instr) → AreNext a earlier todo instrs → log_of (listed_steps instrs) ≡ todo_log todo
  all_log earlier [] instrs next = ap (λ (l : List Instr). log_of (listed_steps l)) next
  all_log earlier (t ∷ ts) [] next = absurd next
  all_log earlier (t ∷ ts) (i ∷ is) next =
      log_of-append (steps_of i.act) (listed_steps is)
      ∙ ap (λ (l : List Entry). l ++ log_of (listed_steps is)) (ap (λ (act : Act). log_of (steps_of act)) next.0.does ∙ same_log next.0.aod t)
      ∙ ap (λ (l : List Entry). log_of (steps_of (act_on 0 t)) ++ l) (all_log (earlier ++ i ∷ []) ts is next.1)
      ∙ sym (log_of-append (steps_on_first t) (flat_map steps_on_first ts))

  all_fit : (earlier : List Instr) (todo : List Todo) (instrs : List Instr) → a.figures.aods ≤ 8 → AreNext a earlier todo instrs → AllByRecursion FitsOnEach todo →
      AllByRecursion (λ (i : Instr). ActFits i.act) instrs
  all_fit earlier [] instrs few next fits = subst (AllByRecursion (λ (i : Instr). ActFits i.act)) (sym next) tt
  all_fit earlier (t ∷ ts) [] few next fits = absurd next
  all_fit earlier (t ∷ ts) (i ∷ is) few next fits =
      let known = next.0.free_first.known in
      let id : next.0.aod ≤ 255 = omega arith in
      (subst ActFits (sym next.0.does) (fits.0 next.0.aod id), all_fit (earlier ++ i ∷ []) ts is few next.1 fits.1)

-- a program of these times that does what is in range
fit_together : (last : ℕ) (program : List Instr) → last ≤ 4000000000000000000 → AllByRecursion (λ (i : Instr). (i.begin ≤ i.end) × (i.end ≤ last)) program →
    AllByRecursion (λ (i : Instr). ActFits i.act) program → ProgramFits program
fit_together last [] soon times acts = tt
fit_together last (i ∷ is) soon times acts =
    let rises : i.begin ≤ i.end = times.0.0 in
    let ends : i.end ≤ last = times.0.1 in
    (record { rises = rises; ends = omega arith; act = acts.0 }, fit_together last is soon times.1 acts.1)

-- What is said of the schedule of what is to be done.
module _ (a : Architecture) (homes : List TrapId) (todo : List Todo) (program : List Instr) (schedule : IsSchedule a homes todo program) where
  pub schedule_fits : a.figures.aods ≤ 8 → ActFits (start homes).act → AllByRecursion FitsOnEach todo → (steps : ℕ) → steps ≤ 16000000 →
      All (λ (i : Instr). (i.begin ≤ i.end) × (i.end ≤ 1000000000 * steps)) program → ProgramFits program
  schedule_fits few at_home fits steps some ends =
      fit_together (1000000000 * steps) program (omega arith) (recursion_from_All (λ (i : Instr). (i.begin ≤ i.end) × (i.end ≤ 1000000000 * steps)) program ends)
      (subst (AllByRecursion (λ (i : Instr). ActFits i.act)) (sym schedule.starts) (at_home, all_fit a (start homes ∷ []) todo schedule.instrs few schedule.next fits))

  module _ (c : NativeCircuit) (s : Staging) (of : IsStagingOf a c s) (plan : IsPlan a c homes s.gates s.pairs todo) where
    log : todo_log todo ≡ entries_at c.ops (performed c.ops s.gates s.pairs)
    log =
        ap todo_log plan.todo_is
        ∙ plan_log a c.ops homes s.gates s.pairs plan.rounds plan.rounds_are
        (subst (λ (d : NativeCircuit). AllByRecursion (AreOnes d.ops) s.gates) of.circuit (slots_are_ones s of.right))
        (subst (λ (d : NativeCircuit). AllByRecursion (ArePairs d.ops) s.pairs) of.circuit (pulses_are_pairs s of.right))

    realised : Realises c.ops (todo_log todo)
    realised =
        subst (λ (l : List Entry). Realises c.ops l) (sym log)
        (subst (λ (d : NativeCircuit). Realises d.ops (entries_at d.ops (performed d.ops s.gates s.pairs))) of.circuit (stages_realise s of.right of.follow))

    tidy_from_start : (behind : List TrapId) → LeadOn a homes todo behind → AreHomes a c.qubits homes → AreApart a (start homes ∷ schedule.instrs) → IsTidyProgram a c (start homes ∷ schedule.instrs)
    tidy_from_start behind lead at_home apart =
        let instrs : List Instr = schedule.instrs in
        let first : List Instr = start homes ∷ [] in
        record {
          form = all_follow a first todo instrs schedule.next;
          lengths = All-from_recursion (HasLength a.figures) (start homes ∷ instrs) ((0, refl, refl), all_last a first todo instrs schedule.next);
          moves = (tt, all_move a first todo instrs homes behind schedule.next lead);
          apart = apart;
          tidy = (tt, all_tidy a first todo instrs homes behind schedule.next lead);
          realises = subst (λ (l : List Entry). Realises c.ops l) (sym (all_log a first todo instrs schedule.next)) realised;
          homes = at_home;
        }

    -- so it is tidy, where it leads on from the homes
    pub schedule_is_tidy : (behind : List TrapId) → LeadOn a homes todo behind → AreHomes a c.qubits homes → AreApart a program → IsTidyProgram a c program
    schedule_is_tidy behind lead at_home apart =
        subst (IsTidyProgram a c) (sym schedule.starts) (tidy_from_start behind lead at_home (subst (AreApart a) schedule.starts apart))

-- What leads on is of the card, and names qubits that have homes.
pub all_of_card : (a : Architecture) (before behind : List TrapId) (todo : List Todo) → LeadOn a before todo behind → AllByRecursion (IsOfCard a) todo
all_of_card a before behind [] lead = tt
all_of_card a before behind (t ∷ ts) lead = (lead.1.of_card, all_of_card a lead.0 behind ts lead.2)

pub all_named : (a : Architecture) (n : ℕ) (before behind : List TrapId) (todo : List Todo) → length before ≡ n → LeadOn a before todo behind → AllByRecursion (NamesQubitsBelow n) todo
all_named a n before behind [] many lead = tt
all_named a n before behind (t ∷ ts) many lead =
    (subst (λ m. NamesQubitsBelow m t) many lead.1.names, all_named a n lead.0 behind ts (lead.1.as_many ∙ many) lead.2)

-- What is said of homes and of what is to be done holds by other names of them too.
pub by_names : (P : List TrapId → List Todo → Type 0) (homes shown : List TrapId) (todo listed : List Todo) → shown ≡ homes → todo ≡ listed → P shown listed → P homes todo
by_names P homes shown todo listed same is h = subst (λ (l : List TrapId). P l todo) same (subst (P shown) (sym is) h)

-- what follows from two things that hold of a result
pub both_ok : {X E : Type 0} (P Q R : X → Type 0) (r : Result X E) → ((x : X) → P x → Q x → R x) → IfOk r P → IfOk r Q → IfOk r R
both_ok P Q R (Ok x) f p q = f x p q
both_ok P Q R (Err e) f p q = tt
