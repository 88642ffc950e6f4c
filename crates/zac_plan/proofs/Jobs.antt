-- The jobs of groups: their steps are those of their AOD, perform no op, and lead from one state at rest to the next,
-- whichever AODs make them.
use Rattle.std.proofs.Common.{◌≡◌, ℕ, suc, ◌<◌, ◌≤◌, List, [], ◌∷◌, ◌++◌, IsTrue, ◌==◌, length, set, take, refl, sym, ap, ◌∙◌, subst, arith, map}
use Rattle.std.specs.List.{AllByRecursion, Contains, list_all}
use Rattle.std.proofs.lemmas.Bool.{and_from, eq-eqb}
use Rattle.std.proofs.lemmas.List.{length-set, map-set}
use Rattle.zac_aod.specs.Lines.{rows_of}
use Rattle.zac_aod.specs.Lowering.{Leg, dropped, flight, job_steps, legs, loading, unloading}
use Rattle.zac_aod.specs.Resources.{HasResources}
use Rattle.zac_aod.specs.Soundness.{IsReady, IsSoundJob, arrived}
use Rattle.zac_arch.specs.Architecture.{Architecture}
use Rattle.zac_arch.specs.Rules.{KeepsRules}
use Rattle.zac_arch.specs.declared.place.TrapId.{TrapId}
use Rattle.zac_arch.proofs.Geometry.{figure_ranges}
use Rattle.zac_gates.specs.Log.{Entry}
use Rattle.zac_group.specs.Groups.{IsGroup, MoveGroup}
use Rattle.zac_group.specs.declared.shift.Shift.{Shift}
use Rattle.zac_sched.specs.Exchange.{AreTidySteps, KeepsToItsTraps}
use Rattle.zac_sched.specs.Todos.{act_on}
use Rattle.zac_sched.specs.declared.todo.Todo.{Todo}
use Rattle.zair_form.specs.Steps.{has_own_steps, is_step_of, steps_of}
use Rattle.zair_form.specs.declared.program.Act.{Act}
use Rattle.zair_form.specs.declared.program.Act.TheVariants as act
use Rattle.zair_form.specs.declared.step.Step.{Step}
use Rattle.zair_state.specs.Moves.{MovesGoSomewhere}
use Rattle.zair_state.specs.Invariant.{IsSound}
use Rattle.zair_state.specs.Result.{after, after_dropping}
use Rattle.zair_state.specs.Run.{IsLegalRun, after_all, entries, log_of}
use Rattle.zair_state.specs.State.{Beams, State, IsAt, opening}
use Rattle.zair_state.specs.declared.place.Place.{Place}
use Rattle.zair_state.specs.declared.place.Place.TheVariants.{Trap}
use Rattle.std.proofs.lemmas.Option.{slice_get_within}
use Rattle.zac_plan.specs.Leading.{LeadOn, Leads}
use Rattle.zac_plan.specs.Plan.{after_shifts, job_of}
use Rattle.zac_plan.specs.Seats.{CanMake}
use Rattle.zac_plan.proofs.Grouping.{all_moves}
use Rattle.zac_plan.proofs.Lists.{all-append, all_from_contains, contained_in_none, contains_here, contains_later}
use Rattle.zac_plan.proofs.Phases.{after_shifts-append, make_first, make_rest}
use Rattle.zac_plan.proofs.Rests.{no_beam, rests_in, rests_only_in}

-- a leg's step is one of this AOD, and performs no op
abbrev IsOwn : ℕ → Leg → Type 0
IsOwn aod leg = IsTrue (is_step_of aod leg.step) × (entries leg.step ≡ [])

loading_own : (a : Architecture) (shifts : List Shift) (aod : ℕ) → IsTrue (aod == aod) → (rows : List _) → AllByRecursion (IsOwn aod) (loading a shifts aod rows)
loading_own a shifts aod own [] = tt
loading_own a shifts aod own (r ∷ []) = ((own, refl), tt)
loading_own a shifts aod own (r ∷ s ∷ rs) = ((own, refl), ((own, refl), loading_own a shifts aod own (s ∷ rs)))

flight_own : (a : Architecture) (shifts : List Shift) (aod : ℕ) → IsTrue (aod == aod) → (rows : List _) → AllByRecursion (IsOwn aod) (flight a shifts aod rows)
flight_own a shifts aod own [] = tt
flight_own a shifts aod own (r ∷ rs) = ((own, refl), tt)

unloading_own : (a : Architecture) (shifts : List Shift) (aod : ℕ) → IsTrue (aod == aod) → (rows : List _) → AllByRecursion (IsOwn aod) (unloading a shifts aod rows)
unloading_own a shifts aod own [] = tt
unloading_own a shifts aod own (r ∷ []) = ((own, refl), tt)
unloading_own a shifts aod own (r ∷ s ∷ rs) = ((own, refl), ((own, refl), unloading_own a shifts aod own (s ∷ rs)))

legs_own : (a : Architecture) (shifts : List Shift) (aod : ℕ) → AllByRecursion (IsOwn aod) (legs a shifts aod)
legs_own a shifts aod =
    let rows = rows_of a shifts in
    let own : IsTrue (aod == aod) = eq-eqb aod aod refl in
    all-append (IsOwn aod) (loading a shifts aod rows ++ flight a shifts aod rows) (unloading a shifts aod rows)
    (all-append (IsOwn aod) (loading a shifts aod rows) (flight a shifts aod rows) (loading_own a shifts aod own rows) (flight_own a shifts aod own rows)) (unloading_own a shifts aod own rows)

own_steps : (aod : ℕ) (ls : List Leg) → AllByRecursion (IsOwn aod) ls → IsTrue (list_all (is_step_of aod) (map (λ (leg : Leg). leg.step) ls))
own_steps aod [] h = refl
own_steps aod (l ∷ ls) h = and_from (is_step_of aod l.step) (list_all (is_step_of aod) (map (λ (leg : Leg). leg.step) ls)) h.0.0 (own_steps aod ls h.1)

no_entries : (aod : ℕ) (ls : List Leg) → AllByRecursion (IsOwn aod) ls → log_of (map (λ (leg : Leg). leg.step) ls) ≡ []
no_entries aod [] h = refl
no_entries aod (l ∷ ls) h = ap (λ (e : List Entry). e ++ log_of (map (λ (leg : Leg). leg.step) ls)) h.0.1 ∙ no_entries aod ls h.1

-- a job has steps of its own AOD alone
pub job_own : (a : Architecture) (shifts : List Shift) (aod : ℕ) → IsTrue (list_all (is_step_of aod) (job_steps a shifts aod))
job_own a shifts aod = own_steps aod (legs a shifts aod) (legs_own a shifts aod)

-- and performs no op
pub job_log : (a : Architecture) (shifts : List Shift) (aod : ℕ) → log_of (job_steps a shifts aod) ≡ []
job_log a shifts aod = no_entries aod (legs a shifts aod) (legs_own a shifts aod)

-- the atoms of shifts are dropped into their targets
places_after : (traps : List TrapId) (shifts : List Shift) →
    after_dropping (map dropped shifts) (map (λ (t : TrapId). Trap t) traps) ≡ map (λ (t : TrapId). Trap t) (after_shifts traps shifts)
places_after traps [] = refl
places_after traps (s ∷ ss) =
    ap (λ (places : List Place). after_dropping (map dropped ss) places) (sym (map-set (λ (t : TrapId). Trap t) traps s.q s.to))
    ∙ places_after (set traps s.q s.to) ss

arrived_is : (a : Architecture) (traps : List TrapId) (shifts : List Shift) → arrived shifts (opening a traps) ≡ opening a (after_shifts traps shifts)
arrived_is a traps shifts = ap (λ (places : List Place). record { places = places; aods = (opening a traps).aods }) (places_after traps shifts)

-- legal steps of an act are tidy where it keeps to its traps behind any number of them
pub tidy_steps : (a : Architecture) (act : Act) (s : State) (steps : List Step) → IsTrue (has_own_steps act) → ((x : Step) → Contains steps x → Contains (steps_of act) x) →
    IsLegalRun a s steps → ((k : ℕ) → k ≤ length steps → KeepsToItsTraps a (after_all s (take k steps)) act) → AreTidySteps a s act steps
tidy_steps a act s [] own of legal keeps = tt
tidy_steps a act s (step ∷ steps) own of legal keeps = (
  record {
    of_act = of step (contains_here step steps);
    own = own;
    legal = legal.0;
    before = keeps 0 (omega arith);
    behind = keeps 1 (omega arith);
  },
  tidy_steps a act (after s step) steps own (λ x listed. of x (contains_later step x steps listed)) legal.1 (λ k within. keeps (suc k) (omega arith)),
)

-- moves put atoms elsewhere, and leave their number
pub as_many_after : (traps : List TrapId) (shifts : List Shift) → length (after_shifts traps shifts) ≡ length traps
as_many_after traps [] = refl
as_many_after traps (s ∷ ss) = as_many_after (set traps s.q s.to) ss ∙ length-set traps s.q s.to

-- What the laws say of the jobs of groups on a card: they are sound, their resources are those of their moves, and in each of
-- their moves some beam goes somewhere.
pub record JobLaws (a : Architecture) : Type 0 where
  pub sound : (shifts : List Shift) (aod : ℕ) → IsGroup (record { card = a; shifts = shifts }) → IsSoundJob a shifts aod (job_steps a shifts aod)
  pub resources : (shifts : List Shift) (aod : ℕ) → IsGroup (record { card = a; shifts = shifts }) → HasResources a shifts aod (job_steps a shifts aod)
  pub moves : (shifts : List Shift) (aod : ℕ) → IsGroup (record { card = a; shifts = shifts }) → MovesGoSomewhere (act.Job aod (job_steps a shifts aod))

module _ (a : Architecture) (rules : KeepsRules a) (laws : JobLaws a) where
  -- a state at rest from which moves can be made is one in which their job can begin
  is_ready : (traps : List TrapId) (shifts : List Shift) (aod : ℕ) → aod < a.figures.aods → IsSound a (opening a traps) → CanMake traps shifts → IsReady a shifts aod (opening a traps)
  is_ready traps shifts aod known sound can_make = record {
    sound = sound;
    known = known;
    idle_aod = no_beam a traps aod;
    at_sources = all_from_contains (λ (s : Shift). IsAt (opening a traps) s.q (Trap s.from)) shifts
        (λ s listed. rests_in a traps s.q s.from (can_make.each s listed).rests);
    empty_targets = all_from_contains (λ (s : Shift). (q : ℕ) → ¬ IsAt (opening a traps) q (Trap s.to)) shifts
        (λ s listed q there. (can_make.each s listed).empty q (rests_only_in a traps q s.to there));
    apart = λ other ne row column in_row in_column.
        absurd (contained_in_none row (subst (λ (b : Beams). Contains b.rows row) (no_beam a traps other) in_row));
  }

  module _ (traps : List TrapId) (shifts : List Shift) (group : IsGroup (record { card = a; shifts = shifts })) (sound : IsSound a (opening a traps)) (can_make : CanMake traps shifts) where
    -- the job keeps to its traps behind any number of its steps
    job_keeps : (aod : ℕ) → aod < a.figures.aods → (k : ℕ) → k ≤ length (job_steps a shifts aod) →
        KeepsToItsTraps a (after_all (opening a traps) (take k (job_steps a shifts aod))) (act.Job aod (job_steps a shifts aod))
    job_keeps aod known k within row column in_rows in_columns =
        let at = (laws.sound shifts aod group).at_grids (opening a traps) k (is_ready traps shifts aod known sound can_make) within row column in_rows in_columns in
        record {
          trap = at.trap;
          used = (laws.resources shifts aod group).own_traps at.trap at.on_grids;
          stands = at.stands;
          stands_at = at.stands_at;
          corner = at.corner;
        }

    -- it leads to where its atoms rest then
    pub job_leads : Leads a traps (job_of a (record { card = a; shifts = shifts })) (after_shifts traps shifts)
    job_leads = record {
      of_card = refl;
      names = all_from_contains (λ (s : Shift). s.q < length traps) shifts (λ s listed. slice_get_within traps s.q s.from (can_make.each s listed).rests);
      as_many = as_many_after traps shifts;
      tidy = λ aod known.
          tidy_steps a (act.Job aod (job_steps a shifts aod)) (opening a traps) (job_steps a shifts aod) (job_own a shifts aod) (λ x listed. listed)
          ((laws.sound shifts aod group).legal (opening a traps) (is_ready traps shifts aod known sound can_make)) (job_keeps aod known);
      ends = λ aod known. (laws.sound shifts aod group).ends (opening a traps) (is_ready traps shifts aod known sound can_make) ∙ arrived_is a traps shifts;
      moves = λ aod. laws.moves shifts aod group;
    }

  module _ (keeps : (s : State) (steps : List Step) → IsSound a s → IsLegalRun a s steps → IsSound a (after_all s steps)) where
    legal_of : (act : Act) (s : State) (steps : List Step) → AreTidySteps a s act steps → IsLegalRun a s steps
    legal_of act s [] tidy = tt
    legal_of act s (step ∷ steps) tidy = (tidy.0.legal, legal_of act (after s step) steps tidy.1)

    -- what leads from a sound state leads to one
    sound_behind_one : (t u : List TrapId) (todo : Todo) → IsSound a (opening a t) → Leads a t todo u → IsSound a (opening a u)
    sound_behind_one t u todo sound leads =
        let known : 0 < a.figures.aods = omega (arith, (figure_ranges a rules).aods_least) in
        subst (IsSound a) (leads.ends 0 known)
        (keeps (opening a t) (steps_of (act_on 0 todo)) sound (legal_of (act_on 0 todo) (opening a t) (steps_of (act_on 0 todo)) (leads.tidy 0 known)))

    pub sound_behind : (t u : List TrapId) (todo : List Todo) → IsSound a (opening a t) → LeadOn a t todo u → IsSound a (opening a u)
    sound_behind t u [] sound lead = subst (λ (l : List TrapId). IsSound a (opening a l)) lead sound
    sound_behind t u (x ∷ xs) sound lead = sound_behind lead.0 u xs (sound_behind_one t lead.0 x sound lead.1) lead.2

    -- the jobs of groups lead to where their atoms rest then
    pub jobs_lead : (traps : List TrapId) (groups : List MoveGroup) → AllByRecursion (λ (g : MoveGroup). g.card ≡ a) groups → AllByRecursion IsGroup groups →
        IsSound a (opening a traps) → CanMake traps (all_moves groups) → LeadOn a traps (map (job_of a) groups) (after_shifts traps (all_moves groups))
    jobs_lead traps [] cards kept sound can_make = refl
    jobs_lead traps (g ∷ gs) cards kept sound can_make =
        let there : List TrapId = after_shifts traps g.shifts in
        let group : IsGroup (record { card = a; shifts = g.shifts }) = subst (λ (c : Architecture). IsGroup (record { card = c; shifts = g.shifts })) cards.0 kept.0 in
        let first = job_leads traps g.shifts group sound (make_first traps g.shifts (all_moves gs) can_make) in
        let later = jobs_lead there gs cards.1 kept.1 (sound_behind_one traps there (job_of a g) sound first) (make_rest traps g.shifts (all_moves gs) can_make) in
        (there, first, subst (λ (t : List TrapId). LeadOn a there (map (job_of a) gs) t) (sym (after_shifts-append traps g.shifts (all_moves gs))) later)
