-- The timed steps of a tidy program run one after another, each tidy where it comes; and only steps of acts that use the
-- laser have entries in the log.
use Rattle.std.proofs.Common.{◌≡◌, ℕ, ◌+◌, ◌⊎◌, true, List, [], ◌∷◌, ◌++◌, refl, sym, ap, ◌∙◌, subst, inl, inr}
use Rattle.std.specs.List.{AllByRecursion, Contains, flat_map}
use Rattle.std.proofs.lemmas.Bool.{false≢true}
use Rattle.std.proofs.lemmas.List.{map-append}
use Rattle.std.proofs.lemmas.List.Elements.{All-contains}
use Rattle.std.proofs.lemmas.List.Sums.{AllPass-from_list_all}
use Rattle.std.specs.Prelude.{IsTrue}
use Rattle.zac_arch.specs.Architecture.{Architecture}
use Rattle.zac_arch.specs.declared.card.Figures.{Figures}
use Rattle.zac_gates.specs.Log.{Entry}
use Rattle.zair_form.specs.declared.program.Act.{Act}
use Rattle.zair_form.specs.declared.program.Act.TheVariants as act
use Rattle.zair_form.specs.declared.program.Instr.{Instr}
use Rattle.zair_form.specs.declared.step.Step.{Step}
use Rattle.zair_form.specs.declared.step.Step.TheVariants.{Activate, Move, Deactivate, One, Pulse, Readout}
use Rattle.zair_form.specs.Steps.{steps_of, has_own_steps, is_step_of}
use Rattle.zair_form.specs.Times.{Timed, AreTimed, AreTimedSteps}
use Rattle.zair_state.specs.Performs.{listed_steps, steps_in}
use Rattle.zair_state.specs.Resources.{Uses}
use Rattle.zair_state.specs.Resources.{Resource as resource}
use Rattle.zair_state.specs.Result.{after}
use Rattle.zair_state.specs.Run.{IsLegalRun, after_all, entries, log_of}
use Rattle.zair_state.specs.State.{State}
use Rattle.zac_sched.specs.Exchange.{IsTidyStep, AreTidySteps, AreTidy}
use Rattle.zac_sched.proofs.Reordering.{Runs, Runs-append, end_of}
use Rattle.zac_sched.proofs.Timing.{AreActs}

-- the timed step is a tidy step of its act in this state
abbrev pub IsTidyAt : Architecture → (ℕ → Act) → State → Timed → Type 0
IsTidyAt a act_of s t = IsTidyStep a s (act_of t.instr) t.step

abbrev pub after_timed : State → Timed → State
after_timed s t = after s t.step

abbrev pub entries_of : Timed → List Entry
entries_of t = entries t.step

-- what timed steps leave, and their log, are those of their steps
pub end_in : (s : State) (ts : List Timed) → end_of after_timed s ts ≡ after_all s (steps_in ts)
end_in s [] = refl
end_in s (t ∷ ts) = end_in (after s t.step) ts

pub log_in : (ts : List Timed) → flat_map entries_of ts ≡ log_of (steps_in ts)
log_in [] = refl
log_in (t ∷ ts) = ap (λ (v : List Entry). entries t.step ++ v) (log_in ts)

-- the timed steps of a program are its steps, in their order
own_listed : (f : Figures) (number : ℕ) (earlier : List Step) (from : ℕ) (ss : List Step) (ts : List Timed) →
    AreTimed f number earlier from ss ts → steps_in ts ≡ ss
own_listed f number earlier from [] [] timed = refl
own_listed f number earlier from [] (t ∷ ts) timed = absurd timed
own_listed f number earlier from (s ∷ ss) [] timed = absurd timed
own_listed f number earlier from (s ∷ ss) (t ∷ ts) timed =
    let first = timed.0.step in
    let rest = own_listed f number (earlier ++ s ∷ []) t.end ss ts timed.1 in
    λ k. first k ∷ rest k

pub all_listed : (f : Figures) (number : ℕ) (program : List Instr) (ts : List Timed) →
    AreTimedSteps f number program ts → steps_in ts ≡ listed_steps program
all_listed f number [] ts timed = ap steps_in timed
all_listed f number (i ∷ is) ts timed =
    let own = own_listed f number [] i.begin (steps_of i.act) timed.0 timed.3 in
    let rest = all_listed f (number + 1) is timed.1 timed.4 in
    ap steps_in timed.2 ∙ map-append (λ (t : Timed). t.step) timed.0 timed.1 ∙ (λ k. own k ++ rest k)

-- the steps of one instruction run
own_run : (a : Architecture) (act_of : ℕ → Act) (number : ℕ) (earlier : List Step) (from : ℕ) (own : Act) (ss : List Step) (ts : List Timed) (s : State) →
    act_of number ≡ own → AreTimed a.figures number earlier from ss ts → AreTidySteps a s own ss → Runs (IsTidyAt a act_of) after_timed s ts
own_run a act_of number earlier from own [] [] s acts timed tidy = tt
own_run a act_of number earlier from own [] (t ∷ ts) s acts timed tidy = absurd timed
own_run a act_of number earlier from own (x ∷ ss) [] s acts timed tidy = absurd timed
own_run a act_of number earlier from own (x ∷ ss) (t ∷ ts) s acts timed tidy =
    let its_step : x ≡ t.step = sym timed.0.step in
    let its_act : own ≡ act_of t.instr = sym (ap act_of timed.0.instr ∙ acts) in
    let rest = own_run a act_of number (earlier ++ x ∷ []) t.end own ss ts (after s x) acts timed.1 tidy.1 in (
      subst (λ (y : Step). IsTidyStep a s (act_of t.instr) y) its_step (subst (λ (u : Act). IsTidyStep a s u x) its_act tidy.0),
      subst (λ (y : Step). Runs (IsTidyAt a act_of) after_timed (after s y) ts) its_step rest,
    )

-- the steps of a program run
pub tidy_run : (a : Architecture) (act_of : ℕ → Act) (number : ℕ) (program : List Instr) (ts : List Timed) (s : State) →
    AreActs act_of number program → AreTimedSteps a.figures number program ts → AreTidy a s program → Runs (IsTidyAt a act_of) after_timed s ts
tidy_run a act_of number [] ts s acts timed tidy = subst (Runs (IsTidyAt a act_of) after_timed s) (sym timed) tt
tidy_run a act_of number (i ∷ is) ts s acts timed tidy =
    let own = own_run a act_of number [] i.begin i.act (steps_of i.act) timed.0 s acts.0 timed.3 tidy.0 in
    let end = end_in s timed.0 ∙ ap (after_all s) (own_listed a.figures number [] i.begin (steps_of i.act) timed.0 timed.3) in
    let rest = tidy_run a act_of (number + 1) is timed.1 (after_all s (steps_of i.act)) acts.1 timed.4 tidy.1 in
    subst (Runs (IsTidyAt a act_of) after_timed s) (sym timed.2)
    (Runs-append (IsTidyAt a act_of) after_timed s timed.0 timed.1 own
    (subst (λ (t : State). Runs (IsTidyAt a act_of) after_timed t timed.1) (sym end) rest))

-- tidy steps are legal
pub legal_in : (a : Architecture) (act_of : ℕ → Act) (s : State) (ts : List Timed) →
    Runs (IsTidyAt a act_of) after_timed s ts → IsLegalRun a s (steps_in ts)
legal_in a act_of s [] run = tt
legal_in a act_of s (t ∷ ts) run = (run.0.legal, legal_in a act_of (after s t.step) ts run.1)

-- a step of an AOD has no entry
none_of_aod : (aod : ℕ) (step : Step) → is_step_of aod step ≡ true → entries step ≡ []
none_of_aod aod (Activate other rows columns atoms) e = refl
none_of_aod aod (Move other rows columns) e = refl
none_of_aod aod (Deactivate other rows columns atoms) e = refl
none_of_aod aod (One gate) e = absurd (false≢true e)
none_of_aod aod (Pulse pairs) e = absurd (false≢true e)
none_of_aod aod (Readout reads) e = absurd (false≢true e)

-- A step of an act has no entry, or the act uses the laser.
pub silent_or_lit : (a : Architecture) (own : Act) (step : Step) → Contains (steps_of own) step → IsTrue (has_own_steps own) →
    (entries step ≡ []) ⊎ Uses a own resource.Laser
silent_or_lit a (act.Init homes) step of_act alone = inr tt
silent_or_lit a (act.Gates ones) step of_act alone = inr tt
silent_or_lit a (act.Rydberg pairs) step of_act alone = inr tt
silent_or_lit a (act.Job aod steps) step of_act alone =
    inl (none_of_aod aod step (All-contains (λ (x : Step). is_step_of aod x ≡ true) steps step (AllPass-from_list_all (is_step_of aod) steps alone) of_act))
silent_or_lit a (act.Readout reads) step of_act alone = inr tt

pub each_silent_or_lit : (a : Architecture) (act_of : ℕ → Act) (s : State) (ts : List Timed) → Runs (IsTidyAt a act_of) after_timed s ts →
    AllByRecursion (λ t. (entries_of t ≡ []) ⊎ Uses a (act_of t.instr) resource.Laser) ts
each_silent_or_lit a act_of s [] run = tt
each_silent_or_lit a act_of s (t ∷ ts) run =
    (silent_or_lit a (act_of t.instr) t.step run.0.of_act run.0.own, each_silent_or_lit a act_of (after s t.step) ts run.1)
