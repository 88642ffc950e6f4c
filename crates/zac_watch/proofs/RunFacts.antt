-- Runs of a program's steps in the named order, so far and one step more.
use Rattle.std.proofs.Common.{◌≡◌, ℕ, zero, suc, ◌+◌, ◌<◌, inl, inr, List, [], ◌∷◌, ◌++◌, Some, length, take, get_or, slice_get, refl, ap, sym, ◌∙◌, subst, arith}
use Rattle.std.specs.List.{AllByRecursion}
use Rattle.std.proofs.lemmas.Bool.{cases_lt}
use Rattle.std.proofs.lemmas.List.{length-map, take_more}
use Rattle.std.proofs.lemmas.Option.{same_Some, slice_get-get_or, slice_get_within}
use Rattle.zac_arch.specs.Architecture.{Architecture, storage_count}
use Rattle.zac_arch.specs.declared.place.TrapId.{TrapId}
use Rattle.zac_arch.specs.declared.card.Figures.{Figures}
use Rattle.zair_form.specs.declared.step.Step.{Step}
use Rattle.zair_form.specs.declared.program.Instr.{Instr}
use Rattle.zair_form.specs.Steps.{IsStepAt, homes, steps_of}
use Rattle.zair_form.specs.Times.{Timed, AreTimed, AreTimedSteps}
use Rattle.zair_machine.specs.Machine.{IsWrongHome, Running}
use Rattle.zair_state.specs.declared.fault.MachineFault.{MachineFault}
use Rattle.zair_state.specs.FirstFault.{Breaks, IsFirstFault}
use Rattle.zair_state.specs.Homes.{AreHomes}
use Rattle.zair_state.specs.Legal.{IsLegal}
use Rattle.zair_state.specs.Orders.{IsNamedOrder}
use Rattle.zair_state.specs.Performs.{steps_in}
use Rattle.zair_state.specs.Result.{after}
use Rattle.zair_state.specs.Run.{IsLegalRun, after_all}
use Rattle.zair_state.specs.State.{State, opening}
use Rattle.zair_state.proofs.Ordering.{all_of_order}
use Rattle.zac_watch.specs.Named.{places_in}

-- what a law says of the card: a legal step breaks no condition
abbrev pub LegalBreaksNothing : Architecture → Type 0
LegalBreaksNothing a = (s : State) (step : Step) → IsLegal a s step → (fault : MachineFault) → ¬ Breaks a s step fault

-- so a step with a fault isn't legal
pub not_legal : (a : Architecture) (s : State) (step : Step) (fault : MachineFault) → LegalBreaksNothing a → IsFirstFault a s step fault → ¬ IsLegal a s step
not_legal a s step fault law wrong legal = law s step legal fault wrong.breaks

-- a program has one step at a place
pub one_step_at : (program : List Instr) (instr place : ℕ) (s t : Step) → IsStepAt program instr place s → IsStepAt program instr place t → s ≡ t
one_step_at program instr place s t one other =
    let same : one.0 ≡ other.0 = same_Some one.0 other.0 (sym one.1 ∙ other.1) in
    same_Some s t (sym one.2 ∙ ap (λ (i : Instr). slice_get (steps_of i.act) place) same ∙ other.2)

-- timed steps of an instruction are its steps
get_behind : {X : Type 0} (xs : List X) (y : X) (ys : List X) → slice_get (xs ++ y ∷ ys) (length xs) ≡ Some y
get_behind [] y ys = refl
get_behind (x ∷ xs) y ys = get_behind xs y ys

append_more : {X : Type 0} (xs : List X) (y : X) (ys : List X) → (xs ++ y ∷ []) ++ ys ≡ xs ++ y ∷ ys
append_more [] y ys = refl
append_more {X} (x ∷ xs) y ys = ap (λ (l : List X). x ∷ l) (append_more xs y ys)

timed_at : (f : Figures) (n : ℕ) (earlier : List Step) (from : ℕ) (ss : List Step) (ts : List Timed) → AreTimed f n earlier from ss ts →
    AllByRecursion (λ t. (t.instr ≡ n) × (slice_get (earlier ++ ss) t.place ≡ Some t.step)) ts
timed_at f n earlier from [] [] timed = tt
timed_at f n earlier from [] (t ∷ ts) timed = absurd timed
timed_at f n earlier from (s ∷ ss) [] timed = absurd timed
timed_at f n earlier from (s ∷ ss) (t ∷ ts) timed =
    let here : slice_get (earlier ++ s ∷ ss) t.place ≡ Some t.step =
    ap (slice_get (earlier ++ s ∷ ss)) timed.0.place ∙ get_behind earlier s ss ∙ ap (λ (u : Step). Some u) (sym timed.0.step) in (
      (timed.0.instr, here),
      subst (λ (l : List Step). AllByRecursion (λ t. (t.instr ≡ n) × (slice_get l t.place ≡ Some t.step)) ts) (append_more earlier s ss)
          (timed_at f n (earlier ++ s ∷ []) t.end ss ts timed.1),
    )

all_map : {X : Type 0} (P Q : X → Type 0) (xs : List X) → ((x : X) → P x → Q x) → AllByRecursion P xs → AllByRecursion Q xs
all_map P Q [] f h = tt
all_map P Q (x ∷ xs) f h = (f x h.0, all_map P Q xs f h.1)

all_append : {X : Type 0} (P : X → Type 0) (xs ys : List X) → AllByRecursion P xs → AllByRecursion P ys → AllByRecursion P (xs ++ ys)
all_append P [] ys one other = other
all_append P (x ∷ xs) ys one other = (one.0, all_append P xs ys one.1 other)

steps_at : (f : Figures) (before program : List Instr) (ts : List Timed) → AreTimedSteps f (length before) program ts → AllByRecursion (λ t. IsStepAt (before ++ program) t.instr t.place t.step) ts
steps_at f before [] ts timed = subst (AllByRecursion (λ (t : Timed). IsStepAt (before ++ []) t.instr t.place t.step)) (sym timed) tt
steps_at f before (i ∷ is) ts timed =
    let whole : List Instr = before ++ i ∷ is in
    let own = all_map (λ (t : Timed). (t.instr ≡ length before) × (slice_get (steps_of i.act) t.place ≡ Some t.step)) (λ t. IsStepAt whole t.instr t.place t.step) timed.0
    (λ t h. (i, ap (slice_get whole) h.0 ∙ get_behind before i is, h.1))
    (timed_at f (length before) [] i.begin (steps_of i.act) timed.0 timed.3) in
    let rest = subst (λ (l : List Instr). AllByRecursion (λ (t : Timed). IsStepAt l t.instr t.place t.step) timed.1) (append_more before i is)
    (steps_at f (before ++ i ∷ []) is timed.1 (subst (λ (n : ℕ). AreTimedSteps f n is timed.1) (more before i) timed.4)) in
    subst (AllByRecursion (λ (t : Timed). IsStepAt whole t.instr t.place t.step)) (sym timed.2)
    (all_append (λ (t : Timed). IsStepAt whole t.instr t.place t.step) timed.0 timed.1 own rest)
  where
    more : (xs : List Instr) (x : Instr) → length xs + 1 ≡ length (xs ++ x ∷ [])
    more [] x = refl
    more (y ∷ xs) x = omega (arith, more xs x)

-- each step of the named order is the one at its place
pub order_at : (f : Figures) (program : List Instr) (order : List Timed) → IsNamedOrder f program order → AllByRecursion (λ t. IsStepAt program t.instr t.place t.step) order
order_at f program order named =
    all_of_order (λ t. IsStepAt program t.instr t.place t.step) named.steps order named.same (steps_at f [] program named.steps named.timed)

-- what stands at a place of the named order
pub record IsAtPlace (program : List Instr) (order : List Timed) (k : ℕ) (instr place : ℕ) : Type 0 where
  pub step : Step
  pub here : slice_get (steps_in order) k ≡ Some step
  pub at : IsStepAt program instr place step
  pub more : take (k + 1) (steps_in order) ≡ take k (steps_in order) ++ step ∷ []

at_place_of : (program : List Instr) (order : List Timed) → AllByRecursion (λ t. IsStepAt program t.instr t.place t.step) order → (k : ℕ) (d : ℕ × ℕ) →
    k < length order → (s : Step) × (slice_get (steps_in order) k ≡ Some s) × IsStepAt program (get_or (places_in order) k d).0 (get_or (places_in order) k d).1 s
at_place_of program [] all k d within = absurd (omega arith)
at_place_of program (t ∷ order) all zero d within = (t.step, refl, all.0)
at_place_of program (t ∷ order) all (suc k) d within = at_place_of program order all.1 k d (omega arith)

pub at_place : (f : Figures) (program : List Instr) (order : List Timed) (places : List (ℕ × ℕ)) (k : ℕ) (d : ℕ × ℕ) → IsNamedOrder f program order → places ≡ places_in order →
    k < length places → IsAtPlace program order k (get_or places k d).0 (get_or places k d).1
at_place f program order places k d named are within =
    let long : length places ≡ length order = ap length are ∙ length-map order (λ t. (t.instr, t.place)) in
    let found = at_place_of program order (order_at f program order named) k d (omega arith) in
    let in_steps : k < length (steps_in order) = slice_get_within (steps_in order) k found.0 found.1 in
    let is : get_or (steps_in order) k found.0 ≡ found.0 = same_Some (get_or (steps_in order) k found.0) found.0 (sym (slice_get-get_or (steps_in order) k found.0 in_steps) ∙ found.1) in
    record {
      step = found.0;
      here = found.1;
      at = subst (λ (l : List (ℕ × ℕ)). IsStepAt program (get_or l k d).0 (get_or l k d).1 found.0) (sym are) found.2;
      more = take_more (steps_in order) k found.0 in_steps ∙ ap (λ (s : Step). take k (steps_in order) ++ s ∷ []) is;
    }

-- a legal run and one step more
pub legal_more : (a : Architecture) (s : State) (steps : List Step) (t : Step) → IsLegalRun a s steps → IsLegal a (after_all s steps) t → IsLegalRun a s (steps ++ t ∷ [])
legal_more a s [] t run legal = (legal, tt)
legal_more a s (u ∷ steps) t run legal = (run.0, legal_more a (after s u) steps t run.1 legal)

pub after_more : (s : State) (steps : List Step) (t : Step) → after_all s (steps ++ t ∷ []) ≡ after (after_all s steps) t
after_more s [] t = refl
after_more s (u ∷ steps) t = after_more (after s u) steps t

-- the steps of the order before this number were done on the machine
pub record IsRunSoFar (a : Architecture) (program : List Instr) (order : List Timed) (k : ℕ) (m : Running) : Type 0 where
  pub machine : m ≡ record { card = a; state = after_all (opening a (homes program)) (take k (steps_in order)) }
  pub legal : IsLegalRun a (opening a (homes program)) (take k (steps_in order))

pub none_run : (a : Architecture) (program : List Instr) (order : List Timed) (m : Running) → m ≡ record { card = a; state = opening a (homes program) } → IsRunSoFar a program order 0 m
none_run a program order m is = record { machine = is; legal = tt }

-- the machine's card and state
legal_here : (a : Architecture) (s : State) (m : Running) (t : Step) → m ≡ record { card = a; state = s } → IsLegal m.card m.state t → IsLegal a s t
legal_here a s m t is legal = subst (λ (r : Running). IsLegal r.card r.state t) is legal

pub one_more_run : (a : Architecture) (program : List Instr) (order : List Timed) (k : ℕ) (m m' : Running) (t : Step) → IsRunSoFar a program order k m →
    take (k + 1) (steps_in order) ≡ take k (steps_in order) ++ t ∷ [] → IsLegal m.card m.state t → m' ≡ record { card = m.card; state = after m.state t } → IsRunSoFar a program order (k + 1) m'
one_more_run a program order k m m' t so_far more legal new = record {
  machine =
      new ∙ ap (λ (r : Running). record { card = r.card; state = after r.state t }) so_far.machine
      ∙ ap (λ (s : State). record { card = a; state = s }) (sym (after_more (opening a (homes program)) (take k (steps_in order)) t) ∙ ap (after_all (opening a (homes program))) (sym more));
  legal = subst (IsLegalRun a (opening a (homes program))) (sym more)
      (legal_more a (opening a (homes program)) (take k (steps_in order)) t so_far.legal (legal_here a _ m t so_far.machine legal));
}

-- where no home is wrong, the homes are those of so many qubits
pub right_homes : (a : Architecture) (traps : List TrapId) → ((q : ℕ) → ¬ IsWrongHome a traps q) → AreHomes a (length traps) traps
right_homes a traps right = record {
  each = refl;
  in_storage = λ k d within. elim (cases_lt (get_or traps k d).0 (storage_count a)) [
    | inl lt ↦ lt
    | inr ge ↦ absurd (right k (get_or traps k d, slice_get-get_or traps k d within, inl ge))
  ];
  distinct = λ i j d lt within same.
      right j (
        get_or traps j d,
        slice_get-get_or traps j d within,
        inr (i, lt, slice_get-get_or traps i d (omega arith) ∙ ap (λ (t : TrapId). Some t) same),
      );
}
