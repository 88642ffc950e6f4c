-- A replay of the named order, so far and one step more.
use Rattle.std.proofs.Common.{◌≡◌, ℕ, ◌+◌, ◌<◌, ◌≤◌, List, [], ◌∷◌, ◌++◌, length, take, get_or, ap, sym, ◌∙◌, subst, arith}
use Rattle.std.specs.List.{All}
use Rattle.std.proofs.lemmas.Grind.{flat_map-append}
use Rattle.std.proofs.lemmas.List.{append-nil, length-map, take_all}
use Rattle.std.proofs.lemmas.Option.{slice_get_within}
use Rattle.zac_arch.specs.Architecture.{Architecture}
use Rattle.zac_arch.specs.declared.place.TrapId.{TrapId}
use Rattle.zac_gates.specs.declared.circuit.Op.{Op}
use Rattle.zac_gates.specs.Checklist.{IsMissing, IsPerformable}
use Rattle.zac_gates.specs.Log.{Entry, Realises}
use Rattle.zac_gates.specs.Ops.{NativeCircuit}
use Rattle.zair_form.specs.declared.step.Step.{Step}
use Rattle.zair_form.specs.declared.program.Instr.{Instr}
use Rattle.zair_form.specs.Steps.{IsStepAt, homes}
use Rattle.zair_form.specs.Times.{HasLength, Timed}
use Rattle.zair_machine.specs.Machine.{IsWrongHome, Running}
use Rattle.zair_state.specs.FirstFault.{IsFirstFault}
use Rattle.zair_state.specs.Homes.{AreHomes}
use Rattle.zair_state.specs.Legal.{IsLegal}
use Rattle.zair_state.specs.Orders.{IsNamedOrder}
use Rattle.zair_state.specs.Performs.{steps_in}
use Rattle.zair_state.specs.Run.{IsLegalRun, after_all, entries, log_of}
use Rattle.zair_state.specs.State.{opening}
use Rattle.zac_watch.specs.declared.fault.ReplayFault.{ReplayFault}
use Rattle.zac_watch.specs.declared.fault.ReplayFault.TheVariants.{Qubits, Home, Length, Machine, Check, Missing, Memory}
use Rattle.zac_watch.specs.Judging.{AreRefused, IsStepFault, WasDone}
use Rattle.zac_watch.specs.Named.{places_in}
use Rattle.zac_watch.specs.Replaying.{AreRight, IsFirstRefused, IsReplayFault, IsTimely, Replays}
use Rattle.zac_watch.specs.Watching.{IsFirstIllegal}
use Rattle.zac_watch.proofs.RunFacts.{IsRunSoFar, LegalBreaksNothing, at_place, not_legal, one_more_run, right_homes}

-- the steps before this number were done, and their ops performed
pub record IsJudgedSoFar (a : Architecture) (ops : List Op) (program : List Instr) (places : List (ℕ × ℕ)) (k : ℕ) (m : Running) (log : List Entry) : Type 0 where
  pub order : List Timed
  pub named : IsNamedOrder a.figures program order
  pub places_are : places ≡ places_in order
  pub run : IsRunSoFar a program order k m
  pub log_is : log ≡ log_of (take k (steps_in order))
  pub performable : IsPerformable ops log

log_more : (steps : List Step) (s : Step) → log_of (steps ++ s ∷ []) ≡ log_of steps ++ entries s
log_more steps s = flat_map-append entries steps (s ∷ []) ∙ ap (λ (l : List Entry). log_of steps ++ l) (append-nil (entries s))

-- one step more
pub judged_more : (a : Architecture) (ops : List Op) (program : List Instr) (places : List (ℕ × ℕ)) (k : ℕ) (d : ℕ × ℕ) (m m' : Running) (log log' : List Entry) →
    IsJudgedSoFar a ops program places k m log → k < length places →
    ((s : Step) → IsStepAt program (get_or places k d).0 (get_or places k d).1 s → WasDone ops m log s m' log') →
    IsJudgedSoFar a ops program places (k + 1) m' log'
judged_more a ops program places k d m m' log log' so_far within done =
    let found = at_place a.figures program so_far.order places k d so_far.named so_far.places_are within in
    let did = done found.step found.at in
    record {
      order = so_far.order;
      named = so_far.named;
      places_are = so_far.places_are;
      run = one_more_run a program so_far.order k m m' found.step so_far.run found.more did.legal did.machine;
      log_is = did.performed.log_is ∙ ap (λ (l : List Entry). l ++ entries found.step) so_far.log_is ∙ sym (log_more (take k (steps_in so_far.order)) found.step) ∙ ap log_of (sym found.more);
      performable = did.performed.performable;
    }

-- what was found right before the steps
pub record IsFit (a : Architecture) (c : NativeCircuit) (program : List Instr) : Type 0 where
  pub homes_are : AreHomes a c.qubits (homes program)
  pub lengths : All (HasLength a.figures) program

timely_of : (a : Architecture) (c : NativeCircuit) (program : List Instr) (order : List Timed) → IsFit a c program → IsNamedOrder a.figures program order → IsTimely a c program order
timely_of a c program order fit named = record { homes_are = fit.homes_are; lengths = fit.lengths; named = named }

-- a step that isn't right
pub judged_ended : (a : Architecture) (c : NativeCircuit) (program : List Instr) (places : List (ℕ × ℕ)) (k : ℕ) (d : ℕ × ℕ) (m : Running) (log : List Entry) (fault : ReplayFault) →
    LegalBreaksNothing a → IsFit a c program → IsJudgedSoFar a c.ops program places k m log → k < length places →
    ((s : Step) → IsStepAt program (get_or places k d).0 (get_or places k d).1 s → IsStepFault c.ops m log s k fault) →
    IsReplayFault a c program fault
judged_ended a c program places k d m log (Qubits text source) law fit so_far within told =
    let found = at_place a.figures program so_far.order places k d so_far.named so_far.places_are within in
    absurd (told found.step found.at)
judged_ended a c program places k d m log (Home q) law fit so_far within told =
    let found = at_place a.figures program so_far.order places k d so_far.named so_far.places_are within in
    absurd (told found.step found.at)
judged_ended a c program places k d m log (Length i) law fit so_far within told =
    let found = at_place a.figures program so_far.order places k d so_far.named so_far.places_are within in
    absurd (told found.step found.at)
judged_ended a c program places k d m log (Missing op) law fit so_far within told =
    let found = at_place a.figures program so_far.order places k d so_far.named so_far.places_are within in
    absurd (told found.step found.at)
judged_ended a c program places k d m log Memory law fit so_far within told = tt
judged_ended a c program places k d m log (Machine n fault) law fit so_far within told =
    let found = at_place a.figures program so_far.order places k d so_far.named so_far.places_are within in
    let why = told found.step found.at in
    let all : List Step = steps_in so_far.order in
    let is : k ≡ n = sym why.0 in
    let wrong : IsFirstFault a (after_all (opening a (homes program)) (take k all)) found.step fault =
    subst (λ (r : Running). IsFirstFault r.card r.state found.step fault) so_far.run.machine why.1 in
    let illegal : IsFirstIllegal a (opening a (homes program)) all k fault = record {
      step = found.step;
      here = found.here;
      before = so_far.run.legal;
      illegal = not_legal a (after_all (opening a (homes program)) (take k all)) found.step fault law wrong;
      wrong = wrong;
    } in (
      so_far.order,
      timely_of a c program so_far.order fit so_far.named,
      subst (λ (i : ℕ). IsPerformable c.ops (log_of (take i all))) is (subst (IsPerformable c.ops) so_far.log_is so_far.performable),
      subst (λ (i : ℕ). IsFirstIllegal a (opening a (homes program)) all i fault) is illegal,
    )
judged_ended a c program places k d m log (Check n fault) law fit so_far within told =
    let found = at_place a.figures program so_far.order places k d so_far.named so_far.places_are within in
    let why = told found.step found.at in
    let all : List Step = steps_in so_far.order in
    let refused : IsFirstRefused a c (opening a (homes program)) all k fault = record {
      step = found.step;
      here = found.here;
      before = record { legal = so_far.run.legal; performable = subst (IsPerformable c.ops) so_far.log_is so_far.performable };
      legal = subst (λ (r : Running). IsLegal r.card r.state found.step) so_far.run.machine why.1;
      refused = subst (λ (l : List Entry). AreRefused c.ops l (entries found.step) fault) so_far.log_is why.2;
    } in (
      so_far.order,
      timely_of a c program so_far.order fit so_far.named,
      subst (λ (i : ℕ). IsFirstRefused a c (opening a (homes program)) all i fault) (sym why.0) refused,
    )

-- all steps were judged
pub record AreJudged (a : Architecture) (c : NativeCircuit) (program : List Instr) (places : List (ℕ × ℕ)) (log : List Entry) : Type 0 where
  pub order : List Timed
  pub timely : IsTimely a c program order
  pub right : AreRight a c (opening a (homes program)) (steps_in order)
  pub log_is : log ≡ log_of (steps_in order)
  pub counted : length places ≡ length order

pub judged_whole : (a : Architecture) (c : NativeCircuit) (program : List Instr) (places : List (ℕ × ℕ)) (k : ℕ) (m : Running) (log : List Entry) →
    IsFit a c program → IsJudgedSoFar a c.ops program places k m log → length places ≤ k → AreJudged a c program places log
judged_whole a c program places k m log fit so_far whole =
    let all : List Step = steps_in so_far.order in
    let counted : length places ≡ length so_far.order = ap length so_far.places_are ∙ length-map so_far.order (λ t. (t.instr, t.place)) in
    let long : length all ≡ length places = length-map so_far.order (λ t. t.step) ∙ sym counted in
    let same : take k all ≡ all = take_all k all (omega arith) in
    let log_is : log ≡ log_of all = so_far.log_is ∙ ap log_of same in
    record {
      order = so_far.order;
      timely = timely_of a c program so_far.order fit so_far.named;
      right = record {
        legal = subst (IsLegalRun a (opening a (homes program))) same so_far.run.legal;
        performable = subst (IsPerformable c.ops) log_is so_far.performable;
      };
      log_is = log_is;
      counted = counted;
    }

pub replayed : (a : Architecture) (c : NativeCircuit) (program : List Instr) (places : List (ℕ × ℕ)) (log : List Entry) → AreJudged a c program places log →
    Realises c.ops log → Replays a c program (length places)
replayed a c program places log judged realises = record {
  order = judged.order;
  timely = judged.timely;
  legal = judged.right.legal;
  realises = subst (Realises c.ops) judged.log_is realises;
  counted = judged.counted;
}

pub missed : (a : Architecture) (c : NativeCircuit) (program : List Instr) (places : List (ℕ × ℕ)) (log : List Entry) (op : ℕ) → AreJudged a c program places log →
    IsMissing c.ops log op → IsReplayFault a c program (Missing op)
missed a c program places log op judged missing =
    (judged.order, judged.timely, judged.right, subst (λ (l : List Entry). IsMissing c.ops l op) judged.log_is missing)

-- before the first step
pub none_judged : (ops : List Op) → IsPerformable ops []
none_judged ops k e is = absurd (let w = slice_get_within [] k e is in omega arith)

pub homes_of_qubits : (a : Architecture) (c : NativeCircuit) (program : List Instr) (traps : List TrapId) → traps ≡ homes program → length traps ≡ c.qubits →
    ((q : ℕ) → ¬ IsWrongHome a traps q) → AreHomes a c.qubits (homes program)
homes_of_qubits a c program traps are counted right =
    subst (λ (l : List TrapId). AreHomes a c.qubits l) are (subst (λ (n : ℕ). AreHomes a n traps) counted (right_homes a traps right))

pub fit_of : (a : Architecture) (c : NativeCircuit) (program : List Instr) (traps : List TrapId) (instrs : List Instr) → traps ≡ homes program → length traps ≡ c.qubits →
    ((q : ℕ) → ¬ IsWrongHome a traps q) → instrs ≡ program → All (HasLength a.figures) instrs → IsFit a c program
fit_of a c program traps instrs are counted right same lengths = record {
  homes_are = homes_of_qubits a c program traps are counted right;
  lengths = subst (All (HasLength a.figures)) same lengths;
}
