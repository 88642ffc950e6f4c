-- A program has timed steps, and each takes time where each move goes somewhere: every figure is at least 1.
use Rattle.std.proofs.Common.{◌≡◌, ℕ, zero, suc, ◌+◌, ◌*◌, ◌<◌, ◌≤◌, List, [], ◌∷◌, ◌++◌, length, refl, sym, subst, arith}
use Rattle.std.specs.List.{AllByRecursion, flat_map}
use Rattle.std.proofs.Math.Nat.{mul-pos}
use Rattle.zac_arch.specs.Distances.{IsTimeEnough, IsMoveTime}
use Rattle.zac_arch.specs.Rules.{HasFigureRanges}
use Rattle.zac_arch.specs.declared.card.Figures.{Figures}
use Rattle.zair_form.specs.declared.program.Instr.{Instr}
use Rattle.zair_form.specs.declared.step.Step.{Step}
use Rattle.zair_form.specs.declared.step.Step.TheVariants.{Activate, Move, Deactivate, One, Pulse, Readout}
use Rattle.zair_form.specs.Steps.{steps_of}
use Rattle.zair_form.specs.Times.{Timed, IsTimed, AreTimed, AreTimedSteps, HasLength, Lasts, LastTogether, rows_set, columns_set, greatest_change}
use Rattle.zair_state.specs.Moves.{GoesSomewhere, EachGoesSomewhere, MovesGoSomewhere}
use Rattle.zac_sched.proofs.Later.{all_append}

-- the timed steps of an instruction
timed_of : (f : Figures) (number : ℕ) (earlier : List Step) (from : ℕ) (ss : List Step) (long : ℕ) →
    LastTogether f earlier ss long → (ts : List Timed) × AreTimed f number earlier from ss ts
timed_of f number earlier from [] long together = ([], tt)
timed_of f number earlier from (s ∷ ss) long together =
    let t : Timed = record { instr = number; place = length earlier; step = s; begin = from; end = from + together.0 } in
    let timed : IsTimed f number earlier from s t = record {
      instr = refl;
      place = refl;
      step = refl;
      begin = refl;
      duration = together.0;
      lasts = together.3;
      end = refl;
    } in
    let rest = timed_of f number (earlier ++ s ∷ []) (from + together.0) ss together.1 together.4 in
    (t ∷ rest.0, (timed, rest.1))

-- the timed steps of a program
pub timed_steps_of : (f : Figures) (number : ℕ) (program : List Instr) → AllByRecursion (HasLength f) program →
    (ts : List Timed) × AreTimedSteps f number program ts
timed_steps_of f number [] lengths = ([], refl)
timed_steps_of f number (i ∷ is) lengths =
    let own = timed_of f number [] i.begin (steps_of i.act) lengths.0.0 lengths.0.2 in
    let rest = timed_steps_of f (number + 1) is lengths.1 in
    (own.0 ++ rest.0, (own.0, rest.0, refl, own.1, rest.1))

square_positive : (n : ℕ) → 0 < n → 0 < n * n
square_positive n h = mul-pos h h

squares_positive : (dx dy : ℕ) → 0 < dx + dy → 0 < dx * dx + dy * dy
squares_positive zero dy goes = let square = square_positive dy (omega arith) in omega arith
squares_positive (suc n) dy goes = let square = square_positive (suc n) (omega arith) in omega arith

-- no time at all is not enough for a beam that goes somewhere
not_at_once : (accel dx dy : ℕ) → 0 < dx * dx + dy * dy → ¬ IsTimeEnough accel dx dy 0
not_at_once accel dx dy goes enough = omega (arith, enough)

-- a beam that goes somewhere takes time
move_time_positive : (accel dx dy t : ℕ) → 0 < dx + dy → IsMoveTime accel dx dy t → 0 < t
move_time_positive accel dx dy zero goes time = absurd (not_at_once accel dx dy (squares_positive dx dy goes) time.enough)
move_time_positive accel dx dy (suc n) goes time = omega arith

-- a figure of at least 1 is some time
some_time : (figure t : ℕ) → 1 ≤ figure → t ≡ figure → 0 < t
some_time figure t least same = omega arith

step_takes_time : (f : Figures) → HasFigureRanges f → (earlier : List Step) (s : Step) (t : ℕ) → GoesSomewhere earlier s →
    Lasts f earlier s t → 0 < t
step_takes_time f ranges earlier (Activate aod rows columns atoms) t goes lasts = some_time f.activate t ranges.activate_least lasts
step_takes_time f ranges earlier (Move aod rows columns) t goes lasts =
    move_time_positive f.accel (greatest_change (flat_map columns_set earlier) columns)
    (greatest_change (flat_map rows_set earlier) rows) t goes lasts
step_takes_time f ranges earlier (Deactivate aod rows columns atoms) t goes lasts = some_time f.deactivate t ranges.deactivate_least lasts
step_takes_time f ranges earlier (One gate) t goes lasts = some_time f.one t ranges.one_least lasts
step_takes_time f ranges earlier (Pulse pairs) t goes lasts = some_time f.pulse t ranges.pulse_least lasts
step_takes_time f ranges earlier (Readout reads) t goes lasts = some_time f.readout t ranges.readout_least lasts

-- the timed step ends after it begins
abbrev pub TakesTime : Timed → Type 0
TakesTime t = t.begin < t.end

own_take_time : (f : Figures) → HasFigureRanges f → (number : ℕ) (earlier : List Step) (from : ℕ) (ss : List Step) (ts : List Timed) →
    AreTimed f number earlier from ss ts → EachGoesSomewhere earlier ss → AllByRecursion TakesTime ts
own_take_time f ranges number earlier from [] [] timed goes = tt
own_take_time f ranges number earlier from [] (t ∷ ts) timed goes = absurd timed
own_take_time f ranges number earlier from (s ∷ ss) [] timed goes = absurd timed
own_take_time f ranges number earlier from (s ∷ ss) (t ∷ ts) timed goes =
    let own = timed.0.duration in
    let begin : t.begin ≡ from = timed.0.begin in
    let end : t.end ≡ from + own = timed.0.end in
    let positive = step_takes_time f ranges earlier s own goes.0 timed.0.lasts in
    (omega arith, own_take_time f ranges number (earlier ++ s ∷ []) t.end ss ts timed.1 goes.1)

pub each_takes_time : (f : Figures) → HasFigureRanges f → (number : ℕ) (program : List Instr) (ts : List Timed) →
    AreTimedSteps f number program ts → AllByRecursion (λ i. MovesGoSomewhere i.act) program → AllByRecursion TakesTime ts
each_takes_time f ranges number [] ts timed moves = subst (AllByRecursion TakesTime) (sym timed) tt
each_takes_time f ranges number (i ∷ is) ts timed moves =
    subst (AllByRecursion TakesTime) (sym timed.2)
    (all_append TakesTime timed.0 timed.1
    (own_take_time f ranges number [] i.begin (steps_of i.act) timed.0 timed.3 moves.0)
    (each_takes_time f ranges (number + 1) is timed.1 timed.4 moves.1))
