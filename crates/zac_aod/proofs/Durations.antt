-- How long the steps of a job take at most.
use Rattle.std.proofs.Common.{◌≡◌, ℕ, ◌+◌, ◌*◌, ◌<◌, ◌≤◌, min, max, Bool, true, false, eqb, suc, if◌then◌else◌, List, [], ◌∷◌, ◌++◌, Option, Some, None, length, map, take, drop, get_or, fold, refl, ap, ◌∙◌, sym, subst, arith, length-append}
use Rattle.std.proofs.lemmas.List.{length-map, take_more, drop_all}
use Rattle.std.proofs.Math.Seq.{drop-cons}
use Rattle.std.specs.List.{flat_map, list_any}
use Rattle.std.specs.Option.{option_map_or}
use Rattle.std.proofs.lemmas.Nat.{mul-le}
use Rattle.zac_arch.specs.Architecture.{Architecture}
use Rattle.zac_arch.specs.Distances.{IsMoveTime, IsTimeEnough, difference}
use Rattle.zac_arch.specs.Rules.{HasFigureRanges}
use Rattle.zac_arch.specs.declared.card.Figures.{Figures}
use Rattle.zac_group.specs.Groups.{count_distinct}
use Rattle.zac_group.specs.declared.shift.Shift.{Shift}
use Rattle.zair_form.specs.Times.{rows_set, columns_set, last_at, change, greatest_change, Lasts, LastTogether}
use Rattle.zair_form.specs.declared.step.Beam.{Beam}
use Rattle.zair_form.specs.declared.step.Step.{Step}
use Rattle.zair_form.specs.declared.step.Step.TheVariants.{Activate, Move, Deactivate, One, Pulse, Readout}
use Rattle.zac_aod.specs.Lines.{rows_of}
use Rattle.zac_aod.specs.Lowering.{Leg, loading, flight, unloading, legs, job_steps}
use Rattle.zac_aod.specs.declared.line.Line.{Line}
use Rattle.zac_aod.proofs.LineFacts.{length_by_source, row_of}

-- no move takes more than a tenth of a second
move_most : (accel dx dy t : ℕ) → 100 ≤ accel → dx ≤ 1000000 → dy ≤ 1000000 → IsMoveTime accel dx dy t → t ≤ 100000000
move_most accel dx dy t accel_least dx_most dy_most h =
    let xx : dx * dx ≤ 1000000 * 1000000 = mul-le dx dx 1000000 1000000 dx_most dx_most in
    let yy : dy * dy ≤ 1000000 * 1000000 = mul-le dy dy 1000000 1000000 dy_most dy_most in
    let aa : 100 * 100 ≤ accel * accel = mul-le 100 100 accel accel accel_least accel_least in
    let enough : IsTimeEnough accel dx dy 100000000 = omega arith in
    h.least 100000000 enough

at_most_if : (o : Option ℕ) (at : ℕ) → option_map_or (λ n. min 1000000 (difference n at)) o 0 ≤ 1000000
at_most_if None at = omega arith
at_most_if (Some n) at = omega arith

change_most : (given : List Beam) (b : Beam) → change given b ≤ 1000000
change_most given b = at_most_if (last_at b.id given) b.at

max_most : (m n most : ℕ) → m ≤ most → n ≤ most → max m n ≤ most
max_most m n most e f = omega arith

changes_most : (given beams : List Beam) (acc : ℕ) → acc ≤ 1000000 → fold max acc (map (change given) beams) ≤ 1000000
changes_most given [] acc le = le
changes_most given (b ∷ beams) acc le = changes_most given beams (max acc (change given b)) (max_most acc (change given b) 1000000 le (change_most given b))

pub lasts_most : (f : Figures) → HasFigureRanges f → (earlier : List Step) (s : Step) (t : ℕ) → Lasts f earlier s t → t ≤ 1000000000
lasts_most f r earlier (Activate aod rows columns atoms) t is = let most = r.activate_most in omega arith
lasts_most f r earlier (Move aod rows columns) t is =
    let most = move_most f.accel (greatest_change (flat_map columns_set earlier) columns) (greatest_change (flat_map rows_set earlier) rows) t r.accel_least
    (changes_most (flat_map columns_set earlier) columns 0 (omega arith)) (changes_most (flat_map rows_set earlier) rows 0 (omega arith)) is in
    omega arith
lasts_most f r earlier (Deactivate aod rows columns atoms) t is = let most = r.deactivate_most in omega arith
lasts_most f r earlier (One gate) t is = let most = r.one_most in omega arith
lasts_most f r earlier (Pulse pairs) t is = let most = r.pulse_most in omega arith
lasts_most f r earlier (Readout reads) t is = let most = r.readout_most in omega arith

together_most : (f : Figures) → HasFigureRanges f → (earlier steps : List Step) (t : ℕ) → LastTogether f earlier steps t → t ≤ 1000000000 * length steps
together_most f r earlier [] t is = omega arith
together_most f r earlier (s ∷ ss) t is =
    let own : is.0 ≤ 1000000000 = lasts_most f r earlier s is.0 is.3 in
    let rest : is.1 ≤ 1000000000 * length ss = together_most f r (earlier ++ s ∷ []) ss is.1 is.4 in
    let sum : t ≡ is.0 + is.1 = is.2 in
    omega arith

-- how many legs there are
loading_length : (a : Architecture) (shifts : List Shift) (aod : ℕ) (rows : List Line) → length (loading a shifts aod rows) + length (flight a shifts aod rows) ≤ 2 * length rows
loading_length a shifts aod [] = omega arith
loading_length a shifts aod (r ∷ []) = omega arith
loading_length a shifts aod (r ∷ s ∷ rs) = let rest = loading_length a shifts aod (s ∷ rs) in omega arith

unloading_length : (a : Architecture) (shifts : List Shift) (aod : ℕ) (rows : List Line) → length (unloading a shifts aod rows) ≤ 2 * length rows
unloading_length a shifts aod [] = omega arith
unloading_length a shifts aod (r ∷ []) = omega arith
unloading_length a shifts aod (r ∷ s ∷ rs) = let rest = unloading_length a shifts aod (s ∷ rs) in omega arith

pub steps_length : (a : Architecture) (shifts : List Shift) (aod : ℕ) → length (job_steps a shifts aod) ≤ 4 * length (rows_of a shifts)
steps_length a shifts aod =
    let rows = rows_of a shifts in
    omega (
      arith,
      length-map (legs a shifts aod) (λ (leg : Leg). leg.step),
      length-append (loading a shifts aod rows ++ flight a shifts aod rows) (unloading a shifts aod rows),
      length-append (loading a shifts aod rows) (flight a shifts aod rows),
      loading_length a shifts aod rows,
      unloading_length a shifts aod rows,
    )

one_more_or_same : (t : Bool) (n m : ℕ) → n ≤ m → (if t then n else n + 1) ≤ suc m
one_more_or_same true n m le = omega arith
one_more_or_same false n m le = omega arith

distinct_most : (ns : List ℕ) → count_distinct ns ≤ length ns
distinct_most [] = omega arith
distinct_most (n ∷ ns) = one_more_or_same (list_any (λ m. eqb m n) ns) (count_distinct ns) (length ns) (distinct_most ns)

rows_most : (a : Architecture) (shifts : List Shift) → length (rows_of a shifts) ≤ length shifts
rows_most a shifts =
    omega (
      arith,
      length_by_source (map (row_of a) shifts),
      distinct_most (map (λ (l : Line). l.from) (map (row_of a) shifts)),
      length-map (map (row_of a) shifts) (λ (l : Line). l.from),
      length-map shifts (row_of a),
    )

pub job_quick : (a : Architecture) → HasFigureRanges a.figures → (shifts : List Shift) (aod t : ℕ) → LastTogether a.figures [] (job_steps a shifts aod) t → t ≤ 4000000000 * length shifts
job_quick a r shifts aod t is =
    omega (arith, together_most a.figures r [] (job_steps a shifts aod) t is, steps_length a shifts aod, rows_most a shifts)

-- one step more of a list that is timed
pub timed_more : (f : Figures) (steps : List Step) (k total own : ℕ) (d : Step) → k < length steps → Lasts f (take k steps) (get_or steps k d) own
    → ((t : ℕ) → LastTogether f (take k steps) (drop k steps) t → LastTogether f [] steps (total + t))
    → (t : ℕ) → LastTogether f (take (k + 1) steps) (drop (k + 1) steps) t → LastTogether f [] steps (total + own + t)
timed_more f steps k total own d lt lasts so_far t rest =
    let s = get_or steps k d in
    let next : suc k ≡ k + 1 = omega arith in
    let cut : drop k steps ≡ s ∷ drop (k + 1) steps = drop-cons steps k d lt ∙ ap (λ (j : ℕ). s ∷ drop j steps) next in
    let behind : LastTogether f (take k steps ++ s ∷ []) (drop (k + 1) steps) t = subst (λ (l : List Step). LastTogether f l (drop (k + 1) steps) t) (take_more steps k d lt) rest in
    let whole : LastTogether f (take k steps) (s ∷ drop (k + 1) steps) (own + t) = (own, t, refl, lasts, behind) in
    let sum : total + (own + t) ≡ total + own + t = omega arith in
    subst (λ (n : ℕ). LastTogether f [] steps n) sum (so_far (own + t) (subst (λ (l : List Step). LastTogether f (take k steps) l (own + t)) (sym cut) whole))

-- all of a list is timed
pub all_timed : (f : Figures) (steps : List Step) (k total : ℕ) → length steps ≤ k
    → ((t : ℕ) → LastTogether f (take k steps) (drop k steps) t → LastTogether f [] steps (total + t)) → LastTogether f [] steps total
all_timed f steps k total le so_far =
    let none : drop k steps ≡ [] = drop_all k steps le in
    let sum : total + 0 ≡ total = omega arith in
    subst (λ (n : ℕ). LastTogether f [] steps n) sum (so_far 0 (subst (λ (l : List Step). LastTogether f (take k steps) l 0) (sym none) refl))
