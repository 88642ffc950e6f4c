-- The steps of a job on another AOD.
use Rattle.std.proofs.Common.{◌≡◌, ℕ, suc, ◌+◌, ◌≤◌, List, [], ◌∷◌, ◌++◌, ◌<◌, length, map, take, drop, set, get_or, refl, sym, ap, ◌∙◌, subst, arith}
use Rattle.std.specs.List.{AllByRecursion, flat_map}
use Rattle.std.proofs.lemmas.List.{map-append, length-map, length-take-le, take_more, append_assoc}
use Rattle.std.proofs.Math.Seq.{drop-cons, get_or-append_seam, set-append_seam}
use Rattle.zac_arch.specs.Architecture.{Architecture}
use Rattle.zac_arch.specs.declared.card.Figures.{Figures}
use Rattle.zac_group.specs.declared.shift.Shift.{Shift}
use Rattle.zair_form.specs.Ranges.{StepFits}
use Rattle.zair_form.specs.Times.{rows_set, columns_set, Lasts, LastTogether}
use Rattle.zair_form.specs.declared.step.Beam.{Beam}
use Rattle.zair_form.specs.declared.step.Step.{Step}
use Rattle.zair_form.specs.declared.step.Step.TheVariants.{Activate, Move, Deactivate, One, Pulse, Readout}
use Rattle.zac_aod.specs.Aods.{step_on}
use Rattle.zac_aod.specs.Lines.{rows_of}
use Rattle.zac_aod.specs.Lowering.{Leg, catch_row, move_to, drop_row, loading, flight, unloading, job_steps}
use Rattle.zac_aod.specs.declared.line.Line.{Line}
use Rattle.zac_aod.specs.declared.stage.Stage.TheVariants as stage

abbrev steps_of : List Leg → List Step
steps_of ls = map (λ (leg : Leg). leg.step) ls

loading_on : (a : Architecture) (shifts : List Shift) (m n : ℕ) (rows : List Line) → map (step_on n) (steps_of (loading a shifts m rows)) ≡ steps_of (loading a shifts n rows)
loading_on a shifts m n [] = refl
loading_on a shifts m n (r ∷ []) = refl
loading_on a shifts m n (r ∷ s ∷ rs) =
    ap (λ (l : List Step). catch_row a shifts n r.from ∷ move_to a shifts n (stage.Parked r.from s.from) ∷ l) (loading_on a shifts m n (s ∷ rs))

flight_on : (a : Architecture) (shifts : List Shift) (m n : ℕ) (rows : List Line) → map (step_on n) (steps_of (flight a shifts m rows)) ≡ steps_of (flight a shifts n rows)
flight_on a shifts m n [] = refl
flight_on a shifts m n (r ∷ rs) = refl

unloading_on : (a : Architecture) (shifts : List Shift) (m n : ℕ) (rows : List Line) → map (step_on n) (steps_of (unloading a shifts m rows)) ≡ steps_of (unloading a shifts n rows)
unloading_on a shifts m n [] = refl
unloading_on a shifts m n (r ∷ []) = refl
unloading_on a shifts m n (r ∷ s ∷ rs) =
    ap (λ (l : List Step). drop_row a shifts n r.from ∷ move_to a shifts n (stage.Landed s.from) ∷ l) (unloading_on a shifts m n (s ∷ rs))

parted : (xs ys zs : List Leg) → steps_of (xs ++ ys ++ zs) ≡ steps_of xs ++ steps_of ys ++ steps_of zs
parted xs ys zs = map-append (λ (leg : Leg). leg.step) (xs ++ ys) zs ∙ ap (λ (l : List Step). l ++ steps_of zs) (map-append (λ (leg : Leg). leg.step) xs ys)

parted_on : (n : ℕ) (xs ys zs : List Step) → map (step_on n) (xs ++ ys ++ zs) ≡ map (step_on n) xs ++ map (step_on n) ys ++ map (step_on n) zs
parted_on n xs ys zs = map-append (step_on n) (xs ++ ys) zs ∙ ap (λ (l : List Step). l ++ map (step_on n) zs) (map-append (step_on n) xs ys)

-- the steps of a job, all made ones of another AOD, are those of the job of that AOD
pub job_on : (a : Architecture) (shifts : List Shift) (m n : ℕ) → map (step_on n) (job_steps a shifts m) ≡ job_steps a shifts n
job_on a shifts m n =
    let rows = rows_of a shifts in
    ap (map (step_on n)) (parted (loading a shifts m rows) (flight a shifts m rows) (unloading a shifts m rows))
    ∙ parted_on n (steps_of (loading a shifts m rows)) (steps_of (flight a shifts m rows)) (steps_of (unloading a shifts m rows))
    ∙ ap (λ (l : List Step). l ++ map (step_on n) (steps_of (flight a shifts m rows)) ++ map (step_on n) (steps_of (unloading a shifts m rows))) (loading_on a shifts m n rows)
    ∙ ap (λ (l : List Step). steps_of (loading a shifts n rows) ++ l ++ map (step_on n) (steps_of (unloading a shifts m rows))) (flight_on a shifts m n rows)
    ∙ ap (λ (l : List Step). steps_of (loading a shifts n rows) ++ steps_of (flight a shifts n rows) ++ l) (unloading_on a shifts m n rows)
    ∙ sym (parted (loading a shifts n rows) (flight a shifts n rows) (unloading a shifts n rows))

step_fits_on : (n : ℕ) (s : Step) → n ≤ 255 → StepFits s → StepFits (step_on n s)
step_fits_on n (Activate own rows columns atoms) le h = (le, h.1, h.2, h.3)
step_fits_on n (Move own rows columns) le h = (le, h.1, h.2)
step_fits_on n (Deactivate own rows columns atoms) le h = (le, h.1, h.2, h.3)
step_fits_on n (One gate) le h = h
step_fits_on n (Pulse pairs) le h = h
step_fits_on n (Readout reads) le h = h

pub fits_on : (n : ℕ) (steps : List Step) → n ≤ 255 → AllByRecursion StepFits steps → AllByRecursion StepFits (map (step_on n) steps)
fits_on n [] le h = tt
fits_on n (s ∷ ss) le h = (step_fits_on n s le h.0, fits_on n ss le h.1)

rows_on : (n : ℕ) (s : Step) → rows_set (step_on n s) ≡ rows_set s
rows_on n (Activate own rows columns atoms) = refl
rows_on n (Move own rows columns) = refl
rows_on n (Deactivate own rows columns atoms) = refl
rows_on n (One gate) = refl
rows_on n (Pulse pairs) = refl
rows_on n (Readout reads) = refl

columns_on : (n : ℕ) (s : Step) → columns_set (step_on n s) ≡ columns_set s
columns_on n (Activate own rows columns atoms) = refl
columns_on n (Move own rows columns) = refl
columns_on n (Deactivate own rows columns atoms) = refl
columns_on n (One gate) = refl
columns_on n (Pulse pairs) = refl
columns_on n (Readout reads) = refl

set_on : (f : Step → List Beam) (n : ℕ) → ((s : Step) → f (step_on n s) ≡ f s) → (steps : List Step) → flat_map f (map (step_on n) steps) ≡ flat_map f steps
set_on f n same [] = refl
set_on f n same (s ∷ ss) = ap (λ (l : List Beam). l ++ flat_map f (map (step_on n) ss)) (same s) ∙ ap (λ (l : List Beam). f s ++ l) (set_on f n same ss)

-- earlier steps count by the positions that they give
lasts_after : (f : Figures) (earlier other : List Step) (s : Step) (t : ℕ) → flat_map rows_set earlier ≡ flat_map rows_set other → flat_map columns_set earlier ≡ flat_map columns_set other
    → Lasts f earlier s t → Lasts f other s t
lasts_after f earlier other (Activate own rows columns atoms) t r c h = h
lasts_after f earlier other (Move own rows columns) t r c h = rw (sym r, sym c) h
lasts_after f earlier other (Deactivate own rows columns atoms) t r c h = h
lasts_after f earlier other (One gate) t r c h = h
lasts_after f earlier other (Pulse pairs) t r c h = h
lasts_after f earlier other (Readout reads) t r c h = h

lasts_on : (f : Figures) (n : ℕ) (earlier : List Step) (s : Step) (t : ℕ) → Lasts f earlier s t → Lasts f earlier (step_on n s) t
lasts_on f n earlier (Activate own rows columns atoms) t h = h
lasts_on f n earlier (Move own rows columns) t h = h
lasts_on f n earlier (Deactivate own rows columns atoms) t h = h
lasts_on f n earlier (One gate) t h = h
lasts_on f n earlier (Pulse pairs) t h = h
lasts_on f n earlier (Readout reads) t h = h

pub together_on : (f : Figures) (n : ℕ) (earlier steps : List Step) (t : ℕ) → LastTogether f earlier steps t → LastTogether f (map (step_on n) earlier) (map (step_on n) steps) t
together_on f n earlier [] t h = h
together_on f n earlier (s ∷ ss) t h =
    let own = lasts_after f earlier (map (step_on n) earlier) (step_on n s) h.0 (sym (set_on rows_set n (rows_on n) earlier)) (sym (set_on columns_set n (columns_on n) earlier)) (lasts_on f n earlier s h.0 h.3) in
    let rest = together_on f n (earlier ++ s ∷ []) ss h.1 h.4 in
    (h.0, h.1, h.2, own, subst (λ (l : List Step). LastTogether f l (map (step_on n) ss) h.1) (map-append (step_on n) earlier (s ∷ [])) rest)

-- one step more
pub one_more_on : (n : ℕ) (old now : List Step) (k : ℕ) (d x : Step) → k < length old → now ≡ map (step_on n) (take k old) ++ drop k old → x ≡ step_on n (get_or now k d)
    → set now k x ≡ map (step_on n) (take (k + 1) old) ++ drop (k + 1) old
one_more_on n old now k d x lt e is =
    let done = map (step_on n) (take k old) in
    let y = get_or old k d in
    let len : length done ≡ k = length-map (take k old) (step_on n) ∙ length-take-le k old (omega arith) in
    let next : suc k ≡ k + 1 = omega arith in
    let rest : drop k old ≡ y ∷ drop (k + 1) old = drop-cons old k d lt ∙ ap (λ (j : ℕ). y ∷ drop j old) next in
    let whole : now ≡ done ++ y ∷ drop (k + 1) old = e ∙ ap (λ (l : List Step). done ++ l) rest in
    let read : get_or now k d ≡ y = ap (λ (l : List Step). get_or l k d) whole ∙ subst (λ (j : ℕ). get_or (done ++ y ∷ drop (k + 1) old) j d ≡ y) len (get_or-append_seam done y (drop (k + 1) old) d) in
    let written : set now k x ≡ done ++ x ∷ drop (k + 1) old = ap (λ (l : List Step). set l k x) whole ∙ subst (λ (j : ℕ). set (done ++ y ∷ drop (k + 1) old) j x ≡ done ++ x ∷ drop (k + 1) old) len (set-append_seam done y (drop (k + 1) old) x) in
    let told : x ≡ step_on n y = is ∙ ap (step_on n) read in
    let mapped : map (step_on n) (take (k + 1) old) ≡ done ++ step_on n y ∷ [] = ap (map (step_on n)) (take_more old k d lt) ∙ map-append (step_on n) (take k old) (y ∷ []) in
    written ∙ ap (λ (z : Step). done ++ z ∷ drop (k + 1) old) told ∙ sym (append_assoc done (step_on n y ∷ []) (drop (k + 1) old)) ∙ ap (λ (l : List Step). l ++ drop (k + 1) old) (sym mapped)
