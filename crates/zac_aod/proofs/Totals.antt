-- How long steps take together, added up one after another.
use Rattle.std.proofs.Common.{◌≡◌, ℕ, zero, suc, ◌+◌, ◌<◌, ◌≤◌, List, [], ◌∷◌, length, take, drop, get_or, refl, sym, subst, arith}
use Rattle.zac_arch.specs.declared.card.Figures.{Figures}
use Rattle.zair_form.specs.Times.{Lasts, LastTogether}
use Rattle.zair_form.specs.declared.step.Step.{Step}
use Rattle.zac_aod.proofs.Gathering.{drop_one, take_more}

drop_all : {X : Type 0} (xs : List X) (k : ℕ) → length xs ≤ k → drop k xs ≡ []
drop_all [] zero le = refl
drop_all [] (suc k) le = refl
drop_all (x ∷ xs) zero le = absurd (omega arith)
drop_all (x ∷ xs) (suc k) le = drop_all xs k (omega arith)

-- with what the steps from here on take, the total so far makes the whole
abbrev pub IsTotal : Figures → List Step → ℕ → ℕ → Type 0
IsTotal f steps k total = (t : ℕ) → LastTogether f (take k steps) (drop k steps) t → LastTogether f [] steps (total + t)

pub total_more : (f : Figures) (steps : List Step) (k : ℕ) (d : Step) (total own : ℕ) → k < length steps → IsTotal f steps k total
    → Lasts f (take k steps) (get_or steps k d) own → IsTotal f steps (k + 1) (total + own)
total_more f steps k d total own lt so_far lasts t h =
    let later = subst (λ (zs : List Step). LastTogether f zs (drop (k + 1) steps) t) (take_more steps k d lt) h in
    let whole : LastTogether f (take k steps) (get_or steps k d ∷ drop (k + 1) steps) (own + t) = (own, t, refl, lasts, later) in
    let e : total + (own + t) ≡ total + own + t = omega arith in
    subst (λ (n : ℕ). LastTogether f [] steps n) e
    (so_far (own + t) (subst (λ (zs : List Step). LastTogether f (take k steps) zs (own + t)) (sym (drop_one steps k d lt)) whole))

pub total_whole : (f : Figures) (steps : List Step) (k total : ℕ) → length steps ≤ k → IsTotal f steps k total → LastTogether f [] steps total
total_whole f steps k total ge so_far =
    let e : total + 0 ≡ total = omega arith in
    subst (λ (n : ℕ). LastTogether f [] steps n) e
    (so_far 0 (subst (λ (zs : List Step). LastTogether f (take k steps) zs 0) (sym (drop_all steps k ge)) refl))
