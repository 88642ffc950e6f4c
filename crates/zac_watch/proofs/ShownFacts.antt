-- Watches of a panel, shown steps one after another.
use Rattle.std.proofs.Common.{◌≡◌, ◌≢◌, ℕ, zero, suc, ◌+◌, ◌-◌, ◌^◌, ◌<◌, ◌≤◌, inl, inr, min, List, [], ◌∷◌, Some, length, get_or, set, slice_get, refl, ap, sym, ◌∙◌, arith}
use Rattle.std.specs.List.{sum_by}
use Rattle.std.proofs.lemmas.Bool.{cases_lt}
use Rattle.std.proofs.lemmas.List.Sums.{sum_by-cons}
use Rattle.std.proofs.lemmas.Option.{same_Some, slice_get-get_or, slice_get_within}
use Rattle.zair_form.specs.declared.step.Step.{Step}
use Rattle.zac_watch.specs.declared.kind.Kind.{Kind}
use Rattle.zac_watch.specs.Weights.{weight}
use Rattle.zac_watch.specs.Shown.{WereShown, sum_after}

-- the first so many watches were shown these steps, and the others are as before
pub record ArePartlyShown {W : Type 0} (kind : W → Kind) (sum : W → ℕ) (k : ℕ) (old new : List W) (steps : List Step) : Type 0 where
  pub number : length new ≡ length old
  pub done : (i : ℕ) (before after : W) → i < k → slice_get old i ≡ Some before → slice_get new i ≡ Some after →
      (kind after ≡ kind before) × (sum after ≡ sum_after (kind before) (sum before) steps)
  pub left : (i : ℕ) → k ≤ i → slice_get new i ≡ slice_get old i

pub none_shown_yet : {W : Type 0} (kind : W → Kind) (sum : W → ℕ) (old : List W) (steps : List Step) → ArePartlyShown kind sum 0 old old steps
none_shown_yet kind sum old steps = record { number = refl; done = λ i before after lt. absurd (omega arith); left = λ i le. refl }

set_same : {X : Type 0} (xs : List X) (i : ℕ) (y : X) → i < length xs → slice_get (set xs i y) i ≡ Some y
set_same [] i y lt = absurd (omega arith)
set_same (z ∷ zs) zero y lt = refl
set_same (z ∷ zs) (suc i) y lt = set_same zs i y (omega arith)

set_other : {X : Type 0} (xs : List X) (i k : ℕ) (y : X) → k ≢ i → slice_get (set xs i y) k ≡ slice_get xs k
set_other [] i k y ne = refl
set_other (z ∷ zs) zero zero y ne = absurd (ne refl)
set_other (z ∷ zs) zero (suc k) y ne = refl
set_other (z ∷ zs) (suc i) zero y ne = refl
set_other (z ∷ zs) (suc i) (suc k) y ne = set_other zs i k y (λ e. ne (ap suc e))

length_set : {X : Type 0} (xs : List X) (i : ℕ) (y : X) → length (set xs i y) ≡ length xs
length_set [] i y = refl
length_set (z ∷ zs) zero y = refl
length_set (z ∷ zs) (suc i) y = ap suc (length_set zs i y)

-- one watch more was shown the step
pub one_more_watch : {W : Type 0} (kind : W → Kind) (sum : W → ℕ) (k : ℕ) (old new : List W) (s : Step) (d w' : W) →
    ArePartlyShown kind sum k old new (s ∷ []) → k < length new → kind w' ≡ kind (get_or new k d) →
    sum w' ≡ min (2 ^ 128 - 1) (sum (get_or new k d) + weight (kind (get_or new k d)) s) → ArePartlyShown kind sum (k + 1) old (set new k w') (s ∷ [])
one_more_watch {W} kind sum k old new s d w' partly within same_kind new_sum =
    let w : W = get_or new k d in
    record {
      number = length_set new k w' ∙ partly.number;
      done = λ i before after lt old_is new_is. elim (cases_lt i k) as (λ _. (kind after ≡ kind before) × (sum after ≡ sum_after (kind before) (sum before) (s ∷ []))) [
        | inl less ↦ partly.done i before after less old_is (sym (set_other new k i w' (λ e. omega arith)) ∙ new_is)
        | inr more ↦
            let here : i ≡ k = omega arith in
            let at_k : slice_get new k ≡ Some w = slice_get-get_or new k d within in
            let was : w ≡ before = same_Some w before (sym at_k ∙ partly.left k (omega arith) ∙ ap (slice_get old) (sym here) ∙ old_is) in
            let now : w' ≡ after = same_Some w' after (sym (set_same new k w' within) ∙ ap (slice_get (set new k w')) (sym here) ∙ new_is) in
            let weighs : sum_by (weight (kind w)) (s ∷ []) ≡ weight (kind w) s = omega (arith, sum_by-cons (weight (kind w)) s []) in
            let total : sum w' ≡ sum_after (kind w) (sum w) (s ∷ []) = new_sum ∙ ap (λ (n : ℕ). min (2 ^ 128 - 1) (sum w + n)) (sym weighs) in (
              ap kind (sym now) ∙ same_kind ∙ ap kind was,
              ap sum (sym now) ∙ total ∙ ap (λ (v : W). sum_after (kind v) (sum v) (s ∷ [])) was,
            )
      ];
      left = λ i le. set_other new k i w' (λ e. omega arith) ∙ partly.left i (omega arith);
    }

-- all were shown the steps
pub all_shown : {W : Type 0} (kind : W → Kind) (sum : W → ℕ) (k : ℕ) (old new : List W) (steps : List Step) →
    ArePartlyShown kind sum k old new steps → length new ≤ k → WereShown kind sum old new steps
all_shown kind sum k old new steps partly whole = record {
  number = partly.number;
  each = λ i before after old_is new_is. partly.done i before after (omega (arith, slice_get_within new i after new_is)) old_is new_is;
}

-- nothing was shown
pub nothing_shown : {W : Type 0} (kind : W → Kind) (sum : W → ℕ) (old : List W) → WereShown kind sum old old []
nothing_shown {W} kind sum old = record {
  number = refl;
  each = λ i before after old_is new_is.
      let same : after ≡ before = same_Some after before (sym new_is ∙ old_is) in
      (ap kind same, ap sum same);
}
