-- Numbers that differ from each other are no more than a list that has them all.
use Rattle.std.proofs.Common.{◌≡◌, ◌≢◌, ℕ, ◌+◌, ◌-◌, ◌<◌, ◌≤◌, inl, inr, List, [], ◌∷◌, length, get_or, sym, ap, ◌∙◌, arith}
use Rattle.std.specs.List.{AllPairs, Contains, remove}
use Rattle.std.proofs.lemmas.Bool.{cases_lt}
use Rattle.std.proofs.lemmas.List.{get_or_default}
use Rattle.std.proofs.lemmas.List.Edits.{length-remove, get_or-remove_below, get_or-remove_above}
use Rattle.zac_plan.proofs.Lists.{contains_here, contains_later, pairs_head, pairs_tail}

-- what isn't taken out is still there
still_contained : (xs : List ℕ) (k y z : ℕ) → k < length xs → get_or xs k y ≡ y → z ≢ y → Contains xs z → Contains (remove xs k) z
still_contained xs k y z k_in at differ c =
    let n : length (remove xs k) + 1 ≡ length xs = length-remove xs k k_in in
    elim (cases_lt c.0 k) [
      | inl l ↦ (c.0, omega arith, get_or-remove_below xs k z c.0 l k_in ∙ c.2)
      | inr l ↦
          let other : c.0 ≢ k = λ s. differ (sym c.2 ∙ (ap (λ i. get_or xs i z) s ∙ (get_or_default xs k z y k_in ∙ at))) in
          let c_in : c.0 < length xs = c.1 in
          let back : c.0 - 1 + 1 ≡ c.0 = omega arith in
          (c.0 - 1, omega arith, get_or-remove_above xs k z (c.0 - 1) (omega arith) k_in ∙ (ap (λ i. get_or xs i z) back ∙ c.2))
    ]

pub no_more_distinct : (ys xs : List ℕ) → AllPairs (λ m n. m ≢ n) ys → ((y : ℕ) → Contains ys y → Contains xs y) → length ys ≤ length xs
no_more_distinct [] xs distinct all = omega arith
no_more_distinct (y ∷ ys) xs distinct all =
    let here : Contains xs y = all y (contains_here y ys) in
    let n : length (remove xs here.0) + 1 ≡ length xs = length-remove xs here.0 here.1 in
    let rest : length ys ≤ length (remove xs here.0) =
    no_more_distinct ys (remove xs here.0) (pairs_tail (λ m n. m ≢ n) y ys distinct)
    (λ z listed. still_contained xs here.0 y z here.1 here.2 (λ e. pairs_head (λ m n. m ≢ n) y ys distinct z listed (sym e)) (all z (contains_later y z ys listed))) in
    omega arith
