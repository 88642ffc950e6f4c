-- How often items of a list pass a test, counted place by place.
use Rattle.std.proofs.Common.{◌≡◌, ◌≢◌, ℕ, zero, suc, ◌+◌, ◌<◌, ◌≤◌, inl, inr, Bool, true, false, cond, IfSome, Option, Some, None, List, [], ◌∷◌, length, take, get_or, set, min, count_by, refl, sym, ap, ◌∙◌, subst, arith, slice_get, length-set}
use Rattle.std.specs.List.{Contains}
use Rattle.std.proofs.lemmas.Bool.{cases_eq, cases_Bool}
use Rattle.std.proofs.lemmas.Grind.{get_or-set_at}
use Rattle.std.proofs.lemmas.List.{get_or-set_other, take_all}
use Rattle.std.proofs.lemmas.List.Sums.{sum_by-cons, count_by_more_yes, count_by_more_no}
use Rattle.zair_state.proofs.Membership.{contains_none, contains_here, contains_later, contains_cases}
use Rattle.zair_state.proofs.Minima.{Same}
use Rattle.zair_machine.specs.Crossings.{counted}

module _ {X : Type 0} (p : X → Bool) where
  count_head : (x : X) (xs : List X) (b : Bool) → p x ≡ b → count_by p (x ∷ xs) ≡ cond b 1 0 + count_by p xs
  count_head x xs b e = sum_by-cons (λ y. cond (p y) 1 0) x xs ∙ ap (λ (t : Bool). cond t 1 0 + count_by p xs) e

  -- one passes where the count isn't 0
  pub count_some : (xs : List X) → 1 ≤ count_by p xs → (x : X) × Contains xs x × (p x ≡ true)
  count_some [] h = absurd (omega arith)
  count_some (x ∷ xs) h = elim (cases_Bool (p x)) [
    | inl passes ↦ (x, contains_here x xs, passes)
    | inr fails ↦
        let e = count_head x xs false fails in
        let r = count_some xs (omega arith) in
        (r.0, contains_later x r.0 xs r.1, r.2)
  ]

  pub count_once : (xs : List X) (x : X) → Contains xs x → p x ≡ true → 1 ≤ count_by p xs
  count_once [] x h passes = absurd (contains_none x h)
  count_once (y ∷ ys) x h passes = elim (contains_cases y x ys h) [
    | inl same ↦ let e = count_head y ys true (ap p same ∙ passes) in omega arith
    | inr later ↦
        let le = count_once ys x later passes in
        elim (cases_Bool (p y)) [ inl t ↦ (let e = count_head y ys true t in omega arith) | inr f ↦ (let e = count_head y ys false f in omega arith) ]
  ]

  at_place : (xs : List X) (k : ℕ) (x : X) → slice_get xs k ≡ Some x → Contains xs x
  at_place [] k x h = absurd (cc)
  at_place (y ∷ ys) zero x h = let e : y ≡ x = cc in subst (λ z. Contains (y ∷ ys) z) e (contains_here y ys)
  at_place (y ∷ ys) (suc k) x h = contains_later y x ys (at_place ys k x h)

  -- two that pass at two places are counted as two
  pub count_two : (xs : List X) (i j : ℕ) (x y : X) → i < j → slice_get xs i ≡ Some x → slice_get xs j ≡ Some y → p x ≡ true → p y ≡ true → 2 ≤ count_by p xs
  count_two [] i j x y lt h k px py = absurd (cc)
  count_two (z ∷ zs) zero zero x y lt h k px py = absurd (omega arith)
  count_two (z ∷ zs) zero (suc j) x y lt h k px py =
      let same : z ≡ x = cc in
      let e = count_head z zs true (ap p same ∙ px) in
      let le = count_once zs y (at_place zs j y k) py in
      omega arith
  count_two (z ∷ zs) (suc i) zero x y lt h k px py = absurd (omega arith)
  count_two (z ∷ zs) (suc i) (suc j) x y lt h k px py =
      let le = count_two zs i j x y (omega arith) h k px py in
      elim (cases_Bool (p z)) [ inl t ↦ (let e = count_head z zs true t in omega arith) | inr f ↦ (let e = count_head z zs false f in omega arith) ]

  place_at : (xs : List X) (x : X) → Contains xs x → (k : ℕ) × (slice_get xs k ≡ Some x)
  place_at [] x h = absurd (contains_none x h)
  place_at (y ∷ ys) x h = elim (contains_cases y x ys h) [ inl e ↦ (0, ap (λ z. Some z) e) | inr later ↦ let r = place_at ys x later in (suc r.0, r.1) ]

  -- beside one that passes another one does, where two are counted
  pub count_other : (xs : List X) (i : ℕ) (x : X) → slice_get xs i ≡ Some x → p x ≡ true → 2 ≤ count_by p xs → (y : X) × (j : ℕ) × (slice_get xs j ≡ Some y) × (i ≢ j) × (p y ≡ true)
  count_other [] i x h px le = absurd (cc)
  count_other (z ∷ zs) zero x h px le =
      let same : z ≡ x = cc in
      let e = count_head z zs true (ap p same ∙ px) in
      let r = count_some zs (omega arith) in
      let at = place_at zs r.0 r.1 in
      (r.0, suc at.0, at.1, (λ e. absurd (omega arith)), r.2)
  count_other (z ∷ zs) (suc i) x h px le = elim (cases_Bool (p z)) [
    | inl t ↦ (z, 0, refl, (λ e. absurd (omega arith)), t)
    | inr f ↦
        let e = count_head z zs false f in
        let r = count_other zs i x h px (omega arith) in
        (r.0, suc r.1, r.2, (λ e. r.3 (omega arith)), r.4)
  ]

-- for each z with a place, how many of the first items pass its test
module _ {X Z : Type 0} (place : Z → ℕ → Type 0) (test : Z → X → Bool) (xs : List X) where
  abbrev pub CountsTo : ℕ → List ℕ → Type 0
  CountsTo k counts = (z : Z) (n : ℕ) → place z n → get_or counts n 0 ≡ min 2 (count_by (test z) (take k xs))

  pub counts_start : (counts : List ℕ) → ((n : ℕ) → get_or counts n 0 ≡ 0) → CountsTo 0 counts
  counts_start counts clean z n at = clean n

  pub counts_more : (counts : List ℕ) (k : ℕ) (d : X) (o : Option ℕ) → k < length xs → IfSome o (λ n. n < length counts) → ((z : Z) (n : ℕ) → place z n → Same (test z (get_or xs k d) ≡ true) (o ≡ Some n)) → CountsTo k counts → CountsTo (k + 1) (counted o counts)
  counts_more counts k d None lt within same before z n at = elim (cases_Bool (test z (get_or xs k d))) [
    | inl t ↦ (let e = (same z n at).0 t in absurd (cc))
    | inr f ↦ before z n at ∙ ap (min 2) (sym (count_by_more_no (test z) xs k d lt f))
  ]
  counts_more counts k d (Some m) lt within same before z n at = elim (cases_eq n m) as (λ _. get_or (set counts m (min 2 (get_or counts m 0 + 1))) n 0 ≡ min 2 (count_by (test z) (take (k + 1) xs))) [
    | inl e ↦
        let t = (same z n at).1 (ap (λ (i : ℕ). Some i) (sym e)) in
        let more = count_by_more_yes (test z) xs k d lt t in
        let old : get_or counts m 0 ≡ min 2 (count_by (test z) (take k xs)) = ap (λ (i : ℕ). get_or counts i 0) (sym e) ∙ before z n at in
        let new = get_or-set_at counts m n (min 2 (get_or counts m 0 + 1)) 0 e within in
        omega arith
    | inr ne ↦ elim (cases_Bool (test z (get_or xs k d))) [
      | inl t ↦ (let e = (same z n at).0 t in absurd (ne (cc)))
      | inr f ↦ get_or-set_other counts m n (min 2 (get_or counts m 0 + 1)) 0 ne ∙ before z n at ∙ ap (min 2) (sym (count_by_more_no (test z) xs k d lt f))
    ]
  ]

  pub counts_whole : (counts : List ℕ) (k : ℕ) → length xs ≤ k → CountsTo k counts → (z : Z) (n : ℕ) → place z n → get_or counts n 0 ≡ min 2 (count_by (test z) xs)
  counts_whole counts k le h z n at = h z n at ∙ ap (λ l. min 2 (count_by (test z) l)) (take_all k xs le)

pub length_counted : (o : Option ℕ) (counts : List ℕ) → length (counted o counts) ≡ length counts
length_counted None counts = refl
length_counted (Some n) counts = length-set counts n (min 2 (get_or counts n 0 + 1))
