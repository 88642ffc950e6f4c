-- How many different numbers a list has: the same for lists with the same numbers.
use Rattle.std.proofs.Common.{◌≡◌, ◌≢◌, ℕ, ◌+◌, ◌≤◌, ◌==◌, ◌||◌, Bool, true, false, inl, inr, not, cond, List, [], ◌∷◌, refl, sym, ap, ◌∙◌, subst, arith}
use Rattle.std.specs.List.{filter, list_any}
use Rattle.std.specs.List.Sorted.{IsPermutation}
use Rattle.std.proofs.lemmas.Bool.{cases_Bool, cases_eq, eq-eqb}
use Rattle.std.proofs.lemmas.Bool.Decides.{Decides-eqb}
use Rattle.std.proofs.lemmas.List.Sorted.{list_any-IsPermutation}
use Rattle.zac_group.specs.Groups.{count_distinct}

-- the list has the number
abbrev pub has : ℕ → List ℕ → Bool
has n ns = list_any (λ m. m == n) ns

-- the list without a number
abbrev without : ℕ → List ℕ → List ℕ
without n ns = filter (λ m. not (m == n)) ns

unequal : (m n : ℕ) → m ≢ n → (m == n) ≡ false
unequal m n ne =
    elim (cases_Bool (m == n)) as (λ _. (m == n) ≡ false) [
      | inl e ↦ absurd (ne ((Decides-eqb m n).0 e))
      | inr e ↦ e
    ]

or_right : (a b : Bool) → b ≡ true → (a || b) ≡ true
or_right true b h = refl
or_right false b h = h

or_left : (a b : Bool) → a ≡ true → (a || b) ≡ true
or_left true b h = refl
or_left false b h = cc

has_without : (n x : ℕ) (ns : List ℕ) → n ≢ x → has n (without x ns) ≡ has n ns
has_without n x [] ne = refl
has_without n x (m ∷ ns) ne =
    let rest = has_without n x ns ne in
    elim (cases_eq m x) as (λ _. has n (without x (m ∷ ns)) ≡ has n (m ∷ ns)) [
      | inl e ↦
          ap (λ b. has n (cond (not b) (m ∷ without x ns) (without x ns))) (eq-eqb m x e)
          ∙ rest ∙ ap (λ b. b || has n ns) (sym (unequal m n (λ f. ne (sym f ∙ e))))
      | inr apart ↦
          ap (λ b. has n (cond (not b) (m ∷ without x ns) (without x ns))) (unequal m x apart)
          ∙ ap (λ b. (m == n) || b) rest
    ]

less_one : (h : Bool) (w c : ℕ) → w + cond h 1 0 ≡ c → w + 1 ≡ cond h c (c + 1)
less_one true w c e = e
less_one false w c e = omega arith

less_none : (h g : Bool) (w c : ℕ) → w + cond h 1 0 ≡ c → cond g w (w + 1) + cond h 1 0 ≡ cond g c (c + 1)
less_none h true w c e = e
less_none h false w c e = omega arith

count_without : (x : ℕ) (ns : List ℕ) → count_distinct (without x ns) + cond (has x ns) 1 0 ≡ count_distinct ns
count_without x [] = refl
count_without x (m ∷ ns) =
    let rest = count_without x ns in
    let w = count_distinct (without x ns) in
    elim (cases_eq m x) as (λ _. count_distinct (without x (m ∷ ns)) + cond (has x (m ∷ ns)) 1 0 ≡ count_distinct (m ∷ ns)) [
      | inl e ↦
          ap (λ b. count_distinct (cond (not b) (m ∷ without x ns) (without x ns)) + cond (b || has x ns) 1 0) (eq-eqb m x e)
          ∙ less_one (has x ns) w (count_distinct ns) rest
          ∙ ap (λ k. cond (has k ns) (count_distinct ns) (count_distinct ns + 1)) (sym e)
      | inr apart ↦
          ap (λ b. count_distinct (cond (not b) (m ∷ without x ns) (without x ns)) + cond (b || has x ns) 1 0) (unequal m x apart)
          ∙ ap (λ b. cond b w (w + 1) + cond (has x ns) 1 0) (has_without m x ns apart)
          ∙ less_none (has x ns) (has m ns) w (count_distinct ns) rest
    ]

count_le : (ms ns : List ℕ) → ((n : ℕ) → has n ms ≡ true → has n ns ≡ true) → count_distinct ms ≤ count_distinct ns
count_le [] ns within = omega arith
count_le (m ∷ ms) ns within =
    elim (cases_Bool (has m ms)) as (λ _. count_distinct (m ∷ ms) ≤ count_distinct ns) [
      | inl there ↦
          subst (λ b. cond b (count_distinct ms) (count_distinct ms + 1) ≤ count_distinct ns) (sym there)
          (count_le ms ns (λ n h. within n (or_right (m == n) (has n ms) h)))
      | inr missing ↦
          let fewer : count_distinct ms ≤ count_distinct (without m ns) =
          count_le ms (without m ns) (λ n h. has_without n m ns (λ e. let same = ap (λ k. has k ms) e in cc) ∙ within n (or_right (m == n) (has n ms) h)) in
          let here : has m ns ≡ true = within m (or_left (m == m) (has m ms) (eq-eqb m m refl)) in
          let counted : count_distinct (without m ns) + 1 ≡ count_distinct ns =
          subst (λ b. count_distinct (without m ns) + cond b 1 0 ≡ count_distinct ns) here (count_without m ns) in
          subst (λ b. cond b (count_distinct ms) (count_distinct ms + 1) ≤ count_distinct ns) (sym missing) (omega arith)
    ]

pub count_same : (ms ns : List ℕ) → ((n : ℕ) → has n ms ≡ has n ns) → count_distinct ms ≡ count_distinct ns
count_same ms ns same =
    let le = count_le ms ns (λ n h. sym (same n) ∙ h) in
    let ge = count_le ns ms (λ n h. same n ∙ h) in
    omega arith

pub count_permutes : (ms ns : List ℕ) → IsPermutation ms ns → count_distinct ms ≡ count_distinct ns
count_permutes ms ns permutes = count_same ms ns (λ n. list_any-IsPermutation (λ m. m == n) ms ns permutes)
