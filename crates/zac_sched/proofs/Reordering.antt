-- Orders in which elements change places only where they may: what runs in the one order runs in the other, and comes to
-- the same.
use Rattle.std.proofs.Common.{◌≡◌, ◌⊎◌, List, [], ◌∷◌, ◌++◌, refl, ap, sym, ◌∙◌, subst, inl, inr}
use Rattle.std.specs.List.{AllByRecursion, flat_map}

-- The second list is an order of the first in which each element stands behind those alone that were after it, and that it
-- may change places with.
abbrev pub IsReordering : {A : Type 0} → (A → A → Type 0) → List A → List A → Type 0
IsReordering may [] order = order ≡ []
IsReordering {A} may (x ∷ xs) order =
    (before : List A) × (behind : List A) × (order ≡ before ++ x ∷ behind) × AllByRecursion (may x) before
    × IsReordering may xs (before ++ behind)

-- the state that all of them leave, one after another
abbrev pub end_of : {S A : Type 0} → (S → A → S) → S → List A → S
end_of next s [] = s
end_of next s (x ∷ xs) = end_of next (next s x) xs

module _ {S A : Type 0} (ok : S → A → Type 0) (next : S → A → S) where
  -- each element is fine in the state that those before it leave
  abbrev pub Runs : S → List A → Type 0
  Runs s [] = Unit {0}
  Runs s (x ∷ xs) = ok s x × Runs (next s x) xs

  pub Runs-append : (s : S) (xs ys : List A) → Runs s xs → Runs (end_of next s xs) ys → Runs s (xs ++ ys)
  Runs-append s [] ys first second = second
  Runs-append s (x ∷ xs) ys first second = (first.0, Runs-append (next s x) xs ys first.1 second)

-- two elements that may change places, run one after the other, run the other way round too, with the same end
module _ {S A : Type 0} (ok : S → A → Type 0) (next : S → A → S) (may : A → A → Type 0)
    (exchange : (s : S) (x y : A) → may x y → ok s x → ok (next s x) y →
    ok s y × ok (next s y) x × (next (next s y) x ≡ next (next s x) y)) where
  -- so the first of a run may go behind those that it may change places with
  moved : (s : S) (x : A) (before behind : List A) → ok s x → Runs ok next (next s x) (before ++ behind) → AllByRecursion (may x) before →
      Runs ok next s (before ++ x ∷ behind) × (end_of next s (before ++ x ∷ behind) ≡ end_of next (next s x) (before ++ behind))
  moved s x [] behind here run free = ((here, run), refl)
  moved s x (y ∷ ys) behind here run free =
      let both = exchange s x y free.0 here run.0 in
      let later = subst (λ (t : S). Runs ok next t (ys ++ behind)) (sym both.2) run.1 in
      let rest = moved (next s y) x ys behind both.1 later free.1 in
      ((both.0, rest.0), rest.1 ∙ ap (λ (t : S). end_of next t (ys ++ behind)) both.2)

  pub reordered : (xs order : List A) (s : S) → IsReordering may xs order → Runs ok next s xs →
      Runs ok next s order × (end_of next s order ≡ end_of next s xs)
  reordered [] order s same run = subst (λ (zs : List A). Runs ok next s zs × (end_of next s zs ≡ s)) (sym same) (tt, refl)
  reordered (x ∷ xs) order s same run =
      let rest = reordered xs (same.0 ++ same.1) (next s x) same.4 run.1 in
      let whole = moved s x same.0 same.1 run.0 rest.0 same.3 in
      subst (λ (zs : List A). Runs ok next s zs × (end_of next s zs ≡ end_of next s (x ∷ xs))) (sym same.2)
      (whole.0, whole.1 ∙ rest.1)

module _ {A B : Type 0} (entries : A → List B) where
  -- one of the two has no entry
  abbrev pub OneIsSilent : A → A → Type 0
  OneIsSilent x y = (entries x ≡ []) ⊎ (entries y ≡ [])

  exchanged : (xs ys zs : List B) → (xs ≡ []) ⊎ (ys ≡ []) → ys ++ (xs ++ zs) ≡ xs ++ (ys ++ zs)
  exchanged xs ys zs (inl e) = ap (λ (v : List B). ys ++ (v ++ zs)) e ∙ sym (ap (λ (v : List B). v ++ (ys ++ zs)) e)
  exchanged xs ys zs (inr e) = ap (λ (v : List B). v ++ (xs ++ zs)) e ∙ sym (ap (λ (v : List B). xs ++ (v ++ zs)) e)

  moved_entries : (x : A) (before behind : List A) → AllByRecursion (OneIsSilent x) before →
      flat_map entries (before ++ x ∷ behind) ≡ entries x ++ flat_map entries (before ++ behind)
  moved_entries x [] behind free = refl
  moved_entries x (y ∷ ys) behind free =
      ap (λ (v : List B). entries y ++ v) (moved_entries x ys behind free.1)
      ∙ exchanged (entries x) (entries y) (flat_map entries (ys ++ behind)) free.0

  -- where only those change places of which one has no entry, the entries keep their order
  pub same_entries : (xs order : List A) → IsReordering OneIsSilent xs order → flat_map entries order ≡ flat_map entries xs
  same_entries [] order same = ap (flat_map entries) same
  same_entries (x ∷ xs) order same =
      ap (flat_map entries) same.2 ∙ moved_entries x same.0 same.1 same.3
      ∙ ap (λ (v : List B). entries x ++ v) (same_entries xs (same.0 ++ same.1) same.4)
