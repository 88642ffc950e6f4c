-- What one more edge does to the chains.
use Rattle.std.proofs.Common.{ℕ, ◌≡◌, ◌≢◌, ◌+◌, ◌<◌, ◌≤◌, inl, inr, List, [], ◌∷◌, ◌++◌, Option, Some, None, length, set, sym, ◌∙◌, ap, arith, refl}
use Rattle.std.proofs.lemmas.List.{get_or-set_same, get_or-set_other, get_or_push, get_or_append_left}
use Rattle.std.proofs.lemmas.Option.{same_Some}
use Rattle.std.proofs.lemmas.Bool.{cases_eq}
use Rattle.zac_match.specs.Chains.{link, bound, left_end, AreChained}

module _ (given : List (ℕ × ℕ)) (last before : List (Option ℕ)) (n u : ℕ) (chained : AreChained given last before n) (end : left_end given n ≡ u) (len : length before ≡ n) (u_in : u < length last) where
  at_u : link (set last u (Some n)) u ≡ Some n
  at_u = get_or-set_same last u (Some n) None u_in

  at_other : (a : ℕ) → a ≢ u → link (set last u (Some n)) a ≡ link last a
  at_other a d = get_or-set_other last u a (Some n) None d

  before_new : link (before ++ link last u ∷ []) n ≡ link last u
  before_new = get_or_push before (link last u) None n len

  before_old : (e : ℕ) → e < n → link (before ++ link last u ∷ []) e ≡ link before e
  before_old e h = get_or_append_left before (link last u ∷ []) None e (omega arith)

  last_sound : (a e : ℕ) → link (set last u (Some n)) a ≡ Some e → (e < n + 1) × (left_end given e ≡ a)
  last_sound a e h = elim (cases_eq a u) [
    | inl s ↦
        let same : n ≡ e = same_Some n e (sym at_u ∙ (ap (link (set last u (Some n))) (sym s) ∙ h)) in
        (omega arith, ap (left_end given) (sym same) ∙ (end ∙ sym s))
    | inr d ↦ let was = chained.last_sound a e (sym (at_other a d) ∙ h) in (omega (arith, was.0), was.1)
  ]

  last_complete : (k : ℕ) → k < n + 1 → k < bound (link (set last u (Some n)) (left_end given k))
  last_complete k h = elim (cases_eq (left_end given k) u) [
    | inl s ↦
        let all : bound (link (set last u (Some n)) (left_end given k)) ≡ n + 1 = ap (λ a. bound (link (set last u (Some n)) a)) s ∙ ap bound at_u in
        omega arith
    | inr d ↦
        let below : k ≢ n = λ s. d (ap (left_end given) s ∙ end) in
        let was : k < bound (link last (left_end given k)) = chained.last_complete k (omega arith) in
        let same : bound (link (set last u (Some n)) (left_end given k)) ≡ bound (link last (left_end given k)) = ap bound (at_other (left_end given k) d) in
        omega arith
  ]

  before_sound : (e f : ℕ) → e < n + 1 → link (before ++ link last u ∷ []) e ≡ Some f → (f < e) × (left_end given f ≡ left_end given e)
  before_sound e f h m = elim (cases_eq e n) [
    | inl s ↦
        let was = chained.last_sound u f (sym before_new ∙ (ap (link (before ++ link last u ∷ [])) (sym s) ∙ m)) in
        (omega (arith, was.0), was.1 ∙ (sym end ∙ ap (left_end given) (sym s)))
    | inr d ↦ let l : e < n = omega arith in chained.before_sound e f l (sym (before_old e l) ∙ m)
  ]

  before_complete : (e k : ℕ) → e < n + 1 → k < e → left_end given k ≡ left_end given e → k < bound (link (before ++ link last u ∷ []) e)
  before_complete e k h l s = elim (cases_eq e n) [
    | inl t ↦
        let at : left_end given k ≡ u = s ∙ (ap (left_end given) t ∙ end) in
        let was : k < bound (link last (left_end given k)) = chained.last_complete k (omega arith) in
        let same : bound (link (before ++ link last u ∷ []) e) ≡ bound (link last (left_end given k)) = ap (λ x. bound (link (before ++ link last u ∷ []) x)) t ∙ (ap bound before_new ∙ ap (λ a. bound (link last a)) (sym at)) in
        omega arith
    | inr d ↦
        let l' : e < n = omega arith in
        let was : k < bound (link before e) = chained.before_complete e k l' l s in
        let same : bound (link (before ++ link last u ∷ []) e) ≡ bound (link before e) = ap bound (before_old e l') in
        omega arith
  ]

  pub AreChained-push : AreChained given (set last u (Some n)) (before ++ link last u ∷ []) (n + 1)
  AreChained-push = record { last_sound = last_sound; last_complete = last_complete; before_sound = before_sound; before_complete = before_complete }

-- a chain goes down
pub bound_before : (given : List (ℕ × ℕ)) (last before : List (Option ℕ)) (n e : ℕ) → AreChained given last before n → e < n → bound (link before e) ≤ e
bound_before given last before n e chained h = go (link before e) refl
  where
    go : (o : Option ℕ) → link before e ≡ o → bound o ≤ e
    go None s = omega arith
    go (Some f) s = omega (arith, (chained.before_sound e f h s).0)
