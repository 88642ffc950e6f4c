-- What a change of one partner leaves.
use Rattle.std.proofs.Common.{ℕ, ◌≡◌, ◌≢◌, ◌+◌, ◌<◌, inl, inr, List, Option, Some, None, length, set, sym, ◌∙◌, ap, arith, refl}
use Rattle.std.proofs.lemmas.List.{get_or-set_same, get_or-set_other, get_or_past, length-set}
use Rattle.std.proofs.lemmas.List.Sums.{sum_by-set}
use Rattle.std.proofs.lemmas.Option.{none-some, same_Some}
use Rattle.std.proofs.lemmas.Bool.{cases_eq, cases_lt}
use Rattle.zac_pairing.specs.Pairing.{mate, IsPairing, freed, one_if_free, free_count}

-- who has a partner is in the list
pub mate_in : (xs : List (Option ℕ)) (u v : ℕ) → mate xs u ≡ Some v → u < length xs
mate_in xs u v e =
    elim (cases_lt u (length xs)) [ inl h ↦ h | inr h ↦ absurd (none-some v (sym (get_or_past xs u None h) ∙ e)) ]

pub mate-set_same : (xs : List (Option ℕ)) (u : ℕ) (m : Option ℕ) → u < length xs → mate (set xs u m) u ≡ m
mate-set_same xs u m h = get_or-set_same xs u m None h

pub mate-set_other : (xs : List (Option ℕ)) (u k : ℕ) (m : Option ℕ) → k ≢ u → mate (set xs u m) k ≡ mate xs k
mate-set_other xs u k m h = get_or-set_other xs u k m None h

-- a partner after it was taken from one end stood before
pub mate-freed_before : (xs : List (Option ℕ)) (o : Option ℕ) (k a : ℕ) → mate (freed xs o) k ≡ Some a → mate xs k ≡ Some a
mate-freed_before xs None k a e = e
mate-freed_before xs (Some w) k a e =
    elim (cases_eq k w) [
      | inl s ↦ elim (cases_lt w (length xs)) [
        | inl h ↦ absurd (none-some a (sym (mate-set_same xs w None h) ∙ (ap (mate (set xs w None)) (sym s) ∙ e)))
        | inr h ↦ absurd (none-some a (sym (get_or_past (set xs w None) w None (omega (arith, length-set xs w None))) ∙ (ap (mate (set xs w None)) (sym s) ∙ e)))
      ]
      | inr d ↦ sym (mate-set_other xs w k None d) ∙ e
    ]

pub mate-freed_other : (xs : List (Option ℕ)) (o : Option ℕ) (k : ℕ) → (o ≡ Some k → ⊥) → mate (freed xs o) k ≡ mate xs k
mate-freed_other xs None k d = refl
mate-freed_other xs (Some w) k d = mate-set_other xs w k None (λ s. d (ap Some (sym s)))

pub length-freed : (xs : List (Option ℕ)) (o : Option ℕ) → length (freed xs o) ≡ length xs
length-freed xs None = refl
length-freed xs (Some w) = length-set xs w None

pub mate-freed_same : (xs : List (Option ℕ)) (w : ℕ) → mate (freed xs (Some w)) w ≡ None
mate-freed_same xs w =
    elim (cases_lt w (length xs)) [
      | inl h ↦ mate-set_same xs w None h
      | inr h ↦ get_or_past (set xs w None) w None (omega (arith, length-set xs w None))
    ]

-- the two lists after u took v
module _ (left right : List (Option ℕ)) (u v : ℕ) (pairing : IsPairing left right) (u_in : u < length left) (v_in : v < length right) (free : mate right v ≡ None) where
  there : (a b : ℕ) → mate (set left u (Some v)) a ≡ Some b → mate (set (freed right (mate left u)) v (Some u)) b ≡ Some a
  there a b e = elim (cases_eq a u) [
    | inl s ↦
        let same : v ≡ b = same_Some v b (sym (mate-set_same left u (Some v) u_in) ∙ (ap (mate (set left u (Some v))) (sym s) ∙ e)) in
        ap (mate (set (freed right (mate left u)) v (Some u))) (sym same) ∙ (mate-set_same (freed right (mate left u)) v (Some u) (omega (arith, length-freed right (mate left u))) ∙ ap Some (sym s))
    | inr d ↦
        let was : mate left a ≡ Some b = sym (mate-set_other left u a (Some v) d) ∙ e in
        let back : mate right b ≡ Some a = pairing.there a b was in
        let apart : b ≢ v = λ s. none-some a (sym free ∙ (ap (mate right) (sym s) ∙ back)) in
        let other : mate left u ≡ Some b → ⊥ = λ s. d (same_Some a u (sym back ∙ pairing.there u b s)) in
        mate-set_other (freed right (mate left u)) v b (Some u) apart ∙ (mate-freed_other right (mate left u) b other ∙ back)
  ]

  back : (a b : ℕ) → mate (set (freed right (mate left u)) v (Some u)) b ≡ Some a → mate (set left u (Some v)) a ≡ Some b
  back a b e = elim (cases_eq b v) [
    | inl s ↦
        let same : u ≡ a = same_Some u a (sym (mate-set_same (freed right (mate left u)) v (Some u) (omega (arith, length-freed right (mate left u)))) ∙ (ap (mate (set (freed right (mate left u)) v (Some u))) (sym s) ∙ e)) in
        ap (mate (set left u (Some v))) (sym same) ∙ (mate-set_same left u (Some v) u_in ∙ ap Some (sym s))
    | inr d ↦
        let in_freed : mate (freed right (mate left u)) b ≡ Some a = sym (mate-set_other (freed right (mate left u)) v b (Some u) d) ∙ e in
        let was : mate right b ≡ Some a = mate-freed_before right (mate left u) b a in_freed in
        let there' : mate left a ≡ Some b = pairing.back a b was in
        let apart : a ≢ u = λ s.
        let at_u : mate left u ≡ Some b = ap (mate left) (sym s) ∙ there' in
        none-some a (sym (mate-freed_same right b) ∙ (ap (λ o. mate (freed right o) b) (sym at_u) ∙ in_freed)) in
        mate-set_other left u a (Some v) apart ∙ there'
  ]

  pub IsPairing-joined : IsPairing (set left u (Some v)) (set (freed right (mate left u)) v (Some u))
  IsPairing-joined = record { there = there; back = back }

  -- the right end that u left has no partner
  pub mate-joined_left : (w : ℕ) → mate left u ≡ Some w → mate (set (freed right (mate left u)) v (Some u)) w ≡ None
  mate-joined_left w e =
      let was : mate right w ≡ Some u = pairing.there u w e in
      let apart : w ≢ v = λ s. none-some u (sym free ∙ (ap (mate right) (sym s) ∙ was)) in
      mate-set_other (freed right (mate left u)) v w (Some u) apart ∙ (ap (λ o. mate (freed right o) w) e ∙ mate-freed_same right w)

-- one fewer is free
pub free_count-set_free : (xs : List (Option ℕ)) (u v : ℕ) → u < length xs → mate xs u ≡ None → free_count (set xs u (Some v)) + 1 ≡ free_count xs
free_count-set_free xs u v h e =
    let all : free_count (set xs u (Some v)) + one_if_free (mate xs u) ≡ free_count xs + 0 = sum_by-set one_if_free xs u (Some v) None h in
    let one : one_if_free (mate xs u) ≡ 1 = ap one_if_free e in
    omega arith

-- one more is free
pub free_count-set_none : (xs : List (Option ℕ)) (u v : ℕ) → u < length xs → mate xs u ≡ Some v → free_count (set xs u None) ≡ free_count xs + 1
free_count-set_none xs u v h e =
    let all : free_count (set xs u None) + one_if_free (mate xs u) ≡ free_count xs + 1 = sum_by-set one_if_free xs u None None h in
    let zero : one_if_free (mate xs u) ≡ 0 = ap one_if_free e in
    omega arith

-- the partners of the right ends after u took v
module _ (left right : List (Option ℕ)) (u v : ℕ) (pairing : IsPairing left right) (v_in : v < length right) (free : mate right v ≡ None) where
  pub joined_as_many : (w : ℕ) → mate left u ≡ Some w → free_count (set (freed right (mate left u)) v (Some u)) ≡ free_count right
  joined_as_many w e =
      let was : mate right w ≡ Some u = pairing.there u w e in
      let apart : v ≢ w = λ s. none-some u (sym free ∙ (ap (mate right) s ∙ was)) in
      let more : free_count (set right w None) ≡ free_count right + 1 = free_count-set_none right w u (mate_in right w u was) was in
      let still : mate (set right w None) v ≡ None = mate-set_other right w v None apart ∙ free in
      let fewer : free_count (set (set right w None) v (Some u)) + 1 ≡ free_count (set right w None) = free_count-set_free (set right w None) v u (omega (arith, v_in, length-set {A = Option ℕ} right w None)) still in
      let all : free_count (set (set right w None) v (Some u)) ≡ free_count right = omega arith in
      ap (λ o. free_count (set (freed right o) v (Some u))) e ∙ all

  -- a right end that has no partner afterwards is the one that u left, or had none
  pub joined_kept : (x : ℕ) → mate (set (freed right (mate left u)) v (Some u)) x ≡ None → (mate left u ≡ Some x → ⊥) → (x ≢ v) × (mate right x ≡ None)
  joined_kept x e other =
      let apart : x ≢ v = λ s. none-some u (sym e ∙ (ap (mate (set (freed right (mate left u)) v (Some u))) s ∙ mate-set_same (freed right (mate left u)) v (Some u) (omega (arith, v_in, length-freed right (mate left u))))) in
      (apart, sym (mate-freed_other right (mate left u) x other) ∙ (sym (mate-set_other (freed right (mate left u)) v x (Some u) apart) ∙ e))
