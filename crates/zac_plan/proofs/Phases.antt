-- Where atoms rest after shifts, and which shifts can be made together.
use Rattle.std.proofs.Common.{◌≡◌, ◌≢◌, ℕ, ◌⊎◌, inl, inr, List, [], ◌∷◌, ◌++◌, Some, set, refl, sym, ap, ◌∙◌, subst, slice_get}
use Rattle.std.specs.List.{AllPairs, Contains}
use Rattle.std.specs.List.Sorted.{IsPermutation}
use Rattle.std.proofs.lemmas.Bool.{cases_eq}
use Rattle.std.proofs.lemmas.List.Elements.{Contains-append_left}
use Rattle.std.proofs.lemmas.List.Sorted.{Contains-permutation, IsPermutation-sym}
use Rattle.zac_arch.specs.declared.place.TrapId.{TrapId}
use Rattle.zair_state.specs.Result.{after}
use Rattle.zac_group.specs.declared.shift.Shift.{Shift}
use Rattle.zac_plan.specs.Plan.{after_shifts}
use Rattle.zac_plan.specs.Seats.{CanMake}
use Rattle.zac_plan.proofs.Lists.{contained_in_none, contains_cases, contains_here, contains_later, pairs_cons, pairs_head, pairs_none, pairs_tail, same_places, slice_get-set_same, slice_get-set_other}
use Rattle.zac_plan.proofs.Shuffled.{atoms_permute, targets_permute}

-- two equal options
some_same : (t u : TrapId) → Some t ≡ Some u → t ≡ u
some_same t u e = cc

-- the first shift leaves the others possible
make_tail : (traps : List TrapId) (s : Shift) (ss : List Shift) → CanMake traps (s ∷ ss) → CanMake (set traps s.q s.to) ss
make_tail traps s ss can_make = record {
  each = λ t in_rest.
      let first = can_make.each s (contains_here s ss) in
      let can = can_make.each t (contains_later s t ss in_rest) in
      let other : s.q ≢ t.q = pairs_head (λ (x y : Shift). x.q ≢ y.q) s ss can_make.atoms t in_rest in
      let elsewhere : s.to ≢ t.to = pairs_head (λ (x y : Shift). x.to ≢ y.to) s ss can_make.targets t in_rest in
      record {
        rests = slice_get-set_other traps s.q t.q s.to (λ e. other (sym e)) ∙ can.rests;
        empty = λ k e. elim (cases_eq k s.q) as (λ _. ⊥) [
          | inl same ↦
              let there = slice_get-set_same traps s.q s.from s.to first.rests in
              elsewhere (some_same s.to t.to (sym there ∙ ap (slice_get (set traps s.q s.to)) (sym same) ∙ e))
          | inr differ ↦ can.empty k (sym (slice_get-set_other traps s.q k s.to differ) ∙ e)
        ];
      };
  atoms = pairs_tail (λ (x y : Shift). x.q ≢ y.q) s ss can_make.atoms;
  targets = pairs_tail (λ (x y : Shift). x.to ≢ y.to) s ss can_make.targets;
}

-- the first shifts of some
pairs_left : (R : Shift → Shift → Type 0) (ss ts : List Shift) → AllPairs R (ss ++ ts) → AllPairs R ss
pairs_left R [] ts h = pairs_none R
pairs_left R (s ∷ ss) ts h =
    pairs_cons R s ss (λ t listed. pairs_head R s (ss ++ ts) h t (Contains-append_left ss ts t listed))
    (pairs_left R ss ts (pairs_tail R s (ss ++ ts) h))

pub make_first : (traps : List TrapId) (ss ts : List Shift) → CanMake traps (ss ++ ts) → CanMake traps ss
make_first traps ss ts can_make = record {
  each = λ s listed. can_make.each s (Contains-append_left ss ts s listed);
  atoms = pairs_left (λ (x y : Shift). x.q ≢ y.q) ss ts can_make.atoms;
  targets = pairs_left (λ (x y : Shift). x.to ≢ y.to) ss ts can_make.targets;
}

-- they leave the others possible
pub make_rest : (traps : List TrapId) (ss ts : List Shift) → CanMake traps (ss ++ ts) → CanMake (after_shifts traps ss) ts
make_rest traps [] ts can_make = can_make
make_rest traps (s ∷ ss) ts can_make = make_rest (set traps s.q s.to) ss ts (make_tail traps s (ss ++ ts) can_make)

pub after_shifts-append : (traps : List TrapId) (ss ts : List Shift) → after_shifts traps (ss ++ ts) ≡ after_shifts (after_shifts traps ss) ts
after_shifts-append traps [] ts = refl
after_shifts-append traps (s ∷ ss) ts = after_shifts-append (set traps s.q s.to) ss ts

-- an atom that no shift names stays
pub after_shifts-other : (traps : List TrapId) (shifts : List Shift) (k : ℕ) → ((s : Shift) → Contains shifts s → s.q ≢ k) →
    slice_get (after_shifts traps shifts) k ≡ slice_get traps k
after_shifts-other traps [] k none = refl
after_shifts-other traps (s ∷ ss) k none =
    after_shifts-other (set traps s.q s.to) ss k (λ t in_rest. none t (contains_later s t ss in_rest))
    ∙ slice_get-set_other traps s.q k s.to (λ e. none s (contains_here s ss) (sym e))

-- an atom that is shifted rests in its target
pub after_shifts-there : (traps : List TrapId) (shifts : List Shift) (s : Shift) (from : TrapId) → AllPairs (λ s t. s.q ≢ t.q) shifts →
    Contains shifts s → slice_get traps s.q ≡ Some from → slice_get (after_shifts traps shifts) s.q ≡ Some s.to
after_shifts-there traps [] s from apart listed rests = absurd (contained_in_none s listed)
after_shifts-there traps (t ∷ ts) s from apart listed rests =
    elim (contains_cases t s ts listed) [
      | inl same ↦
          subst (λ (x : Shift). slice_get (after_shifts (set traps t.q t.to) ts) x.q ≡ Some x.to) same
          (after_shifts-other (set traps t.q t.to) ts t.q (λ u in_rest e. pairs_head (λ (x y : Shift). x.q ≢ y.q) t ts apart u in_rest (sym e))
          ∙ slice_get-set_same traps t.q from t.to (subst (λ (x : Shift). slice_get traps x.q ≡ Some from) (sym same) rests))
      | inr later ↦
          let other : t.q ≢ s.q = pairs_head (λ (x y : Shift). x.q ≢ y.q) t ts apart s later in
          after_shifts-there (set traps t.q t.to) ts s from (pairs_tail (λ (x y : Shift). x.q ≢ y.q) t ts apart) later
          (slice_get-set_other traps t.q s.q t.to (λ e. other (sym e)) ∙ rests)
    ]

-- some shift names the qubit, or none does
pub named_or_not : (shifts : List Shift) (k : ℕ) → ((s : Shift) × Contains shifts s × (s.q ≡ k)) ⊎ ((s : Shift) → Contains shifts s → s.q ≢ k)
named_or_not [] k = inr (λ s listed. absurd (contained_in_none s listed))
named_or_not (s ∷ ss) k = elim (cases_eq s.q k) [
  | inl same ↦ inl (s, contains_here s ss, same)
  | inr differ ↦ elim (named_or_not ss k) [
    | inl found ↦ inl (found.0, contains_later s found.0 ss found.1, found.2)
    | inr none ↦ inr (λ t listed e. elim (contains_cases s t ss listed) [
      | inl same ↦ differ (ap (λ (x : Shift). x.q) same ∙ e)
      | inr later ↦ none t later e
    ])
  ]
]

-- the order of shifts doesn't matter
pub make_permuted : (traps : List TrapId) (ss ts : List Shift) → IsPermutation ss ts → CanMake traps ss → CanMake traps ts
make_permuted traps ss ts permutes can_make = record {
  each = λ s listed. can_make.each s (Contains-permutation ts ss s (IsPermutation-sym ss ts permutes) listed);
  atoms = atoms_permute ss ts permutes can_make.atoms;
  targets = targets_permute ss ts permutes can_make.targets;
}

module _ (traps : List TrapId) (ss ts : List Shift) (permutes : IsPermutation ss ts) (can_make : CanMake traps ss) where
  permuted_at : (k : ℕ) → slice_get (after_shifts traps ss) k ≡ slice_get (after_shifts traps ts) k
  permuted_at k = elim (named_or_not ss k) [
    | inl found ↦
        let s = found.0 in
        let can = can_make.each s found.1 in
        let there = after_shifts-there traps ss s s.from can_make.atoms found.1 can.rests in
        let here = after_shifts-there traps ts s s.from (make_permuted traps ss ts permutes can_make).atoms (Contains-permutation ss ts s permutes found.1) can.rests in
        subst (λ n. slice_get (after_shifts traps ss) n ≡ slice_get (after_shifts traps ts) n) found.2 (there ∙ sym here)
    | inr none ↦
        after_shifts-other traps ss k none
        ∙ sym (after_shifts-other traps ts k (λ s listed. none s (Contains-permutation ts ss s (IsPermutation-sym ss ts permutes) listed)))
  ]

  pub after_permuted : after_shifts traps ss ≡ after_shifts traps ts
  after_permuted = same_places (after_shifts traps ss) (after_shifts traps ts) permuted_at
