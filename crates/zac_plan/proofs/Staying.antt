-- The qubits that stay at a site: those that the two gates of a kept pair share.
use Rattle.std.proofs.Common.{◌≡◌, ◌≢◌, ℕ, ◌⊎◌, inl, inr, ◌==◌, ◌&&◌, true, not, List, [], ◌∷◌, Option, Some, None, sym, ap, ◌∙◌, subst, slice_get}
use Rattle.std.specs.List.{Contains, cons_option}
use Rattle.std.specs.Option.{option_and_then}
use Rattle.std.proofs.lemmas.Bool.{and_parts, cases_Bool, eqb-true, not_from_false, or_cases}
use Rattle.std.proofs.lemmas.List.Elements.{All-contains}
use Rattle.std.proofs.lemmas.List.Folds.{Any-from_list_any}
use Rattle.std.proofs.lemmas.Option.{same_Some}
use Rattle.zac_gates.specs.declared.circuit.Op.{Op}
use Rattle.zac_gates.specs.declared.circuit.Op.TheVariants.{One, Two, Fence, Read}
use Rattle.zac_reuse.specs.Keeping.{IsKeeping, MayKeep}
use Rattle.zair_form.specs.declared.step.PairOf.{PairOf}
use Rattle.zac_plan.specs.Plan.{has_qubit, is_on, leaving, pair_of, pairs_at, qubits_of, stays}
use Rattle.zac_plan.specs.Seats.{IsInPair}
use Rattle.zac_plan.proofs.Distinct.{qubit_listed, related}
use Rattle.zac_plan.proofs.Lists.{contained_in_none, contained_in_one, contains_cases, contains_filter, contains_here, contains_later}
use Rattle.zac_plan.proofs.Staged.{pair_at}

listed_cons : (n : ℕ) (o : Option Op) (p : PairOf) (ps : List PairOf) → o ≡ Some (Two p.a p.b) → n ≡ p.op → Contains (cons_option (option_and_then (pair_of n) o) ps) p
listed_cons n None p ps at same = cc
listed_cons n (Some (One q angles)) p ps at same = cc
listed_cons n (Some (Two a b)) p ps at same =
    let here : Two a b ≡ Two p.a p.b = same_Some (Two a b) (Two p.a p.b) at in
    let first : a ≡ p.a = cc in
    let second : b ≡ p.b = cc in
    let made : PairOf = record { op = n; a = a; b = b } in
    let is : made ≡ p = λ i. record { op = same i; a = first i; b = second i } in
    subst (λ (x : PairOf). Contains (made ∷ ps) x) is (contains_here made ps)
listed_cons n (Some Fence) p ps at same = cc
listed_cons n (Some (Read q bit)) p ps at same = cc

later_cons : (n : ℕ) (o : Option Op) (p : PairOf) (ps : List PairOf) → Contains ps p → Contains (cons_option (option_and_then (pair_of n) o) ps) p
later_cons n None p ps listed = listed
later_cons n (Some (One q angles)) p ps listed = listed
later_cons n (Some (Two a b)) p ps listed = contains_later (record { op = n; a = a; b = b }) p ps listed
later_cons n (Some Fence) p ps listed = listed
later_cons n (Some (Read q bit)) p ps listed = listed

-- the pair of one of the numbers is among the pairs
pub pair_listed : (ops : List Op) (numbers : List ℕ) (p : PairOf) → Contains numbers p.op → slice_get ops p.op ≡ Some (Two p.a p.b) → Contains (pairs_at ops numbers) p
pair_listed ops [] p listed at = absurd (contained_in_none p.op listed)
pair_listed ops (n ∷ ns) p listed at = elim (contains_cases n p.op ns listed) [
  | inl same ↦ listed_cons n (slice_get ops n) p (pairs_at ops ns) (ap (slice_get ops) same ∙ at) same
  | inr later ↦ later_cons n (slice_get ops n) p (pairs_at ops ns) (pair_listed ops ns p later at)
]

-- one number has one pair
pub one_of_number : (ops : List Op) (xs ys : List ℕ) (p r : PairOf) → Contains (pairs_at ops xs) p → Contains (pairs_at ops ys) r → p.op ≡ r.op → p ≡ r
one_of_number ops xs ys p r at_p at_r same =
    let here = pair_at ops xs p at_p in
    let there = pair_at ops ys r at_r in
    let two : Two p.a p.b ≡ Two r.a r.b = same_Some (Two p.a p.b) (Two r.a r.b) (sym here.at ∙ ap (slice_get ops) same ∙ there.at) in
    let first : p.a ≡ r.a = cc in
    let second : p.b ≡ r.b = cc in
    λ i. record { op = same i; a = first i; b = second i }

-- a pair is on the qubit
abbrev pub IsOn : PairOf → ℕ → Type 0
IsOn p q = (p.a ≡ q) ⊎ (p.b ≡ q)

has_qubit_of : (p : PairOf) (q : ℕ) → has_qubit q p ≡ true → IsOn p q
has_qubit_of p q has = elim (or_cases (p.a == q) (p.b == q) has) [
  | inl e ↦ inl (eqb-true p.a q e)
  | inr e ↦ inr (eqb-true p.b q e)
]

-- the gate of a number is a pair on the qubit
pub record IsGateOn (ops : List Op) (numbers : List ℕ) (n q : ℕ) : Type 0 where
  pub pair : PairOf
  pub listed : Contains (pairs_at ops numbers) pair
  pub number : pair.op ≡ n
  pub on : IsOn pair q

gate_on : (ops : List Op) (numbers : List ℕ) (n q : ℕ) → Contains numbers n → is_on ops q n ≡ true → IsGateOn ops numbers n q
gate_on ops numbers n q listed is =
    let any = Any-from_list_any (has_qubit q) (pairs_at ops (n ∷ [])) is in
    let p = any.1 in
    let alone = pair_at ops (n ∷ []) p (any.0, any.2, any.3) in
    let number : p.op ≡ n = contained_in_one n p.op alone.number in
    record {
      pair = p;
      listed = pair_listed ops numbers p (subst (Contains numbers) (sym number) listed) alone.at;
      number = number;
      on = has_qubit_of p q any.4;
    }

-- a qubit stays with a kept pair: it is one of its gate of the pulse before, and of its gate of the next pulse
pub record StaysWith (ops : List Op) (before pulse : List ℕ) (kept : List (ℕ × ℕ)) (q : ℕ) : Type 0 where
  pub gates : ℕ × ℕ
  pub listed : Contains kept gates
  pub old : IsGateOn ops before gates.0 q
  pub new : IsGateOn ops pulse gates.1 q

module _ (ops : List Op) (before pulse : List ℕ) (kept : List (ℕ × ℕ)) (keeping : IsKeeping ops before pulse kept) where
  pub stays_with : (q : ℕ) → stays ops kept q ≡ true → StaysWith ops before pulse kept q
  stays_with q is =
      let any = Any-from_list_any (λ (k : ℕ × ℕ). is_on ops q k.0 && is_on ops q k.1) kept is in
      let k = any.1 in
      let listed : Contains kept k = (any.0, any.2, any.3) in
      let may = All-contains (MayKeep ops before pulse) kept k keeping.each listed in
      let both = and_parts (is_on ops q k.0) (is_on ops q k.1) any.4 in
      record { gates = k; listed = listed; old = gate_on ops before k.0 q may.old both.0; new = gate_on ops pulse k.1 q may.new both.1 }

  -- a qubit of the pulse before leaves, or it stays with a kept pair
  pub leaves_or_stays : (q : ℕ) → IsInPair (pairs_at ops before) q → Contains (leaving ops (pairs_at ops before) kept) q ⊎ StaysWith ops before pulse kept q
  leaves_or_stays q in_pair = elim (cases_Bool (stays ops kept q)) [
    | inl is ↦ inr (stays_with q is)
    | inr not_so ↦
        inl (contains_filter (λ r. not (stays ops kept r)) (qubits_of (pairs_at ops before)) q (qubit_listed (pairs_at ops before) q in_pair) (not_from_false (stays ops kept q) not_so))
  ]

  -- no gate comes twice: kept pairs with one old gate are one
  pub one_old : (k l : ℕ × ℕ) → Contains kept k → Contains kept l → k.0 ≡ l.0 → k.1 ≡ l.1
  one_old k l at_k at_l same = elim (related (λ (x y : ℕ × ℕ). (x.0 ≢ y.0) × (x.1 ≢ y.1)) kept keeping.no_gate_twice k l at_k at_l) [
    | inl e ↦ ap (λ (x : ℕ × ℕ). x.1) e
    | inr differ ↦ elim differ [
      | inl first ↦ absurd (first.0 same)
      | inr second ↦ absurd (second.0 (sym same))
    ]
  ]

  -- and so are those with one new gate
  pub one_new : (k l : ℕ × ℕ) → Contains kept k → Contains kept l → k.1 ≡ l.1 → k.0 ≡ l.0
  one_new k l at_k at_l same = elim (related (λ (x y : ℕ × ℕ). (x.0 ≢ y.0) × (x.1 ≢ y.1)) kept keeping.no_gate_twice k l at_k at_l) [
    | inl e ↦ ap (λ (x : ℕ × ℕ). x.0) e
    | inr differ ↦ elim differ [
      | inl first ↦ absurd (first.1 same)
      | inr second ↦ absurd (second.1 (sym same))
    ]
  ]
