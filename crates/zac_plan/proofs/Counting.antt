-- The slots and the pulses of stages have together no more ops than the circuit.
use Rattle.std.proofs.Common.{◌≡◌, ◌≢◌, ℕ, zero, suc, ◌+◌, ◌<◌, ◌≤◌, inl, inr, ◌==◌, Bool, true, false, cond, List, [], ◌∷◌, IsTrue, length, map, refl, sym, ap, ◌∙◌, arith, slice_get, Option, Some}
use Rattle.std.specs.Prelude.{slice_index}
use Rattle.std.specs.List.{filter, range_with_len}
use Rattle.std.proofs.lemmas.Bool.{and_parts, cases_Bool, eqb-true}
use Rattle.std.proofs.lemmas.List.FromFn.{length-range_with_len}
use Rattle.zac_gates.specs.declared.circuit.Op.{Op}
use Rattle.zac_gates.specs.declared.circuit.Op.TheVariants as op
use Rattle.zac_gates.specs.Ops.{pairs_in}
use Rattle.zac_stage.specs.Numbers.{is_one, is_pair, is_one_of, is_pair_of}
use Rattle.zac_stage.specs.Staging.{Staging, IsStaging}

-- how many numbers there are in all lists
abbrev pub size : List (List ℕ) → ℕ
size [] = 0
size (xs ∷ xss) = length xs + size xss

-- 1 for a test that passes, and 0 for one that does not
abbrev hit : Bool → ℕ
hit true = 1
hit false = 0

-- how many of these numbers pass
abbrev passed : (ℕ → Bool) → List ℕ → ℕ
passed any [] = 0
passed any (k ∷ ks) = hit (any k) + passed any ks

not_both : (b : Bool) → b ≡ true → b ≡ false → ⊥
not_both true e f = cc
not_both false e f = cc

-- a test that passes at no number more than once
module _ (test : ℕ → ℕ → Bool) (number : ℕ → ℕ) (once : (t k : ℕ) → IsTrue (test t k) → number k ≡ t) where
  passing : ℕ → ℕ → ℕ
  passing t k = hit (test t k)

  hits : ℕ → ℕ → ℕ → ℕ
  hits k from zero = 0
  hits k from (suc m) = passing from k + hits k (from + 1) m

  passes_once : (t k : ℕ) (b : Bool) → test t k ≡ b → (hit b ≤ 1) × (number k ≢ t → hit b ≡ 0)
  passes_once t k true e = (omega arith, λ differ. absurd (differ (once t k e)))
  passes_once t k false e = (omega arith, λ differ. refl)

  hits_none : (k from m : ℕ) → number k < from → hits k from m ≡ 0
  unfolding hits passing
  hits_none k from zero below = refl
  hits_none k from (suc m) below =
      let here = (passes_once from k (test from k) refl).1 (omega arith) in
      omega (arith, hits_none k (from + 1) m (omega arith))

  hits_most : (k from m : ℕ) → hits k from m ≤ 1
  unfolding hits passing
  hits_most k from zero = omega arith
  hits_most k from (suc m) =
      let here = passes_once from k (test from k) refl in
      elim (cases_Bool (test from k)) [
        | inl passes ↦
            let number_is = once from k passes in
            omega (arith, here.0, hits_none k (from + 1) m (omega arith))
        | inr fails ↦
            let none : hit (test from k) ≡ 0 = ap hit fails in
            omega (arith, hits_most k (from + 1) m)
      ]

  longer : (k : ℕ) (ks : List ℕ) (b : Bool) → length (cond b (k ∷ ks) ks) ≡ hit b + length ks
  longer k ks true = omega arith
  longer k ks false = omega arith

  kept : List ℕ → ℕ → List ℕ
  kept ks t = filter (test t) ks

  size_more : (k : ℕ) (ks : List ℕ) (from m : ℕ) → size (map (λ t. filter (test t) (k ∷ ks)) (range_with_len from m)) ≡ hits k from m + size (map (λ t. filter (test t) ks) (range_with_len from m))
  unfolding hits passing
  size_more k ks from zero = refl
  size_more k ks from (suc m) = omega (arith, longer k (filter (test from) ks) (test from k), size_more k ks (from + 1) m)

  size_none : (from m : ℕ) → size (map (λ t. filter (test t) []) (range_with_len from m)) ≡ 0
  size_none from zero = refl
  size_none from (suc m) = omega (arith, size_none (from + 1) m)

  pub size_most : (ks : List ℕ) (from m : ℕ) → size (map (λ t. filter (test t) ks) (range_with_len from m)) ≤ length ks
  size_most [] from m = omega (arith, size_none from m)
  size_most (k ∷ ks) from m = omega (arith, size_more k ks from m, hits_most k from m, size_most ks from m)

  -- where each number that passes passes another test too, they are no more than the numbers that pass that
  module _ (any : ℕ → Bool) (only : (t k : ℕ) → IsTrue (test t k) → any k ≡ true) where
    fails_too : (t k : ℕ) (b : Bool) → test t k ≡ b → any k ≡ false → hit b ≡ 0
    fails_too t k true e fails = absurd (not_both (any k) (only t k e) fails)
    fails_too t k false e fails = refl

    none_hit : (k : ℕ) → any k ≡ false → (from m : ℕ) → hits k from m ≡ 0
    unfolding hits passing
    none_hit k fails from zero = refl
    none_hit k fails from (suc m) = omega (arith, fails_too from k (test from k) refl fails, none_hit k fails (from + 1) m)

    few_hits : (k from m : ℕ) → hits k from m ≤ hit (any k)
    few_hits k from m = elim (cases_Bool (any k)) [
      | inl passes ↦
          let one : hit (any k) ≡ 1 = ap hit passes in
          omega (arith, hits_most k from m)
      | inr fails ↦ omega (arith, none_hit k fails from m)
    ]

    pub size_passed : (ks : List ℕ) (from m : ℕ) → size (map (λ t. filter (test t) ks) (range_with_len from m)) ≤ passed any ks
    size_passed [] from m = omega (arith, size_none from m)
    size_passed (k ∷ ks) from m = omega (arith, size_more k ks from m, few_hits k from m, size_passed ks from m)

one_once : (s : Staging) (t k : ℕ) → IsTrue (is_one_of s.circuit.ops s.numbers t k) → slice_index s.numbers k ≡ t
one_once s t k h = eqb-true (slice_index s.numbers k) t (and_parts (is_one (slice_get s.circuit.ops k)) (slice_index s.numbers k == t) h).1

pair_once : (s : Staging) (t k : ℕ) → IsTrue (is_pair_of s.circuit.ops s.numbers t k) → slice_index s.numbers k ≡ t
pair_once s t k h = eqb-true (slice_index s.numbers k) t (and_parts (is_pair (slice_get s.circuit.ops k)) (slice_index s.numbers k == t) h).1

pub gates_most : (s : Staging) → IsStaging s → size s.gates ≤ length s.circuit.ops
gates_most s right =
    let most = size_most (is_one_of s.circuit.ops s.numbers) (λ k. slice_index s.numbers k) (one_once s) (range_with_len 0 (length s.circuit.ops)) 0 (length s.pairs + 1) in
    omega (arith, ap size right.gates_are, length-range_with_len 0 (length s.circuit.ops))

one_hit : (b : Bool) → hit b ≤ 1
one_hit true = omega arith
one_hit false = omega arith

one_op : (o : Op) (os : List Op) → pairs_in (o ∷ os) ≡ hit (is_pair (Some o)) + pairs_in os
one_op (op.One q angles) os = omega arith
one_op (op.Two q r) os = omega arith
one_op op.Fence os = omega arith
one_op (op.Read q bit) os = omega arith

-- a circuit has no more pairs than ops
pub pairs_within : (ops : List Op) → pairs_in ops ≤ length ops
pairs_within [] = omega arith
pairs_within (o ∷ os) = omega (arith, one_op o os, pairs_within os, one_hit (is_pair (Some o)))

-- the pairs of the rest of a circuit, by their numbers
pairs_from : (ops rest : List Op) (from : ℕ) → ((k : ℕ) → slice_get ops (from + k) ≡ slice_get rest k) →
    passed (λ k. is_pair (slice_get ops k)) (range_with_len from (length rest)) ≡ pairs_in rest
pairs_from ops [] from at = refl
pairs_from ops (o ∷ os) from at =
    let here : from + 0 ≡ from = omega arith in
    let first : slice_get ops from ≡ Some o = ap (slice_get ops) (sym here) ∙ at 0 in
    let later : (k : ℕ) → slice_get ops ((from + 1) + k) ≡ slice_get os k = λ k. let next : (from + 1) + k ≡ from + suc k = omega arith in ap (slice_get ops) next ∙ at (suc k) in
    let one : hit (is_pair (slice_get ops from)) ≡ hit (is_pair (Some o)) = ap (λ (x : Option Op). hit (is_pair x)) first in
    omega (arith, pairs_from ops os (from + 1) later, one_op o os)

-- the pulses have together no more ops than the circuit has pairs
pub pairs_are_few : (s : Staging) → IsStaging s → size s.pairs ≤ pairs_in s.circuit.ops
pairs_are_few s right =
    let ops = s.circuit.ops in
    let most = size_passed (is_pair_of ops s.numbers) (λ k. slice_index s.numbers k) (pair_once s) (λ k. is_pair (slice_get ops k))
    (λ t k h. (and_parts (is_pair (slice_get ops k)) (slice_index s.numbers k == t) h).0) (range_with_len 0 (length ops)) 0 (length s.pairs) in
    omega (arith, ap size right.pairs_are, pairs_from ops ops 0 (λ k. let e : 0 + k ≡ k = omega arith in ap (slice_get ops) e))
