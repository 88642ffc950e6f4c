-- Places at which no flag is set, by the words that have them as bits.
use Rattle.std.proofs.Common.{rules, ◌≡◌, ℕ, ◌+◌, ◌-◌, ◌*◌, ◌<◌, ◌≤◌, inl, inr, Bool, true, false, not, ◌&&◌, ◌||◌, nat_le, nat_lt, List, sym, ap, ◌∙◌, subst, arith}
use Rattle.std.proofs.lemmas.Bool.{cases_lt}
use Rattle.std.proofs.lemmas.Bool.Decides.{nat_tests}
use Rattle.zac_flags.specs.Flags.{AreSet, IsFirstUnset, IsLastUnset, is_unset, is_unset_within}
use Rattle.zac_flags.specs.Words.{AreBits, IsHighest, IsLowest, has_bit}

-- a test within bounds
fails : (begin end p : ℕ) (u : Bool) → begin ≤ p → p < end → ((nat_le begin p && nat_lt p end) && u) ≡ false → u ≡ false
fails begin end p u ge lt none = grind (arith, nat_tests)

record Holds (begin end p : ℕ) (u : Bool) : Type 0 where
  from_begin : begin ≤ p
  before_end : p < end
  holds : u ≡ true

holds : (begin end p : ℕ) (u : Bool) → ((nat_le begin p && nat_lt p end) && u) ≡ true → Holds begin end p u
holds begin end p u is =
    record {
      from_begin = grind (arith, nat_tests);
      before_end = grind (arith, nat_tests);
      holds = grind (arith, nat_tests);
    }

-- the test by which the code makes the bits: those below the end, less those below the begin, where neither is set
pub by_masks : (begin end number i : ℕ) (x y : Bool) → number * 64 < end →
    (not (x || y) && (nat_lt i (end - number * 64) && not (nat_lt i (begin - number * 64))))
    ≡ ((nat_le begin (number * 64 + i) && nat_lt (number * 64 + i) end) && (not x && not y))
by_masks begin end number i x y some =
    from (nat_lt i (end - number * 64)) (nat_lt i (begin - number * 64)) (nat_le begin (number * 64 + i)) (nat_lt (number * 64 + i) end) x y
    (below i (end - number * 64) (number * 64 + i) end (omega arith) (omega arith)) (above i (begin - number * 64) (number * 64 + i) begin (omega arith) (omega arith))
  where
    below : (i m p n : ℕ) → (i < m → p < n) → (m ≤ i → n ≤ p) → nat_lt i m ≡ nat_lt p n
    below i m p n to back = grind (arith, nat_tests)

    above : (i m p n : ℕ) → (i < m → p < n) → (m ≤ i → n ≤ p) → not (nat_lt i m) ≡ nat_le n p
    above i m p n to back = grind (arith, nat_tests)

    from : (a b c d x y : Bool) → a ≡ d → not b ≡ c → (not (x || y) && (a && not b)) ≡ ((c && d) && (not x && not y))
    from a b c d true y same other = search rules
    from a b c d false true same other = search rules
    from a b c d false false same other = search rules

module _ (flags others : List Bool) (word number begin end : ℕ) (are : AreBits word (λ i. is_unset_within flags others begin end (number * 64 + i))) where
  -- no bit is set
  pub none_here : ((i : ℕ) → i < 64 → has_bit word i ≡ false) → (p : ℕ) → begin ≤ p → p < end → number * 64 ≤ p → p < (number + 1) * 64 → is_unset flags others p ≡ false
  none_here none p ge lt from to =
      let e : number * 64 + (p - number * 64) ≡ p = omega arith in
      let i_in : p - number * 64 < 64 = omega arith in
      fails begin end p (is_unset flags others p) ge lt
      (ap (is_unset_within flags others begin end) (sym e) ∙ sym (are (p - number * 64) i_in) ∙ none (p - number * 64) i_in)

  here : (k : ℕ) → k < 64 → has_bit word k ≡ true → Holds begin end (number * 64 + k) (is_unset flags others (number * 64 + k))
  here k within is = holds begin end (number * 64 + k) (is_unset flags others (number * 64 + k)) (sym (are k within) ∙ is)

  apart : (k i : ℕ) → i < 64 → has_bit word i ≡ false → begin ≤ number * 64 + i → number * 64 + i < end → is_unset flags others (number * 64 + i) ≡ false
  apart k i within none ge lt = fails begin end (number * 64 + i) (is_unset flags others (number * 64 + i)) ge lt (sym (are i within) ∙ none)

  pub first_here : (k : ℕ) → IsLowest word k → ((p : ℕ) → begin ≤ p → p < end → p < number * 64 → is_unset flags others p ≡ false) → IsFirstUnset flags others begin end (number * 64 + k)
  first_here k lowest before =
      let at = here k lowest.within lowest.is_set in
      record {
        from_begin = at.from_begin;
        before_end = at.before_end;
        unset = at.holds;
        first = λ p ge lt. elim (cases_lt p (number * 64)) as (λ _. is_unset flags others p ≡ false) [
          | inl low ↦ before p ge (omega (arith, at.before_end)) low
          | inr high ↦
              let e : number * 64 + (p - number * 64) ≡ p = omega arith in
              subst (λ (q : ℕ). is_unset flags others q ≡ false) e
              (apart k (p - number * 64) (omega (arith, lowest.within)) (lowest.none_below (p - number * 64) (omega arith)) (omega arith) (omega (arith, at.before_end)))
        ];
      }

  pub last_here : (k : ℕ) → IsHighest word k → ((p : ℕ) → begin ≤ p → p < end → (number + 1) * 64 ≤ p → is_unset flags others p ≡ false) → IsLastUnset flags others begin end (number * 64 + k)
  last_here k highest after =
      let at = here k highest.within highest.is_set in
      record {
        from_begin = at.from_begin;
        before_end = at.before_end;
        unset = at.holds;
        last = λ p gt lt. elim (cases_lt p ((number + 1) * 64)) as (λ _. is_unset flags others p ≡ false) [
          | inl low ↦
              let e : number * 64 + (p - number * 64) ≡ p = omega arith in
              subst (λ (q : ℕ). is_unset flags others q ≡ false) e
              (apart k (p - number * 64) (omega arith) (highest.none_above (p - number * 64) (omega arith) (omega arith)) (omega (arith, at.from_begin)) (omega arith))
          | inr high ↦ after p (omega (arith, at.from_begin)) lt high
        ];
      }
