-- The pulses of a circuit's stages fit the card.
use Rattle.std.proofs.Common.{◌≡◌, ℕ, zero, suc, ◌+◌, ◌<◌, ◌≤◌, inl, inr, List, [], ◌∷◌, Option, Some, None, length, map, refl, sym, ap, subst, arith, slice_get}
use Rattle.std.specs.Prelude.{slice_index}
use Rattle.std.specs.List.{AllByRecursion, AllPairs, Contains, cons_option, range_with_len}
use Rattle.std.specs.Option.{option_and_then}
use Rattle.zac_arch.specs.Architecture.{Architecture, site_count}
use Rattle.zac_gates.specs.Ops.{NativeCircuit, IsInRange, IsValid, MustFollow, Names}
use Rattle.zac_gates.specs.declared.circuit.Op.{Op}
use Rattle.zac_gates.specs.declared.circuit.Op.TheVariants.{One, Two, Fence, Read}
use Rattle.zac_stage.specs.Numbers.{is_pair, NumbersFollow}
use Rattle.zac_stage.specs.Staging.{Staging}
use Rattle.zair_form.specs.declared.step.PairOf.{PairOf}
use Rattle.zac_plan.specs.Growth.{IsStagingOf}
use Rattle.zac_plan.specs.Plan.{pair_of, pairs_at}
use Rattle.zac_plan.proofs.Lists.{contained_in_none, contains_cases, contains_here, contains_later, pairs_cons, pairs_head, pairs_none, pairs_tail}
use Rattle.zac_plan.specs.Seats.{AreApart, IsPulse}
use Rattle.zac_plan.proofs.Turns.{pulse, in_pulse, pulse_rises}

-- a pair at these numbers is the op of one of them
pub record IsPairAt (ops : List Op) (numbers : List ℕ) (p : PairOf) : Type 0 where
  pub number : Contains numbers p.op
  pub at : slice_get ops p.op ≡ Some (Two p.a p.b)

pair_cases : (ops : List Op) (n : ℕ) (ns : List ℕ) (o : Option Op) (p : PairOf) → slice_get ops n ≡ o → ((q : PairOf) → Contains (pairs_at ops ns) q → IsPairAt ops ns q) →
    Contains (cons_option (option_and_then (pair_of n) o) (pairs_at ops ns)) p → IsPairAt ops (n ∷ ns) p
pair_cases ops n ns None p at later listed = let rest = later p listed in record { number = contains_later n p.op ns rest.number; at = rest.at }
pair_cases ops n ns (Some (One q angles)) p at later listed = let rest = later p listed in record { number = contains_later n p.op ns rest.number; at = rest.at }
pair_cases ops n ns (Some (Two a b)) p at later listed = elim (contains_cases (record { op = n; a = a; b = b }) p (pairs_at ops ns) listed) [
  | inl same ↦ subst (IsPairAt ops (n ∷ ns)) same (record { number = contains_here n ns; at = at })
  | inr more ↦ let rest = later p more in record { number = contains_later n p.op ns rest.number; at = rest.at }
]
pair_cases ops n ns (Some Fence) p at later listed = let rest = later p listed in record { number = contains_later n p.op ns rest.number; at = rest.at }
pair_cases ops n ns (Some (Read q bit)) p at later listed = let rest = later p listed in record { number = contains_later n p.op ns rest.number; at = rest.at }

pub pair_at : (ops : List Op) (numbers : List ℕ) (p : PairOf) → Contains (pairs_at ops numbers) p → IsPairAt ops numbers p
pair_at ops [] p listed = absurd (contained_in_none p listed)
pair_at ops (n ∷ ns) p listed = pair_cases ops n ns (slice_get ops n) p refl (pair_at ops ns) listed

-- there are at most as many pairs as numbers
no_longer : (n : ℕ) (o : Option Op) (ps : List PairOf) (m : ℕ) → length ps ≤ m → length (cons_option (option_and_then (pair_of n) o) ps) ≤ m + 1
no_longer n None ps m h = omega arith
no_longer n (Some (One q angles)) ps m h = omega arith
no_longer n (Some (Two a b)) ps m h = omega arith
no_longer n (Some Fence) ps m h = omega arith
no_longer n (Some (Read q bit)) ps m h = omega arith

pub length-pairs_at : (ops : List Op) (numbers : List ℕ) → length (pairs_at ops numbers) ≤ length numbers
length-pairs_at ops [] = omega arith
length-pairs_at ops (n ∷ ns) = omega (arith, no_longer n (slice_get ops n) (pairs_at ops ns) (length ns) (length-pairs_at ops ns))

-- pairs of numbers give pairs of pairs
module _ (ops : List Op) (R : ℕ → ℕ → Type 0) (apart : (n m : ℕ) (p q : PairOf) → R n m → slice_get ops n ≡ Some (Two p.a p.b) → slice_get ops m ≡ Some (Two q.a q.b) → AreApart p q) where
  apart_cons : (n : ℕ) (ns : List ℕ) (o : Option Op) → slice_get ops n ≡ o → ((m : ℕ) → Contains ns m → R n m) → AllPairs AreApart (pairs_at ops ns) →
      AllPairs AreApart (cons_option (option_and_then (pair_of n) o) (pairs_at ops ns))
  apart_cons n ns None at first rest = rest
  apart_cons n ns (Some (One q angles)) at first rest = rest
  apart_cons n ns (Some (Two a b)) at first rest =
      pairs_cons AreApart (record { op = n; a = a; b = b }) (pairs_at ops ns)
      (λ q listed.
      let is = pair_at ops ns q listed in
      apart n q.op (record { op = n; a = a; b = b }) q (first q.op is.number) at is.at)
      rest
  apart_cons n ns (Some Fence) at first rest = rest
  apart_cons n ns (Some (Read q bit)) at first rest = rest

  pairs_apart : (numbers : List ℕ) → AllPairs R numbers → AllPairs AreApart (pairs_at ops numbers)
  pairs_apart [] h = pairs_none AreApart
  pairs_apart (n ∷ ns) h = apart_cons n ns (slice_get ops n) refl (pairs_head R n ns h) (pairs_apart ns (pairs_tail R n ns h))

-- the first number is smaller, and both are of one pulse
record AreTogether (s : Staging) (t n m : ℕ) : Type 0 where
  less : n < m
  first : slice_index s.numbers n ≡ t
  second : slice_index s.numbers m ≡ t

module _ (s : Staging) (follow : NumbersFollow s.circuit.ops s.numbers) (t : ℕ) where
  -- pairs of one pulse share no qubit
  none_shared : (n m x : ℕ) (p q : PairOf) → AreTogether s t n m → slice_get s.circuit.ops n ≡ Some (Two p.a p.b) → slice_get s.circuit.ops m ≡ Some (Two q.a q.b) →
      Names (Two p.a p.b) x → Names (Two q.a q.b) x → ⊥
  none_shared n m x p q both at_n at_m in_p in_q =
      let must : MustFollow s.circuit.ops n m = record { a = Two p.a p.b; b = Two q.a q.b; a_is = at_n; b_is = at_m; reason = inl (tt, tt, both.less, inl (x, in_p, in_q)) } in
      let above = (follow n m (Two q.a q.b) must at_m tt).1 (ap is_pair at_n) in
      absurd (omega (arith, both.first, both.second))

  together_apart : (n m : ℕ) (p q : PairOf) → AreTogether s t n m → slice_get s.circuit.ops n ≡ Some (Two p.a p.b) → slice_get s.circuit.ops m ≡ Some (Two q.a q.b) → AreApart p q
  together_apart n m p q both at_n at_m = record {
    aa = λ e. none_shared n m p.a p q both at_n at_m (inl refl) (inl (sym e));
    ab = λ e. none_shared n m p.a p q both at_n at_m (inl refl) (inr (sym e));
    ba = λ e. none_shared n m p.b p q both at_n at_m (inr refl) (inl (sym e));
    bb = λ e. none_shared n m p.b p q both at_n at_m (inr refl) (inr (sym e));
  }

together : (s : Staging) (t : ℕ) (numbers : List ℕ) → ((n : ℕ) → Contains numbers n → slice_index s.numbers n ≡ t) → AllPairs (λ i j. i < j) numbers → AllPairs (AreTogether s t) numbers
together s t [] here rises = pairs_none (AreTogether s t)
together s t (n ∷ ns) here rises =
    pairs_cons (AreTogether s t) n ns
    (λ m listed. record { less = pairs_head (λ i j. i < j) n ns rises m listed; first = here n (contains_here n ns); second = here m (contains_later n m ns listed) })
    (together s t ns (λ m listed. here m (contains_later n m ns listed)) (pairs_tail (λ i j. i < j) n ns rises))

-- a pulse of the stages fits
pub pulse_fits : (a : Architecture) (s : Staging) (n bits t : ℕ) → NumbersFollow s.circuit.ops s.numbers →
    ((k : ℕ) (what : Op) → slice_get s.circuit.ops k ≡ Some what → IsInRange n bits what) → length (pulse s t) ≤ site_count a → IsPulse a n (pairs_at s.circuit.ops (pulse s t))
pulse_fits a s n bits t follow valid few = record {
  few = omega (arith, length-pairs_at s.circuit.ops (pulse s t));
  each = λ p listed. valid p.op (Two p.a p.b) (pair_at s.circuit.ops (pulse s t) p listed).at;
  apart = pairs_apart s.circuit.ops (AreTogether s t) (together_apart s follow t) (pulse s t) (together s t (pulse s t) (λ m listed. (in_pulse s t m listed).here) (pulse_rises s t));
}

pulses_fit_from : (a : Architecture) (s : Staging) (n bits from m : ℕ) → NumbersFollow s.circuit.ops s.numbers →
    ((k : ℕ) (what : Op) → slice_get s.circuit.ops k ≡ Some what → IsInRange n bits what) → AllByRecursion (λ pulse. length pulse ≤ site_count a) (map (pulse s) (range_with_len from m)) →
    AllByRecursion (λ pulse. IsPulse a n (pairs_at s.circuit.ops pulse)) (map (pulse s) (range_with_len from m))
pulses_fit_from a s n bits from zero follow valid few = tt
pulses_fit_from a s n bits from (suc m) follow valid few =
    (pulse_fits a s n bits from follow valid few.0, pulses_fit_from a s n bits (from + 1) m follow valid few.1)

-- so do all
pub pulses_fit : (a : Architecture) (c : NativeCircuit) (s : Staging) → IsValid c → IsStagingOf a c s →
    AllByRecursion (λ pulse. IsPulse a c.qubits (pairs_at c.ops pulse)) s.pairs
pulses_fit a c s valid of =
    let P : NativeCircuit → Type 0 = λ d. AllByRecursion (λ pulse. IsPulse a d.qubits (pairs_at d.ops pulse)) s.pairs in
    let few : AllByRecursion (λ pulse. length pulse ≤ site_count a) s.pairs = subst (λ m. AllByRecursion (λ pulse. length pulse ≤ m) s.pairs) of.sites of.few in
    let its_own : (k : ℕ) (what : Op) → slice_get s.circuit.ops k ≡ Some what → IsInRange s.circuit.qubits s.circuit.bits what =
    λ k what at. (subst IsValid (sym of.circuit) valid k what at).in_range in
    let Q : List (List ℕ) → Type 0 = λ l. AllByRecursion (λ pulse. IsPulse a s.circuit.qubits (pairs_at s.circuit.ops pulse)) l in
    let fit : Q s.pairs =
    subst Q (sym of.right.pairs_are)
    (pulses_fit_from a s s.circuit.qubits s.circuit.bits 0 (length s.pairs) of.follow its_own
    (subst (AllByRecursion (λ pulse. length pulse ≤ site_count a)) of.right.pairs_are few)) in
    subst P of.circuit fit

-- no pair is at the sites at first
pub none_placed : (a : Architecture) (n : ℕ) → IsPulse a n []
none_placed a n = record { few = omega arith; each = λ p listed. absurd (contained_in_none p listed); apart = pairs_none AreApart }
