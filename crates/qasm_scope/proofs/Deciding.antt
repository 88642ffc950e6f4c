-- What can be decided, part by part; and the least offset of what is decided.
use Rattle.std.proofs.Common.{◌≡◌, ◌≢◌, ℕ, zero, suc, ◌<◌, ◌≤◌, ◌⊎◌, inl, inr, List, [], ◌∷◌, length, get_or, Option, Some, None, Bool, true, false, refl, sym, ◌∙◌, ap, subst, arith}
use Rattle.std.specs.Prelude.{slice_get, ◌==◌}
use Rattle.std.specs.List.{Any, Contains}
use Rattle.std.specs.Str.{bytes_eq}
use Rattle.std.proofs.lemmas.Bool.{false≢true, eqb-true, eqb-false, cases_lt}
use Rattle.std.proofs.lemmas.Option.{slice_get_read, slice_get_within, get_or_from_slice_get}
use Rattle.std.proofs.lemmas.Slice.Eq.{bytes_eq-Decides}
use Rattle.qasm_names.specs.Refusals.{SomeTwo}
use Rattle.qasm_scope.specs.Least.{IsLeastOffset, earlier}
use Rattle.qasm_scope.proofs.FineLemmas.{no_item}
use Rattle.qasm_scope.proofs.LeastLemmas.{alike, earlier_least}
use Rattle.qasm_scope.proofs.TestLemmas.{below_or_here}

-- the fact holds, or it doesn't
abbrev pub Decided : Type 0 → Type 0
Decided P = P ⊎ (¬ P)

pub decided_not : {P : Type 0} → Decided P → Decided (¬ P)
decided_not (inl p) = inr (λ refuted. refuted p)
decided_not (inr refuted) = inl refuted

pub decided_both : {P Q : Type 0} → Decided P → Decided Q → Decided (P × Q)
decided_both (inl p) (inl q) = inl (p, q)
decided_both (inr refuted) other = inr (λ w. refuted w.0)
decided_both (inl p) (inr refuted) = inr (λ w. refuted w.1)

pub decided_three : {P Q R : Type 0} → Decided P → Decided Q → Decided R → Decided (P × Q × R)
decided_three (inl p) (inl q) (inl r) = inl (p, q, r)
decided_three (inr refuted) q r = inr (λ w. refuted w.0)
decided_three (inl p) (inr refuted) r = inr (λ w. refuted w.1)
decided_three (inl p) (inl q) (inr refuted) = inr (λ w. refuted w.2)

pub decided_either : {P Q : Type 0} → Decided P → Decided Q → Decided (P ⊎ Q)
decided_either (inl p) q = inl (inl p)
decided_either (inr refuted) (inl q) = inl (inr q)
decided_either {P} {Q} (inr refuted) (inr never) = inr none where
  none : P ⊎ Q → ⊥
  none (inl p) = refuted p
  none (inr q) = never q

pub decided_number : (a b : ℕ) → Decided (a ≡ b)
decided_number a b = by_test (a == b) refl where
  by_test : (t : Bool) → (a == b) ≡ t → Decided (a ≡ b)
  by_test true is = inl (eqb-true a b is)
  by_test false is = inr (eqb-false a b is)

pub decided_order : (a b : ℕ) → Decided (a ≤ b)
decided_order a b = by_order (cases_lt b a) where
  by_order : (b < a) ⊎ (a ≤ b) → Decided (a ≤ b)
  by_order (inl less) = inr (λ le. omega (arith, less, le))
  by_order (inr le) = inl le

pub decided_bytes : (a b : List ℕ) → Decided (a ≡ b)
decided_bytes a b = by_test (bytes_eq a b) refl where
  by_test : (t : Bool) → bytes_eq a b ≡ t → Decided (a ≡ b)
  by_test true is = inl ((bytes_eq-Decides a b).0 is)
  by_test false is = inr (λ e. false≢true (sym is ∙ (bytes_eq-Decides a b).1 e))

pub decided_bool : (a b : Bool) → Decided (a ≡ b)
decided_bool true true = inl refl
decided_bool false false = inl refl
decided_bool true false = inr (λ e. false≢true (sym e))
decided_bool false true = inr (λ e. false≢true e)

pub decided_none : {X : Type 0} (o : Option X) → Decided (o ≡ None)
decided_none None = inl refl
decided_none (Some x) = inr (λ e. absurd (cc))

pub decided_option : (a b : Option ℕ) → Decided (a ≡ b)
decided_option None None = inl refl
decided_option None (Some y) = inr (λ e. absurd (cc))
decided_option (Some x) None = inr (λ e. absurd (cc))
decided_option (Some x) (Some y) = by_number (decided_number x y) where
  by_number : Decided (x ≡ y) → Decided (Some x ≡ Some y)
  by_number (inl same) = inl (ap Some same)
  by_number (inr refuted) = inr (λ e. refuted (cc))

pub decided_place : (p q : List ℕ × ℕ) → Decided (p ≡ q)
decided_place p q = by_parts (decided_bytes p.0 q.0) (decided_number p.1 q.1) where
  by_parts : Decided (p.0 ≡ q.0) → Decided (p.1 ≡ q.1) → Decided (p ≡ q)
  by_parts (inl word) (inl index) = inl (λ i. (word i, index i))
  by_parts (inr refuted) other = inr (λ e. refuted (ap (λ (x : List ℕ × ℕ). x.0) e))
  by_parts (inl word) (inr refuted) = inr (λ e. refuted (ap (λ (x : List ℕ × ℕ). x.1) e))

module _ {X : Type 0} where
  any_first : (Q : X → Type 0) (x : X) (xs : List X) → Q x → Any Q (x ∷ xs)
  any_first Q x xs q = (0, x, omega arith, refl, q)

  any_later : (Q : X → Type 0) (x : X) (xs : List X) → Any Q xs → Any Q (x ∷ xs)
  any_later Q x xs w = let l : w.0 < length xs = w.2 in (suc w.0, w.1, omega (arith, l), w.3, w.4)

  any_cases : (Q : X → Type 0) (x : X) (xs : List X) → Any Q (x ∷ xs) → Q x ⊎ Any Q xs
  any_cases Q x xs (zero, y, l, is, q) = inl (subst Q (sym is) q)
  any_cases Q x xs (suc k, y, l, is, q) = inr (k, y, omega (arith, l), is, q)

  pub decided_any : (Q : X → Type 0) → ((x : X) → Decided (Q x)) → (xs : List X) → Decided (Any Q xs)
  decided_any Q each [] = inr (no_item Q)
  decided_any Q each (x ∷ xs) = by_parts (each x) (decided_any Q each xs) where
    neither : ¬ Q x → ¬ Any Q xs → Q x ⊎ Any Q xs → ⊥
    neither refuted none (inl q) = refuted q
    neither refuted none (inr w) = none w

    by_parts : Decided (Q x) → Decided (Any Q xs) → Decided (Any Q (x ∷ xs))
    by_parts (inl q) later = inl (any_first Q x xs q)
    by_parts (inr refuted) (inl w) = inl (any_later Q x xs w)
    by_parts (inr refuted) (inr none) = inr (λ w. neither refuted none (any_cases Q x xs w))

  two_first : (R : X → X → Type 0) (x : X) (xs : List X) → Any (R x) xs → SomeTwo R (x ∷ xs)
  two_first R x xs w =
      let l : w.0 < length xs = w.2 in
      (0, suc w.0, x, w.1, omega arith, refl, slice_get_read xs (length xs) w.0 w.1 refl l (sym w.3), w.4)

  two_later : (R : X → X → Type 0) (x : X) (xs : List X) → SomeTwo R xs → SomeTwo R (x ∷ xs)
  two_later R x xs w =
      let l : w.0 < w.1 = w.4 in
      (suc w.0, suc w.1, w.2, w.3, omega (arith, l), w.5, w.6, w.7)

  two_cases : (R : X → X → Type 0) (x : X) (xs : List X) → SomeTwo R (x ∷ xs) → Any (R x) xs ⊎ SomeTwo R xs
  two_cases R x xs (i, zero, a, b, l, left, right, r) = absurd (omega (arith, l))
  two_cases R x xs (zero, suc j, a, b, l, left, right, r) =
      let same : x ≡ a = cc in
      inl (j, b, slice_get_within xs j b right, get_or_from_slice_get xs j b b right, subst (λ (z : X). R z b) (sym same) r)
  two_cases R x xs (suc i, suc j, a, b, l, left, right, r) = inr (i, j, a, b, omega (arith, l), left, right, r)

  no_two : (R : X → X → Type 0) → SomeTwo R [] → ⊥
  no_two R w = none w.2 w.5 where
    none : (x : X) → slice_get [] w.0 ≡ Some x → ⊥
    none x is = absurd (cc)

  pub decided_two : (R : X → X → Type 0) → ((x y : X) → Decided (R x y)) → (xs : List X) → Decided (SomeTwo R xs)
  decided_two R each [] = inr (no_two R)
  decided_two R each (x ∷ xs) = by_parts (decided_any (R x) (each x) xs) (decided_two R each xs) where
    neither : ¬ Any (R x) xs → ¬ SomeTwo R xs → Any (R x) xs ⊎ SomeTwo R xs → ⊥
    neither refuted none (inl w) = refuted w
    neither refuted none (inr w) = none w

    by_parts : Decided (Any (R x) xs) → Decided (SomeTwo R xs) → Decided (SomeTwo R (x ∷ xs))
    by_parts (inl w) later = inl (two_first R x xs w)
    by_parts (inr refuted) (inl w) = inl (two_later R x xs w)
    by_parts (inr refuted) (inr none) = inr (λ w. neither refuted none (two_cases R x xs w))

-- a number below a bound
pub decided_below : (P : ℕ → Type 0) → ((k : ℕ) → Decided (P k)) → (n : ℕ) → Decided ((k : ℕ) × (k < n) × P k)
decided_below P each zero = inr (λ w. let l : w.0 < 0 = w.1 in omega (arith, l))
decided_below P each (suc n) = by_parts (decided_below P each n) (each n) where
  neither : ¬ ((k : ℕ) × (k < n) × P k) → ¬ P n → (k : ℕ) → k < suc n → P k → (k < n) ⊎ (k ≡ n) → ⊥
  neither refuted none k l p (inl less) = refuted (k, less, p)
  neither refuted none k l p (inr same) = none (subst P same p)

  by_parts : Decided ((k : ℕ) × (k < n) × P k) → Decided (P n) → Decided ((k : ℕ) × (k < suc n) × P k)
  by_parts (inl w) here = let l : w.0 < n = w.1 in inl (w.0, omega (arith, l), w.2)
  by_parts (inr refuted) (inl p) = inl (n, omega arith, p)
  by_parts (inr refuted) (inr none) =
      inr (λ w. let l : w.0 < suc n = w.1 in neither refuted none w.0 l w.2 (below_or_here w.0 n (omega (arith, l))))

pub decided_contains : (words : List (List ℕ)) (word : List ℕ) → Decided (Contains words word)
decided_contains [] word = inr (λ w. let l : w.0 < 0 = w.1 in omega (arith, l))
decided_contains (w ∷ words) word = by_parts (decided_bytes w word) (decided_contains words word) where
  neither : w ≢ word → ¬ Contains words word → Contains (w ∷ words) word → ⊥
  neither refuted none (zero, l, is) = refuted is
  neither refuted none (suc k, l, is) = none (k, omega (arith, l), is)

  by_parts : Decided (w ≡ word) → Decided (Contains words word) → Decided (Contains (w ∷ words) word)
  by_parts (inl same) later = inl (0, omega arith, same)
  by_parts (inr refuted) (inl c) = let l : c.0 < length words = c.1 in inl (suc c.0, omega (arith, l), c.2)
  by_parts (inr refuted) (inr none) = inr (neither refuted none)

-- ---- least offsets

-- there is a least offset, or none at all
abbrev pub HasLeast : (ℕ → Type 0) → Type 0
HasLeast P = (o : Option ℕ) × IsLeastOffset P o

pub least_never : (P : ℕ → Type 0) → ((at : ℕ) → ¬ P at) → HasLeast P
least_never P never = (None, record { is = never })

pub least_this : (from : ℕ) → HasLeast (λ at. at ≡ from)
least_this from = (Some from, record { is = (refl, λ n e. omega (arith, e)) })

pub least_at : (Q : Type 0) (from : ℕ) → Decided Q → HasLeast (λ at. Q × (at ≡ from))
least_at Q from (inl q) = (Some from, record { is = ((q, refl), λ n w. let e : n ≡ from = w.1 in omega (arith, e)) })
least_at Q from (inr refuted) = (None, record { is = λ n w. refuted w.0 })

pub least_either : (P Q : ℕ → Type 0) → HasLeast P → HasLeast Q → HasLeast (λ at. P at ⊎ Q at)
least_either P Q a b = (earlier a.0 b.0, earlier_least a.1 b.1)

module _ {X : Type 0} where
  pub least_any : (R : X → ℕ → Type 0) → ((x : X) → HasLeast (R x)) → (xs : List X) → HasLeast (λ at. Any (λ x. R x at) xs)
  least_any R each [] = least_never (λ at. Any (λ x. R x at) []) (λ at w. no_item (λ x. R x at) w)
  least_any R each (x ∷ xs) = by_parts (least_any R each xs) where
    to : (at : ℕ) → R x at ⊎ Any (λ y. R y at) xs → Any (λ y. R y at) (x ∷ xs)
    to at (inl r) = any_first (λ y. R y at) x xs r
    to at (inr w) = any_later (λ y. R y at) x xs w

    by_parts : HasLeast (λ at. Any (λ y. R y at) xs) → HasLeast (λ at. Any (λ y. R y at) (x ∷ xs))
    by_parts later =
        let both = least_either (R x) (λ at. Any (λ y. R y at) xs) (each x) later in
        (both.0, alike to (λ at w. any_cases (λ y. R y at) x xs w) both.1)

  pub least_two : (R : X → X → ℕ → Type 0) → ((x y : X) → HasLeast (R x y)) → (xs : List X) → HasLeast (λ at. SomeTwo (λ x y. R x y at) xs)
  least_two R each [] = least_never (λ at. SomeTwo (λ x y. R x y at) []) (λ at w. no_two (λ x y. R x y at) w)
  least_two R each (x ∷ xs) = by_parts (least_two R each xs) where
    to : (at : ℕ) → Any (λ y. R x y at) xs ⊎ SomeTwo (λ y z. R y z at) xs → SomeTwo (λ y z. R y z at) (x ∷ xs)
    to at (inl w) = two_first (λ y z. R y z at) x xs w
    to at (inr w) = two_later (λ y z. R y z at) x xs w

    by_parts : HasLeast (λ at. SomeTwo (λ y z. R y z at) xs) → HasLeast (λ at. SomeTwo (λ y z. R y z at) (x ∷ xs))
    by_parts later =
        let both = least_either (λ at. Any (λ y. R x y at) xs) (λ at. SomeTwo (λ y z. R y z at) xs) (least_any (R x) (each x) xs) later in
        (both.0, alike to (λ at w. two_cases (λ y z. R y z at) x xs w) both.1)
