-- Elements of lists by their numbers: in a joined list, in pieces of one length, and under a test of all.
use Rattle.std.proofs.Common.{◌≡◌, ℕ, zero, suc, ◌+◌, ◌*◌, ◌/◌, ◌%◌, ◌<◌, Bool, Some, List, [], ◌∷◌, ◌++◌, length, IsTrue, slice_get, flat_map, refl, sym, ap, ◌∙◌, arith, length-append}
use Rattle.std.specs.List.{range_with_len, list_all}
use Rattle.std.proofs.lemmas.Bool.{and_parts}
use Rattle.std.proofs.lemmas.Nat.{div_below, mod_below, div-add-mod'}
use Rattle.zac_arch.specs.declared.card.Zone.{Zone}
use Rattle.zac_arch.specs.Rules.{passes_pairs}

pub slice_get-append_left : {A : Type 0} (xs ys : List A) (k : ℕ) → k < length xs → slice_get (xs ++ ys) k ≡ slice_get xs k
slice_get-append_left [] ys k lt = absurd (omega arith)
slice_get-append_left (x ∷ xs) ys zero lt = refl
slice_get-append_left (x ∷ xs) ys (suc k) lt = slice_get-append_left xs ys k (omega arith)

pub slice_get-append_right : {A : Type 0} (xs ys : List A) (n i k : ℕ) → length xs ≡ n → i ≡ n + k → slice_get (xs ++ ys) i ≡ slice_get ys k
slice_get-append_right [] ys n i k e f =
    let same : i ≡ k = omega arith in ap (slice_get ys) same
slice_get-append_right (x ∷ xs) ys n zero k e f = absurd (omega arith)
slice_get-append_right (x ∷ xs) ys n (suc i) k e f =
    slice_get-append_right xs ys (length xs) i k refl (omega arith)

-- pieces that each have w elements
pub length-pieces : {A : Type 0} (f : ℕ → List A) (w : ℕ) → ((i : ℕ) → length (f i) ≡ w) → (s n : ℕ) → length (flat_map f (range_with_len s n)) ≡ n * w
length-pieces f w each s zero = omega arith
length-pieces f w each s (suc n) =
    omega (arith, length-append (f s) (flat_map f (range_with_len (s + 1) n)), each s, length-pieces f w each (s + 1) n)

pub slice_get-pieces : {A : Type 0} (f : ℕ → List A) (w : ℕ) → ((i : ℕ) → length (f i) ≡ w) → (s n i j k : ℕ) → i < n → j < w → k ≡ i * w + j → slice_get (flat_map f (range_with_len s n)) k ≡ slice_get (f (s + i)) j
slice_get-pieces f w each s zero i j k in' jn e = absurd (omega arith)
slice_get-pieces f w each s (suc n) zero j k in' jn e =
    let same : k ≡ j = omega arith in
    let here : s ≡ s + 0 = omega arith in
    slice_get-append_left (f s) _ k (omega (arith, each s)) ∙ ap (slice_get (f s)) same ∙ ap (λ t. slice_get (f t) j) here
slice_get-pieces f w each s (suc n) (suc i) j k in' jn e =
    let there : (s + 1) + i ≡ s + suc i = omega arith in
    slice_get-append_right (f s) _ w k (i * w + j) (each s) (omega arith) ∙ slice_get-pieces f w each (s + 1) n i j (i * w + j) (omega arith) jn refl ∙ ap (λ t. slice_get (f t) j) there

-- a number below n * w is a piece and a place in it
pub record Piece (n w k : ℕ) : Type 0 where
  pub piece : ℕ
  pub place : ℕ
  pub piece_in : piece < n
  pub place_in : place < w
  pub is : k ≡ piece * w + place

pub piece_of : (n w k : ℕ) → k < n * w → Piece n w k
piece_of n zero k lt = absurd (omega arith)
piece_of n (suc w) k lt =
    record {
      piece = k / suc w;
      place = k % suc w;
      piece_in = div_below k (suc w) n (omega arith) lt;
      place_in = mod_below k (suc w) (omega arith);
      is = sym (div-add-mod' k (suc w));
    }

-- a test that all pass passes at each
pub passes_at : {A : Type 0} (test : A → Bool) (xs : List A) (k : ℕ) (x : A) → IsTrue (list_all test xs) → slice_get xs k ≡ Some x → IsTrue (test x)
passes_at test [] k x h e = cc
passes_at test (y ∷ ys) zero x h e =
    let same : y ≡ x = cc in ap test (sym same) ∙ (and_parts (test y) _ h).0
passes_at test (y ∷ ys) (suc k) x h e = passes_at test ys k x (and_parts (test y) _ h).1 e

-- a test that all pairs pass passes at two
pub passes_at_two : (test : Zone → Zone → Bool) (zs : List Zone) (i j : ℕ) (v w : Zone) → IsTrue (passes_pairs test zs) → slice_get zs i ≡ Some v → slice_get zs j ≡ Some w → i < j → IsTrue (test v w)
passes_at_two test [] i j v w h e f lt = cc
passes_at_two test (z ∷ zs) i zero v w h e f lt = absurd (omega arith)
passes_at_two test (z ∷ zs) zero (suc j) v w h e f lt =
    let same : z ≡ v = cc in
    ap (λ u. test u w) (sym same) ∙ passes_at (test z) zs j w (and_parts (list_all (test z) zs) _ h).0 f
passes_at_two test (z ∷ zs) (suc i) (suc j) v w h e f lt =
    passes_at_two test zs i j v w (and_parts (list_all (test z) zs) _ h).1 e f (omega arith)
