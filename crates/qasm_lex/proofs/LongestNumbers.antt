-- Numbers are the longest pieces where they stand.
use Rattle.std.proofs.Common.{◌≡◌, ◌≢◌, ℕ, zero, suc, ◌+◌, ◌<◌, ◌≤◌, Bool, true, false, List, [], ◌∷◌, ◌++◌, length, take, drop, get_or, ◌⊎◌, Option, Some, None, refl, sym, ◌∙◌, ap, subst, inl, inr, ⊎_elim, arith, zero-add, suc-add, length-append, length-drop, length-take-le, append_assoc}
use Rattle.std.specs.Prelude.{◌==◌}
use Rattle.std.specs.List.{prefix_len}
use Rattle.std.specs.Char.{is_ascii_digit}
use Rattle.std.proofs.lemmas.Bool.{or_parts, cases_Bool, false≢true, cases_eq}
use Rattle.std.proofs.lemmas.List.{drop_at}
use Rattle.std.proofs.lemmas.List.Sums.{prefix_len-le-length}
use Rattle.qasm_lex.specs.declared.token.TokenKind.{TokenKind}
use Rattle.qasm_lex.specs.declared.token.TokenKind.TheVariants.{Word, Capital, Whole, Real, Text, Sign}
use Rattle.qasm_lex.specs.declared.piece.Class.TheVariants.{Numeric}
use Rattle.qasm_lex.specs.Bytes.{is_numeric, AllPass, NoneFirst}
use Rattle.qasm_lex.specs.Classes.{class_of}
use Rattle.qasm_lex.specs.Forms.{IsOneOf, IsPiece, IsWhole, IsReal, IsDigits, IsPointed, IsExponent}
use Rattle.qasm_lex.specs.Cuts.{IsLongestFront, NothingBegins}
use Rattle.qasm_lex.specs.Numbers.{IsExponentLength, IsMantissa}
use Rattle.qasm_lex.proofs.RunLemmas.{AllPass-run, NoneFirst-run}
use Rattle.qasm_lex.proofs.FirstBytes.{Begins, begins_at}
use Rattle.qasm_lex.proofs.LongestWords.{front_from, bound_by_run, exact_by_run}

first_of_same : (xs ys : List ℕ) → xs ≡ ys → get_or xs 0 0 ≡ get_or ys 0 0
first_of_same xs ys e = ap (λ (t : List ℕ). get_or t 0 0) e

rest_of_same : (xs ys : List ℕ) → xs ≡ ys → drop 1 xs ≡ drop 1 ys
rest_of_same xs ys e = ap (drop 1) e

-- an exponent begins with an e
exponent_first : (bytes front rest : List ℕ) → front ++ rest ≡ bytes → IsExponent front → (get_or bytes 0 0 ≡ 101) ⊎ (get_or bytes 0 0 ≡ 69)
exponent_first bytes front rest same x =
    let head : x.0 ≡ get_or bytes 0 0 = first_of_same _ bytes (subst (λ t. t ++ rest ≡ bytes) x.3 same) in
    ⊎_elim (λ e. inl (sym head ∙ e)) (λ e. inr (sym head ∙ e)) x.4

exponent_rest : (b : ℕ) (bytes front rest : List ℕ) → front ++ rest ≡ b ∷ bytes → (x : IsExponent front) → x.1 ++ (x.2 ++ rest) ≡ bytes
exponent_rest b bytes front rest same x =
    let e : (x.1 ++ x.2) ++ rest ≡ bytes = rest_of_same _ (b ∷ bytes) (subst (λ t. t ++ rest ≡ b ∷ bytes) x.3 same) in
    sym (append_assoc x.1 x.2 rest) ∙ e

-- where no e stands, there is none
pub exponent_absent : (bytes : List ℕ) → get_or bytes 0 0 ≢ 101 → get_or bytes 0 0 ≢ 69 → IsExponentLength bytes 0
exponent_absent bytes lower upper = record {
  within = omega arith;
  is_exponent = λ lt. absurd (omega arith);
  bound = λ front rest same x. absurd (⊎_elim lower upper (exponent_first bytes front rest same x));
}

exponent_size : (front : List ℕ) (x : IsExponent front) → length front ≡ suc (length x.1 + length x.2)
exponent_size front x = omega (arith, ap length x.3, length-append x.1 x.2)

digit_first : (digits rest bytes : List ℕ) → digits ++ rest ≡ bytes → IsDigits digits → is_ascii_digit (get_or bytes 0 0) ≡ true
digit_first [] rest bytes same d = absurd (omega (arith, d.0))
digit_first (b ∷ digits) rest bytes same d = subst (λ x. is_ascii_digit x ≡ true) (first_of_same _ bytes same) d.1.0

-- without a sign
unsigned_bound : (b : ℕ) (bytes : List ℕ) → get_or bytes 0 0 ≢ 43 → get_or bytes 0 0 ≢ 45 → (front rest : List ℕ) → front ++ rest ≡ b ∷ bytes → IsExponent front → (0 < prefix_len is_ascii_digit bytes) × (length front ≤ suc (prefix_len is_ascii_digit bytes))
unsigned_bound b bytes plus minus front rest same x =
    let e = exponent_rest b bytes front rest same x in
    let size = exponent_size front x in
    ⊎_elim (λ none. let e2 : x.2 ++ rest ≡ bytes = subst (λ s. s ++ (x.2 ++ rest) ≡ bytes) none e in let k = bound_by_run is_ascii_digit bytes x.2 rest e2 x.6.1 in (omega (arith, x.6.0, k), omega (arith, size, ap length none, k))) (⊎_elim (λ (is : x.1 ≡ 43 ∷ []). absurd (plus (sym (first_of_same _ bytes (subst (λ s. s ++ (x.2 ++ rest) ≡ bytes) is e))))) (⊎_elim (λ (is : x.1 ≡ 45 ∷ []). absurd (minus (sym (first_of_same _ bytes (subst (λ s. s ++ (x.2 ++ rest) ≡ bytes) is e))))) (λ never. absurd never))) x.5

-- with one
signed_bound : (b s : ℕ) (bytes : List ℕ) → (s ≡ 43) ⊎ (s ≡ 45) → (front rest : List ℕ) → front ++ rest ≡ b ∷ s ∷ bytes → IsExponent front → (0 < prefix_len is_ascii_digit bytes) × (length front ≤ suc (suc (prefix_len is_ascii_digit bytes)))
signed_bound b s bytes sign front rest same x =
    let e = exponent_rest b (s ∷ bytes) front rest same x in
    let size = exponent_size front x in
    ⊎_elim (λ none. let e2 : x.2 ++ rest ≡ s ∷ bytes = subst (λ t. t ++ (x.2 ++ rest) ≡ s ∷ bytes) none e in absurd (no_digit s sign (digit_first x.2 rest (s ∷ bytes) e2 x.6))) (⊎_elim (after 43) (⊎_elim (after 45) (λ never. absurd never))) x.5 where
      no_digit : (c : ℕ) → (c ≡ 43) ⊎ (c ≡ 45) → is_ascii_digit c ≡ true → ⊥
      no_digit c is digit =
          ⊎_elim (λ e. false≢true (subst (λ y. is_ascii_digit y ≡ true) e digit)) (λ e. false≢true (subst (λ y. is_ascii_digit y ≡ true) e digit)) is

      after : (c : ℕ) → x.1 ≡ c ∷ [] → (0 < prefix_len is_ascii_digit bytes) × (length front ≤ suc (suc (prefix_len is_ascii_digit bytes)))
      after c is =
          let e3 : c ∷ (x.2 ++ rest) ≡ s ∷ bytes = subst (λ t. t ++ (x.2 ++ rest) ≡ s ∷ bytes) is (exponent_rest b (s ∷ bytes) front rest same x) in
          let e2 : x.2 ++ rest ≡ bytes = rest_of_same _ (s ∷ bytes) e3 in
          let k = bound_by_run is_ascii_digit bytes x.2 rest e2 x.6.1 in
          (omega (arith, x.6.0, k), omega (arith, exponent_size front x, ap length is, k))

pub exponent_unsigned : (b : ℕ) (bytes : List ℕ) → (b ≡ 101) ⊎ (b ≡ 69) → get_or bytes 0 0 ≢ 43 → get_or bytes 0 0 ≢ 45 → 0 < prefix_len is_ascii_digit bytes → IsExponentLength (b ∷ bytes) (suc (prefix_len is_ascii_digit bytes))
exponent_unsigned b bytes e plus minus some = record {
  within = omega (arith, prefix_len-le-length is_ascii_digit bytes);
  is_exponent = λ _. (
    b,
    [],
    take (prefix_len is_ascii_digit bytes) bytes,
    refl,
    e,
    inl refl,
    (omega (arith, length-take-le _ bytes (prefix_len-le-length is_ascii_digit bytes)), AllPass-run is_ascii_digit bytes),
  );
  bound = λ front rest same x. (unsigned_bound b bytes plus minus front rest same x).1;
}

pub exponent_no_digits : (b : ℕ) (bytes : List ℕ) → get_or bytes 0 0 ≢ 43 → get_or bytes 0 0 ≢ 45 → prefix_len is_ascii_digit bytes ≡ 0 → IsExponentLength (b ∷ bytes) 0
exponent_no_digits b bytes plus minus none = record {
  within = omega arith;
  is_exponent = λ lt. absurd (omega arith);
  bound = λ front rest same x. absurd (omega (arith, (unsigned_bound b bytes plus minus front rest same x).0, none));
}

sign_text : (s : ℕ) → (s ≡ 43) ⊎ (s ≡ 45) → IsOneOf ([] ∷ (43 ∷ []) ∷ (45 ∷ []) ∷ []) (s ∷ [])
sign_text s sign =
    ⊎_elim (λ e. inr (inl (ap (λ x. x ∷ []) e))) (λ e. inr (inr (inl (ap (λ x. x ∷ []) e)))) sign

pub exponent_signed : (b s : ℕ) (bytes : List ℕ) → (b ≡ 101) ⊎ (b ≡ 69) → (s ≡ 43) ⊎ (s ≡ 45) → 0 < prefix_len is_ascii_digit bytes → IsExponentLength (b ∷ s ∷ bytes) (suc (suc (prefix_len is_ascii_digit bytes)))
exponent_signed b s bytes e sign some = record {
  within = omega (arith, prefix_len-le-length is_ascii_digit bytes);
  is_exponent = λ _. (
    b,
    s ∷ [],
    take (prefix_len is_ascii_digit bytes) bytes,
    refl,
    e,
    sign_text s sign,
    (omega (arith, length-take-le _ bytes (prefix_len-le-length is_ascii_digit bytes)), AllPass-run is_ascii_digit bytes),
  );
  bound = λ front rest same x. (signed_bound b s bytes sign front rest same x).1;
}

pub exponent_sign_alone : (b s : ℕ) (bytes : List ℕ) → (s ≡ 43) ⊎ (s ≡ 45) → prefix_len is_ascii_digit bytes ≡ 0 → IsExponentLength (b ∷ s ∷ bytes) 0
exponent_sign_alone b s bytes sign none = record {
  within = omega arith;
  is_exponent = λ lt. absurd (omega arith);
  bound = λ front rest same x. absurd (omega (arith, (signed_bound b s bytes sign front rest same x).0, none));
}

-- what a front with a point says of the run of digits and what stands behind it
pointed_split : (bytes front rest : List ℕ) → front ++ rest ≡ bytes → (p : IsPointed front) → (prefix_len is_ascii_digit bytes ≡ length p.0) × (drop (prefix_len is_ascii_digit bytes) bytes ≡ 46 ∷ (p.1 ++ rest)) × (length front ≡ length p.0 + suc (length p.1))
pointed_split bytes front rest same p =
    let e : p.0 ++ (46 ∷ (p.1 ++ rest)) ≡ bytes = sym (append_assoc p.0 (46 ∷ p.1) rest) ∙ subst (λ t. t ++ rest ≡ bytes) p.2 same in
    let n = exact_by_run is_ascii_digit bytes p.0 (46 ∷ (p.1 ++ rest)) e p.3 refl in
    (n, ap (drop (prefix_len is_ascii_digit bytes)) (sym e) ∙ drop_at p.0 (46 ∷ (p.1 ++ rest)) _ (sym n), omega (arith, ap length p.2, length-append p.0 (46 ∷ p.1)))

numeric_not_digit : (b : ℕ) → is_numeric b ≡ false → is_ascii_digit b ≡ false
numeric_not_digit b other = (or_parts (is_ascii_digit b) (b == 46) other).0

none_digit : (rest : List ℕ) → NoneFirst is_numeric rest → NoneFirst is_ascii_digit rest
none_digit [] none = tt
none_digit (b ∷ rest) none = numeric_not_digit b none

none_point : (rest : List ℕ) → NoneFirst is_numeric rest → get_or rest 0 0 ≢ 46
none_point [] none e = omega (arith, e)
none_point (b ∷ rest) none e = false≢true (sym none ∙ subst (λ x. is_numeric x ≡ true) (sym e) refl)

-- no point behind the digits
pub mantissa_run : (bytes : List ℕ) → get_or (drop (prefix_len is_ascii_digit bytes) bytes) 0 0 ≢ 46 → IsMantissa bytes (prefix_len is_ascii_digit bytes) false
mantissa_run bytes no_point =
    let none : (front rest : List ℕ) → front ++ rest ≡ bytes → IsPointed front → ⊥ = λ front rest same p. no_point (ap (λ (t : List ℕ). get_or t 0 0) (pointed_split bytes front rest same p).1) in
    record {
      within = prefix_len-le-length is_ascii_digit bytes;
      is_pointed = λ e. absurd (false≢true e);
      is_run = λ _. refl;
      pointed_bound = λ front rest same p. absurd (none front rest same p);
      pointed_exact = λ front rest same p _. absurd (none front rest same p);
      digits_bound = λ front rest same pass. bound_by_run is_ascii_digit bytes front rest same pass;
      digits_exact = λ front rest same digits behind. (refl, sym (exact_by_run is_ascii_digit bytes front rest same digits.1 (none_digit rest behind)));
    }

-- a point, and no digit on either side
pub mantissa_point_alone : (bytes : List ℕ) → prefix_len is_ascii_digit bytes ≡ 0 → prefix_len is_ascii_digit (drop 1 bytes) ≡ 0 → IsMantissa bytes 0 false
mantissa_point_alone bytes run behind =
    let none : (front rest : List ℕ) → front ++ rest ≡ bytes → IsPointed front → ⊥ = λ front rest same p. let parts = pointed_split bytes front rest same p in let at_point : bytes ≡ 46 ∷ (p.1 ++ rest) = subst (λ k. drop k bytes ≡ 46 ∷ (p.1 ++ rest)) run parts.1 in let more : p.1 ++ rest ≡ drop 1 bytes = sym (ap (drop 1) at_point) in omega (arith, p.5, parts.0, run, behind, bound_by_run is_ascii_digit (drop 1 bytes) p.1 rest more p.4) in
    record {
      within = omega arith;
      is_pointed = λ e. absurd (false≢true e);
      is_run = λ _. sym run;
      pointed_bound = λ front rest same p. absurd (none front rest same p);
      pointed_exact = λ front rest same p _. absurd (none front rest same p);
      digits_bound = λ front rest same pass. subst (λ k. length front ≤ k) run (bound_by_run is_ascii_digit bytes front rest same pass);
      digits_exact = λ front rest same digits none_behind. absurd (omega (arith, digits.0, run, bound_by_run is_ascii_digit bytes front rest same digits.1));
    }

-- a point with a digit on a side
drop_suc : (n : ℕ) (bytes : List ℕ) → drop (suc n) bytes ≡ drop 1 (drop n bytes)
drop_suc zero bytes = refl
drop_suc (suc n) [] = refl
drop_suc (suc n) (b ∷ bytes) = drop_suc n bytes

point_split : (bytes : List ℕ) (n : ℕ) → get_or (drop n bytes) 0 0 ≡ 46 → drop n bytes ≡ 46 ∷ drop (suc n) bytes
point_split [] zero e = absurd (omega (arith, e))
point_split (b ∷ bytes) zero e = ap (λ x. x ∷ bytes) e
point_split [] (suc n) e = absurd (omega (arith, e))
point_split (b ∷ bytes) (suc n) e = point_split bytes n e

take_split : (bytes : List ℕ) (n k : ℕ) → n ≤ length bytes → take (n + k) bytes ≡ take n bytes ++ take k (drop n bytes)
take_split bytes zero k within = rw zero-add refl
take_split [] (suc n) k within = absurd (omega (arith, within))
take_split (b ∷ bytes) (suc n) k within = rw suc-add (ap (λ t. b ∷ t) (take_split bytes n k (omega (arith, within))))

pub mantissa_pointed : (bytes : List ℕ) (n k : ℕ) → n ≡ prefix_len is_ascii_digit bytes → k ≡ prefix_len is_ascii_digit (drop (suc n) bytes) → get_or (drop n bytes) 0 0 ≡ 46 → 0 < n + k → IsMantissa bytes (n + suc k) true
mantissa_pointed bytes n k n_is k_is point some =
    let split = point_split bytes n point in
    let within : n ≤ length bytes = omega (arith, n_is, prefix_len-le-length is_ascii_digit bytes) in
    let front_all : AllPass is_ascii_digit (take n bytes) = subst (λ m. AllPass is_ascii_digit (take m bytes)) (sym n_is) (AllPass-run is_ascii_digit bytes) in
    let behind_all : AllPass is_ascii_digit (take k (drop (suc n) bytes)) = subst (λ m. AllPass is_ascii_digit (take m (drop (suc n) bytes))) (sym k_is) (AllPass-run is_ascii_digit (drop (suc n) bytes)) in
    let behind_in = prefix_len-le-length is_ascii_digit (drop (suc n) bytes) in
    let more : (front rest : List ℕ) → front ++ rest ≡ bytes → (p : IsPointed front) → p.1 ++ rest ≡ drop (suc n) bytes = λ front rest same p. sym (drop_suc n bytes ∙ ap (drop 1) (subst (λ m. drop m bytes ≡ 46 ∷ (p.1 ++ rest)) (sym n_is) (pointed_split bytes front rest same p).1)) in
    record {
      within = omega (arith, ap length split, length-drop n bytes, behind_in, k_is);
      is_pointed = λ _. (
        take n bytes,
        take k (drop (suc n) bytes),
        take_split bytes n (suc k) within ∙ ap (λ t. take n bytes ++ take (suc k) t) split,
        front_all,
        behind_all,
        omega (arith, some, length-take-le n bytes within, length-take-le k (drop (suc n) bytes) (omega (arith, k_is, behind_in))),
      );
      is_run = λ e. absurd (false≢true (sym e));
      pointed_bound = λ front rest same p. (
        refl,
        omega (arith, (pointed_split bytes front rest same p).0, (pointed_split bytes front rest same p).2, n_is, k_is, bound_by_run is_ascii_digit (drop (suc n) bytes) p.1 rest (more front rest same p) p.4),
      );
      pointed_exact = λ front rest same p none. omega (arith, (pointed_split bytes front rest same p).0, (pointed_split bytes front rest same p).2, n_is, k_is, exact_by_run is_ascii_digit (drop (suc n) bytes) p.1 rest (more front rest same p) p.4 none);
      digits_bound = λ front rest same pass. omega (arith, n_is, bound_by_run is_ascii_digit bytes front rest same pass);
      digits_exact = λ front rest same digits behind. let exact = exact_by_run is_ascii_digit bytes front rest same digits.1 (none_digit rest behind) in let rest_is : drop n bytes ≡ rest = ap (drop n) (sym same) ∙ drop_at front rest n (omega (arith, n_is, exact)) in absurd (none_point rest behind (subst (λ t. get_or t 0 0 ≡ 46) rest_is point));
    }

-- numbers alone begin with a digit or a point
number_only : (b : ℕ) (bytes : List ℕ) → class_of b ≡ Numeric → (kind : Option TokenKind) (front rest : List ℕ) → front ++ rest ≡ b ∷ bytes → IsPiece kind front rest → IsWhole front rest ⊎ IsReal front
number_only b bytes class kind front rest same piece = by_kind kind piece (subst (Begins kind) class (begins_at kind front rest b bytes piece same)) where
  by_kind : (k : Option TokenKind) → IsPiece k front rest → Begins k Numeric → IsWhole front rest ⊎ IsReal front
  by_kind (Some Whole) piece fits = inl piece
  by_kind (Some Real) piece fits = inr piece
  by_kind None piece fits = absurd fits
  by_kind (Some Word) piece fits = absurd fits
  by_kind (Some Capital) piece fits = absurd fits
  by_kind (Some Text) piece fits = absurd fits
  by_kind (Some Sign) piece fits = absurd fits

exponent_not_numeric : (front rest : List ℕ) → IsExponent front → NoneFirst is_numeric (front ++ rest)
exponent_not_numeric front rest x =
    subst (λ t. NoneFirst is_numeric (t ++ rest)) (sym x.3) (⊎_elim (λ e. subst (λ b. is_numeric b ≡ false) (sym e) refl) (λ e. subst (λ b. is_numeric b ≡ false) (sym e) refl) x.4)

pub whole_digits : (front rest : List ℕ) → IsWhole front rest → IsDigits front
whole_digits front rest whole =
    ⊎_elim (λ w. (omega (arith, ap length w.2), w.4)) (λ w. subst IsDigits (sym w.0) (omega arith, (refl, tt))) whole

module _ (bytes : List ℕ) (n k : ℕ) (pointed : Bool) (mantissa : IsMantissa bytes n pointed) (exponent : IsExponentLength (drop n bytes) k) where
  -- a front with an exponent
  with_exponent : (front rest : List ℕ) (m x : List ℕ) → front ++ rest ≡ bytes → front ≡ m ++ x → IsPointed m ⊎ IsDigits m → IsExponent x → (length front ≤ n + k) × (IsDigits m → pointed ≡ false) × (IsPointed m → pointed ≡ true) × (0 < k)
  with_exponent front rest m x same is m_is x_is =
      let whole : m ++ (x ++ rest) ≡ bytes = sym (append_assoc m x rest) ∙ subst (λ t. t ++ rest ≡ bytes) is same in
      let after = exponent_not_numeric x rest x_is in
      let at_n : length m ≡ n = ⊎_elim (λ p. mantissa.pointed_exact m (x ++ rest) whole p (none_digit (x ++ rest) after)) (λ d. (mantissa.digits_exact m (x ++ rest) whole d after).1) m_is in
      let x_at : x ++ rest ≡ drop n bytes = sym (ap (drop n) (sym whole) ∙ drop_at m (x ++ rest) n at_n) in
      let x_short = exponent.bound x rest x_at x_is in
      (omega (arith, ap length is, length-append m x, at_n, x_short), λ d. (mantissa.digits_exact m (x ++ rest) whole d after).0, λ p. (mantissa.pointed_bound m (x ++ rest) whole p).0, omega (arith, exponent_size x x_is, x_short))

  real_bound : (front rest : List ℕ) → front ++ rest ≡ bytes → IsReal front → length front ≤ n + k
  real_bound front rest same real =
      ⊎_elim (λ p. omega (arith, (mantissa.pointed_bound front rest same p).1)) (λ r. (with_exponent front rest r.0 r.1 same r.2 r.3 r.4).0) real

  whole_bound : (front rest : List ℕ) → front ++ rest ≡ bytes → IsWhole front rest → length front ≤ n
  whole_bound front rest same whole = mantissa.digits_bound front rest same (whole_digits front rest whole).1

  -- without a point and an exponent nothing is a real
  not_real : pointed ≡ false → k ≡ 0 → (front rest : List ℕ) → front ++ rest ≡ bytes → IsReal front → ⊥
  not_real flat none front rest same real =
      ⊎_elim (λ p. false≢true (sym flat ∙ (mantissa.pointed_bound front rest same p).0)) (λ r. omega (arith, (with_exponent front rest r.0 r.1 same r.2 r.3 r.4).3, none)) real

  mantissa_digits : pointed ≡ false → AllPass is_ascii_digit (take n bytes)
  mantissa_digits flat =
      subst (λ m. AllPass is_ascii_digit (take m bytes)) (sym (mantissa.is_run flat)) (AllPass-run is_ascii_digit bytes)

  mantissa_none : pointed ≡ false → NoneFirst is_ascii_digit (drop n bytes)
  mantissa_none flat =
      subst (λ m. NoneFirst is_ascii_digit (drop m bytes)) (sym (mantissa.is_run flat)) (NoneFirst-run is_ascii_digit bytes)

  real_is : 0 < n → (pointed ≡ true) ⊎ (0 < k) → IsReal (take (n + k) bytes)
  real_is some longer = by_exponent k refl where
    by_exponent : (j : ℕ) → j ≡ k → IsReal (take (n + k) bytes)
    by_exponent zero is =
        let no_k : k ≡ 0 = sym is in
        let is_pointed : pointed ≡ true = ⊎_elim (λ p. p) (λ lt. absurd (omega arith)) longer in
        inl (subst (λ m. IsPointed (take m bytes)) (omega arith) (mantissa.is_pointed is_pointed))
    by_exponent (suc j) is =
        inr (
          take n bytes,
          take k (drop n bytes),
          take_split bytes n k mantissa.within,
          ⊎_elim (λ p. inl (mantissa.is_pointed p)) (λ f. inr (omega (arith, some, length-take-le n bytes mantissa.within), mantissa_digits f)) (cases_Bool pointed),
          exponent.is_exponent (omega arith),
        )

pub real_front : (b : ℕ) (bytes : List ℕ) (n k : ℕ) (pointed : Bool) → IsMantissa (b ∷ bytes) n pointed → IsExponentLength (drop n (b ∷ bytes)) k → class_of b ≡ Numeric → 0 < n → (pointed ≡ true) ⊎ (0 < k) → IsLongestFront (b ∷ bytes) (Some Real) (n + k)
real_front b bytes n k pointed mantissa exponent class some longer =
    front_from (b ∷ bytes) (Some Real) (n + k) (omega arith) (omega (arith, mantissa.within, exponent.within, length-drop n (b ∷ bytes))) (real_is (b ∷ bytes) n k pointed mantissa exponent some longer) (λ kind front rest same piece. ⊎_elim (λ w. omega (arith, whole_bound (b ∷ bytes) n k pointed mantissa exponent front rest same w)) (real_bound (b ∷ bytes) n k pointed mantissa exponent front rest same) (number_only b bytes class kind front rest same piece))

whole_is : (b : ℕ) (bytes : List ℕ) (n : ℕ) → 0 < n → (n ≡ 1) ⊎ (b ≢ 48) → AllPass is_ascii_digit (take n (b ∷ bytes)) → NoneFirst is_ascii_digit (drop n (b ∷ bytes)) → IsWhole (take n (b ∷ bytes)) (drop n (b ∷ bytes))
whole_is b bytes zero some form pass none = absurd (omega arith)
whole_is b bytes (suc n) some form pass none =
    ⊎_elim (λ other. inl (b, take n bytes, refl, other, pass)) (λ is_zero. inr (zero_text is_zero, none)) (cases_zero form) where
      cases_zero : (suc n ≡ 1) ⊎ (b ≢ 48) → (b ≢ 48) ⊎ ((b ≡ 48) × (n ≡ 0))
      cases_zero form =
          ⊎_elim (λ one. ⊎_elim (λ e. inr (e, omega arith)) (λ ne. inl ne) (cases_eq b 48)) (λ ne. inl ne) form

      zero_text : (b ≡ 48) × (n ≡ 0) → b ∷ take n bytes ≡ 48 ∷ []
      zero_text both = ap (λ m. b ∷ take m bytes) both.1 ∙ ap (λ x. x ∷ []) both.0

pub whole_front : (b : ℕ) (bytes : List ℕ) (n : ℕ) → IsMantissa (b ∷ bytes) n false → IsExponentLength (drop n (b ∷ bytes)) 0 → class_of b ≡ Numeric → 0 < n → (n ≡ 1) ⊎ (b ≢ 48) → IsLongestFront (b ∷ bytes) (Some Whole) n
whole_front b bytes n mantissa exponent class some form =
    front_from (b ∷ bytes) (Some Whole) n some mantissa.within (whole_is b bytes n some form (mantissa_digits (b ∷ bytes) n 0 false mantissa exponent refl) (mantissa_none (b ∷ bytes) n 0 false mantissa exponent refl)) (λ kind front rest same piece. ⊎_elim (whole_bound (b ∷ bytes) n 0 false mantissa exponent front rest same) (λ r. absurd (not_real (b ∷ bytes) n 0 false mantissa exponent refl refl front rest same r)) (number_only b bytes class kind front rest same piece))

-- more than one digit, of which 0 is the first
pub zeros_none : (b : ℕ) (bytes : List ℕ) (n : ℕ) → IsMantissa (b ∷ bytes) n false → IsExponentLength (drop n (b ∷ bytes)) 0 → class_of b ≡ Numeric → n ≢ 1 → b ≡ 48 → NothingBegins (b ∷ bytes)
zeros_none b bytes n mantissa exponent class more is_zero kind front rest same piece =
    ⊎_elim (λ whole. ⊎_elim (λ w. w.3 (first_of_same _ (b ∷ bytes) (subst (λ t. t ++ rest ≡ b ∷ bytes) w.2 same) ∙ is_zero)) (λ w. more (omega (arith, mantissa.is_run refl, ap length w.0, exact_by_run is_ascii_digit (b ∷ bytes) front rest same (whole_digits front rest whole).1 w.1))) whole) (not_real (b ∷ bytes) n 0 false mantissa exponent refl refl front rest same) (number_only b bytes class kind front rest same piece)

-- no front is a number where none has a byte
empty_flat : (bytes : List ℕ) (n : ℕ) (pointed : Bool) → IsMantissa bytes n pointed → n ≡ 0 → pointed ≡ true → ⊥
empty_flat bytes n pointed mantissa none is =
    let p = subst (λ m. IsPointed (take m bytes)) none (mantissa.is_pointed is) in
    omega (arith, ap length p.2, length-append p.0 (46 ∷ p.1))

pub point_none : (b : ℕ) (bytes : List ℕ) (n : ℕ) (pointed : Bool) → IsMantissa (b ∷ bytes) n pointed → class_of b ≡ Numeric → n ≡ 0 → NothingBegins (b ∷ bytes)
point_none b bytes n pointed mantissa class none kind front rest same piece =
    let flat = empty_flat (b ∷ bytes) n pointed mantissa none in
    ⊎_elim (λ w. let d = whole_digits front rest w in omega (arith, d.0, none, mantissa.digits_bound front rest same d.1)) (λ real. ⊎_elim (λ p. flat (mantissa.pointed_bound front rest same p).0) (λ r. let whole : r.0 ++ (r.1 ++ rest) ≡ b ∷ bytes = sym (append_assoc r.0 r.1 rest) ∙ subst (λ t. t ++ rest ≡ b ∷ bytes) r.2 same in ⊎_elim (λ p. flat (mantissa.pointed_bound r.0 (r.1 ++ rest) whole p).0) (λ d. omega (arith, d.0, none, mantissa.digits_bound r.0 (r.1 ++ rest) whole d.1)) r.3) real) (number_only b bytes class kind front rest same piece)
