-- What each reader of one piece finds, from the facts that its code has.
use Rattle.std.proofs.Common.{◌≡◌, ◌≢◌, ℕ, suc, ◌+◌, ◌-◌, ◌<◌, ◌≤◌, Bool, true, false, List, [], ◌∷◌, length, take, drop, get_or, ◌⊎◌, Option, Some, None, refl, sym, ◌∙◌, ap, subst, ⊎_elim, arith, add-zero}
use Rattle.std.specs.Prelude.{◌==◌}
use Rattle.std.specs.List.{prefix_len}
use Rattle.std.specs.Char.{is_ascii_digit}
use Rattle.std.proofs.lemmas.Bool.{cond_both, eqb-true, eqb-false}
use Rattle.std.proofs.lemmas.List.{get_or-drop, take_rest}
use Rattle.qasm_lex.specs.declared.token.TokenKind.{TokenKind}
use Rattle.qasm_lex.specs.declared.token.TokenKind.TheVariants.{Word, Capital, Whole, Real, Text, Sign}
use Rattle.qasm_lex.specs.declared.piece.Front.{Front}
use Rattle.qasm_lex.specs.declared.piece.Class.{Class}
use Rattle.qasm_lex.specs.declared.piece.Class.TheVariants.{Lower, Numeric, Upper, Blank, Slash, Quote, Mark, Other}
use Rattle.qasm_lex.specs.Bytes.{is_word_byte, is_comment_byte, is_string_byte}
use Rattle.qasm_lex.specs.Classes.{class_of}
use Rattle.qasm_lex.specs.Forms.{IsOneOf, capitals}
use Rattle.qasm_lex.specs.Cuts.{IsLongestFront, NothingBegins}
use Rattle.qasm_lex.specs.Numbers.{IsExponentLength, IsMantissa, length_with}
use Rattle.qasm_lex.proofs.FirstBytes.{Begins, begins_at}
use Rattle.qasm_lex.proofs.FirstClasses.{Means, means}
use Rattle.qasm_lex.proofs.LongestWords.{StartsWith, word_front, capital_front, capital_none, text_front, text_none}
use Rattle.qasm_lex.proofs.LongestSigns.{blank_front, comment_front, slash_front, arrow_front, equals_front, equals_none, mark_front}
use Rattle.qasm_lex.proofs.LongestNumbers.{mantissa_run, mantissa_point_alone, mantissa_pointed, exponent_absent, exponent_unsigned, exponent_no_digits, exponent_signed, exponent_sign_alone, real_front, whole_front, zeros_none, point_none}

-- a front with this kind and length
pub front_is : (bytes : List ℕ) (front : Front) (kind : Option TokenKind) (n : ℕ) → front ≡ record { kind = kind; length = n } → IsLongestFront bytes kind n → IsLongestFront bytes front.kind front.length
front_is bytes front kind n is longest =
    subst (λ (f : Front). IsLongestFront bytes f.kind f.length) (sym is) longest

meaning : (b : ℕ) (class : Class) → class_of b ≡ class → Means class b
meaning b class is = subst (λ c. Means c b) is (means b)

pub word_found : (bytes : List ℕ) → 0 < length bytes → class_of (get_or bytes 0 0) ≡ Lower → IsLongestFront bytes (Some Word) (prefix_len is_word_byte bytes)
word_found [] some class = absurd (omega (arith, some))
word_found (b ∷ bytes) some class = word_front b bytes class (meaning b Lower class)

pub capital_found : (bytes : List ℕ) → 0 < length bytes → class_of (get_or bytes 0 0) ≡ Upper → IsOneOf capitals (take (prefix_len is_word_byte bytes) bytes) → IsLongestFront bytes (Some Capital) (prefix_len is_word_byte bytes)
capital_found [] some class one = absurd (omega (arith, some))
capital_found (b ∷ bytes) some class one = capital_front b bytes class one

pub capital_missing : (bytes : List ℕ) → 0 < length bytes → class_of (get_or bytes 0 0) ≡ Upper → (IsOneOf capitals (take (prefix_len is_word_byte bytes) bytes) → ⊥) → NothingBegins bytes
capital_missing [] some class not_one = absurd (omega (arith, some))
capital_missing (b ∷ bytes) some class not_one = capital_none b bytes class not_one

pub blank_found : (bytes : List ℕ) → 0 < length bytes → class_of (get_or bytes 0 0) ≡ Blank → IsLongestFront bytes None 1
blank_found [] some class = absurd (omega (arith, some))
blank_found (b ∷ bytes) some class = blank_front b bytes class (meaning b Blank class)

-- nothing begins with a byte of this class
other_never : (kind : Option TokenKind) → Begins kind Other → ⊥
other_never None fits = fits
other_never (Some Word) fits = fits
other_never (Some Capital) fits = fits
other_never (Some Whole) fits = fits
other_never (Some Real) fits = fits
other_never (Some Text) fits = fits
other_never (Some Sign) fits = fits

pub other_missing : (bytes : List ℕ) → 0 < length bytes → class_of (get_or bytes 0 0) ≡ Other → NothingBegins bytes
other_missing [] some class = absurd (omega (arith, some))
other_missing (b ∷ bytes) some class =
    λ kind front rest same piece. other_never kind (subst (Begins kind) class (begins_at kind front rest b bytes piece same))

pub comment_found : (bytes : List ℕ) → 0 < length bytes → class_of (get_or bytes 0 0) ≡ Slash → get_or bytes 1 0 ≡ 47 → IsLongestFront bytes None (2 + prefix_len is_comment_byte (drop 2 bytes))
comment_found [] some class next = absurd (omega (arith, some))
comment_found (b ∷ []) some class next = absurd (omega (arith, next))
comment_found (b ∷ d ∷ bytes) some class next =
    let first : b ≡ 47 = meaning b Slash class in
    let P : List ℕ → Type 0 = λ t. IsLongestFront t None (2 + prefix_len is_comment_byte bytes) in
    let same : 47 ∷ 47 ∷ bytes ≡ b ∷ d ∷ bytes = rw (first, next) refl in
    subst P same (subst (IsLongestFront (47 ∷ 47 ∷ bytes) None) (omega arith) (comment_front bytes))

pub slash_found : (bytes : List ℕ) → 0 < length bytes → class_of (get_or bytes 0 0) ≡ Slash → get_or bytes 1 0 ≢ 47 → IsLongestFront bytes (Some Sign) 1
slash_found [] some class next = absurd (omega (arith, some))
slash_found (b ∷ bytes) some class next =
    subst (λ x. IsLongestFront (x ∷ bytes) (Some Sign) 1) (sym (meaning b Slash class)) (slash_front bytes next)

starts_with : (bytes : List ℕ) → get_or bytes 0 0 ≡ 34 → StartsWith 34 bytes
starts_with [] e = absurd (omega (arith, e))
starts_with (b ∷ bytes) e = e

get_or_of_start : (bytes : List ℕ) → StartsWith 34 bytes → get_or bytes 0 0 ≡ 34
get_or_of_start [] s = absurd s
get_or_of_start (b ∷ bytes) s = s

pub text_found : (bytes : List ℕ) → 0 < length bytes → class_of (get_or bytes 0 0) ≡ Quote → get_or (drop 1 bytes) (prefix_len is_string_byte (drop 1 bytes)) 0 ≡ 34 → IsLongestFront bytes (Some Text) (prefix_len is_string_byte (drop 1 bytes) + 2)
text_found [] some class closed = absurd (omega (arith, some))
text_found (b ∷ bytes) some class closed =
    let n = prefix_len is_string_byte bytes in
    let here : get_or (drop n bytes) 0 0 ≡ 34 = get_or-drop n bytes 0 0 ∙ ap (λ k. get_or bytes k 0) (omega arith) ∙ closed in
    subst (λ x. IsLongestFront (x ∷ bytes) (Some Text) (n + 2)) (sym (meaning b Quote class)) (subst (IsLongestFront (34 ∷ bytes) (Some Text)) (omega arith) (text_front bytes (starts_with (drop n bytes) here)))

pub text_missing : (bytes : List ℕ) → 0 < length bytes → class_of (get_or bytes 0 0) ≡ Quote → get_or (drop 1 bytes) (prefix_len is_string_byte (drop 1 bytes)) 0 ≢ 34 → NothingBegins bytes
text_missing [] some class not_closed = absurd (omega (arith, some))
text_missing (b ∷ bytes) some class not_closed =
    let n = prefix_len is_string_byte bytes in
    subst (λ x. NothingBegins (x ∷ bytes)) (sym (meaning b Quote class)) (text_none bytes (λ s. not_closed (sym (get_or-drop n bytes 0 0 ∙ ap (λ k. get_or bytes k 0) (omega arith)) ∙ get_or_of_start (drop n bytes) s)))

pub equals_found : (bytes : List ℕ) → get_or bytes 0 0 ≡ 61 → get_or bytes 1 0 ≡ 61 → IsLongestFront bytes (Some Sign) 2
equals_found [] first next = absurd (omega (arith, first))
equals_found (b ∷ []) first next = absurd (omega (arith, next))
equals_found (b ∷ d ∷ bytes) first next =
    let same : 61 ∷ 61 ∷ bytes ≡ b ∷ d ∷ bytes = rw (first, next) refl in
    subst (λ t. IsLongestFront t (Some Sign) 2) same (equals_front bytes)

pub equals_missing : (bytes : List ℕ) → get_or bytes 0 0 ≡ 61 → get_or bytes 1 0 ≢ 61 → NothingBegins bytes
equals_missing [] first next = absurd (omega (arith, first))
equals_missing (b ∷ bytes) first next = subst (λ x. NothingBegins (x ∷ bytes)) (sym first) (equals_none bytes next)

pub arrow_found : (bytes : List ℕ) → get_or bytes 0 0 ≡ 45 → get_or bytes 1 0 ≡ 62 → IsLongestFront bytes (Some Sign) 2
arrow_found [] first next = absurd (omega (arith, first))
arrow_found (b ∷ []) first next = absurd (omega (arith, next))
arrow_found (b ∷ d ∷ bytes) first next =
    let same : 45 ∷ 62 ∷ bytes ≡ b ∷ d ∷ bytes = rw (first, next) refl in
    subst (λ t. IsLongestFront t (Some Sign) 2) same (arrow_front bytes)

pub mark_found : (bytes : List ℕ) → 0 < length bytes → class_of (get_or bytes 0 0) ≡ Mark → get_or bytes 0 0 ≢ 61 → (get_or bytes 0 0 ≢ 45) ⊎ (get_or bytes 1 0 ≢ 62) → IsLongestFront bytes (Some Sign) 1
mark_found [] some class other alone = absurd (omega (arith, some))
mark_found (b ∷ bytes) some class other alone =
    mark_front b bytes class (meaning b Mark class) other (λ minus. ⊎_elim (λ ne. absurd (ne minus)) (λ ne. ne) alone)

positive : (k : ℕ) → (k ≡ 0 → ⊥) → 0 < k
positive k ne = omega (arith, ne)

pub exponent_missing : (bytes : List ℕ) → get_or bytes 0 0 ≢ 101 → get_or bytes 0 0 ≢ 69 → IsExponentLength bytes 0
exponent_missing bytes lower upper = exponent_absent bytes lower upper

pub exponent_found_unsigned : (bytes : List ℕ) → (get_or bytes 0 0 ≡ 101) ⊎ (get_or bytes 0 0 ≡ 69) → get_or bytes 1 0 ≢ 43 → get_or bytes 1 0 ≢ 45 → IsExponentLength bytes (length_with 1 (prefix_len is_ascii_digit (drop 1 bytes)))
exponent_found_unsigned [] e plus minus = absurd (⊎_elim (λ (h : 0 ≡ 101). omega arith) (λ (h : 0 ≡ 69). omega arith) e)
exponent_found_unsigned (b ∷ bytes) e plus minus =
    let k = prefix_len is_ascii_digit bytes in
    cond_both (k == 0) 0 (1 + k) (IsExponentLength (b ∷ bytes)) (λ is. exponent_no_digits b bytes plus minus (eqb-true k 0 is)) (λ is. subst (IsExponentLength (b ∷ bytes)) (omega arith) (exponent_unsigned b bytes e plus minus (positive k (eqb-false k 0 is))))

pub exponent_found_signed : (bytes : List ℕ) → (get_or bytes 0 0 ≡ 101) ⊎ (get_or bytes 0 0 ≡ 69) → (get_or bytes 1 0 ≡ 43) ⊎ (get_or bytes 1 0 ≡ 45) → IsExponentLength bytes (length_with 2 (prefix_len is_ascii_digit (drop 2 bytes)))
exponent_found_signed [] e sign = absurd (⊎_elim (λ (h : 0 ≡ 101). omega arith) (λ (h : 0 ≡ 69). omega arith) e)
exponent_found_signed (b ∷ []) e sign = absurd (⊎_elim (λ (h : 0 ≡ 43). omega arith) (λ (h : 0 ≡ 45). omega arith) sign)
exponent_found_signed (b ∷ s ∷ bytes) e sign =
    let k = prefix_len is_ascii_digit bytes in
    cond_both (k == 0) 0 (2 + k) (IsExponentLength (b ∷ s ∷ bytes)) (λ is. exponent_sign_alone b s bytes sign (eqb-true k 0 is)) (λ is. subst (IsExponentLength (b ∷ s ∷ bytes)) (omega arith) (exponent_signed b s bytes e sign (positive k (eqb-false k 0 is))))

pub real_found : (bytes : List ℕ) (n k : ℕ) (pointed : Bool) → IsMantissa bytes n pointed → IsExponentLength (drop n bytes) k → 0 < length bytes → class_of (get_or bytes 0 0) ≡ Numeric → n ≢ 0 → (pointed ≡ true) ⊎ (0 < k) → IsLongestFront bytes (Some Real) (n + k)
real_found [] n k pointed mantissa exponent some class front longer = absurd (omega (arith, some))
real_found (b ∷ bytes) n k pointed mantissa exponent some class front longer =
    real_front b bytes n k pointed mantissa exponent class (omega (arith, front)) longer

flat_mantissa : (bytes : List ℕ) (n : ℕ) (pointed : Bool) → pointed ≡ false → IsMantissa bytes n pointed → IsMantissa bytes n false
flat_mantissa bytes n pointed flat mantissa = subst (IsMantissa bytes n) flat mantissa

no_exponent : (bytes : List ℕ) (k : ℕ) → k ≤ 0 → IsExponentLength bytes k → IsExponentLength bytes 0
no_exponent bytes k none exponent = subst (IsExponentLength bytes) (omega (arith, none)) exponent

pub whole_found : (bytes : List ℕ) (n k : ℕ) (pointed : Bool) → IsMantissa bytes n pointed → IsExponentLength (drop n bytes) k → 0 < length bytes → class_of (get_or bytes 0 0) ≡ Numeric → n ≢ 0 → pointed ≡ false → k ≤ 0 → (n ≡ 1) ⊎ (get_or bytes 0 0 ≢ 48) → IsLongestFront bytes (Some Whole) n
whole_found [] n k pointed mantissa exponent some class front flat none form = absurd (omega (arith, some))
whole_found (b ∷ bytes) n k pointed mantissa exponent some class front flat none form =
    whole_front b bytes n (flat_mantissa (b ∷ bytes) n pointed flat mantissa) (no_exponent _ k none exponent) class (omega (arith, front)) form

pub zeros_missing : (bytes : List ℕ) (n k : ℕ) (pointed : Bool) → IsMantissa bytes n pointed → IsExponentLength (drop n bytes) k → 0 < length bytes → class_of (get_or bytes 0 0) ≡ Numeric → pointed ≡ false → k ≤ 0 → n ≢ 1 → get_or bytes 0 0 ≡ 48 → NothingBegins bytes
zeros_missing [] n k pointed mantissa exponent some class flat none more is_zero = absurd (omega (arith, some))
zeros_missing (b ∷ bytes) n k pointed mantissa exponent some class flat none more is_zero =
    zeros_none b bytes n (flat_mantissa (b ∷ bytes) n pointed flat mantissa) (no_exponent _ k none exponent) class more is_zero

-- no digit, and no point with one
pub point_missing : (bytes : List ℕ) (n : ℕ) (pointed : Bool) → IsMantissa bytes n pointed → 0 < length bytes → class_of (get_or bytes 0 0) ≡ Numeric → n ≡ 0 → NothingBegins bytes
point_missing [] n pointed mantissa some class none = absurd (omega (arith, some))
point_missing (b ∷ bytes) n pointed mantissa some class none = point_none b bytes n pointed mantissa class none

pub mantissa_without : (bytes : List ℕ) (n : ℕ) → n ≡ prefix_len is_ascii_digit bytes → get_or bytes n 0 ≢ 46 → IsMantissa bytes n false
mantissa_without bytes n n_is no_point =
    subst (λ m. IsMantissa bytes m false) (sym n_is) (mantissa_run bytes (λ e. no_point (ap (λ m. get_or bytes m 0) (n_is ∙ sym (add-zero (prefix_len is_ascii_digit bytes))) ∙ sym (get_or-drop (prefix_len is_ascii_digit bytes) bytes 0 0) ∙ e)))

pub mantissa_alone : (bytes : List ℕ) (n k : ℕ) → n ≡ prefix_len is_ascii_digit bytes → k ≡ prefix_len is_ascii_digit (drop (n + 1) bytes) → n ≡ 0 → k ≡ 0 → IsMantissa bytes 0 false
mantissa_alone bytes n k n_is k_is n_zero k_zero =
    let one : 1 ≡ n + 1 = omega (arith, n_zero) in
    mantissa_point_alone bytes (sym n_is ∙ n_zero) (ap (λ m. prefix_len is_ascii_digit (drop m bytes)) one ∙ sym k_is ∙ k_zero)

pub mantissa_found : (bytes : List ℕ) (n k : ℕ) → n ≡ prefix_len is_ascii_digit bytes → k ≡ prefix_len is_ascii_digit (drop (n + 1) bytes) → get_or bytes n 0 ≡ 46 → 0 < n + k → IsMantissa bytes (n + (k + 1)) true
mantissa_found bytes n k n_is k_is point some =
    let at : get_or (drop n bytes) 0 0 ≡ 46 = get_or-drop n bytes 0 0 ∙ ap (λ m. get_or bytes m 0) (add-zero n) ∙ point in
    let next : n + 1 ≡ suc n = omega arith in
    subst (λ m. IsMantissa bytes m true) (omega arith) (mantissa_pointed bytes n k n_is (k_is ∙ ap (λ m. prefix_len is_ascii_digit (drop m bytes)) next) at some)

-- a fact of a slice up to the end
pub of_rest : (P : List ℕ → Type 0) (bytes : List ℕ) (from : ℕ) → P (take (length bytes - from) (drop from bytes)) → P (drop from bytes)
of_rest P bytes from fact = subst P (take_rest bytes from) fact
