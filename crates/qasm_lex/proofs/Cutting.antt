-- What the cut that computes finds are the tokens of a source.
use Rattle.std.proofs.Common.{◌≡◌, ◌≢◌, ℕ, zero, suc, ◌+◌, ◌<◌, Bool, true, false, List, [], ◌∷◌, ◌++◌, length, take, drop, get_or, ◌⊎◌, Option, Some, None, refl, sym, ◌∙◌, ap, subst, inl, inr, ⊎_elim, arith, add-zero}
use Rattle.std.specs.Prelude.{◌==◌, ◌||◌, ◌&&◌, not, if◌then◌else◌}
use Rattle.std.specs.List.{prefix_len, list_any, flat_map}
use Rattle.std.specs.Char.{is_ascii_digit}
use Rattle.std.specs.Str.{bytes_eq}
use Rattle.std.proofs.lemmas.Bool.{cond_both, or_parts, and_cases, eqb-true, eqb-false, not-true, not-false}
use Rattle.std.proofs.lemmas.List.{get_or-drop, take-append-drop, append-nil}
use Rattle.std.proofs.lemmas.Slice.Eq.{bytes_eq-Decides}
use Rattle.qasm_lex.specs.declared.token.TokenKind.{TokenKind}
use Rattle.qasm_lex.specs.declared.token.TokenKind.TheVariants.{Whole, Real}
use Rattle.qasm_lex.specs.declared.piece.Front.{Front}
use Rattle.qasm_lex.specs.declared.piece.Class.{Class}
use Rattle.qasm_lex.specs.declared.piece.Class.TheVariants.{Lower, Numeric, Upper, Blank, Slash, Quote, Mark, Other}
use Rattle.qasm_lex.specs.Bytes.{is_word_byte}
use Rattle.qasm_lex.specs.Classes.{class_of}
use Rattle.qasm_lex.specs.Cuts.{Piece, piece_text, AreLongest, IsLongest, IsLongestFront, AreTokensOf, tokens_of}
use Rattle.qasm_lex.specs.Cutting.{front_unless, is_e, real_front, whole_front, number_front, capital_front, front_of_class, front_of, with_piece, cut_front, cut}
use Rattle.qasm_lex.specs.Forms.{IsOneOf, capitals}
use Rattle.qasm_lex.specs.Numbers.{IsExponentLength}
use Rattle.qasm_lex.proofs.Found.{word_found, capital_found, blank_found, slash_found, mark_found, exponent_missing, real_found, whole_found, mantissa_without, mantissa_found}

-- a piece that is answered is the longest at the front
abbrev FrontFits : List ℕ → Option Front → Type 0
FrontFits bytes None = Unit {0}
FrontFits bytes (Some f) = IsLongestFront bytes f.kind f.length

unless : (bytes : List ℕ) (b : Bool) (kind : Option TokenKind) (n : ℕ) → (b ≡ false → IsLongestFront bytes kind n) → FrontFits bytes (front_unless b kind n)
unless bytes true kind n longest = tt
unless bytes false kind n longest = longest refl

no_exponent_at : (bytes : List ℕ) (n : ℕ) → is_e (get_or bytes n 0) ≡ false → IsExponentLength (drop n bytes) 0
no_exponent_at bytes n none =
    let at : get_or (drop n bytes) 0 0 ≡ get_or bytes n 0 = get_or-drop n bytes 0 0 ∙ ap (λ m. get_or bytes m 0) (add-zero n) in
    let parts = or_parts (get_or bytes n 0 == 101) (get_or bytes n 0 == 69) none in
    exponent_missing (drop n bytes) (λ e. eqb-false _ _ parts.0 (sym at ∙ e)) (λ e. eqb-false _ _ parts.1 (sym at ∙ e))

real_fits : (bytes : List ℕ) (before behind : ℕ) → before ≡ prefix_len is_ascii_digit bytes → behind ≡ prefix_len is_ascii_digit (drop (before + 1) bytes) → get_or bytes before 0 ≡ 46 → 0 < length bytes → class_of (get_or bytes 0 0) ≡ Numeric → FrontFits bytes (real_front bytes before behind)
real_fits bytes before behind before_is behind_is point some class = unless bytes _ (Some Real) (before + (behind + 1)) by_test where
  by_test : ((before + behind) == 0 || is_e (get_or bytes (before + (behind + 1)) 0)) ≡ false → IsLongestFront bytes (Some Real) (before + (behind + 1))
  by_test none =
      let parts = or_parts ((before + behind) == 0) (is_e (get_or bytes (before + (behind + 1)) 0)) none in
      let digits : before + behind ≢ 0 = eqb-false _ _ parts.0 in
      let n = before + (behind + 1) in
      subst (IsLongestFront bytes (Some Real)) (add-zero n) (real_found bytes n 0 true (mantissa_found bytes before behind before_is behind_is point (omega (arith, digits))) (no_exponent_at bytes n parts.1) some class (λ e. omega (arith, e)) (inl refl))

whole_fits : (bytes : List ℕ) (n : ℕ) → n ≡ prefix_len is_ascii_digit bytes → get_or bytes n 0 ≢ 46 → 0 < length bytes → class_of (get_or bytes 0 0) ≡ Numeric → FrontFits bytes (whole_front bytes n)
whole_fits bytes n n_is flat some class = unless bytes _ (Some Whole) n by_test where
  form : (not (n == 1) && get_or bytes 0 0 == 48) ≡ false → (n ≡ 1) ⊎ (get_or bytes 0 0 ≢ 48)
  form none = ⊎_elim (λ one. inl (eqb-true n 1 (not-false (n == 1) one))) (λ other. inr (eqb-false _ _ other)) (and_cases (not (n == 1)) (get_or bytes 0 0 == 48) none)

  by_test : (n == 0 || (is_e (get_or bytes n 0) || (not (n == 1) && get_or bytes 0 0 == 48))) ≡ false → IsLongestFront bytes (Some Whole) n
  by_test none =
      let first = or_parts (n == 0) (is_e (get_or bytes n 0) || (not (n == 1) && get_or bytes 0 0 == 48)) none in
      let second = or_parts (is_e (get_or bytes n 0)) (not (n == 1) && get_or bytes 0 0 == 48) first.1 in
      whole_found bytes n 0 false (mantissa_without bytes n n_is flat) (no_exponent_at bytes n second.0) some class (eqb-false n 0 first.0) refl (omega arith) (form second.1)

number_fits : (bytes : List ℕ) (n : ℕ) → n ≡ prefix_len is_ascii_digit bytes → 0 < length bytes → class_of (get_or bytes 0 0) ≡ Numeric → FrontFits bytes (number_front bytes n)
number_fits bytes n n_is some class =
    cond_both (get_or bytes n 0 == 46) _ _ (FrontFits bytes) (λ point. real_fits bytes n _ n_is refl (eqb-true _ _ point) some class) (λ other. whole_fits bytes n n_is (eqb-false _ _ other) some class)

-- a text that a test finds among words is one of them
one_of_words : (words : List (List ℕ)) (text : List ℕ) → list_any (bytes_eq text) words ≡ true → IsOneOf words text
one_of_words [] text found = absurd (cc)
one_of_words (word ∷ words) text found = by_test (bytes_eq text word) refl (one_of_words words text) found where
  by_test : (b : Bool) → bytes_eq text word ≡ b → (list_any (bytes_eq text) words ≡ true → IsOneOf words text) → (b || list_any (bytes_eq text) words) ≡ true → IsOneOf (word ∷ words) text
  by_test true same others found = inl ((bytes_eq-Decides text word).0 same)
  by_test false other others found = inr (others found)

front_fits : (bytes : List ℕ) → 0 < length bytes → FrontFits bytes (front_of bytes)
unfolding front_of
front_fits bytes some = by_class (class_of (get_or bytes 0 0)) refl where
  by_class : (c : Class) → class_of (get_or bytes 0 0) ≡ c → FrontFits bytes (front_of_class c bytes)
  by_class Lower class = word_found bytes some class
  by_class Numeric class = number_fits bytes (prefix_len is_ascii_digit bytes) refl some class
  by_class Upper class =
      unless bytes _ _ _ (λ none. capital_found bytes some class (one_of_words capitals _ (not-false _ none)))
  by_class Blank class = blank_found bytes some class
  by_class Slash class = unless bytes _ _ _ (λ none. slash_found bytes some class (eqb-false _ _ none))
  by_class Quote class = tt
  by_class Mark class =
      unless bytes _ _ _ (λ none. let parts = or_parts (get_or bytes 0 0 == 61) (get_or bytes 1 0 == 62) none in mark_found bytes some class (eqb-false _ _ parts.0) (inr (eqb-false _ _ parts.1)))
  by_class Other class = tt

-- bytes that are the texts of pieces, each the longest
abbrev CutInto : List ℕ → List Piece → Type 0
CutInto bytes pieces = (bytes ≡ flat_map piece_text pieces) × AreLongest pieces []

cut_more : (bytes : List ℕ) (f : Front) (others : List Piece) → IsLongestFront bytes f.kind f.length → CutInto (drop f.length bytes) others → CutInto bytes (record { kind = f.kind; text = take f.length bytes } ∷ others)
cut_more bytes f others longest rest = (
  sym (take-append-drop f.length bytes) ∙ ap (λ t. take f.length bytes ++ t) rest.0,
  (subst (IsLongest f.kind (take f.length bytes)) (rest.0 ∙ sym (append-nil (flat_map piece_text others))) longest.longest, rest.1),
)

cut_into : (n : ℕ) (bytes : List ℕ) (pieces : List Piece) → cut n bytes ≡ Some pieces → CutInto bytes pieces
unfolding cut
cut_into zero [] pieces is =
    let none : [] ≡ pieces = cc in
    subst (CutInto []) none (refl, tt)
cut_into (suc n) [] pieces is =
    let none : [] ≡ pieces = cc in
    subst (CutInto []) none (refl, tt)
cut_into zero (b ∷ bytes) pieces is = absurd (cc)
cut_into (suc n) (b ∷ bytes) pieces is =
    by_front (front_of (b ∷ bytes)) (front_fits (b ∷ bytes) (omega arith)) (cut_into n) is where
      by_rest : (f : Front) → IsLongestFront (b ∷ bytes) f.kind f.length → (r : Option (List Piece)) → ((others : List Piece) → r ≡ Some others → CutInto (drop f.length (b ∷ bytes)) others) → with_piece (record { kind = f.kind; text = take f.length (b ∷ bytes) }) r ≡ Some pieces → CutInto (b ∷ bytes) pieces
      by_rest f longest None rest is = absurd (cc)
      by_rest f longest (Some others) rest is =
          let e : record { kind = f.kind; text = take f.length (b ∷ bytes) } ∷ others ≡ pieces = cc in
          subst (CutInto (b ∷ bytes)) e (cut_more (b ∷ bytes) f others longest (rest others refl))

      by_front : (o : Option Front) → FrontFits (b ∷ bytes) o → ((rest : List ℕ) (others : List Piece) → cut n rest ≡ Some others → CutInto rest others) → cut_front (b ∷ bytes) (cut n) o ≡ Some pieces → CutInto (b ∷ bytes) pieces
      by_front None fits go is = absurd (cc)
      by_front (Some f) fits go is =
          by_rest f fits (cut n (drop f.length (b ∷ bytes))) (go (drop f.length (b ∷ bytes))) is

-- the pieces that are answered are the text of a source
pub cut_text : (n : ℕ) (source : List ℕ) (pieces : List Piece) → cut n source ≡ Some pieces → source ≡ flat_map piece_text pieces
cut_text n source pieces is = (cut_into n source pieces is).0

-- the pieces that are answered give its tokens
pub cut_tokens : (n : ℕ) (source : List ℕ) (pieces : List Piece) → cut n source ≡ Some pieces → AreTokensOf source (record { tokens = tokens_of 0 pieces; source_length = length source })
cut_tokens n source pieces is = let into = cut_into n source pieces is in (pieces, into.0, into.1, refl, refl)
