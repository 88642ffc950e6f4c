-- At the front of each list of bytes stands a longest piece, or none begins there; so each source has tokens or a fault.
use Rattle.std.proofs.Common.{◌≡◌, ◌≢◌, ℕ, zero, suc, ◌+◌, ◌<◌, ◌≤◌, Bool, true, false, List, [], ◌∷◌, ◌++◌, length, take, drop, get_or, ◌⊎◌, Option, Some, None, refl, ◌∙◌, inl, inr, arith, length-drop}
use Rattle.std.specs.Prelude.{◌==◌}
use Rattle.std.specs.List.{prefix_len}
use Rattle.std.specs.Char.{is_ascii_digit}
use Rattle.std.proofs.lemmas.Bool.{cases_lt, eqb-true, eqb-false}
use Rattle.qasm_lex.specs.declared.token.Token.{Token}
use Rattle.qasm_lex.specs.declared.token.TokenKind.{TokenKind}
use Rattle.qasm_lex.specs.declared.token.TokenKind.TheVariants.{Word, Capital, Whole, Real, Text, Sign}
use Rattle.qasm_lex.specs.declared.piece.Front.{Front}
use Rattle.qasm_lex.specs.declared.piece.Class.{Class}
use Rattle.qasm_lex.specs.declared.piece.Class.TheVariants.{Lower, Numeric, Upper, Blank, Slash, Quote, Mark, Other}
use Rattle.qasm_lex.specs.Bytes.{is_word_byte, is_comment_byte, is_string_byte}
use Rattle.qasm_lex.specs.Classes.{class_of}
use Rattle.qasm_lex.specs.Cuts.{IsLongestFront, token_of, AreTokensOf, IsLexFault}
use Rattle.qasm_lex.specs.Forms.{IsOneOf, capitals}
use Rattle.qasm_lex.specs.Fronts.{Finds}
use Rattle.qasm_lex.specs.Lexed.{Lexed}
use Rattle.qasm_lex.specs.Numbers.{IsExponentLength, IsMantissa, length_with}
use Rattle.qasm_lex.proofs.Found.{word_found, capital_found, capital_missing, blank_found, other_missing, comment_found, slash_found, text_found, text_missing, equals_found, equals_missing, arrow_found, mark_found, exponent_missing, exponent_found_unsigned, exponent_found_signed, real_found, whole_found, zeros_missing, point_missing, mantissa_without, mantissa_alone, mantissa_found}
use Rattle.qasm_lex.proofs.LexLoop.{LexedTo, lexed_none, lexed_more, lexed_all, lexed_stop}

-- two numbers are the same, or not
same_or_not : (a b : ℕ) → (a ≡ b) ⊎ (a ≢ b)
same_or_not a b = by_test (a == b) refl where
  by_test : (t : Bool) → (a == b) ≡ t → (a ≡ b) ⊎ (a ≢ b)
  by_test true is = inl (eqb-true a b is)
  by_test false is = inr (eqb-false a b is)

positive : (k : ℕ) → k ≢ 0 → 0 < k
positive k some = omega (arith, some)

-- two texts are the same, or not
same_text : (a b : List ℕ) → (a ≡ b) ⊎ (a ≢ b)
same_text [] [] = inl refl
same_text [] (y ∷ b) = inr (λ e. absurd (cc))
same_text (x ∷ a) [] = inr (λ e. absurd (cc))
same_text (x ∷ a) (y ∷ b) = by_parts (same_or_not x y) (same_text a b) where
  by_parts : (x ≡ y) ⊎ (x ≢ y) → (a ≡ b) ⊎ (a ≢ b) → (x ∷ a ≡ y ∷ b) ⊎ (x ∷ a ≢ y ∷ b)
  by_parts (inl head) (inl tail) = inl (cc)
  by_parts (inr differ) others = inr (λ e. differ (cc))
  by_parts (inl head) (inr differ) = inr (λ e. differ (cc))

-- a text is one of some words, or not
one_or_none : (words : List (List ℕ)) (text : List ℕ) → IsOneOf words text ⊎ (IsOneOf words text → ⊥)
one_or_none [] text = inr (λ never. never)
one_or_none (word ∷ words) text = by_parts (same_text text word) (one_or_none words text) where
  by_parts : (text ≡ word) ⊎ (text ≢ word) → IsOneOf words text ⊎ (IsOneOf words text → ⊥) → IsOneOf (word ∷ words) text ⊎ (IsOneOf (word ∷ words) text → ⊥)
  by_parts (inl is) others = inl (inl is)
  by_parts (inr differs) (inl one) = inl (inr one)
  by_parts (inr differs) (inr none) = inr (elim [ inl is ↦ differs is | inr one ↦ none one ])

-- what a reader of one piece finds, whichever it is
abbrev FindsOne : List ℕ → Type 0
FindsOne bytes = (found : Option Front) × Finds bytes found

found : (bytes : List ℕ) (kind : Option TokenKind) (n : ℕ) → IsLongestFront bytes kind n → FindsOne bytes
found bytes kind n longest = (Some (record { kind = kind; length = n }), longest)

-- ---- numbers

abbrev SomeMantissa : List ℕ → Type 0
SomeMantissa bytes = (n : ℕ) × (pointed : Bool) × IsMantissa bytes n pointed

mantissa_by_digits : (bytes : List ℕ) (before behind : ℕ) → before ≡ prefix_len is_ascii_digit bytes → behind ≡ prefix_len is_ascii_digit (drop (before + 1) bytes) → get_or bytes before 0 ≡ 46 → (before + behind ≡ 0) ⊎ (before + behind ≢ 0) → SomeMantissa bytes
mantissa_by_digits bytes before behind before_is behind_is point (inl none) =
    (0, false, mantissa_alone bytes before behind before_is behind_is (omega (arith, none)) (omega (arith, none)))
mantissa_by_digits bytes before behind before_is behind_is point (inr some) =
    (before + (behind + 1), true, mantissa_found bytes before behind before_is behind_is point (positive (before + behind) some))

mantissa_by_point : (bytes : List ℕ) (before behind : ℕ) → before ≡ prefix_len is_ascii_digit bytes → behind ≡ prefix_len is_ascii_digit (drop (before + 1) bytes) → (get_or bytes before 0 ≡ 46) ⊎ (get_or bytes before 0 ≢ 46) → SomeMantissa bytes
mantissa_by_point bytes before behind before_is behind_is (inl point) =
    mantissa_by_digits bytes before behind before_is behind_is point (same_or_not (before + behind) 0)
mantissa_by_point bytes before behind before_is behind_is (inr other) =
    (before, false, mantissa_without bytes before before_is other)

some_mantissa : (bytes : List ℕ) → SomeMantissa bytes
some_mantissa bytes =
    let before = prefix_len is_ascii_digit bytes in
    mantissa_by_point bytes before (prefix_len is_ascii_digit (drop (before + 1) bytes)) refl refl (same_or_not (get_or bytes before 0) 46)

abbrev SomeExponent : List ℕ → Type 0
SomeExponent bytes = (k : ℕ) × IsExponentLength bytes k

exponent_behind : (bytes : List ℕ) → (get_or bytes 0 0 ≡ 101) ⊎ (get_or bytes 0 0 ≡ 69) → SomeExponent bytes
exponent_behind bytes letter = by_sign (same_or_not (get_or bytes 1 0) 43) (same_or_not (get_or bytes 1 0) 45) where
  by_sign : (get_or bytes 1 0 ≡ 43) ⊎ (get_or bytes 1 0 ≢ 43) → (get_or bytes 1 0 ≡ 45) ⊎ (get_or bytes 1 0 ≢ 45) → SomeExponent bytes
  by_sign (inl plus) other = (length_with 2 (prefix_len is_ascii_digit (drop 2 bytes)), exponent_found_signed bytes letter (inl plus))
  by_sign (inr no_plus) (inl minus) = (length_with 2 (prefix_len is_ascii_digit (drop 2 bytes)), exponent_found_signed bytes letter (inr minus))
  by_sign (inr no_plus) (inr no_minus) =
      (length_with 1 (prefix_len is_ascii_digit (drop 1 bytes)), exponent_found_unsigned bytes letter no_plus no_minus)

some_exponent : (bytes : List ℕ) → SomeExponent bytes
some_exponent bytes = by_letter (same_or_not (get_or bytes 0 0) 101) (same_or_not (get_or bytes 0 0) 69) where
  by_letter : (get_or bytes 0 0 ≡ 101) ⊎ (get_or bytes 0 0 ≢ 101) → (get_or bytes 0 0 ≡ 69) ⊎ (get_or bytes 0 0 ≢ 69) → SomeExponent bytes
  by_letter (inl lower) other = exponent_behind bytes (inl lower)
  by_letter (inr no_lower) (inl upper) = exponent_behind bytes (inr upper)
  by_letter (inr no_lower) (inr no_upper) = (0, exponent_missing bytes no_lower no_upper)

number_finds : (bytes : List ℕ) → 0 < length bytes → class_of (get_or bytes 0 0) ≡ Numeric → FindsOne bytes
number_finds bytes some class = by_mantissa (some_mantissa bytes) where
  by_mantissa : SomeMantissa bytes → FindsOne bytes
  by_mantissa m = by_parts m.0 m.1 m.2 (some_exponent (drop m.0 bytes)) where
    by_parts : (n : ℕ) (pointed : Bool) → IsMantissa bytes n pointed → SomeExponent (drop n bytes) → FindsOne bytes
    by_parts n pointed mantissa x = by_front (same_or_not n 0) where
      by_zeros : pointed ≡ false → x.0 ≤ 0 → n ≢ 0 → (n ≡ 1) ⊎ (n ≢ 1) → (get_or bytes 0 0 ≡ 48) ⊎ (get_or bytes 0 0 ≢ 48) → FindsOne bytes
      by_zeros flat none front (inl one) other =
          found bytes (Some Whole) n (whole_found bytes n x.0 pointed mantissa x.1 some class front flat none (inl one))
      by_zeros flat none front (inr more) (inl zeros) =
          (None, zeros_missing bytes n x.0 pointed mantissa x.1 some class flat none more zeros)
      by_zeros flat none front (inr more) (inr digit) =
          found bytes (Some Whole) n (whole_found bytes n x.0 pointed mantissa x.1 some class front flat none (inr digit))

      by_exponent : pointed ≡ false → n ≢ 0 → (x.0 ≡ 0) ⊎ (x.0 ≢ 0) → FindsOne bytes
      by_exponent flat front (inl none) =
          by_zeros flat (omega (arith, none)) front (same_or_not n 1) (same_or_not (get_or bytes 0 0) 48)
      by_exponent flat front (inr longer) =
          found bytes (Some Real) (n + x.0) (real_found bytes n x.0 pointed mantissa x.1 some class front (inr (positive x.0 longer)))

      by_pointed : (p : Bool) → pointed ≡ p → n ≢ 0 → FindsOne bytes
      by_pointed true is front =
          found bytes (Some Real) (n + x.0) (real_found bytes n x.0 pointed mantissa x.1 some class front (inl is))
      by_pointed false is front = by_exponent is front (same_or_not x.0 0)

      by_front : (n ≡ 0) ⊎ (n ≢ 0) → FindsOne bytes
      by_front (inl none) = (None, point_missing bytes n pointed mantissa some class none)
      by_front (inr front) = by_pointed pointed refl front

-- ---- the other classes

capital_finds : (bytes : List ℕ) → 0 < length bytes → class_of (get_or bytes 0 0) ≡ Upper → FindsOne bytes
capital_finds bytes some class = by_word (one_or_none capitals (take (prefix_len is_word_byte bytes) bytes)) where
  by_word : IsOneOf capitals (take (prefix_len is_word_byte bytes) bytes) ⊎ (IsOneOf capitals (take (prefix_len is_word_byte bytes) bytes) → ⊥) → FindsOne bytes
  by_word (inl one) = found bytes (Some Capital) (prefix_len is_word_byte bytes) (capital_found bytes some class one)
  by_word (inr none) = (None, capital_missing bytes some class none)

slash_finds : (bytes : List ℕ) → 0 < length bytes → class_of (get_or bytes 0 0) ≡ Slash → FindsOne bytes
slash_finds bytes some class = by_next (same_or_not (get_or bytes 1 0) 47) where
  by_next : (get_or bytes 1 0 ≡ 47) ⊎ (get_or bytes 1 0 ≢ 47) → FindsOne bytes
  by_next (inl slash) =
      found bytes None (2 + prefix_len is_comment_byte (drop 2 bytes)) (comment_found bytes some class slash)
  by_next (inr other) = found bytes (Some Sign) 1 (slash_found bytes some class other)

text_finds : (bytes : List ℕ) → 0 < length bytes → class_of (get_or bytes 0 0) ≡ Quote → FindsOne bytes
text_finds bytes some class = by_end (same_or_not (get_or (drop 1 bytes) (prefix_len is_string_byte (drop 1 bytes)) 0) 34) where
  by_end : (get_or (drop 1 bytes) (prefix_len is_string_byte (drop 1 bytes)) 0 ≡ 34) ⊎ (get_or (drop 1 bytes) (prefix_len is_string_byte (drop 1 bytes)) 0 ≢ 34) → FindsOne bytes
  by_end (inl closed) =
      found bytes (Some Text) (prefix_len is_string_byte (drop 1 bytes) + 2) (text_found bytes some class closed)
  by_end (inr never) = (None, text_missing bytes some class never)

mark_finds : (bytes : List ℕ) → 0 < length bytes → class_of (get_or bytes 0 0) ≡ Mark → FindsOne bytes
mark_finds bytes some class = by_first (same_or_not (get_or bytes 0 0) 61) (same_or_not (get_or bytes 0 0) 45) where
  by_equals : get_or bytes 0 0 ≡ 61 → (get_or bytes 1 0 ≡ 61) ⊎ (get_or bytes 1 0 ≢ 61) → FindsOne bytes
  by_equals first (inl twice) = found bytes (Some Sign) 2 (equals_found bytes first twice)
  by_equals first (inr alone) = (None, equals_missing bytes first alone)

  by_minus : get_or bytes 0 0 ≢ 61 → get_or bytes 0 0 ≡ 45 → (get_or bytes 1 0 ≡ 62) ⊎ (get_or bytes 1 0 ≢ 62) → FindsOne bytes
  by_minus other first (inl arrow) = found bytes (Some Sign) 2 (arrow_found bytes first arrow)
  by_minus other first (inr alone) = found bytes (Some Sign) 1 (mark_found bytes some class other (inr alone))

  by_first : (get_or bytes 0 0 ≡ 61) ⊎ (get_or bytes 0 0 ≢ 61) → (get_or bytes 0 0 ≡ 45) ⊎ (get_or bytes 0 0 ≢ 45) → FindsOne bytes
  by_first (inl equals) second = by_equals equals (same_or_not (get_or bytes 1 0) 61)
  by_first (inr other) (inl minus) = by_minus other minus (same_or_not (get_or bytes 1 0) 62)
  by_first (inr other) (inr plain) = found bytes (Some Sign) 1 (mark_found bytes some class other (inl plain))

-- a longest piece stands at the front, or none begins there
pub front_finds : (bytes : List ℕ) → 0 < length bytes → FindsOne bytes
front_finds bytes some = by_class (class_of (get_or bytes 0 0)) refl where
  by_class : (c : Class) → class_of (get_or bytes 0 0) ≡ c → FindsOne bytes
  by_class Lower class = found bytes (Some Word) (prefix_len is_word_byte bytes) (word_found bytes some class)
  by_class Numeric class = number_finds bytes some class
  by_class Upper class = capital_finds bytes some class
  by_class Blank class = found bytes None 1 (blank_found bytes some class)
  by_class Slash class = slash_finds bytes some class
  by_class Quote class = text_finds bytes some class
  by_class Mark class = mark_finds bytes some class
  by_class Other class = (None, other_missing bytes some class)

-- ---- whole sources

abbrev Ends : List ℕ → Type 0
Ends source = ((lexed : Lexed) × AreTokensOf source lexed) ⊎ ((at : ℕ) × IsLexFault source at)

-- the end of tokens up to a place, from the ends of those up to a later one
next_end : (source : List ℕ) (items : List Token) (at : ℕ) → LexedTo source items at → ((new : List Token) (place : ℕ) → LexedTo source new place → at < place → Ends source) → (at < length source) ⊎ (length source ≤ at) → Ends source
next_end source items at so_far later (inr done) =
    inl (record { tokens = items; source_length = length source }, lexed_all source items at (record { tokens = items; source_length = length source }) so_far done refl refl)
next_end source items at so_far later (inl inside) =
    by_front (front_finds (drop at source) (omega (arith, length-drop at source, inside))) where
      by_found : (o : Option Front) → Finds (drop at source) o → Ends source
      by_found None none = inr (at, lexed_stop source items at so_far inside none)
      by_found (Some front) longest =
          later (items ++ token_of front.kind at (at + front.length)) (at + front.length) (lexed_more source items _ at front.kind front.length so_far longest refl) (omega (arith, longest.positive))

      by_front : FindsOne (drop at source) → Ends source
      by_front one = by_found one.0 one.1

-- tokens up to a place go on to the end, or to a fault
goes_to_end : (source : List ℕ) (left : ℕ) (items : List Token) (at : ℕ) → LexedTo source items at → length source ≤ at + left → Ends source
goes_to_end source zero items at so_far end =
    inl (record { tokens = items; source_length = length source }, lexed_all source items at (record { tokens = items; source_length = length source }) so_far (omega (arith, end)) refl refl)
goes_to_end source (suc left) items at so_far end =
    next_end source items at so_far (λ new place longer some. goes_to_end source left new place longer (omega (arith, end, some))) (cases_lt at (length source))

-- each source has tokens or a fault
pub some_tokens_or_fault : (source : List ℕ) → Ends source
some_tokens_or_fault source = goes_to_end source (length source) [] 0 (lexed_none source) (omega arith)
