-- Words, capital words and strings are the longest pieces where they stand.
use Rattle.std.proofs.Common.{◌≡◌, ℕ, zero, suc, ◌<◌, ◌≤◌, Bool, true, List, [], ◌∷◌, ◌++◌, length, take, drop, Option, Some, None, refl, sym, ◌∙◌, ap, subst, arith, length-take-le, length-append, append_assoc}
use Rattle.std.specs.List.{prefix_len}
use Rattle.std.specs.Char.{is_ascii_lowercase}
use Rattle.std.proofs.lemmas.Bool.{or_left, or_right}
use Rattle.std.proofs.lemmas.List.{take_at, drop_at, take-append-drop}
use Rattle.std.proofs.lemmas.List.Sums.{prefix_len-le-length}
use Rattle.qasm_lex.specs.declared.token.TokenKind.{TokenKind}
use Rattle.qasm_lex.specs.declared.token.TokenKind.TheVariants.{Word, Capital, Whole, Real, Text, Sign}
use Rattle.qasm_lex.specs.declared.piece.Class.TheVariants.{Lower, Upper, Quote}
use Rattle.qasm_lex.specs.Bytes.{is_word_byte, is_string_byte, AllPass, NoneFirst}
use Rattle.qasm_lex.specs.Classes.{class_of}
use Rattle.qasm_lex.specs.Forms.{IsOneOf, IsPiece, IsWord, IsCapital, IsText, capitals}
use Rattle.qasm_lex.specs.Cuts.{IsLongestFront, NothingBegins}
use Rattle.qasm_lex.proofs.RunLemmas.{AllPass-run, NoneFirst-run, run_at_least, run_exactly}
use Rattle.qasm_lex.proofs.FirstBytes.{Begins, begins_at, one_of}

-- each piece at the front of the bytes is at most this long
abbrev pub IsBound : List ℕ → ℕ → Type 0
IsBound bytes n = (kind : Option TokenKind) (front rest : List ℕ) → front ++ rest ≡ bytes → IsPiece kind front rest → length front ≤ n

-- a piece of that length is the longest
pub front_from : (bytes : List ℕ) (kind : Option TokenKind) (n : ℕ) → 0 < n → n ≤ length bytes → IsPiece kind (take n bytes) (drop n bytes) → IsBound bytes n → IsLongestFront bytes kind n
front_from bytes kind n positive within is_piece bound = record {
  positive = positive;
  within = within;
  longest = record {
    is_piece = is_piece;
    longest = λ other front rest same piece. let short = bound other front rest (same ∙ take-append-drop n bytes) piece in omega (arith, length-take-le n bytes within);
  };
}

pub bound_by_run : (test : ℕ → Bool) (bytes front rest : List ℕ) → front ++ rest ≡ bytes → AllPass test front → length front ≤ prefix_len test bytes
bound_by_run test bytes front rest same pass =
    subst (λ s. length front ≤ prefix_len test s) same (run_at_least test front rest pass)

pub exact_by_run : (test : ℕ → Bool) (bytes front rest : List ℕ) → front ++ rest ≡ bytes → AllPass test front → NoneFirst test rest → prefix_len test bytes ≡ length front
exact_by_run test bytes front rest same pass none =
    subst (λ s. prefix_len test s ≡ length front) same (run_exactly test front rest pass none)

word_byte_of_lower : (b : ℕ) → is_ascii_lowercase b ≡ true → is_word_byte b ≡ true
word_byte_of_lower b lower = or_left _ _ (or_right _ _ lower)

word_bytes : (text : List ℕ) → IsWord text → AllPass is_word_byte text
word_bytes text word = subst (AllPass is_word_byte) (sym word.2) (word_byte_of_lower word.0 word.3, word.4)

word_bound : (b : ℕ) (bytes : List ℕ) → class_of b ≡ Lower → IsBound (b ∷ bytes) (prefix_len is_word_byte (b ∷ bytes))
word_bound b bytes class kind front rest same piece = by_kind kind piece (subst (Begins kind) class (begins_at kind front rest b bytes piece same)) where
  by_kind : (k : Option TokenKind) → IsPiece k front rest → Begins k Lower → length front ≤ prefix_len is_word_byte (b ∷ bytes)
  by_kind (Some Word) piece fits = bound_by_run is_word_byte (b ∷ bytes) front rest same (word_bytes front piece)
  by_kind None piece fits = absurd fits
  by_kind (Some Capital) piece fits = absurd fits
  by_kind (Some Whole) piece fits = absurd fits
  by_kind (Some Real) piece fits = absurd fits
  by_kind (Some Text) piece fits = absurd fits
  by_kind (Some Sign) piece fits = absurd fits

word_is : (b : ℕ) (bytes : List ℕ) (n : ℕ) → is_ascii_lowercase b ≡ true → n ≡ prefix_len is_word_byte bytes → IsWord (b ∷ take n bytes)
word_is b bytes n lower is = (
  b,
  take n bytes,
  refl,
  lower,
  subst (λ k. AllPass is_word_byte (take k bytes)) (sym is) (AllPass-run is_word_byte bytes),
)

pub word_front : (b : ℕ) (bytes : List ℕ) → class_of b ≡ Lower → is_ascii_lowercase b ≡ true → IsLongestFront (b ∷ bytes) (Some Word) (prefix_len is_word_byte (b ∷ bytes))
word_front b bytes class lower =
    let step : prefix_len is_word_byte (b ∷ bytes) ≡ suc (prefix_len is_word_byte bytes) = rw (word_byte_of_lower b lower) (omega arith) in
    let piece : IsPiece (Some Word) (take (suc (prefix_len is_word_byte bytes)) (b ∷ bytes)) (drop (suc (prefix_len is_word_byte bytes)) (b ∷ bytes)) = word_is b bytes _ lower refl in
    front_from (b ∷ bytes) (Some Word) _ (omega (arith, step)) (prefix_len-le-length is_word_byte (b ∷ bytes)) (subst (λ n. IsPiece (Some Word) (take n (b ∷ bytes)) (drop n (b ∷ bytes))) (sym step) piece) (word_bound b bytes class)

-- a capital word is a whole run
capital_bytes : (text : List ℕ) → IsOneOf capitals text → AllPass is_word_byte text
capital_bytes text one =
    one_of (AllPass is_word_byte) capitals text ((refl, (refl, (refl, (refl, (refl, (refl, (refl, (refl, tt)))))))), ((refl, tt), ((refl, (refl, tt)), tt))) one

capital_run : (bytes front rest : List ℕ) → front ++ rest ≡ bytes → IsCapital front rest → prefix_len is_word_byte bytes ≡ length front
capital_run bytes front rest same piece =
    exact_by_run is_word_byte bytes front rest same (capital_bytes front piece.0) piece.1

capital_only : (b : ℕ) (bytes : List ℕ) → class_of b ≡ Upper → (kind : Option TokenKind) (front rest : List ℕ) → front ++ rest ≡ b ∷ bytes → IsPiece kind front rest → IsCapital front rest
capital_only b bytes class kind front rest same piece = by_kind kind piece (subst (Begins kind) class (begins_at kind front rest b bytes piece same)) where
  by_kind : (k : Option TokenKind) → IsPiece k front rest → Begins k Upper → IsCapital front rest
  by_kind (Some Capital) piece fits = piece
  by_kind None piece fits = absurd fits
  by_kind (Some Word) piece fits = absurd fits
  by_kind (Some Whole) piece fits = absurd fits
  by_kind (Some Real) piece fits = absurd fits
  by_kind (Some Text) piece fits = absurd fits
  by_kind (Some Sign) piece fits = absurd fits

pub capital_front : (b : ℕ) (bytes : List ℕ) → class_of b ≡ Upper → IsOneOf capitals (take (prefix_len is_word_byte (b ∷ bytes)) (b ∷ bytes)) → IsLongestFront (b ∷ bytes) (Some Capital) (prefix_len is_word_byte (b ∷ bytes))
capital_front b bytes class one =
    let within = prefix_len-le-length is_word_byte (b ∷ bytes) in
    let some : 0 < length (take (prefix_len is_word_byte (b ∷ bytes)) (b ∷ bytes)) = one_of (λ t. 0 < length t) capitals _ (omega arith, (omega arith, (omega arith, tt))) one in
    front_from (b ∷ bytes) (Some Capital) _ (omega (arith, length-take-le _ (b ∷ bytes) within)) within (one, NoneFirst-run is_word_byte (b ∷ bytes)) (λ kind front rest same piece. omega (arith, capital_run (b ∷ bytes) front rest same (capital_only b bytes class kind front rest same piece)))

pub capital_none : (b : ℕ) (bytes : List ℕ) → class_of b ≡ Upper → (IsOneOf capitals (take (prefix_len is_word_byte (b ∷ bytes)) (b ∷ bytes)) → ⊥) → NothingBegins (b ∷ bytes)
capital_none b bytes class not_one kind front rest same piece =
    let capital = capital_only b bytes class kind front rest same piece in
    let n = capital_run (b ∷ bytes) front rest same capital in
    let text : take (prefix_len is_word_byte (b ∷ bytes)) (b ∷ bytes) ≡ front = ap (take (prefix_len is_word_byte (b ∷ bytes))) (sym same) ∙ take_at front rest _ (sym n) in
    not_one (subst (IsOneOf capitals) (sym text) capital.0)

-- a string is its quotes and the run between them
text_inner : (bytes front rest inner : List ℕ) → front ++ rest ≡ 34 ∷ bytes → front ≡ 34 ∷ (inner ++ 34 ∷ []) → inner ++ 34 ∷ rest ≡ bytes
text_inner bytes front rest inner same is =
    let e : 34 ∷ (inner ++ 34 ∷ []) ++ rest ≡ 34 ∷ bytes = subst (λ t. t ++ rest ≡ 34 ∷ bytes) is same in
    let e2 : (inner ++ 34 ∷ []) ++ rest ≡ bytes = cc in
    sym (append_assoc inner (34 ∷ []) rest) ∙ e2

text_only : (bytes : List ℕ) → (kind : Option TokenKind) (front rest : List ℕ) → front ++ rest ≡ 34 ∷ bytes → IsPiece kind front rest → IsText front
text_only bytes kind front rest same piece = by_kind kind piece (begins_at kind front rest 34 bytes piece same) where
  by_kind : (k : Option TokenKind) → IsPiece k front rest → Begins k Quote → IsText front
  by_kind (Some Text) piece fits = piece
  by_kind None piece fits = absurd fits
  by_kind (Some Word) piece fits = absurd fits
  by_kind (Some Whole) piece fits = absurd fits
  by_kind (Some Real) piece fits = absurd fits
  by_kind (Some Capital) piece fits = absurd fits
  by_kind (Some Sign) piece fits = absurd fits

text_run : (bytes front rest : List ℕ) → front ++ rest ≡ 34 ∷ bytes → (text : IsText front) → prefix_len is_string_byte bytes ≡ length text.0
text_run bytes front rest same text =
    exact_by_run is_string_byte bytes text.0 (34 ∷ rest) (text_inner bytes front rest text.0 same text.1) text.2 refl

-- the first byte
abbrev pub StartsWith : ℕ → List ℕ → Type 0
StartsWith b [] = ⊥
StartsWith b (x ∷ bytes) = x ≡ b

pub text_none : (bytes : List ℕ) → (StartsWith 34 (drop (prefix_len is_string_byte bytes) bytes) → ⊥) → NothingBegins (34 ∷ bytes)
text_none bytes not_closed kind front rest same piece =
    let text = text_only bytes kind front rest same piece in
    let n = text_run bytes front rest same text in
    let behind : drop (prefix_len is_string_byte bytes) bytes ≡ 34 ∷ rest = ap (drop (prefix_len is_string_byte bytes)) (sym (text_inner bytes front rest text.0 same text.1)) ∙ drop_at text.0 (34 ∷ rest) _ (sym n) in
    not_closed (subst (StartsWith 34) (sym behind) refl)

text_parts : (bytes rest : List ℕ) (n : ℕ) → StartsWith 34 (drop n bytes) → take (suc n) bytes ≡ take n bytes ++ 34 ∷ []
text_parts [] rest zero starts = absurd starts
text_parts (b ∷ bytes) rest zero starts = ap (λ x. x ∷ []) starts
text_parts [] rest (suc n) starts = absurd starts
text_parts (b ∷ bytes) rest (suc n) starts = ap (λ x. b ∷ x) (text_parts bytes rest n starts)

starts_length : (bytes : List ℕ) (n : ℕ) → StartsWith 34 (drop n bytes) → suc n ≤ length bytes
starts_length [] zero starts = absurd starts
starts_length (b ∷ bytes) zero starts = omega arith
starts_length [] (suc n) starts = absurd starts
starts_length (b ∷ bytes) (suc n) starts = omega (arith, starts_length bytes n starts)

pub text_front : (bytes : List ℕ) → StartsWith 34 (drop (prefix_len is_string_byte bytes) bytes) → IsLongestFront (34 ∷ bytes) (Some Text) (suc (suc (prefix_len is_string_byte bytes)))
text_front bytes closed =
    let n = prefix_len is_string_byte bytes in
    front_from (34 ∷ bytes) (Some Text) (suc (suc n)) (omega arith) (omega (arith, starts_length bytes n closed)) (take n bytes, ap (λ t. 34 ∷ t) (text_parts bytes [] n closed), AllPass-run is_string_byte bytes) (λ kind front rest same piece. let text = text_only bytes kind front rest same piece in omega (arith, text_run bytes front rest same text, ap length text.1, length-append text.0 (34 ∷ [])))
