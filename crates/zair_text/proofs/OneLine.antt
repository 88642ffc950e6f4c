-- The compact text of a value has no line feed.
use Rattle.std.proofs.Common.{◌≡◌, ◌≢◌, ℕ, zero, suc, ◌/◌, ◌%◌, ◌==◌, pos, negsuc, List, [], ◌∷◌, ◌++◌, Bool, true, false, cond, not, nat_lt, decimal, Contains, refl, sym, ap, ◌∙◌, subst, arith, true≢false, inl, inr}
use Rattle.std.specs.List.{list_all}
use Rattle.std.specs.Char.{digit_char}
use Rattle.std.specs.Fmt.{digits, digits_onto, digit_glyph}
use Rattle.std.proofs.lemmas.Bool.{and_from}
use Rattle.std.proofs.lemmas.Bool.Decides.{nat_tests, eqb_tells}
use Rattle.std.proofs.lemmas.List.Folds.{list_all-append}
use Rattle.std.proofs.lemmas.List.Sums.{AllPass-from_list_all}
use Rattle.json.specs.Print.{escape_letter, escape_byte, escape, quoted}
use Rattle.serde_json.specs.Data.{Num, unsigned, negative, float, Data, null, boolean, number, string, array, object, Items, no_items, item, Members, no_members, member}
use Rattle.serde_json.specs.Written.{number_text, comma_if, compact_text, items_text, members_text}

abbrev stays : ℕ → Bool
stays b = not (b == 10)

abbrev is_one_line : List ℕ → Bool
is_one_line s = list_all stays s

append : (a b : List ℕ) → is_one_line a ≡ true → is_one_line b ≡ true → is_one_line (a ++ b) ≡ true
append a b h k = list_all-append stays a b ∙ and_from _ _ h k

other : (b : ℕ) → b ≢ 10 → stays b ≡ true
other b h = grind (arith, nat_tests)

either : (t : Bool) (a b : List ℕ) → is_one_line a ≡ true → is_one_line b ≡ true → is_one_line (cond t a b) ≡ true
either true a b h k = h
either false a b h k = k

one : (b : ℕ) → b ≢ 10 → is_one_line (b ∷ []) ≡ true
one b h = rw (other b h)

escape_letter_other : (x : ℕ) → escape_letter x ≢ 10
escape_letter_other x = grind (arith, nat_tests)

digit_char_other : (d : ℕ) → digit_char d ≢ 10
digit_char_other d = grind (arith, nat_tests)

digit_glyph_other : (d : ℕ) → digit_glyph false d ≢ 10
digit_glyph_other d = grind (arith, nat_tests)

escape_byte_other : (x : ℕ) → x ≢ 10 → is_one_line (escape_byte x) ≡ true
unfolding escape_byte
escape_byte_other x h =
    either (nat_lt 0 (escape_letter x)) _ _
    (one (escape_letter x) (escape_letter_other x))
    (either (nat_lt x 32) _ _
    (append (digit_char (x / 16) ∷ []) (digit_char (x % 16) ∷ []) (one _ (digit_char_other (x / 16))) (one _ (digit_char_other (x % 16))))
    (one x h))

escape_feed : is_one_line (escape_byte 10) ≡ true
unfolding escape_byte
escape_feed = refl

escape_byte_line : (x : ℕ) → is_one_line (escape_byte x) ≡ true
escape_byte_line x = elim (eqb_tells x 10) [ inl p ↦ let P : ℕ → Type 0 = λ n. is_one_line (escape_byte n) ≡ true in subst P (sym p.1) escape_feed | inr p ↦ escape_byte_other x p.1 ]

escape_line : (s : List ℕ) → is_one_line (escape s) ≡ true
escape_line [] = refl
escape_line (x ∷ xs) = append (escape_byte x) (escape xs) (escape_byte_line x) (escape_line xs)

quoted_line : (s : List ℕ) → is_one_line (quoted s) ≡ true
quoted_line s = append (escape s) (34 ∷ []) (escape_line s) refl

digits_onto_line : (k n : ℕ) (acc : List ℕ) → is_one_line acc ≡ true → is_one_line (digits_onto k 10 false n acc) ≡ true
digits_onto_line zero n acc h = h
digits_onto_line (suc k) n acc h =
    let more = append (digit_glyph false (n % 10) ∷ []) acc (one _ (digit_glyph_other (n % 10))) h in
    either (n / 10 == 0) _ _ more (digits_onto_line k (n / 10) _ more)

decimal_line : (n : ℕ) → is_one_line (decimal n) ≡ true
unfolding digits
decimal_line n = digits_onto_line 64 n [] refl

number_line : (n : Num) → is_one_line (number_text n) ≡ true
number_line (unsigned n) = decimal_line n
number_line (negative (pos n)) = decimal_line n
number_line (negative (negsuc n)) = decimal_line _
number_line (float x) = refl

comma_line : (later : Bool) → is_one_line (comma_if later) ≡ true
comma_line true = refl
comma_line false = refl

mutual
  value_line : (d : Data) → is_one_line (compact_text d) ≡ true
  value_line null = refl
  value_line (boolean true) = refl
  value_line (boolean false) = refl
  value_line (number n) = number_line n
  value_line (string s) = quoted_line s
  value_line (array ds) = items_line false ds
  value_line (object ms) = members_line false ms

  items_line : (later : Bool) (ds : Items) → is_one_line (items_text later ds) ≡ true
  items_line later no_items = refl
  items_line later (item d ds) = append (comma_if later) _ (comma_line later) (append (compact_text d) _ (value_line d) (items_line true ds))

  members_line : (later : Bool) (ms : Members) → is_one_line (members_text later ms) ≡ true
  members_line later no_members = refl
  members_line later (member k d ms) =
      append (comma_if later) _ (comma_line later) (append (quoted k) _ (quoted_line k) (append (compact_text d) _ (value_line d) (members_line true ms)))

absent : (s : List ℕ) → is_one_line s ≡ true → ¬ Contains s 10
absent s h found = true≢false (sym (AllPass-from_list_all stays s h found.0 10 found.1) ∙ ap stays found.2)

-- no compact text has a line feed
pub compact_text_one_line : (d : Data) → ¬ Contains (compact_text d) 10
compact_text_one_line d = absent (compact_text d) (value_line d)
