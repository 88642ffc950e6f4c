-- From the parts of a compact text to the whole.
use Rattle.std.proofs.Common.{◌≡◌, ℕ, ◌+◌, ◌*◌, ◌/◌, ◌%◌, ◌<◌, ◌≤◌, ◌^◌, Bool, true, false, List, [], ◌∷◌, ◌++◌, map, codes, decimal, IsTrue, nat_lt, refl, sym, ap, ◌∙◌, subst, arith, append_assoc}
use Rattle.std.specs.List.{AllByRecursion, list_all}
use Rattle.std.proofs.lemmas.Bool.{and_parts, and_from}
use Rattle.std.proofs.lemmas.Bool.Decides.{nat_tests}
use Rattle.std.proofs.lemmas.Fmt.{decimal_digit, decimal_step}
use Rattle.json.specs.Print.{escape_letter, escape_byte, escape, quoted}
use Rattle.serde_json.specs.Data.{Data, string, Items, no_items, item, Members, no_members, member}
use Rattle.serde_json.specs.View.{items_of}
use Rattle.serde_json.specs.Written.{comma_if, compact_text, items_text, members_text}
use Rattle.zac_gates.specs.Angle.{is_angle_byte, is_angle}
use Rattle.zair_text.specs.Values.{array_of, number_value, numbers}
use Rattle.zair_read.specs.Compact.{BeginsWith, BeginsWithAll}

-- ---- numbers

-- a digit is a number
pub one_digit : (n : ℕ) (s : List ℕ) → n < 10 → (48 + n) ∷ s ≡ decimal n ++ s
one_digit n s h = ap (λ t. t ++ s) (sym (decimal_digit n h))

-- one more digit of a number
pub digit_more : (n d : ℕ) (s : List ℕ) → 0 < n → n ≤ 1000000000000000000 → d < 10 → decimal n ++ (48 + d) ∷ s ≡ decimal (n * 10 + d) ++ s
digit_more n d s some few digit =
    let wide : 10 ≤ n * 10 + d = omega arith in
    let fits : n * 10 + d < 2 ^ 64 = omega arith in
    let front : (n * 10 + d) / 10 ≡ n = omega arith in
    let last : (n * 10 + d) % 10 ≡ d = omega arith in
    let step : decimal (n * 10 + d) ≡ decimal n ++ (48 + d) ∷ [] = decimal_step (n * 10 + d) wide fits ∙ (ap (λ k. decimal k ++ (48 + (n * 10 + d) % 10) ∷ []) front ∙ ap (λ k. decimal n ++ (48 + k) ∷ []) last) in
    sym (append_assoc (decimal n) ((48 + d) ∷ []) s) ∙ ap (λ t. t ++ s) (sym step)

-- ---- items and members

-- the text of an item stands before that of the others
item_of : (later : Bool) (d : Data) (ds : Items) (s t rest : List ℕ) → s ≡ compact_text d ++ t → t ≡ items_text true ds ++ rest → comma_if later ++ s ≡ items_text later (item d ds) ++ rest
item_of later d ds s t rest e f =
    ap (λ u. comma_if later ++ u) (e ∙ ap (λ u. compact_text d ++ u) f ∙ sym (append_assoc (compact_text d) (items_text true ds) rest))
    ∙ sym (append_assoc (comma_if later) (compact_text d ++ items_text true ds) rest)

pub first_item : (d : Data) (ds : Items) (s t rest : List ℕ) → s ≡ compact_text d ++ t → t ≡ items_text true ds ++ rest → s ≡ items_text false (item d ds) ++ rest
first_item d ds s t rest e f = item_of false d ds s t rest e f

pub later_item : (d : Data) (ds : Items) (bytes s t rest : List ℕ) → bytes ≡ 44 ∷ s → s ≡ compact_text d ++ t → t ≡ items_text true ds ++ rest → bytes ≡ items_text true (item d ds) ++ rest
later_item d ds bytes s t rest c e f = c ∙ item_of true d ds s t rest e f

-- the text of a member stands before that of the others
pub member_of : (later : Bool) (k : List ℕ) (d : Data) (ms : Members) (s t rest : List ℕ) → s ≡ compact_text d ++ t → t ≡ members_text true ms ++ rest
    → comma_if later ++ (quoted k ++ 58 ∷ s) ≡ members_text later (member k d ms) ++ rest
member_of later k d ms s t rest e f =
    let inner : s ≡ (compact_text d ++ members_text true ms) ++ rest = e ∙ ap (λ u. compact_text d ++ u) f ∙ sym (append_assoc (compact_text d) (members_text true ms) rest) in
    ap (λ u. comma_if later ++ (quoted k ++ 58 ∷ u)) inner
    ∙ ap (λ u. comma_if later ++ u) (sym (append_assoc (quoted k) (58 ∷ (compact_text d ++ members_text true ms)) rest))
    ∙ sym (append_assoc (comma_if later) (quoted k ++ 58 ∷ (compact_text d ++ members_text true ms)) rest)

-- ---- arrays of numbers

pub two_numbers : (a b : ℕ) (bytes s₁ s₂ s₃ s₄ rest : List ℕ) → bytes ≡ 91 ∷ s₁ → s₁ ≡ decimal a ++ s₂ → s₂ ≡ 44 ∷ s₃ → s₃ ≡ decimal b ++ s₄ → s₄ ≡ 93 ∷ rest
    → BeginsWith (numbers (a ∷ b ∷ [])) bytes rest
two_numbers a b bytes s₁ s₂ s₃ s₄ rest e₁ e₂ e₃ e₄ e₅ =
    e₁ ∙ ap (λ t. 91 ∷ t)
    (first_item (number_value a) (item (number_value b) no_items) s₁ s₂ rest e₂
    (later_item (number_value b) no_items s₂ s₃ s₄ rest e₃ e₄ e₅))

pub three_numbers : (a b c : ℕ) (bytes s₁ s₂ s₃ s₄ s₅ s₆ rest : List ℕ) → bytes ≡ 91 ∷ s₁ → s₁ ≡ decimal a ++ s₂ → s₂ ≡ 44 ∷ s₃ → s₃ ≡ decimal b ++ s₄ → s₄ ≡ 44 ∷ s₅ → s₅ ≡ decimal c ++ s₆ → s₆ ≡ 93 ∷ rest
    → BeginsWith (numbers (a ∷ b ∷ c ∷ [])) bytes rest
three_numbers a b c bytes s₁ s₂ s₃ s₄ s₅ s₆ rest e₁ e₂ e₃ e₄ e₅ e₆ e₇ =
    e₁ ∙ ap (λ t. 91 ∷ t)
    (first_item (number_value a) (item (number_value b) (item (number_value c) no_items)) s₁ s₂ rest e₂
    (later_item (number_value b) (item (number_value c) no_items) s₂ s₃ s₄ rest e₃ e₄
    (later_item (number_value c) no_items s₄ s₅ s₆ rest e₅ e₆ e₇)))

-- ---- angles

no_letter : (x : ℕ) → is_angle_byte x ≡ true → escape_letter x ≡ 0
no_letter x h = grind (arith, nat_tests)

not_low : (x : ℕ) → is_angle_byte x ≡ true → nat_lt x 32 ≡ false
not_low x h = grind (arith, nat_tests)

escape_byte_self : (x : ℕ) → is_angle_byte x ≡ true → escape_byte x ≡ x ∷ []
unfolding escape_byte
escape_byte_self x h = rw (no_letter x h) (rw (not_low x h))

escape_self : (s : List ℕ) → list_all is_angle_byte s ≡ true → escape s ≡ s
escape_self [] h = refl
escape_self (x ∷ xs) h =
    let p = and_parts (is_angle_byte x) (list_all is_angle_byte xs) h in
    ap (λ t. t ++ escape xs) (escape_byte_self x p.0) ∙ ap (λ t. x ∷ t) (escape_self xs p.1)

-- an angle stands between quotation marks as it is
pub angle_text : (angle bytes s rest : List ℕ) → IsTrue (is_angle angle) → bytes ≡ 34 ∷ s → s ≡ angle ++ 34 ∷ rest → BeginsWith (string angle) bytes rest
angle_text angle bytes s rest h e f =
    let same : escape angle ≡ angle = escape_self angle (and_parts _ _ h).1 in
    e ∙ ap (λ t. 34 ∷ t) (f ∙ ap (λ t. t ++ 34 ∷ rest) (sym same) ∙ sym (append_assoc (escape angle) (34 ∷ []) rest))

-- ---- arrays

-- one more of a list that holds of all
pub all_more : {X : Type 0} (P : X → Type 0) (xs : List X) (x : X) → AllByRecursion P xs → P x → AllByRecursion P (xs ++ x ∷ [])
all_more P [] x h p = (p, tt)
all_more P (y ∷ ys) x h p = (h.0, all_more P ys x h.1 p)

module _ {X : Type 0} (value : X → Data) where
  -- items, each with a comma behind it
  pub opened : List X → List ℕ
  opened [] = []
  opened (x ∷ xs) = compact_text (value x) ++ 44 ∷ opened xs

  -- one more of them
  opened_more : (xs : List X) (x : X) (s : List ℕ) → opened xs ++ (compact_text (value x) ++ 44 ∷ s) ≡ opened (xs ++ x ∷ []) ++ s
  unfolding opened
  opened_more [] x s = sym (append_assoc (compact_text (value x)) (44 ∷ []) s)
  opened_more (y ∷ ys) x s =
      append_assoc (compact_text (value y)) (44 ∷ opened ys) (compact_text (value x) ++ 44 ∷ s)
      ∙ ap (λ t. compact_text (value y) ++ 44 ∷ t) (opened_more ys x s)
      ∙ sym (append_assoc (compact_text (value y)) (44 ∷ opened (ys ++ x ∷ [])) s)

  comma : (ys : List X) (x : X) → items_text true (items_of (map value (ys ++ x ∷ []))) ≡ 44 ∷ items_text false (items_of (map value (ys ++ x ∷ [])))
  comma [] x = refl
  comma (y ∷ ys) x = refl

  -- the last one, with the bracket behind it
  closed : (xs : List X) (x : X) (s : List ℕ) → opened xs ++ (compact_text (value x) ++ 93 ∷ s) ≡ items_text false (items_of (map value (xs ++ x ∷ []))) ++ s
  unfolding opened
  closed [] x s = sym (append_assoc (compact_text (value x)) (93 ∷ []) s)
  closed (y ∷ ys) x s =
      append_assoc (compact_text (value y)) (44 ∷ opened ys) (compact_text (value x) ++ 93 ∷ s)
      ∙ ap (λ t. compact_text (value y) ++ 44 ∷ t) (closed ys x s)
      ∙ ap (λ t. compact_text (value y) ++ (t ++ s)) (sym (comma ys x))
      ∙ sym (append_assoc (compact_text (value y)) (items_text true (items_of (map value (ys ++ x ∷ [])))) s)

  module _ (In : X → Type 0) where
    -- nothing is read but the bracket
    pub none_read : (xs : List X) (bytes s : List ℕ) → xs ≡ [] → bytes ≡ 91 ∷ s → (bytes ≡ 91 ∷ (opened xs ++ s)) × AllByRecursion In xs
    unfolding opened
    none_read xs bytes s empty e = subst (λ ys. (bytes ≡ 91 ∷ (opened ys ++ s)) × AllByRecursion In ys) (sym empty) (e, tt)

    -- an item is read, and a comma is behind it
    pub item_read : (xs ys : List X) (x : X) (bytes s t u : List ℕ) → ys ≡ xs ++ x ∷ [] → (bytes ≡ 91 ∷ (opened xs ++ s)) × AllByRecursion In xs → BeginsWith (value x) s t × In x → t ≡ 44 ∷ u
        → (bytes ≡ 91 ∷ (opened ys ++ u)) × AllByRecursion In ys
    item_read xs ys x bytes s t u grown before read comma =
        subst (λ zs. (bytes ≡ 91 ∷ (opened zs ++ u)) × AllByRecursion In zs) (sym grown) (
          before.0 ∙ ap (λ v. 91 ∷ (opened xs ++ v)) (read.0 ∙ ap (λ v. compact_text (value x) ++ v) comma) ∙ ap (λ v. 91 ∷ v) (opened_more xs x u),
          all_more In xs x before.1 read.1,
        )

    -- an item is read, and the bracket is behind it
    pub last_read : (xs ys : List X) (x : X) (bytes s t rest : List ℕ) → ys ≡ xs ++ x ∷ [] → (bytes ≡ 91 ∷ (opened xs ++ s)) × AllByRecursion In xs → BeginsWith (value x) s t × In x → t ≡ 93 ∷ rest
        → BeginsWithAll value In ys bytes rest
    last_read xs ys x bytes s t rest grown before read bracket =
        subst (λ zs. BeginsWithAll value In zs bytes rest) (sym grown) (
          before.0 ∙ ap (λ v. 91 ∷ (opened xs ++ v)) (read.0 ∙ ap (λ v. compact_text (value x) ++ v) bracket) ∙ ap (λ v. 91 ∷ v) (closed xs x rest),
          all_more In xs x before.1 read.1,
        )

    -- there is no item
    pub empty_read : (xs : List X) (bytes rest : List ℕ) → xs ≡ [] → bytes ≡ 91 ∷ 93 ∷ rest → BeginsWithAll value In xs bytes rest
    empty_read xs bytes rest empty e = subst (λ ys. BeginsWithAll value In ys bytes rest) (sym empty) (e, tt)
