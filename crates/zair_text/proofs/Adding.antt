-- Texts that are added part by part.
use Rattle.std.proofs.Common.{◌≡◌, ℕ, List, [], ◌∷◌, ◌++◌, ap, ◌∙◌, refl, sym, append_assoc, append-nil, true, IsTrue, arith}
use Rattle.std.specs.List.{flat_map, list_all}
use Rattle.std.proofs.lemmas.Bool.{and_parts}
use Rattle.std.proofs.lemmas.Bool.Decides.{nat_tests}
use Rattle.json.specs.Print.{escape_byte, escape, quoted}
use Rattle.serde_json.specs.Data.{Data, string}
use Rattle.serde_json.specs.View.{items_of}
use Rattle.serde_json.specs.Written.{compact_text, items_text}
use Rattle.zac_gates.specs.Angle.{is_angle, is_angle_byte}
use Rattle.zair_text.specs.Added.{IsAdded, AreLaterAdded}
use Rattle.zair_text.specs.Added.{IsAdded, AreLaterAdded}
use Rattle.zair_text.specs.Ranges.{HasSmallNumbers, ItemsHaveSmallNumbers}
use Rattle.zair_text.specs.Values.{array_of}
use Rattle.zair_text.specs.Values.{array_of}

-- What came first stands before what came then.
pub before : (old middle new a b : List ℕ) → middle ≡ old ++ a → new ≡ middle ++ b → new ≡ old ++ (a ++ b)
before old middle new a b h k = k ∙ (ap (λ s. s ++ b) h ∙ append_assoc old a b)

-- the text of one of several items, where one stands before it
abbrev pub later_text : Data → List ℕ
later_text value = 44 ∷ compact_text value

-- the items behind the first one, and the closing bracket
pub later_items : (values : List Data) → items_text true (items_of values) ≡ flat_map later_text values ++ 93 ∷ []
later_items [] = refl
later_items (d ∷ ds) = ap (λ s. 44 ∷ (compact_text d ++ s)) (later_items ds) ∙ ap (λ s. 44 ∷ s) (sym (append_assoc (compact_text d) (flat_map later_text ds) (93 ∷ [])))

pub flat_map_one_more : (values : List Data) (d : Data) → flat_map later_text (values ++ d ∷ []) ≡ flat_map later_text values ++ later_text d
flat_map_one_more [] d = append-nil _
flat_map_one_more (x ∷ xs) d = ap (λ s. later_text x ++ s) (flat_map_one_more xs d) ∙ sym (append_assoc (later_text x) (flat_map later_text xs) (later_text d))

small_more : (front : List Data) (d : Data) → ItemsHaveSmallNumbers (items_of front) → HasSmallNumbers d → ItemsHaveSmallNumbers (items_of (front ++ d ∷ []))
small_more [] d h k = (k, tt)
small_more (x ∷ front) d h k = (h.0, small_more front d h.1 k)

plain_byte : (b : ℕ) → is_angle_byte b ≡ true → escape_byte b ≡ b ∷ []
unfolding escape_byte
plain_byte b h = grind (arith, nat_tests)

plain_bytes : (bs : List ℕ) → list_all is_angle_byte bs ≡ true → escape bs ≡ bs
plain_bytes [] h = refl
plain_bytes (b ∷ bs) h =
    let p = and_parts (is_angle_byte b) _ h in
    ap (λ s. s ++ escape bs) (plain_byte b p.0) ∙ ap (λ s. b ∷ s) (plain_bytes bs p.1)

-- the text of an angle is quoted as it is
quoted_angle : (bs : List ℕ) → IsTrue (is_angle bs) → quoted bs ≡ 34 ∷ (bs ++ 34 ∷ [])
quoted_angle bs h = ap (λ s. 34 ∷ (s ++ 34 ∷ [])) (plain_bytes bs (and_parts _ _ h).1)

pub angle_added : (head bs ts old o1 o2 o3 new : List ℕ) → o1 ≡ old ++ head → o2 ≡ o1 ++ 34 ∷ [] → o3 ≡ o2 ++ ts → new ≡ o3 ++ 34 ∷ [] → ts ≡ bs → IsTrue (is_angle bs) → IsAdded head (string bs) old new
angle_added head bs ts old o1 o2 o3 new e1 e2 e3 e4 same h = record {
  text = before old o1 new head (34 ∷ (bs ++ 34 ∷ [])) e1 (before o1 o2 new (34 ∷ []) (bs ++ 34 ∷ []) e2 (before o2 o3 new bs (34 ∷ []) (e3 ∙ ap (λ s. o2 ++ s) same) e4)) ∙ ap (λ s. old ++ (head ++ s)) (sym (quoted_angle bs h));
  small = tt;
}

pub none_later : (old : List ℕ) → AreLaterAdded [] old old
none_later old = record { text = sym (append-nil old); small = tt }

-- a comma and one more of the items
pub one_more_later : (values : List Data) (d : Data) (old now comma next : List ℕ) → AreLaterAdded values old now → comma ≡ now ++ 44 ∷ [] → IsAdded [] d comma next → AreLaterAdded (values ++ d ∷ []) old next
one_more_later values d old now comma next h e added = record {
  text = before old now next (flat_map later_text values) (later_text d) h.text (before now comma next (44 ∷ []) (compact_text d) e added.text) ∙ ap (λ s. old ++ s) (sym (flat_map_one_more values d));
  small = small_more values d h.small added.small;
}

-- the first item and the others between brackets
pub items_added : (d : Data) (ds : List Data) (old o1 o2 o3 new : List ℕ) → o1 ≡ old ++ 91 ∷ [] → IsAdded [] d o1 o2 → AreLaterAdded ds o2 o3 → new ≡ o3 ++ 93 ∷ [] → IsAdded [] (array_of (d ∷ ds)) old new
items_added d ds old o1 o2 o3 new begins first later ends = record {
  text = before old o1 new (91 ∷ []) (compact_text d ++ (flat_map later_text ds ++ 93 ∷ [])) begins (before o1 o2 new (compact_text d) (flat_map later_text ds ++ 93 ∷ []) first.text (before o2 o3 new (flat_map later_text ds) (93 ∷ []) later.text ends))
      ∙ ap (λ s. old ++ (91 ∷ (compact_text d ++ s))) (sym (later_items ds));
  small = (first.small, later.small);
}
