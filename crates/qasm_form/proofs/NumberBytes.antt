-- The text of a number is made of bytes that an angle may have.
use Rattle.std.proofs.Common.{◌≡◌, ℕ, zero, suc, ◌<◌, true, List, [], ◌∷◌, ◌++◌, length, ◌⊎◌, Some, refl, sym as flip, ◌∙◌, ap, subst, inl, inr, arith, length-append, IsTrue}
use Rattle.std.specs.Prelude.{slice_get}
use Rattle.std.specs.Char.{is_ascii_digit}
use Rattle.std.specs.List.{list_all, AllByRecursion}
use Rattle.std.proofs.lemmas.Bool.{and_from}
use Rattle.std.proofs.lemmas.Bool.Decides.{nat_tests}
use Rattle.std.proofs.lemmas.List.Folds.{list_all-append}
use Rattle.zac_gates.specs.Angle.{is_angle_byte}
use Rattle.qasm_lex.specs.Bytes.{AllPass}
use Rattle.qasm_lex.specs.Forms.{IsDigits, IsPointed, IsOptionalSign, IsExponent}
use Rattle.qasm_form.specs.declared.stmt.Node.{Node}
use Rattle.qasm_form.specs.Numbers.{IsNumber, HasNumber}

-- bytes of an angle, one at least
abbrev Fits : List ℕ → Type 0
Fits text = (0 < length text) × (list_all is_angle_byte text ≡ true)

digit_fits : (b : ℕ) → is_ascii_digit b ≡ true → is_angle_byte b ≡ true
digit_fits b h = grind (arith, nat_tests)

append_fits : (xs ys : List ℕ) → list_all is_angle_byte xs ≡ true → list_all is_angle_byte ys ≡ true → list_all is_angle_byte (xs ++ ys) ≡ true
append_fits xs ys left right = list_all-append is_angle_byte xs ys ∙ and_from _ _ left right

digits_fit : (text : List ℕ) → AllPass is_ascii_digit text → list_all is_angle_byte text ≡ true
digits_fit [] h = refl
digits_fit (b ∷ text) h = and_from _ _ (digit_fits b h.0) (digits_fit text h.1)

pointed_fits : (text : List ℕ) → IsPointed text → Fits text
pointed_fits text p =
    subst Fits (flip p.2) (omega (arith, length-append p.0 (46 ∷ p.1)), append_fits p.0 (46 ∷ p.1) (digits_fit p.0 p.3) (digits_fit p.1 p.4))

sign_fits : (sign : List ℕ) → IsOptionalSign sign → list_all is_angle_byte sign ≡ true
sign_fits sign (inl none) = ap (list_all is_angle_byte) none
sign_fits sign (inr (inl plus)) = ap (list_all is_angle_byte) plus
sign_fits sign (inr (inr (inl minus))) = ap (list_all is_angle_byte) minus
sign_fits sign (inr (inr (inr never))) = elim never [ ]

letter_fits : (e : ℕ) → (e ≡ 101) ⊎ (e ≡ 69) → is_angle_byte e ≡ true
letter_fits e (inl lower) = ap is_angle_byte lower
letter_fits e (inr upper) = ap is_angle_byte upper

exponent_fits : (text : List ℕ) → IsExponent text → list_all is_angle_byte text ≡ true
exponent_fits text x =
    ap (list_all is_angle_byte) x.3 ∙ and_from _ _ (letter_fits x.0 x.4) (append_fits x.1 x.2 (sign_fits x.1 x.5) (digits_fit x.2 x.6.1))

front_fits : (front : List ℕ) → IsPointed front ⊎ IsDigits front → Fits front
front_fits front (inl p) = pointed_fits front p
front_fits front (inr d) = (d.0, digits_fit front d.1)

pub number_fits : (text : List ℕ) → IsNumber text → (0 < length text) × IsTrue (list_all is_angle_byte text)
number_fits text (inl d) = (d.0, digits_fit text d.1)
number_fits text (inr (inl p)) = pointed_fits text p
number_fits text (inr (inr r)) =
    let front = front_fits r.0 r.3 in
    subst Fits (flip r.2) (omega (arith, length-append r.0 r.1, front.0), append_fits r.0 r.1 front.1 (exponent_fits r.1 r.4))

some_same : {a b : Node} → Some a ≡ Some b → a ≡ b
some_same e = cc

pub node_number : (nodes : List Node) (k : ℕ) (n : Node) → AllByRecursion HasNumber nodes → slice_get nodes k ≡ Some n → HasNumber n
node_number [] k n all is = absurd (cc)
node_number (m ∷ nodes) zero n all is = subst HasNumber (some_same is) all.0
node_number (m ∷ nodes) (suc k) n all is = node_number nodes k n all.1 is
