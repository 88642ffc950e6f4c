-- The first byte of a piece has a class that its kind allows.
use Rattle.std.proofs.Common.{◌≡◌, ℕ, ◌<◌, true, false, List, [], ◌∷◌, ◌++◌, length, ◌⊎◌, Option, Some, None, refl, sym, subst, inr, ⊎_elim, arith}
use Rattle.std.specs.Prelude.{◌||◌, ◌==◌}
use Rattle.std.specs.Char.{is_ascii_digit, is_ascii_lowercase}
use Rattle.std.proofs.lemmas.Bool.{or_cases, eqb-true}
use Rattle.std.proofs.lemmas.Bool.Decides.{nat_tests}
use Rattle.qasm_lex.specs.declared.token.TokenKind.{TokenKind}
use Rattle.qasm_lex.specs.declared.token.TokenKind.TheVariants.{Word, Capital, Whole, Real, Text, Sign}
use Rattle.qasm_lex.specs.declared.piece.Class.{Class}
use Rattle.qasm_lex.specs.declared.piece.Class.TheVariants.{Lower, Numeric, Upper, Blank, Slash, Quote, Mark}
use Rattle.qasm_lex.specs.Bytes.{is_blank, AllPass}
use Rattle.qasm_lex.specs.Classes.{class_of}
use Rattle.qasm_lex.specs.Forms.{IsOneOf, IsPiece, IsPointed, IsDigits, IsReal, capitals, signs}

-- the kinds that a class can begin
abbrev pub Begins : Option TokenKind → Class → Type 0
Begins None Blank = Unit {0}
Begins None Slash = Unit {0}
Begins (Some Word) Lower = Unit {0}
Begins (Some Capital) Upper = Unit {0}
Begins (Some Whole) Numeric = Unit {0}
Begins (Some Real) Numeric = Unit {0}
Begins (Some Text) Quote = Unit {0}
Begins (Some Sign) Slash = Unit {0}
Begins (Some Sign) Mark = Unit {0}
Begins kind class = ⊥

-- a fact of each word of a list
abbrev pub AllOf : (List ℕ → Type 0) → List (List ℕ) → Type 0
AllOf P [] = Unit {0}
AllOf P (word ∷ words) = P word × AllOf P words

pub one_of : (P : List ℕ → Type 0) (words : List (List ℕ)) (text : List ℕ) → AllOf P words → IsOneOf words text → P text
one_of P [] text all one = absurd one
one_of P (word ∷ words) text all one =
    ⊎_elim (λ same. subst P (sym same) all.0) (λ other. one_of P words text all.1 other) one

-- the first byte of a list has this class, if there is one
abbrev pub FirstIs : (ℕ → Type 0) → List ℕ → Type 0
FirstIs P [] = ⊥
FirstIs P (b ∷ bytes) = P b

first_append : (P : ℕ → Type 0) (front rest : List ℕ) → FirstIs P front → FirstIs P (front ++ rest)
first_append P [] rest first = absurd first
first_append P (b ∷ front) rest first = first

first_weaker : (P Q : ℕ → Type 0) (bytes : List ℕ) → ((b : ℕ) → P b → Q b) → FirstIs P bytes → FirstIs Q bytes
first_weaker P Q [] f first = absurd first
first_weaker P Q (b ∷ bytes) f first = f b first

class_of_lower : (b : ℕ) → is_ascii_lowercase b ≡ true → class_of b ≡ Lower
class_of_lower b lower = rw lower refl

class_of_numeric : (b : ℕ) → is_ascii_digit b ≡ true → class_of b ≡ Numeric
class_of_numeric b digit =
    let no : is_ascii_lowercase b ≡ false = grind (arith, nat_tests) in
    rw (no, digit) refl

pub class_of_blank : (b : ℕ) → is_blank b ≡ true → class_of b ≡ Blank
class_of_blank b blank =
    let P : ℕ → Type 0 = λ x. class_of x ≡ Blank in
    ⊎_elim (λ e. subst P (sym (eqb-true b 32 e)) refl) (λ o. ⊎_elim (λ e. subst P (sym (eqb-true b 9 e)) refl) (λ o. ⊎_elim (λ e. subst P (sym (eqb-true b 13 e)) refl) (λ e. subst P (sym (eqb-true b 10 e)) refl) (or_cases (b == 13) (b == 10) o)) (or_cases (b == 9) (b == 13 || b == 10) o)) (or_cases (b == 32) (b == 9 || (b == 13 || b == 10)) blank)

-- the first byte of a text, where it is digits and then perhaps something that begins with a numeric byte
first_numeric : (digits rest : List ℕ) → AllPass is_ascii_digit digits → (0 < length digits) ⊎ FirstIs (λ b. class_of b ≡ Numeric) rest → FirstIs (λ b. class_of b ≡ Numeric) (digits ++ rest)
first_numeric [] rest pass some = ⊎_elim (λ lt. absurd (omega arith)) (λ first. first) some
first_numeric (b ∷ digits) rest pass some = class_of_numeric b pass.0

pointed_first : (text : List ℕ) → IsPointed text → FirstIs (λ b. class_of b ≡ Numeric) text
pointed_first text p =
    subst (FirstIs (λ b. class_of b ≡ Numeric)) (sym p.2) (first_numeric p.0 (46 ∷ p.1) p.3 (inr refl))

digits_first : (text : List ℕ) → IsDigits text → FirstIs (λ b. class_of b ≡ Numeric) text
digits_first [] d = absurd (omega (arith, d.0))
digits_first (b ∷ text) d = class_of_numeric b d.1.0

real_first : (text : List ℕ) → IsReal text → FirstIs (λ b. class_of b ≡ Numeric) text
real_first text real =
    ⊎_elim (pointed_first text) (λ r. subst (FirstIs (λ b. class_of b ≡ Numeric)) (sym r.2) (first_append _ r.0 r.1 (⊎_elim (pointed_first r.0) (digits_first r.0) r.3))) real

-- the first byte of a piece has a class that its kind can begin with
pub begins : (kind : Option TokenKind) (text after : List ℕ) → IsPiece kind text after → FirstIs (λ b. Begins kind (class_of b)) text
begins None text after piece =
    let P : List ℕ → Type 0 = FirstIs (λ b. Begins None (class_of b)) in
    ⊎_elim (λ blank. subst P (sym blank.1) (subst (Begins None) (sym (class_of_blank blank.0 blank.2)) tt)) (λ comment. subst P (sym comment.1) tt) piece
begins (Some Word) text after piece =
    let P : List ℕ → Type 0 = FirstIs (λ b. Begins (Some Word) (class_of b)) in
    subst P (sym piece.2) (subst (Begins (Some Word)) (sym (class_of_lower piece.0 piece.3)) tt)
begins (Some Capital) text after piece =
    one_of (FirstIs (λ b. Begins (Some Capital) (class_of b))) capitals text (tt, (tt, (tt, tt))) piece.0
begins (Some Whole) text after piece =
    let P : List ℕ → Type 0 = FirstIs (λ b. Begins (Some Whole) (class_of b)) in
    ⊎_elim (λ w. let first = subst (AllPass is_ascii_digit) w.2 w.4 in subst P (sym w.2) (subst (Begins (Some Whole)) (sym (class_of_numeric w.0 first.0)) tt)) (λ w. subst P (sym w.0) tt) piece
begins (Some Real) text after piece =
    first_weaker (λ b. class_of b ≡ Numeric) (λ b. Begins (Some Real) (class_of b)) text (λ b e. subst (Begins (Some Real)) (sym e) tt) (real_first text piece)
begins (Some Text) text after piece =
    let P : List ℕ → Type 0 = FirstIs (λ b. Begins (Some Text) (class_of b)) in
    subst P (sym piece.1) tt
begins (Some Sign) text after piece =
    one_of (FirstIs (λ b. Begins (Some Sign) (class_of b))) signs text (tt, (tt, (tt, (tt, (tt, (tt, (tt, (tt, (tt, (tt, (tt, (tt, (tt, (tt, (tt, tt))))))))))))))) piece

-- a piece at the front of some bytes
pub begins_at : (kind : Option TokenKind) (text after : List ℕ) (b : ℕ) (bytes : List ℕ) → IsPiece kind text after → text ++ after ≡ b ∷ bytes → Begins kind (class_of b)
begins_at kind text after b bytes piece same =
    subst (FirstIs (λ x. Begins kind (class_of x))) same (first_append _ text after (begins kind text after piece))
