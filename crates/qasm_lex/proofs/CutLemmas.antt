-- A source is cut into longest pieces in one way at most.
use Rattle.std.proofs.Common.{◌≡◌, ℕ, ◌<◌, Bool, true, false, List, [], ◌∷◌, ◌++◌, length, take, drop, get_or, ◌⊎◌, Option, Some, None, refl, sym, ◌∙◌, ap, subst, ⊎_elim, arith, append_assoc}
use Rattle.std.specs.List.{flat_map}
use Rattle.std.specs.Char.{is_ascii_digit}
use Rattle.std.proofs.lemmas.Bool.{false≢true}
use Rattle.std.proofs.lemmas.List.{append-nil, take_at, drop_at}
use Rattle.qasm_lex.specs.declared.token.TokenKind.{TokenKind}
use Rattle.qasm_lex.specs.declared.token.TokenKind.TheVariants.{Word, Capital, Whole, Real, Text, Sign}
use Rattle.qasm_lex.specs.declared.piece.Class.{Class}
use Rattle.qasm_lex.specs.declared.piece.Class.TheVariants.{Lower, Numeric, Upper, Blank, Slash, Quote, Mark, Other}
use Rattle.qasm_lex.specs.Bytes.{is_blank, AllPass}
use Rattle.qasm_lex.specs.Classes.{class_of}
use Rattle.qasm_lex.specs.Forms.{IsOneOf, IsPiece, IsBlank, IsComment, IsReal, signs}
use Rattle.qasm_lex.specs.Lexed.{Lexed}
use Rattle.qasm_lex.specs.Cuts.{Piece, IsLongest, NothingBegins, piece_text, AreLongest, tokens_of, AreTokensOf, IsLexFault}
use Rattle.qasm_lex.proofs.FirstBytes.{Begins, begins, one_of, class_of_blank}
use Rattle.qasm_lex.proofs.LongestNumbers.{whole_digits}

-- a piece has a byte at least
pub piece_some : (kind : Option TokenKind) (text after : List ℕ) → IsPiece kind text after → 0 < length text
piece_some kind [] after piece = absurd (begins kind [] after piece)
piece_some kind (b ∷ text) after piece = omega arith

pub nothing_at_end : NothingBegins []
nothing_at_end kind [] rest same piece = absurd (begins kind [] rest piece)
nothing_at_end kind (b ∷ front) rest same piece = absurd (cc)

-- digits are no real
no_pass : (test : ℕ → Bool) (front rest : List ℕ) (b : ℕ) → test b ≡ false → AllPass test (front ++ b ∷ rest) → ⊥
no_pass test [] rest b fails pass = false≢true (sym fails ∙ pass.0)
no_pass test (x ∷ front) rest b fails pass = no_pass test front rest b fails pass.1

real_not_digits : (text : List ℕ) → IsReal text → AllPass is_ascii_digit text → ⊥
real_not_digits text real pass =
    ⊎_elim (λ p. no_pass is_ascii_digit p.0 p.1 46 refl (subst (AllPass is_ascii_digit) p.2 pass)) (λ r. let x = r.4 in let whole : text ≡ r.0 ++ x.0 ∷ (x.1 ++ x.2) = r.2 ∙ ap (λ t. r.0 ++ t) x.3 in no_pass is_ascii_digit r.0 (x.1 ++ x.2) x.0 (⊎_elim (λ e. subst (λ b. is_ascii_digit b ≡ false) (sym e) refl) (λ e. subst (λ b. is_ascii_digit b ≡ false) (sym e) refl) x.4) (subst (AllPass is_ascii_digit) whole pass)) real

-- a comment is no sign, nor is a blank
blank_not_sign : (b : ℕ) → is_blank b ≡ true → IsOneOf signs (b ∷ []) → ⊥
blank_not_sign b blank one = subst (Begins (Some Sign)) (class_of_blank b blank) (begins (Some Sign) (b ∷ []) [] one)

comment_not_sign : (more text : List ℕ) → text ≡ 47 ∷ 47 ∷ more → IsOneOf signs text → ⊥
comment_not_sign more text is one =
    one_of (λ t. t ≡ 47 ∷ 47 ∷ more → ⊥) signs text ((λ e. omega (arith, ap length e)), ((λ e. omega (arith, ap length e)), ((λ e. omega (arith, ap length e)), ((λ e. omega (arith, ap length e)), ((λ e. omega (arith, ap length e)), ((λ e. omega (arith, ap length e)), ((λ e. omega (arith, ap length e)), ((λ e. omega (arith, ap length e)), ((λ e. omega (arith, ap length e)), ((λ e. omega (arith, ap length e)), ((λ e. omega (arith, ap length e)), ((λ e. omega (arith, ap length e)), ((λ e. omega (arith, ap length e)), ((λ e. omega (arith, ap (λ (t : List ℕ). get_or t 0 0) e)), ((λ e. omega (arith, ap (λ (t : List ℕ). get_or t 0 0) e)), tt))))))))))))))) one is

plain_not_sign : (text : List ℕ) → IsBlank text ⊎ IsComment text → IsOneOf signs text → ⊥
plain_not_sign text plain sign =
    ⊎_elim (λ (blank : IsBlank text). blank_not_sign blank.0 blank.2 (subst (IsOneOf signs) blank.1 sign)) (λ (comment : IsComment text). comment_not_sign comment.0 text comment.1 sign) plain

-- kinds that one byte can begin
abbrev group : Option TokenKind → ℕ
group None = 4
group (Some Word) = 0
group (Some Capital) = 1
group (Some Whole) = 2
group (Some Real) = 2
group (Some Text) = 3
group (Some Sign) = 4

abbrev class_group : Class → ℕ
class_group Lower = 0
class_group Numeric = 2
class_group Upper = 1
class_group Blank = 4
class_group Slash = 4
class_group Quote = 3
class_group Mark = 4
class_group Other = 5

group_fits : (kind : Option TokenKind) (class : Class) → Begins kind class → group kind ≡ class_group class
group_fits None Lower fits = absurd fits
group_fits None Numeric fits = absurd fits
group_fits None Upper fits = absurd fits
group_fits None Blank fits = refl
group_fits None Slash fits = refl
group_fits None Quote fits = absurd fits
group_fits None Mark fits = absurd fits
group_fits None Other fits = absurd fits
group_fits (Some Word) Lower fits = refl
group_fits (Some Word) Numeric fits = absurd fits
group_fits (Some Word) Upper fits = absurd fits
group_fits (Some Word) Blank fits = absurd fits
group_fits (Some Word) Slash fits = absurd fits
group_fits (Some Word) Quote fits = absurd fits
group_fits (Some Word) Mark fits = absurd fits
group_fits (Some Word) Other fits = absurd fits
group_fits (Some Capital) Lower fits = absurd fits
group_fits (Some Capital) Numeric fits = absurd fits
group_fits (Some Capital) Upper fits = refl
group_fits (Some Capital) Blank fits = absurd fits
group_fits (Some Capital) Slash fits = absurd fits
group_fits (Some Capital) Quote fits = absurd fits
group_fits (Some Capital) Mark fits = absurd fits
group_fits (Some Capital) Other fits = absurd fits
group_fits (Some Whole) Lower fits = absurd fits
group_fits (Some Whole) Numeric fits = refl
group_fits (Some Whole) Upper fits = absurd fits
group_fits (Some Whole) Blank fits = absurd fits
group_fits (Some Whole) Slash fits = absurd fits
group_fits (Some Whole) Quote fits = absurd fits
group_fits (Some Whole) Mark fits = absurd fits
group_fits (Some Whole) Other fits = absurd fits
group_fits (Some Real) Lower fits = absurd fits
group_fits (Some Real) Numeric fits = refl
group_fits (Some Real) Upper fits = absurd fits
group_fits (Some Real) Blank fits = absurd fits
group_fits (Some Real) Slash fits = absurd fits
group_fits (Some Real) Quote fits = absurd fits
group_fits (Some Real) Mark fits = absurd fits
group_fits (Some Real) Other fits = absurd fits
group_fits (Some Text) Lower fits = absurd fits
group_fits (Some Text) Numeric fits = absurd fits
group_fits (Some Text) Upper fits = absurd fits
group_fits (Some Text) Blank fits = absurd fits
group_fits (Some Text) Slash fits = absurd fits
group_fits (Some Text) Quote fits = refl
group_fits (Some Text) Mark fits = absurd fits
group_fits (Some Text) Other fits = absurd fits
group_fits (Some Sign) Lower fits = absurd fits
group_fits (Some Sign) Numeric fits = absurd fits
group_fits (Some Sign) Upper fits = absurd fits
group_fits (Some Sign) Blank fits = absurd fits
group_fits (Some Sign) Slash fits = refl
group_fits (Some Sign) Quote fits = absurd fits
group_fits (Some Sign) Mark fits = refl
group_fits (Some Sign) Other fits = absurd fits

one_kind : (kind other : Option TokenKind) (text after behind : List ℕ) → group kind ≡ group other → IsPiece kind text after → IsPiece other text behind → kind ≡ other
one_kind None None text after behind same left right = refl
one_kind None (Some Word) text after behind same left right = absurd (omega (arith, same))
one_kind None (Some Capital) text after behind same left right = absurd (omega (arith, same))
one_kind None (Some Whole) text after behind same left right = absurd (omega (arith, same))
one_kind None (Some Real) text after behind same left right = absurd (omega (arith, same))
one_kind None (Some Text) text after behind same left right = absurd (omega (arith, same))
one_kind None (Some Sign) text after behind same left right = absurd (plain_not_sign text left right)
one_kind (Some Word) None text after behind same left right = absurd (omega (arith, same))
one_kind (Some Word) (Some Word) text after behind same left right = refl
one_kind (Some Word) (Some Capital) text after behind same left right = absurd (omega (arith, same))
one_kind (Some Word) (Some Whole) text after behind same left right = absurd (omega (arith, same))
one_kind (Some Word) (Some Real) text after behind same left right = absurd (omega (arith, same))
one_kind (Some Word) (Some Text) text after behind same left right = absurd (omega (arith, same))
one_kind (Some Word) (Some Sign) text after behind same left right = absurd (omega (arith, same))
one_kind (Some Capital) None text after behind same left right = absurd (omega (arith, same))
one_kind (Some Capital) (Some Word) text after behind same left right = absurd (omega (arith, same))
one_kind (Some Capital) (Some Capital) text after behind same left right = refl
one_kind (Some Capital) (Some Whole) text after behind same left right = absurd (omega (arith, same))
one_kind (Some Capital) (Some Real) text after behind same left right = absurd (omega (arith, same))
one_kind (Some Capital) (Some Text) text after behind same left right = absurd (omega (arith, same))
one_kind (Some Capital) (Some Sign) text after behind same left right = absurd (omega (arith, same))
one_kind (Some Whole) None text after behind same left right = absurd (omega (arith, same))
one_kind (Some Whole) (Some Word) text after behind same left right = absurd (omega (arith, same))
one_kind (Some Whole) (Some Capital) text after behind same left right = absurd (omega (arith, same))
one_kind (Some Whole) (Some Whole) text after behind same left right = refl
one_kind (Some Whole) (Some Real) text after behind same left right = absurd (real_not_digits text right (whole_digits text after left).1)
one_kind (Some Whole) (Some Text) text after behind same left right = absurd (omega (arith, same))
one_kind (Some Whole) (Some Sign) text after behind same left right = absurd (omega (arith, same))
one_kind (Some Real) None text after behind same left right = absurd (omega (arith, same))
one_kind (Some Real) (Some Word) text after behind same left right = absurd (omega (arith, same))
one_kind (Some Real) (Some Capital) text after behind same left right = absurd (omega (arith, same))
one_kind (Some Real) (Some Whole) text after behind same left right = absurd (real_not_digits text left (whole_digits text behind right).1)
one_kind (Some Real) (Some Real) text after behind same left right = refl
one_kind (Some Real) (Some Text) text after behind same left right = absurd (omega (arith, same))
one_kind (Some Real) (Some Sign) text after behind same left right = absurd (omega (arith, same))
one_kind (Some Text) None text after behind same left right = absurd (omega (arith, same))
one_kind (Some Text) (Some Word) text after behind same left right = absurd (omega (arith, same))
one_kind (Some Text) (Some Capital) text after behind same left right = absurd (omega (arith, same))
one_kind (Some Text) (Some Whole) text after behind same left right = absurd (omega (arith, same))
one_kind (Some Text) (Some Real) text after behind same left right = absurd (omega (arith, same))
one_kind (Some Text) (Some Text) text after behind same left right = refl
one_kind (Some Text) (Some Sign) text after behind same left right = absurd (omega (arith, same))
one_kind (Some Sign) None text after behind same left right = absurd (plain_not_sign text right left)
one_kind (Some Sign) (Some Word) text after behind same left right = absurd (omega (arith, same))
one_kind (Some Sign) (Some Capital) text after behind same left right = absurd (omega (arith, same))
one_kind (Some Sign) (Some Whole) text after behind same left right = absurd (omega (arith, same))
one_kind (Some Sign) (Some Real) text after behind same left right = absurd (omega (arith, same))
one_kind (Some Sign) (Some Text) text after behind same left right = absurd (omega (arith, same))
one_kind (Some Sign) (Some Sign) text after behind same left right = refl

both_begin : (kind other : Option TokenKind) (text after behind : List ℕ) → IsPiece kind text after → IsPiece other text behind → group kind ≡ group other
both_begin kind other [] after behind left right = absurd (begins kind [] after left)
both_begin kind other (b ∷ text) after behind left right =
    group_fits kind (class_of b) (begins kind (b ∷ text) after left) ∙ sym (group_fits other (class_of b) (begins other (b ∷ text) behind right))

-- a text has one kind
same_kind : (kind other : Option TokenKind) (text after behind : List ℕ) → IsPiece kind text after → IsPiece other text behind → kind ≡ other
same_kind kind other text after behind left right =
    one_kind kind other text after behind (both_begin kind other text after behind left right) left right

-- two fronts of one list that are equally long are the same
fronts : (a b r s : List ℕ) → a ++ r ≡ b ++ s → length a ≡ length b → (a ≡ b) × (r ≡ s)
fronts a b r s same long = (
  sym (take_at a r (length a) refl) ∙ ap (take (length a)) same ∙ take_at b s (length a) (sym long),
  sym (drop_at a r (length a) refl) ∙ ap (drop (length a)) same ∙ drop_at b s (length a) (sym long),
)

-- the longest piece at a place is one
longest_once : (p q : Piece) (r s : List ℕ) → p.text ++ r ≡ q.text ++ s → IsLongest p.kind p.text r → IsLongest q.kind q.text s → (p ≡ q) × (r ≡ s)
longest_once p q r s same left right =
    let a = left.longest q.kind q.text s (sym same) right.is_piece in
    let b = right.longest p.kind p.text r same left.is_piece in
    let parts = fronts p.text q.text r s same (omega (arith, a, b)) in
    let kinds = same_kind p.kind q.kind p.text r s left.is_piece (subst (λ t. IsPiece q.kind t s) (sym parts.0) right.is_piece) in
    (λ i. record { kind = kinds i; text = parts.0 i }, parts.1)

-- pieces that are each the longest are one list, where nothing begins behind them
pub cut_once : (ps qs : List Piece) (r s : List ℕ) → flat_map piece_text ps ++ r ≡ flat_map piece_text qs ++ s → AreLongest ps r → AreLongest qs s → NothingBegins r → NothingBegins s → (ps ≡ qs) × (r ≡ s)
cut_once [] [] r s same left right none_left none_right = (refl, same)
cut_once [] (q ∷ qs) r s same left right none_left none_right =
    absurd (none_left q.kind q.text (flat_map piece_text qs ++ s) (sym (append_assoc q.text (flat_map piece_text qs) s) ∙ sym same) right.0.is_piece)
cut_once (p ∷ ps) [] r s same left right none_left none_right =
    absurd (none_right p.kind p.text (flat_map piece_text ps ++ r) (sym (append_assoc p.text (flat_map piece_text ps) r) ∙ same) left.0.is_piece)
cut_once (p ∷ ps) (q ∷ qs) r s same left right none_left none_right =
    let first = longest_once p q (flat_map piece_text ps ++ r) (flat_map piece_text qs ++ s) (sym (append_assoc p.text (flat_map piece_text ps) r) ∙ same ∙ append_assoc q.text (flat_map piece_text qs) s) left.0 right.0 in
    let others = cut_once ps qs r s first.1 left.1 right.1 none_left none_right in
    (λ i. first.0 i ∷ others.0 i, others.1)

-- a source has one list of tokens
pub tokens_once : (source : List ℕ) (one other : Lexed) → AreTokensOf source one → AreTokensOf source other → one ≡ other
tokens_once source one other left right =
    let same : flat_map piece_text left.0 ++ [] ≡ flat_map piece_text right.0 ++ [] = append-nil (flat_map piece_text left.0) ∙ sym left.1 ∙ right.1 ∙ sym (append-nil (flat_map piece_text right.0)) in
    let pieces = (cut_once left.0 right.0 [] [] same left.2 right.2 nothing_at_end nothing_at_end).0 in
    let tokens : one.tokens ≡ other.tokens = left.3 ∙ ap (tokens_of 0) pieces ∙ sym right.3 in
    let lengths : one.source_length ≡ other.source_length = left.4 ∙ sym right.4 in
    λ i. record { tokens = tokens i; source_length = lengths i }

-- a source has tokens or a fault
pub tokens_or_fault : (source : List ℕ) (lexed : Lexed) (at : ℕ) → AreTokensOf source lexed → IsLexFault source at → ⊥
tokens_or_fault source lexed at left right =
    let same : flat_map piece_text left.0 ++ [] ≡ flat_map piece_text right.0 ++ right.1 = append-nil (flat_map piece_text left.0) ∙ sym left.1 ∙ right.2 in
    let rest = (cut_once left.0 right.0 [] right.1 same left.2 right.3 nothing_at_end right.5).1 in
    omega (arith, right.4, ap length rest)

-- a source has one fault
pub fault_once : (source : List ℕ) (one other : ℕ) → IsLexFault source one → IsLexFault source other → one ≡ other
fault_once source one other left right =
    let pieces = (cut_once left.0 right.0 left.1 right.1 (sym left.2 ∙ right.2) left.3 right.3 left.5 right.5).0 in
    left.6 ∙ ap (λ ps. length (flat_map piece_text ps)) pieces ∙ sym right.6
