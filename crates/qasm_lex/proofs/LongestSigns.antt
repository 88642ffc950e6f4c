-- Blanks, comments and signs are the longest pieces where they stand.
use Rattle.std.proofs.Common.{◌≡◌, ◌≢◌, ℕ, suc, ◌≤◌, true, List, [], ◌∷◌, ◌++◌, length, take, get_or, ◌⊎◌, Option, Some, None, refl, sym, ◌∙◌, ap, subst, inl, inr, ⊎_elim, arith}
use Rattle.std.specs.Prelude.{◌==◌}
use Rattle.std.specs.List.{prefix_len, list_any}
use Rattle.std.proofs.lemmas.Bool.{or_cases, eqb-true}
use Rattle.std.proofs.lemmas.List.Sums.{prefix_len-le-length}
use Rattle.qasm_lex.specs.declared.token.TokenKind.{TokenKind}
use Rattle.qasm_lex.specs.declared.token.TokenKind.TheVariants.{Word, Capital, Whole, Real, Text, Sign}
use Rattle.qasm_lex.specs.declared.piece.Class.TheVariants.{Blank, Slash, Mark}
use Rattle.qasm_lex.specs.Bytes.{is_blank, is_comment_byte}
use Rattle.qasm_lex.specs.Classes.{class_of, is_mark}
use Rattle.qasm_lex.specs.Forms.{IsOneOf, IsPiece, IsBlank, IsComment, signs}
use Rattle.qasm_lex.specs.Cuts.{IsLongestFront, NothingBegins}
use Rattle.qasm_lex.proofs.RunLemmas.{AllPass-run}
use Rattle.qasm_lex.proofs.FirstBytes.{Begins, begins_at, one_of}
use Rattle.qasm_lex.proofs.LongestWords.{IsBound, front_from, bound_by_run}

-- a comment begins with two slashes
comment_first : (b : ℕ) (bytes front rest : List ℕ) → front ++ rest ≡ b ∷ bytes → IsComment front → (b ≡ 47) × (get_or bytes 0 0 ≡ 47)
comment_first b bytes front rest same comment =
    let e : 47 ∷ 47 ∷ (comment.0 ++ rest) ≡ b ∷ bytes = subst (λ t. t ++ rest ≡ b ∷ bytes) comment.1 same in
    let tail : 47 ∷ (comment.0 ++ rest) ≡ bytes = cc in
    let head : b ≡ 47 = cc in
    (head, sym (ap (λ t. get_or t 0 0) tail))

pub blank_front : (b : ℕ) (bytes : List ℕ) → class_of b ≡ Blank → is_blank b ≡ true → IsLongestFront (b ∷ bytes) None 1
blank_front b bytes class blank =
    front_from (b ∷ bytes) None 1 (omega arith) (omega arith) (inl (b, refl, blank)) bound where
      bound : IsBound (b ∷ bytes) 1
      bound kind front rest same piece = by_kind kind piece (subst (Begins kind) class (begins_at kind front rest b bytes piece same)) where
        by_kind : (k : Option TokenKind) → IsPiece k front rest → Begins k Blank → length front ≤ 1
        by_kind None piece fits =
            ⊎_elim (λ (is : IsBlank front). omega (arith, ap length is.1)) (λ (comment : IsComment front). let e : Slash ≡ Blank = sym (ap class_of (comment_first b bytes front rest same comment).0) ∙ class in absurd (cc)) piece
        by_kind (Some Word) piece fits = absurd fits
        by_kind (Some Capital) piece fits = absurd fits
        by_kind (Some Whole) piece fits = absurd fits
        by_kind (Some Real) piece fits = absurd fits
        by_kind (Some Text) piece fits = absurd fits
        by_kind (Some Sign) piece fits = absurd fits

-- no sign has more than two bytes
sign_short : (front : List ℕ) → IsOneOf signs front → length front ≤ 2
sign_short front one = one_of (λ t. length t ≤ 2) signs front (omega arith, (omega arith, (omega arith, (omega arith, (omega arith, (omega arith, (omega arith, (omega arith, (omega arith, (omega arith, (omega arith, (omega arith, (omega arith, (omega arith, (omega arith, tt))))))))))))))) one

-- where a slash begins, there is a comment or a sign
slash_bound : (bytes : List ℕ) (n : ℕ) → ((front rest : List ℕ) → front ++ rest ≡ 47 ∷ bytes → IsBlank front ⊎ IsComment front → length front ≤ n) → ((front rest : List ℕ) → front ++ rest ≡ 47 ∷ bytes → IsOneOf signs front → length front ≤ n) → IsBound (47 ∷ bytes) n
slash_bound bytes n plain sign kind front rest same piece = by_kind kind piece (begins_at kind front rest 47 bytes piece same) where
  by_kind : (k : Option TokenKind) → IsPiece k front rest → Begins k Slash → length front ≤ n
  by_kind None piece fits = plain front rest same piece
  by_kind (Some Sign) piece fits = sign front rest same piece
  by_kind (Some Word) piece fits = absurd fits
  by_kind (Some Capital) piece fits = absurd fits
  by_kind (Some Whole) piece fits = absurd fits
  by_kind (Some Real) piece fits = absurd fits
  by_kind (Some Text) piece fits = absurd fits

comment_length : (bytes front rest : List ℕ) → front ++ rest ≡ 47 ∷ 47 ∷ bytes → IsComment front → length front ≤ suc (suc (prefix_len is_comment_byte bytes))
comment_length bytes front rest same comment =
    let e : 47 ∷ 47 ∷ (comment.0 ++ rest) ≡ 47 ∷ 47 ∷ bytes = subst (λ t. t ++ rest ≡ 47 ∷ 47 ∷ bytes) comment.1 same in
    let inner : comment.0 ++ rest ≡ bytes = cc in
    omega (arith, ap length comment.1, bound_by_run is_comment_byte bytes comment.0 rest inner comment.2)

pub comment_front : (bytes : List ℕ) → IsLongestFront (47 ∷ 47 ∷ bytes) None (suc (suc (prefix_len is_comment_byte bytes)))
comment_front bytes =
    let n = prefix_len is_comment_byte bytes in
    front_from (47 ∷ 47 ∷ bytes) None (suc (suc n)) (omega arith) (omega (arith, prefix_len-le-length is_comment_byte bytes)) (inr (take n bytes, refl, AllPass-run is_comment_byte bytes)) (slash_bound (47 ∷ bytes) (suc (suc n)) (λ front rest same piece. ⊎_elim (λ (is : IsBlank front). omega (arith, ap length is.1)) (comment_length bytes front rest same) piece) (λ front rest same one. omega (arith, sign_short front one)))

pub slash_front : (bytes : List ℕ) → get_or bytes 0 0 ≢ 47 → IsLongestFront (47 ∷ bytes) (Some Sign) 1
slash_front bytes alone =
    front_from (47 ∷ bytes) (Some Sign) 1 (omega arith) (omega arith) (inr (inr (inr (inr (inr (inr (inr (inr (inr (inr (inr (inl refl)))))))))))) (slash_bound bytes 1 (λ front rest same piece. ⊎_elim (λ (is : IsBlank front). omega (arith, ap length is.1)) (λ comment. absurd (alone (comment_first 47 bytes front rest same comment).1)) piece) (λ front rest same one. one_of (λ t. t ++ rest ≡ 47 ∷ bytes → length t ≤ 1) signs front ((λ _. omega arith), ((λ _. omega arith), ((λ _. omega arith), ((λ _. omega arith), ((λ _. omega arith), ((λ _. omega arith), ((λ _. omega arith), ((λ _. omega arith), ((λ _. omega arith), ((λ _. omega arith), ((λ _. omega arith), ((λ _. omega arith), ((λ _. omega arith), ((λ e. absurd (omega (arith, ap (λ (t : List ℕ). get_or t 0 0) e))), ((λ e. absurd (omega (arith, ap (λ (t : List ℕ). get_or t 0 0) e))), tt))))))))))))))) one same))

-- where another sign begins, there is a sign alone
mark_only : (b : ℕ) (bytes : List ℕ) → class_of b ≡ Mark → (kind : Option TokenKind) (front rest : List ℕ) → front ++ rest ≡ b ∷ bytes → IsPiece kind front rest → IsOneOf signs front
mark_only b bytes class kind front rest same piece = by_kind kind piece (subst (Begins kind) class (begins_at kind front rest b bytes piece same)) where
  by_kind : (k : Option TokenKind) → IsPiece k front rest → Begins k Mark → IsOneOf signs front
  by_kind (Some Sign) piece fits = piece
  by_kind None piece fits = absurd fits
  by_kind (Some Word) piece fits = absurd fits
  by_kind (Some Capital) piece fits = absurd fits
  by_kind (Some Whole) piece fits = absurd fits
  by_kind (Some Real) piece fits = absurd fits
  by_kind (Some Text) piece fits = absurd fits

pub arrow_front : (bytes : List ℕ) → IsLongestFront (45 ∷ 62 ∷ bytes) (Some Sign) 2
arrow_front bytes =
    front_from (45 ∷ 62 ∷ bytes) (Some Sign) 2 (omega arith) (omega arith) (inr (inr (inr (inr (inr (inr (inr (inr (inr (inr (inr (inr (inr (inl refl)))))))))))))) (λ kind front rest same piece. sign_short front (mark_only 45 (62 ∷ bytes) refl kind front rest same piece))

pub equals_front : (bytes : List ℕ) → IsLongestFront (61 ∷ 61 ∷ bytes) (Some Sign) 2
equals_front bytes =
    front_from (61 ∷ 61 ∷ bytes) (Some Sign) 2 (omega arith) (omega arith) (inr (inr (inr (inr (inr (inr (inr (inr (inr (inr (inr (inr (inr (inr (inl refl))))))))))))))) (λ kind front rest same piece. sign_short front (mark_only 61 (61 ∷ bytes) refl kind front rest same piece))

-- one sign alone is not the sign of equality
pub equals_none : (bytes : List ℕ) → get_or bytes 0 0 ≢ 61 → NothingBegins (61 ∷ bytes)
equals_none bytes alone kind front rest same piece =
    one_of (λ t. t ++ rest ≡ 61 ∷ bytes → ⊥) signs front ((λ e. absurd (omega (arith, ap (λ (t : List ℕ). get_or t 0 0) e))), ((λ e. absurd (omega (arith, ap (λ (t : List ℕ). get_or t 0 0) e))), ((λ e. absurd (omega (arith, ap (λ (t : List ℕ). get_or t 0 0) e))), ((λ e. absurd (omega (arith, ap (λ (t : List ℕ). get_or t 0 0) e))), ((λ e. absurd (omega (arith, ap (λ (t : List ℕ). get_or t 0 0) e))), ((λ e. absurd (omega (arith, ap (λ (t : List ℕ). get_or t 0 0) e))), ((λ e. absurd (omega (arith, ap (λ (t : List ℕ). get_or t 0 0) e))), ((λ e. absurd (omega (arith, ap (λ (t : List ℕ). get_or t 0 0) e))), ((λ e. absurd (omega (arith, ap (λ (t : List ℕ). get_or t 0 0) e))), ((λ e. absurd (omega (arith, ap (λ (t : List ℕ). get_or t 0 0) e))), ((λ e. absurd (omega (arith, ap (λ (t : List ℕ). get_or t 0 0) e))), ((λ e. absurd (omega (arith, ap (λ (t : List ℕ). get_or t 0 0) e))), ((λ e. absurd (omega (arith, ap (λ (t : List ℕ). get_or t 0 0) e))), ((λ e. absurd (omega (arith, ap (λ (t : List ℕ). get_or t 0 0) e))), ((λ e. let tail : 61 ∷ rest ≡ bytes = cc in alone (sym (ap (λ t. get_or t 0 0) tail))), tt))))))))))))))) (mark_only 61 bytes refl kind front rest same piece) same

-- a fact of each number of a list
abbrev AllBytes : (ℕ → Type 0) → List ℕ → Type 0
AllBytes P [] = Unit {0}
AllBytes P (b ∷ bytes) = P b × AllBytes P bytes

any_of : (P : ℕ → Type 0) (bytes : List ℕ) (b : ℕ) → AllBytes P bytes → list_any (λ x. b == x) bytes ≡ true → P b
any_of P [] b all any = absurd (cc)
any_of P (x ∷ bytes) b all any =
    ⊎_elim (λ e. subst P (sym (eqb-true b x e)) all.0) (λ other. any_of P bytes b all.1 other) (or_cases (b == x) (list_any (λ y. b == y) bytes) any)

abbrev marks : List ℕ
marks = 59 ∷ 44 ∷ 40 ∷ 41 ∷ 123 ∷ 125 ∷ 91 ∷ 93 ∷ 43 ∷ 45 ∷ 42 ∷ 94 ∷ 61 ∷ []

mark_is_sign : (b : ℕ) → is_mark b ≡ true → b ≢ 61 → IsOneOf signs (b ∷ [])
mark_is_sign b mark other =
    any_of (λ x. x ≢ 61 → IsOneOf signs (x ∷ [])) marks b ((λ _. inl refl), ((λ _. inr (inl refl)), ((λ _. inr (inr (inl refl))), ((λ _. inr (inr (inr (inl refl)))), ((λ _. inr (inr (inr (inr (inl refl))))), ((λ _. inr (inr (inr (inr (inr (inl refl)))))), ((λ _. inr (inr (inr (inr (inr (inr (inl refl))))))), ((λ _. inr (inr (inr (inr (inr (inr (inr (inl refl)))))))), ((λ _. inr (inr (inr (inr (inr (inr (inr (inr (inl refl))))))))), ((λ _. inr (inr (inr (inr (inr (inr (inr (inr (inr (inl refl)))))))))), ((λ _. inr (inr (inr (inr (inr (inr (inr (inr (inr (inr (inl refl))))))))))), ((λ _. inr (inr (inr (inr (inr (inr (inr (inr (inr (inr (inr (inr (inl refl))))))))))))), ((λ ne. absurd (ne refl)), tt))))))))))))) mark other

pub mark_front : (b : ℕ) (bytes : List ℕ) → class_of b ≡ Mark → is_mark b ≡ true → b ≢ 61 → (b ≡ 45 → get_or bytes 0 0 ≢ 62) → IsLongestFront (b ∷ bytes) (Some Sign) 1
mark_front b bytes class mark other alone =
    front_from (b ∷ bytes) (Some Sign) 1 (omega arith) (omega arith) (mark_is_sign b mark other) (λ kind front rest same piece. one_of (λ t. t ++ rest ≡ b ∷ bytes → length t ≤ 1) signs front ((λ _. omega arith), ((λ _. omega arith), ((λ _. omega arith), ((λ _. omega arith), ((λ _. omega arith), ((λ _. omega arith), ((λ _. omega arith), ((λ _. omega arith), ((λ _. omega arith), ((λ _. omega arith), ((λ _. omega arith), ((λ _. omega arith), ((λ _. omega arith), ((λ e. let tail : 62 ∷ rest ≡ bytes = cc in let head : b ≡ 45 = cc in absurd (alone head (sym (ap (λ t. get_or t 0 0) tail)))), ((λ e. let head : b ≡ 61 = cc in absurd (other head)), tt))))))))))))))) (mark_only b bytes class kind front rest same piece) same)
