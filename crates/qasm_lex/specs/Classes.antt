-- Inside: what the first byte of a token, blank or comment tells of it.
use Rattle.std.specs.Prelude.{ℕ, Bool, ◌||◌, ◌==◌, if◌then◌else◌, [], ◌∷◌}
use Rattle.std.specs.List.{list_any}
use Rattle.std.specs.Char.{is_ascii_digit, is_ascii_lowercase, is_ascii_uppercase}
use Rattle.qasm_lex.specs.Bytes.{is_blank}
use Rattle.qasm_lex.specs.declared.piece.Class.{Class}
use Rattle.qasm_lex.specs.declared.piece.Class.TheVariants.{Lower, Numeric, Upper, Blank, Slash, Quote, Mark, Other}

-- The byte is that of a sign, or the first of its two, but no slash.
abbrev pub is_mark : ℕ → Bool
is_mark b =
    list_any (λ x. b == x) (59 ∷ 44 ∷ 40 ∷ 41 ∷ 123 ∷ 125 ∷ 91 ∷ 93 ∷ 43 ∷ 45 ∷ 42 ∷ 94 ∷ 61 ∷ [])

-- What the first byte tells of a piece: a word, a number, a capital, a blank, a slash, a quotation mark, a sign, or
-- nothing.
abbrev pub class_of : ℕ → Class
class_of b =
    if is_ascii_lowercase b then Lower
    else (if is_ascii_digit b || b == 46 then Numeric
    else (if is_ascii_uppercase b then Upper
    else (if is_blank b then Blank
    else (if b == 47 then Slash
    else (if b == 34 then Quote
    else (if is_mark b then Mark
    else Other))))))
