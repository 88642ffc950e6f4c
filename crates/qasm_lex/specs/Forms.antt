-- The form of each kind of token of OpenQASM 2.0 (Cross et al. 2017), as a property of its bytes.
use Rattle.std.specs.Prelude.{◌≡◌, ◌≢◌, ℕ, ◌+◌, ◌<◌, ◌⊎◌, List, [], ◌∷◌, ◌++◌, length, IsTrue, Option, Some, None, codes}
use Rattle.std.specs.Char.{is_ascii_digit, is_ascii_lowercase}
use Rattle.qasm_lex.specs.declared.token.TokenKind.{TokenKind}
use Rattle.qasm_lex.specs.declared.token.TokenKind.TheVariants.{Word, Capital, Whole, Real, Text, Sign}
use Rattle.qasm_lex.specs.Bytes.{is_blank, is_word_byte, is_comment_byte, is_string_byte, AllPass, NoneFirst}

-- The text is one of these.
abbrev pub IsOneOf : List (List ℕ) → List ℕ → Type 0
IsOneOf [] text = ⊥
IsOneOf (word ∷ words) text = (text ≡ word) ⊎ IsOneOf words text

-- The text is one blank byte.
abbrev pub IsBlank : List ℕ → Type 0
IsBlank text = (b : ℕ) × (text ≡ b ∷ []) × IsTrue (is_blank b)

-- Two slashes, and then no line feed.
abbrev pub IsComment : List ℕ → Type 0
IsComment text = (more : List ℕ) × (text ≡ 47 ∷ 47 ∷ more) × AllPass is_comment_byte more

-- A lower-case letter, and then letters, digits and underscores.
abbrev pub IsWord : List ℕ → Type 0
IsWord text = (b : ℕ) × (more : List ℕ) × (text ≡ b ∷ more) × IsTrue (is_ascii_lowercase b) × AllPass is_word_byte more

-- `OPENQASM`, `U` and `CX`.
abbrev pub capitals : List (List ℕ)
capitals = codes "OPENQASM" ∷ codes "U" ∷ codes "CX" ∷ []

-- The text is one of the capitals, and no letter, digit or underscore stands behind it.
abbrev pub IsCapital : List ℕ → List ℕ → Type 0
IsCapital text after = IsOneOf capitals text × NoneFirst is_word_byte after

-- One digit or more.
abbrev pub IsDigits : List ℕ → Type 0
IsDigits text = (0 < length text) × AllPass is_ascii_digit text

-- Digits of which the first is not 0; or 0 alone, and no digit stands behind it.
abbrev pub IsWhole : List ℕ → List ℕ → Type 0
IsWhole text after =
    ((b : ℕ) × (more : List ℕ) × (text ≡ b ∷ more) × (b ≢ 48) × AllPass is_ascii_digit text) ⊎ ((text ≡ 48 ∷ []) × NoneFirst is_ascii_digit after)

-- Digits with one point among them, before them or behind them.
abbrev pub IsPointed : List ℕ → Type 0
IsPointed text =
    (before : List ℕ) × (behind : List ℕ) × (text ≡ before ++ 46 ∷ behind) × AllPass is_ascii_digit before × AllPass is_ascii_digit behind × (0 < length before + length behind)

-- A plus, a minus, or nothing.
abbrev pub IsOptionalSign : List ℕ → Type 0
IsOptionalSign text = IsOneOf ([] ∷ codes "+" ∷ codes "-" ∷ []) text

-- `e` or `E`, an optional sign, and digits.
abbrev pub IsExponent : List ℕ → Type 0
IsExponent text =
    (e : ℕ) × (sign : List ℕ) × (digits : List ℕ) × (text ≡ e ∷ (sign ++ digits)) × ((e ≡ 101) ⊎ (e ≡ 69)) × IsOptionalSign sign × IsDigits digits

-- A pointed text, perhaps with an exponent; or digits with an exponent.
abbrev pub IsReal : List ℕ → Type 0
IsReal text =
    IsPointed text ⊎ ((front : List ℕ) × (exponent : List ℕ) × (text ≡ front ++ exponent) × (IsPointed front ⊎ IsDigits front) × IsExponent exponent)

-- A quotation mark, bytes that are neither a quotation mark nor a line feed, and a quotation mark.
abbrev pub IsText : List ℕ → Type 0
IsText text = (inner : List ℕ) × (text ≡ 34 ∷ (inner ++ 34 ∷ [])) × AllPass is_string_byte inner

-- The fifteen signs: `;` `,` `(` `)` `{` `}` `[` `]` `+` `-` `*` `/` `^` `->` `==`.
abbrev pub signs : List (List ℕ)
signs =
    codes ";" ∷ codes "," ∷ codes "(" ∷ codes ")" ∷ codes "{" ∷ codes "}" ∷ codes "[" ∷ codes "]" ∷ codes "+" ∷ codes "-" ∷ codes "*" ∷ codes "/" ∷ codes "^" ∷ codes "->" ∷ codes "==" ∷ []

-- The text has the form of its kind, where these bytes stand behind it. No kind is a blank or a comment.
abbrev pub IsPiece : Option TokenKind → List ℕ → List ℕ → Type 0
IsPiece None text after = IsBlank text ⊎ IsComment text
IsPiece (Some Word) text after = IsWord text
IsPiece (Some Capital) text after = IsCapital text after
IsPiece (Some Whole) text after = IsWhole text after
IsPiece (Some Real) text after = IsReal text
IsPiece (Some Text) text after = IsText text
IsPiece (Some Sign) text after = IsOneOf signs text
