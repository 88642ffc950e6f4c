-- The classes of bytes that tokens are made of.
use Rattle.std.specs.Prelude.{◌≡◌, ℕ, Bool, false, not, ◌||◌, ◌&&◌, ◌==◌, List, [], ◌∷◌, IsTrue}
use Rattle.std.specs.Char.{is_ascii_digit, is_ascii_alphanumeric}

-- The byte is a space, a tab, a carriage return or a line feed.
abbrev pub is_blank : ℕ → Bool
is_blank b = b == 32 || (b == 9 || (b == 13 || b == 10))

-- The byte is a letter, a digit or the underscore.
abbrev pub is_word_byte : ℕ → Bool
is_word_byte b = is_ascii_alphanumeric b || b == 95

-- The byte is a digit or the point.
abbrev pub is_numeric : ℕ → Bool
is_numeric b = is_ascii_digit b || b == 46

-- The byte is no line feed.
abbrev pub is_comment_byte : ℕ → Bool
is_comment_byte b = not (b == 10)

-- The byte is neither a line feed nor a quotation mark.
abbrev pub is_string_byte : ℕ → Bool
is_string_byte b = not (b == 10) && not (b == 34)

-- Each byte passes the test.
abbrev pub AllPass : (ℕ → Bool) → List ℕ → Type 0
AllPass test [] = Unit {0}
AllPass test (b ∷ bytes) = IsTrue (test b) × AllPass test bytes

-- The bytes are none, or the first of them doesn't pass the test.
abbrev pub NoneFirst : (ℕ → Bool) → List ℕ → Type 0
NoneFirst test [] = Unit {0}
NoneFirst test (b ∷ bytes) = test b ≡ false
