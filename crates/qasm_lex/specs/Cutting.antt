-- Inside: a cut into pieces that a proof can compute. It knows words, capital words, numbers without an exponent, blanks and
-- the signs of one byte but `=`; at anything else it answers nothing.
use Rattle.std.specs.Prelude.{ℕ, zero, suc, ◌+◌, Bool, false, not, ◌||◌, ◌&&◌, ◌==◌, if◌then◌else◌, List, [], ◌∷◌, take, drop, slice_index, Option, Some, None}
use Rattle.std.specs.List.{prefix_len, list_any}
use Rattle.std.specs.Char.{is_ascii_digit}
use Rattle.std.specs.Str.{bytes_eq}
use Rattle.qasm_lex.specs.declared.token.TokenKind.{TokenKind}
use Rattle.qasm_lex.specs.declared.token.TokenKind.TheVariants.{Word, Capital, Whole, Real, Sign}
use Rattle.qasm_lex.specs.declared.piece.Front.{Front}
use Rattle.qasm_lex.specs.declared.piece.Class.{Class}
use Rattle.qasm_lex.specs.declared.piece.Class.TheVariants.{Lower, Numeric, Upper, Blank, Slash, Quote, Mark, Other}
use Rattle.qasm_lex.specs.Bytes.{is_word_byte}
use Rattle.qasm_lex.specs.Classes.{class_of}
use Rattle.qasm_lex.specs.Cuts.{Piece}
use Rattle.qasm_lex.specs.Forms.{capitals}

-- a piece of this kind and length
abbrev pub front : Option TokenKind → ℕ → Option Front
front kind n = Some (record { kind = kind; length = n })

-- a piece, unless this holds
abbrev pub front_unless : Bool → Option TokenKind → ℕ → Option Front
front_unless b kind n = if b then None else front kind n

-- the byte is `e` or `E`
abbrev pub is_e : ℕ → Bool
is_e b = b == 101 || b == 69

-- a number with so many digits before its point and so many behind it
abbrev pub real_front : List ℕ → ℕ → ℕ → Option Front
real_front bytes before behind =
    front_unless ((before + behind) == 0 || is_e (slice_index bytes (before + (behind + 1)))) (Some Real) (before + (behind + 1))

-- a number of so many digits
abbrev pub whole_front : List ℕ → ℕ → Option Front
whole_front bytes n =
    front_unless (n == 0 || (is_e (slice_index bytes n) || (not (n == 1) && slice_index bytes 0 == 48))) (Some Whole) n

-- a number of so many digits before its point, if it has one
abbrev pub number_front : List ℕ → ℕ → Option Front
number_front bytes n =
    if slice_index bytes n == 46 then real_front bytes n (prefix_len is_ascii_digit (drop (n + 1) bytes))
    else whole_front bytes n

-- a word of so many bytes that is one of the capital words
abbrev pub capital_front : List ℕ → ℕ → Option Front
capital_front bytes n = front_unless (not (list_any (bytes_eq (take n bytes)) capitals)) (Some Capital) n

-- the piece at the front of bytes of which the first is of this class
abbrev pub front_of_class : Class → List ℕ → Option Front
front_of_class Lower bytes = front (Some Word) (prefix_len is_word_byte bytes)
front_of_class Numeric bytes = number_front bytes (prefix_len is_ascii_digit bytes)
front_of_class Upper bytes = capital_front bytes (prefix_len is_word_byte bytes)
front_of_class Blank bytes = front None 1
front_of_class Slash bytes = front_unless (slice_index bytes 1 == 47) (Some Sign) 1
front_of_class Mark bytes =
    front_unless (slice_index bytes 0 == 61 || slice_index bytes 1 == 62) (Some Sign) 1
front_of_class Quote bytes = None
front_of_class Other bytes = None

-- the piece at the front of some bytes
unfoldable pub front_of : List ℕ → Option Front
front_of bytes = front_of_class (class_of (slice_index bytes 0)) bytes

-- one piece before others
abbrev pub with_piece : Piece → Option (List Piece) → Option (List Piece)
with_piece piece None = None
with_piece piece (Some pieces) = Some (piece ∷ pieces)

-- the piece at the front, and those behind it
abbrev pub cut_front : List ℕ → (List ℕ → Option (List Piece)) → Option Front → Option (List Piece)
cut_front bytes go None = None
cut_front bytes go (Some f) = with_piece (record { kind = f.kind; text = take f.length bytes }) (go (drop f.length bytes))

-- the pieces of some bytes, of which there are at most so many
unfoldable pub cut : ℕ → List ℕ → Option (List Piece)
cut n [] = Some []
cut zero (b ∷ bytes) = None
cut (suc n) (b ∷ bytes) = cut_front (b ∷ bytes) (cut n) (front_of (b ∷ bytes))
