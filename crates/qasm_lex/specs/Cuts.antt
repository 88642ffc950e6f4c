-- A source is a sequence of tokens, blanks and comments, each the longest that stands at its place.
use Rattle.std.specs.Prelude.{◌≡◌, ℕ, ◌+◌, ◌<◌, ◌≤◌, List, [], ◌∷◌, ◌++◌, length, Option, Some, None, Result, Ok, Err, take, drop}
use Rattle.qasm_lex.specs.declared.token.LexFault.{LexFault}
use Rattle.qasm_lex.specs.declared.token.LexFault.TheVariants.{Memory, At}
use Rattle.std.specs.List.{flat_map}
use Rattle.qasm_lex.specs.declared.token.TokenKind.{TokenKind}
use Rattle.qasm_lex.specs.declared.token.Token.{Token}
use Rattle.qasm_lex.specs.Forms.{IsPiece}
use Rattle.qasm_lex.specs.Lexed.{Lexed}

-- A token, a blank or a comment: its kind and its text.
pub record Piece : Type 0 where
  pub kind : Option TokenKind
  pub text : List ℕ

-- The text is a piece where these bytes stand behind it, and no piece at its place is longer.
pub record IsLongest (kind : Option TokenKind) (text after : List ℕ) : Type 0 where
  pub is_piece : IsPiece kind text after
  pub longest : (other : Option TokenKind) (front rest : List ℕ) → front ++ rest ≡ text ++ after → IsPiece other front rest → length front ≤ length text

-- no token, blank or comment begins where these bytes are left
abbrev pub NothingBegins : List ℕ → Type 0
NothingBegins bytes = (kind : Option TokenKind) (front rest : List ℕ) → front ++ rest ≡ bytes → IsPiece kind front rest → ⊥

-- A piece's text.
abbrev pub piece_text : Piece → List ℕ
piece_text piece = piece.text

-- each piece is the longest at its place, where the bytes after stand behind the last
abbrev pub AreLongest : List Piece → List ℕ → Type 0
AreLongest [] after = Unit {0}
AreLongest (piece ∷ pieces) after = IsLongest piece.kind piece.text (flat_map piece_text pieces ++ after) × AreLongest pieces after

-- The token of a piece with a kind, from one offset to another; a piece without a kind gives none.
abbrev pub token_of : Option TokenKind → ℕ → ℕ → List Token
token_of None from to = []
token_of (Some kind) from to = record { kind = kind; from = from; to = to } ∷ []

-- The tokens among pieces, with their offsets.
abbrev pub tokens_of : ℕ → List Piece → List Token
tokens_of at [] = []
tokens_of at (piece ∷ pieces) =
    token_of piece.kind at (at + length piece.text) ++ tokens_of (at + length piece.text) pieces

-- The source is the texts of some pieces, each the longest at its place, and these are the tokens among them.
abbrev pub AreTokensOf : List ℕ → Lexed → Type 0
AreTokensOf source lexed =
    (pieces : List Piece) × (source ≡ flat_map piece_text pieces) × AreLongest pieces [] × (lexed.tokens ≡ tokens_of 0 pieces) × (lexed.source_length ≡ length source)

-- The source is the texts of some pieces, each the longest at its place, and further bytes at which no piece begins;
-- this is the offset of those bytes.
abbrev pub IsLexFault : List ℕ → ℕ → Type 0
IsLexFault source at =
    (pieces : List Piece) × (rest : List ℕ) × (source ≡ flat_map piece_text pieces ++ rest) × AreLongest pieces rest × (0 < length rest) × NothingBegins rest × (at ≡ length (flat_map piece_text pieces))

-- The first n bytes are a piece, and no longer one stands there.
pub record IsLongestFront (bytes : List ℕ) (kind : Option TokenKind) (n : ℕ) : Type 0 where
  pub positive : 0 < n
  pub within : n ≤ length bytes
  pub longest : IsLongest kind (take n bytes) (drop n bytes)

-- After an Ok the tokens are those of the source; after a fault at an offset, that is its fault; of want of memory
-- nothing more is said.
abbrev pub IsLexAnswer : List ℕ → Result Lexed LexFault → Type 0
IsLexAnswer source (Ok lexed) = AreTokensOf source lexed
IsLexAnswer source (Err Memory) = Unit {0}
IsLexAnswer source (Err (At at)) = IsLexFault source at
