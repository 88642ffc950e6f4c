-- Inside: what the readers of one piece answer.
use Rattle.std.specs.Prelude.{ℕ, Bool, List, Option, Some, None}
use Rattle.std.specs.Char.{is_ascii_digit}
use Rattle.qasm_lex.specs.declared.piece.Front.{Front}
use Rattle.qasm_lex.specs.declared.run.Run.{Run}
use Rattle.qasm_lex.specs.declared.run.Run.TheVariants.{WordBytes, Digits, CommentBytes, StringBytes}
use Rattle.qasm_lex.specs.Bytes.{is_word_byte, is_comment_byte, is_string_byte}
use Rattle.qasm_lex.specs.Cuts.{IsLongestFront, NothingBegins}

-- The test of each kind of run of bytes.
abbrev pub passes : Run → ℕ → Bool
passes WordBytes = is_word_byte
passes Digits = is_ascii_digit
passes CommentBytes = is_comment_byte
passes StringBytes = is_string_byte

-- The longest piece at the front of the bytes, or none where none begins.
abbrev pub Finds : List ℕ → Option Front → Type 0
Finds bytes None = NothingBegins bytes
Finds bytes (Some front) = IsLongestFront bytes front.kind front.length
