use Rattle.std.proofs.Common.{sym, subst, ◌≡◌, ◌∙◌, ◌+◌, Some, drop, get_or}
use Rattle.std.specs.List.{prefix_len}
use Rattle.qasm_lex.specs.declared.token.TokenKind.TheVariants.{Text}
use Rattle.qasm_lex.specs.Bytes.{is_string_byte}
use Rattle.qasm_lex.specs.Cuts.{IsLongestFront}
use Rattle.qasm_lex.proofs.Found.{front_is, of_rest, text_found, text_missing}
use Rattle.qasm_lex.proofs.piece.text.Goals as goal

pub returns-then-byte_at-eq34 : goal.returns-then-byte_at-eq34
returns-then-byte_at-eq34 c =
    let bytes = c.args.bytes.now in
    let run = of_rest (λ t. c.run_length-inner.result ≡ prefix_len is_string_byte t) bytes 1 c.run_length-inner.ensures.run in
    let closed = of_rest (λ t. c.byte_at.result ≡ get_or t c.run_length-inner.result 0) bytes 1 c.byte_at.ensures in
    let at : get_or (drop 1 bytes) (prefix_len is_string_byte (drop 1 bytes)) 0 ≡ 34 = subst (λ n. get_or (drop 1 bytes) n 0 ≡ 34) run (sym closed ∙ c.if-byte_at-eq34.true) in
    front_is bytes _ (Some Text) (c.run_length-inner.result + 2) c.token.ensures (subst (λ n. IsLongestFront bytes (Some Text) (n + 2)) (sym run) (text_found bytes c.requires.some c.requires.class at))

pub returns-else-byte_at-eq34 : goal.returns-else-byte_at-eq34
returns-else-byte_at-eq34 c =
    let bytes = c.args.bytes.now in
    let run = of_rest (λ t. c.run_length-inner.result ≡ prefix_len is_string_byte t) bytes 1 c.run_length-inner.ensures.run in
    let closed = of_rest (λ t. c.byte_at.result ≡ get_or t c.run_length-inner.result 0) bytes 1 c.byte_at.ensures in
    text_missing bytes c.requires.some c.requires.class (λ e. c.if-byte_at-eq34.false (closed ∙ subst (λ n. get_or (drop 1 bytes) n 0 ≡ 34) (sym run) e))
