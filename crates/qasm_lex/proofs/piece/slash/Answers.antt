use Rattle.std.proofs.Common.{sym, subst, ◌≡◌, ◌∙◌, ◌+◌, Some, None}
use Rattle.std.specs.List.{prefix_len}
use Rattle.qasm_lex.specs.declared.token.TokenKind.TheVariants.{Sign}
use Rattle.qasm_lex.specs.Bytes.{is_comment_byte}
use Rattle.qasm_lex.specs.Cuts.{IsLongestFront}
use Rattle.qasm_lex.proofs.Found.{front_is, of_rest, comment_found, slash_found}
use Rattle.qasm_lex.proofs.piece.slash.Goals as goal

pub returns-then-byte_at-eq47 : goal.returns-then-byte_at-eq47
returns-then-byte_at-eq47 c =
    let bytes = c.args.bytes.now in
    let run = of_rest (λ t. c.run_length.result ≡ prefix_len is_comment_byte t) bytes 2 c.run_length.ensures.run in
    subst (λ n. IsLongestFront bytes None (2 + n)) (sym run) (comment_found bytes c.requires.some c.requires.class (sym c.byte_at.ensures ∙ c.if-byte_at-eq47.true))

pub returns-else-byte_at-eq47 : goal.returns-else-byte_at-eq47
returns-else-byte_at-eq47 c =
    front_is _ _ (Some Sign) 1 c.token.ensures (slash_found _ c.requires.some c.requires.class (λ e. c.if-byte_at-eq47.false (c.byte_at.ensures ∙ e)))
