use Rattle.std.proofs.Common.{◌∙◌, sym, inl, inr, Some}
use Rattle.qasm_lex.specs.declared.token.TokenKind.TheVariants.{Sign}
use Rattle.qasm_lex.proofs.Found.{front_is, equals_found, equals_missing, arrow_found, mark_found}
use Rattle.qasm_lex.proofs.piece.mark.Goals as goal
use Rattle.qasm_lex.proofs.piece.mark.Goals.{else-bytes-eq45-via-then-bytes-eq45+else-next-eq62, else-bytes-eq45-via-else-bytes-eq45}

pub returns-then-next-eq61 : goal.returns-then-next-eq61
returns-then-next-eq61 c =
    front_is _ _ (Some Sign) 2 c.token.ensures (equals_found _ c.if-bytes-eq61.true (sym c.byte_at-next.ensures ∙ c.if-next-eq61.true))

pub returns-else-next-eq61 : goal.returns-else-next-eq61
returns-else-next-eq61 c =
    equals_missing _ c.if-bytes-eq61.true (λ e. c.if-next-eq61.false (c.byte_at-next.ensures ∙ e))

pub returns-then-next-eq62 : goal.returns-then-next-eq62
returns-then-next-eq62 c =
    front_is _ _ (Some Sign) 2 c.token-then-next-eq62.ensures (arrow_found _ c.if-bytes-eq45.true (sym c.byte_at-next.ensures ∙ c.if-next-eq62.true))

pub returns-else-bytes-eq45 : goal.returns-else-bytes-eq45
returns-else-bytes-eq45 c =
    front_is _ _ (Some Sign) 1 c.token-else-bytes-eq45.ensures (mark_found _ c.requires.some c.requires.class c.if-bytes-eq61.false (elim c.else-bytes-eq45.branch [ else-bytes-eq45-via-then-bytes-eq45+else-next-eq62 w ↦ inr (λ e. w.if-next-eq62.false (c.byte_at-next.ensures ∙ e)) | else-bytes-eq45-via-else-bytes-eq45 w ↦ inl w.if-bytes-eq45.false ]))
