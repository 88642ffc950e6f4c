use Rattle.std.proofs.Common.{◌≡◌, ◌⊎◌, get_or, sym, ◌∙◌, inl, inr, subst, ⊎_elim}
use Rattle.qasm_lex.specs.Numbers.{IsExponentLength}
use Rattle.qasm_lex.proofs.Found.{exponent_found_signed, exponent_found_unsigned}
use Rattle.qasm_lex.proofs.number.exponent.Goals as goal

pub returns-then-sign-eq45 : goal.returns-then-sign-eq45
returns-then-sign-eq45 c =
    let bytes = c.args.bytes.now in
    let is_e : (get_or bytes 0 0 ≡ 101) ⊎ (get_or bytes 0 0 ≡ 69) = ⊎_elim (λ h. inr (sym c.byte_at-first.ensures ∙ h.1)) (λ h. inl (sym c.byte_at-first.ensures ∙ h)) c.else-first-ne101.either in
    let is_sign : (get_or bytes 1 0 ≡ 43) ⊎ (get_or bytes 1 0 ≡ 45) = ⊎_elim (λ h. inl (sym c.byte_at-sign.ensures ∙ h)) (λ h. inr (sym c.byte_at-sign.ensures ∙ h.1)) c.if-sign-eq45.either in
    subst (IsExponentLength bytes) (sym c.with_digits.ensures.value) (exponent_found_signed bytes is_e is_sign)

pub returns-else-sign-eq45 : goal.returns-else-sign-eq45
returns-else-sign-eq45 c =
    let bytes = c.args.bytes.now in
    let is_e : (get_or bytes 0 0 ≡ 101) ⊎ (get_or bytes 0 0 ≡ 69) = ⊎_elim (λ h. inr (sym c.byte_at-first.ensures ∙ h.1)) (λ h. inl (sym c.byte_at-first.ensures ∙ h)) c.else-first-ne101.either in
    subst (IsExponentLength bytes) (sym c.with_digits-else-sign-eq45.ensures.value) (exponent_found_unsigned bytes is_e (λ e. c.if-sign-eq45.false.0 (c.byte_at-sign.ensures ∙ e)) (λ e. c.if-sign-eq45.false.1 (c.byte_at-sign.ensures ∙ e)))
