use Rattle.std.proofs.Common.{◌≡◌, ◌<◌, ◌⊎◌, ◌≢◌, true, get_or, inl, inr, ⊎_elim}
use Rattle.qasm_lex.specs.Numbers.{IsExponentLength}
use Rattle.qasm_lex.proofs.Found.{of_rest, point_missing, real_found, zeros_missing, whole_found}
use Rattle.qasm_lex.proofs.number.number.Goals as goal
use Rattle.qasm_lex.proofs.number.number.Goals.{else-front-ne1-via-then-front-ne1+else-bytes-eq48, else-front-ne1-via-else-front-ne1}

pub returns-then-front-eq0 : goal.returns-then-front-eq0
returns-then-front-eq0 c =
    point_missing _ _ _ c.mantissa-front.ensures c.requires.some c.requires.class c.if-front-eq0.true

pub returns-then-pointed : goal.returns-then-pointed
returns-then-pointed c =
    let longer : (c.mantissa-front.result.1 ≡ true) ⊎ (0 < c.exponent-behind.result) = ⊎_elim (λ h. inl h) (λ h. inr h.1) c.then-pointed.either in
    real_found _ _ _ _ c.mantissa-front.ensures (of_rest (λ t. IsExponentLength t c.exponent-behind.result) c.args.bytes.now c.mantissa-front.result.0 c.exponent-behind.ensures) c.requires.some c.requires.class c.if-front-eq0.false longer

pub returns-then-bytes-eq48 : goal.returns-then-bytes-eq48
returns-then-bytes-eq48 c =
    zeros_missing _ _ _ _ c.mantissa-front.ensures (of_rest (λ t. IsExponentLength t c.exponent-behind.result) c.args.bytes.now c.mantissa-front.result.0 c.exponent-behind.ensures) c.requires.some c.requires.class c.if-pointed.false c.if-behind-gt0.false c.if-front-ne1.true c.if-bytes-eq48.true

pub returns : goal.returns
returns c =
    let form : (c.mantissa-front.result.0 ≡ 1) ⊎ (get_or c.args.bytes.now 0 0 ≢ 48) = elim c.else-front-ne1.branch [ else-front-ne1-via-then-front-ne1+else-bytes-eq48 w ↦ inr w.if-bytes-eq48.false | else-front-ne1-via-else-front-ne1 w ↦ inl w.if-front-ne1.false ] in
    whole_found _ _ _ _ c.mantissa-front.ensures (of_rest (λ t. IsExponentLength t c.exponent-behind.result) c.args.bytes.now c.mantissa-front.result.0 c.exponent-behind.ensures) c.requires.some c.requires.class c.if-front-eq0.false c.if-pointed.false c.if-behind-gt0.false form
