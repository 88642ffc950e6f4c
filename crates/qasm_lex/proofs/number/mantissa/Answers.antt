use Rattle.std.proofs.Common.{ℕ, List, length, take, ◌-◌, ◌≡◌, ◌+◌, ◌<◌, drop, sym, ◌∙◌, arith}
use Rattle.std.specs.List.{prefix_len}
use Rattle.std.specs.Char.{is_ascii_digit}
use Rattle.qasm_lex.proofs.Found.{of_rest, mantissa_found, mantissa_alone, mantissa_without}
use Rattle.qasm_lex.proofs.number.mantissa.Goals as goal
use Rattle.qasm_lex.proofs.number.mantissa.Goals.{else-before-eq0-via-then-before-eq0+else-behind-eq0, else-before-eq0-via-else-before-eq0}

behind_is : (bytes : List ℕ) (n k : ℕ) → k ≡ prefix_len is_ascii_digit (take (length bytes - (n + 1)) (drop (n + 1) bytes)) → k ≡ prefix_len is_ascii_digit (drop (n + 1) bytes)
behind_is bytes n k is = of_rest (λ t. k ≡ prefix_len is_ascii_digit t) bytes (n + 1) is

pub returns-then-byte_at-ne46 : goal.returns-then-byte_at-ne46
returns-then-byte_at-ne46 c =
    mantissa_without _ _ c.run_length-before.ensures.run (λ e. c.if-byte_at-ne46.true (c.byte_at.ensures ∙ e))

pub returns-then-behind-eq0 : goal.returns-then-behind-eq0
returns-then-behind-eq0 c =
    mantissa_alone _ _ _ c.run_length-before.ensures.run (behind_is c.args.bytes.now c.run_length-before.result _ c.run_length-behind.ensures.run) c.if-before-eq0.true c.if-behind-eq0.true

pub returns : goal.returns
returns c =
    let some : 0 < c.run_length-before.result + c.run_length-behind.result = elim c.else-before-eq0.branch [ else-before-eq0-via-then-before-eq0+else-behind-eq0 w ↦ omega (arith, w.if-behind-eq0.false) | else-before-eq0-via-else-before-eq0 w ↦ omega (arith, w.if-before-eq0.false) ] in
    mantissa_found _ _ _ c.run_length-before.ensures.run (behind_is c.args.bytes.now c.run_length-before.result _ c.run_length-behind.ensures.run) (sym c.byte_at.ensures ∙ c.if-byte_at-ne46.false) some
