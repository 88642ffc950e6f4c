-- Tokens in order.
use Rattle.std.proofs.Common.{ℕ, ◌+◌, ◌<◌, ◌≤◌, List, [], ◌∷◌, length, arith}
use Rattle.qasm_lex.specs.declared.token.Token.{Token}
use Rattle.qasm_lex.specs.Lexed.{AreInOrder}

-- they are no more than the bytes from a place on
pub few_tokens : (low : ℕ) (tokens : List Token) (end : ℕ) → AreInOrder low tokens end → low + length tokens ≤ end
few_tokens low [] end order = omega (arith, order)
few_tokens low (t ∷ tokens) end order = omega (arith, order.0, order.1, few_tokens t.to tokens end order.2)
