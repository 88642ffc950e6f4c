-- Tokens fall into statements in one way at most.
use Rattle.std.proofs.Common.{◌≡◌, ℕ, ◌<◌, ◌≤◌, List, [], ◌∷◌, refl, sym as flip, subst, arith}
use Rattle.qasm_form.specs.declared.stmt.Stmt.{Stmt}
use Rattle.qasm_form.specs.Symbols.{Lexeme}
use Rattle.qasm_form.specs.Statements.{FallInto}
use Rattle.qasm_parse.proofs.AnswerLemmas.{statement_once}

-- statements go on
pub falls_on : (tokens : List Lexeme) (from : ℕ) (ss : List Stmt) (to : ℕ) → FallInto tokens from ss to → from ≤ to
falls_on tokens from [] to h = omega (arith, h)
falls_on tokens from (s ∷ ss) to h = omega (arith, h.1.goes_on, falls_on tokens h.0 ss to h.2)

pub falls_once : (tokens : List Lexeme) (from : ℕ) (ss ts : List Stmt) (to : ℕ) → FallInto tokens from ss to → FallInto tokens from ts to → ss ≡ ts
falls_once tokens from [] [] to left right = refl
falls_once tokens from [] (t ∷ ts) to left right = absurd (omega (arith, left, right.1.goes_on, falls_on tokens right.0 ts to right.2))
falls_once tokens from (s ∷ ss) [] to left right = absurd (omega (arith, right, left.1.goes_on, falls_on tokens left.0 ss to left.2))
falls_once tokens from (s ∷ ss) (t ∷ ts) to left right =
    let same = statement_once tokens from s t left.0 right.0 left.1 right.1 in
    let others = falls_once tokens left.0 ss ts to left.2 (subst (λ n. FallInto tokens n ts to) (flip same.1) right.2) in
    λ i. same.0 i ∷ others i
