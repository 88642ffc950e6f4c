-- The lines of a source that is made, pair by pair.
use Rattle.std.proofs.Common.{◌≡◌, ℕ, suc, ◌+◌, ◌-◌, ◌<◌, List, ◌++◌, sym, ap, ◌∙◌, append_assoc, arith}
use Rattle.zac_flow.specs.Generator.{next_state, first_of, second_of, pair_lines, made_lines}

-- the lines of the next pair, and of those behind it
next_pair : (n k i x : ℕ) → i < k → made_lines n (k - i) x
    ≡ pair_lines (first_of n (next_state x)) (second_of n (first_of n (next_state x)) (next_state (next_state x)))
    ++ made_lines n (k - (i + 1)) (next_state (next_state x))
next_pair n k i x less = let e : k - i ≡ suc (k - (i + 1)) = omega arith in ap (λ (m : ℕ). made_lines n m x) e

pub one_more : (n k i x a b y : ℕ) (text more whole : List ℕ) → i < k → text ++ made_lines n (k - i) x ≡ whole →
    a ≡ first_of n (next_state x) → b ≡ second_of n (first_of n (next_state x)) (next_state (next_state x)) → y ≡ next_state (next_state x) →
    more ≡ text ++ pair_lines a b → more ++ made_lines n (k - (i + 1)) y ≡ whole
one_more n k i x a b y text more whole less is first second state grown =
    let lines : List ℕ = pair_lines (first_of n (next_state x)) (second_of n (first_of n (next_state x)) (next_state (next_state x))) in
    let rest : List ℕ = made_lines n (k - (i + 1)) (next_state (next_state x)) in
    let pair : pair_lines a b ≡ lines = λ j. pair_lines (first j) (second j) in
    let left : more ++ made_lines n (k - (i + 1)) y ≡ (text ++ lines) ++ rest =
    (λ j. (grown j) ++ made_lines n (k - (i + 1)) (state j)) ∙ ap (λ (l : List ℕ). (text ++ l) ++ rest) pair in
    left ∙ append_assoc text lines rest ∙ ap (λ (l : List ℕ). text ++ l) (sym (next_pair n k i x less)) ∙ is
