-- The first place at which a test passes.
use Rattle.std.proofs.Common.{◌≡◌, ℕ, zero, suc, ◌+◌, ◌<◌, Bool, true, false, cond, not, List, [], ◌∷◌, length, get_or, refl, ap, ◌∙◌, arith}
use Rattle.std.specs.List.{position_or_len}

pub position_or_len-first : {X : Type 0} (p : X → Bool) (xs : List X) (i : ℕ) → i < length xs → ((k : ℕ) (d : X) → k < i → p (get_or xs k d) ≡ false) → ((d : X) → p (get_or xs i d) ≡ true) → position_or_len p xs ≡ i
position_or_len-first p [] i within before here = absurd (omega arith)
position_or_len-first p (x ∷ xs) zero within before here = ap (λ b. cond (not b) (1 + position_or_len p xs) 0) (here x)
position_or_len-first p (x ∷ xs) (suc i) within before here =
    let rest : position_or_len p xs ≡ i = position_or_len-first p xs i (omega arith) (λ k d h. before (suc k) d (omega arith)) here in
    ap (λ b. cond (not b) (1 + position_or_len p xs) 0) (before 0 x (omega arith)) ∙ omega (arith, rest)

pub position_or_len-none : {X : Type 0} (p : X → Bool) (xs : List X) → ((k : ℕ) (d : X) → k < length xs → p (get_or xs k d) ≡ false) → position_or_len p xs ≡ length xs
position_or_len-none p [] none = refl
position_or_len-none p (x ∷ xs) none =
    let rest : position_or_len p xs ≡ length xs = position_or_len-none p xs (λ k d h. none (suc k) d (omega arith)) in
    ap (λ b. cond (not b) (1 + position_or_len p xs) 0) (none 0 x (omega arith)) ∙ omega (arith, rest)
