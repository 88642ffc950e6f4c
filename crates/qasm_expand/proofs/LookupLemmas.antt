-- Look-ups in two lists side by side.
use Rattle.std.proofs.Common.{◌≡◌, ℕ, zero, suc, ◌<◌, Bool, true, false, cond, List, [], ◌∷◌, length, get_or, drop, Some, refl, ap, sym, ◌∙◌, arith}
use Rattle.std.specs.Prelude.{slice_get}
use Rattle.std.specs.List.{zip}
use Rattle.std.specs.Map.{lookup}

zip-nil : {K X : Type 0} (ks : List K) → zip {X = X} ks [] ≡ []
zip-nil [] = refl
zip-nil (k ∷ ks) = refl

-- a name that fails the test is passed over
pub lookup-passed : {K X : Type 0} (test : K → Bool) (ks : List K) (vs : List X) (i : ℕ) (k : K) → i < length ks → k ≡ get_or ks i k → test k ≡ false → lookup test (zip (drop i ks) (drop i vs)) ≡ lookup test (zip (drop (suc i) ks) (drop (suc i) vs))
lookup-passed test [] vs i k within is fails = absurd (omega arith)
lookup-passed {X = X} test (x ∷ ks) [] zero k within is fails = ap (lookup test) (sym (zip-nil {X = X} ks))
lookup-passed test (x ∷ ks) (v ∷ vs) zero k within is fails =
    ap (λ b. cond b (Some v) (lookup test (zip ks vs))) (ap test (sym is) ∙ fails)
lookup-passed {X = X} test (x ∷ ks) [] (suc i) k within is fails =
    ap (lookup test) (zip-nil {X = X} (drop i ks) ∙ sym (zip-nil {X = X} (drop (suc i) ks)))
lookup-passed test (x ∷ ks) (v ∷ vs) (suc i) k within is fails =
    lookup-passed test ks vs i k (omega arith) is fails

-- one that passes it is found
pub lookup-found : {K X : Type 0} (test : K → Bool) (ks : List K) (vs : List X) (i : ℕ) (k : K) → i < length ks → k ≡ get_or ks i k → test k ≡ true → lookup test (zip (drop i ks) (drop i vs)) ≡ slice_get vs i
lookup-found test [] vs i k within is passes = absurd (omega arith)
lookup-found test (x ∷ ks) [] zero k within is passes = refl
lookup-found test (x ∷ ks) (v ∷ vs) zero k within is passes =
    ap (λ b. cond b (Some v) (lookup test (zip ks vs))) (ap test (sym is) ∙ passes)
lookup-found {X = X} test (x ∷ ks) [] (suc i) k within is passes = ap (lookup test) (zip-nil {X = X} (drop i ks))
lookup-found test (x ∷ ks) (v ∷ vs) (suc i) k within is passes =
    lookup-found test ks vs i k (omega arith) is passes
