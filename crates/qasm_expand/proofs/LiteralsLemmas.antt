-- The first number that is too long, in a list of parts.
use Rattle.std.proofs.Common.{◌≡◌, ℕ, ◌+◌, ◌<◌, true, false, List, [], ◌∷◌, ◌++◌, length, drop, get_or, Option, Some, None, is_some, refl, ap, sym, ◌∙◌}
use Rattle.std.specs.List.{flat_map}
use Rattle.std.specs.Option.{option_or}
use Rattle.std.proofs.lemmas.List.{at_drop_more}
use Rattle.qasm_expand.specs.Limits.{Passed, beyond, passed_by_literals}
use Rattle.qasm_expand.specs.declared.fault.LimitKind.TheVariants as limit

pub option_or_assoc : {X : Type 0} (a b c : Option X) → option_or (option_or a b) c ≡ option_or a (option_or b c)
option_or_assoc None b c = refl
option_or_assoc (Some x) b c = refl

pub option_or_some : {X : Type 0} (a b : Option X) → is_some a ≡ true → option_or a b ≡ a
option_or_some None b h = cc
option_or_some (Some x) b h = refl

pub option_or_none : {X : Type 0} (a b : Option X) → is_some a ≡ false → option_or a b ≡ b
option_or_none None b h = refl
option_or_none (Some x) b h = cc

-- the first of two lists, or else that of the second
pub passed_by_literals-append : (a b : List (List ℕ)) → passed_by_literals (a ++ b) ≡ option_or (passed_by_literals a) (passed_by_literals b)
passed_by_literals-append [] b = refl
passed_by_literals-append (text ∷ a) b =
    let passed = beyond limit.Literal 40 (length text) in
    ap (λ r. option_or passed r) (passed_by_literals-append a b) ∙ sym (option_or_assoc passed (passed_by_literals a) (passed_by_literals b))

-- of the parts from place i on, that at i goes first
pub passed_step : {X : Type 0} (f : X → List (List ℕ)) (xs : List X) (i : ℕ) (x : X) → i < length xs → x ≡ get_or xs i x → passed_by_literals (flat_map f (drop i xs)) ≡ option_or (passed_by_literals (f x)) (passed_by_literals (flat_map f (drop (i + 1) xs)))
passed_step f xs i x h is =
    let rest = drop (i + 1) xs in
    at_drop_more (λ ys. passed_by_literals (flat_map f ys)) xs i x h ∙ ap (λ y. passed_by_literals (f y ++ flat_map f rest)) (sym is) ∙ passed_by_literals-append (f x) (flat_map f rest)

-- a part that has one, where those before it have none
pub passed_found : {X : Type 0} (f : X → List (List ℕ)) (xs : List X) (i : ℕ) (x : X) (passed : Option Passed) → i < length xs → x ≡ get_or xs i x → passed ≡ passed_by_literals (f x) → is_some passed ≡ true → passed_by_literals (flat_map f (drop i xs)) ≡ passed_by_literals (flat_map f xs) → passed ≡ passed_by_literals (flat_map f xs)
passed_found f xs i x passed h is found some before =
    let rest = passed_by_literals (flat_map f (drop (i + 1) xs)) in
    sym (option_or_some passed rest some) ∙ ap (λ p. option_or p rest) found ∙ sym (passed_step f xs i x h is) ∙ before

-- a part that has none
pub passed_more : {X : Type 0} (f : X → List (List ℕ)) (xs : List X) (i : ℕ) (x : X) (passed : Option Passed) → i < length xs → x ≡ get_or xs i x → passed ≡ passed_by_literals (f x) → is_some passed ≡ false → passed_by_literals (flat_map f (drop i xs)) ≡ passed_by_literals (flat_map f xs) → passed_by_literals (flat_map f (drop (i + 1) xs)) ≡ passed_by_literals (flat_map f xs)
passed_more f xs i x passed h is found none before =
    let rest = passed_by_literals (flat_map f (drop (i + 1) xs)) in
    sym (option_or_none passed rest none) ∙ ap (λ p. option_or p rest) found ∙ sym (passed_step f xs i x h is) ∙ before
