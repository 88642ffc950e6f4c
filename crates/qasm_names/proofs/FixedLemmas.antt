-- Lemmas on the fixed names, and on tests of options.
use Rattle.std.proofs.Common.{◌≡◌, ◌≢◌, ℕ, true, false, List, Option, Some, None, is_some, refl, sym, subst}
use Rattle.std.proofs.lemmas.Bool.{false≢true}
use Rattle.std.proofs.lemmas.List.Folds.{Any-from_list_any, list_any-from_Any}
use Rattle.std.specs.Cmp.Lexicographic.{bytes_decides}
use Rattle.std.specs.List.{Any, Contains, list_any, slice_index_or}
use Rattle.std.specs.Str.{bytes_eq}
use Rattle.qasm_names.specs.Fixed.{is_fixed}
use Rattle.qasm_names.specs.Header.{fixed_names}

pub some_is_not_none : {X : Type 0} (o : Option X) → is_some o ≡ true → o ≢ None
some_is_not_none None h e = false≢true h
some_is_not_none (Some x) h e = none e
  where
    none : Some x ≡ None → ⊥
    none f = cc

pub is_some_from : {X : Type 0} (o : Option X) → o ≢ None → is_some o ≡ true
is_some_from None h = absurd (h refl)
is_some_from (Some x) h = refl

pub none_from : {X : Type 0} (o : Option X) → is_some o ≡ false → o ≡ None
none_from None h = refl
none_from (Some x) h = absurd (false≢true (sym h))

pub Contains-from_is_fixed : (name : List ℕ) → is_fixed name ≡ true → Contains fixed_names name
Contains-from_is_fixed name h =
    let a = Any-from_list_any (bytes_eq name) fixed_names h in
    let same : name ≡ a.1 = (bytes_decides name a.1).0 a.4 in
    let P : List ℕ → Type 0 = λ x. slice_index_or fixed_names a.0 x ≡ x in
    (a.0, a.2, subst P (sym same) a.3)

pub is_fixed-from_Contains : (name : List ℕ) → Contains fixed_names name → is_fixed name ≡ true
is_fixed-from_Contains name h = list_any-from_Any (bytes_eq name) fixed_names (h.0, name, h.1, h.2, (bytes_decides name name).1 refl)

-- a test of options, as a fact on each
pub Any-from_tests : {X Y : Type 0} (f : X → Option Y) (xs : List X) → list_any (λ x. is_some (f x)) xs ≡ true → Any (λ x. f x ≢ None) xs
Any-from_tests {X} f xs h =
    let a = Any-from_list_any (λ x. is_some (f x)) xs h in
    (a.0, a.1, a.2, a.3, some_is_not_none (f a.1) a.4)

pub tests-from_Any : {X Y : Type 0} (f : X → Option Y) (xs : List X) → Any (λ x. f x ≢ None) xs → list_any (λ x. is_some (f x)) xs ≡ true
tests-from_Any f xs a = list_any-from_Any (λ x. is_some (f x)) xs (a.0, a.1, a.2, a.3, is_some_from (f a.1) a.4)
