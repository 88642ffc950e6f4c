-- The arguments of a statement that isn't refused are places of registers, in each application of the call.
use Rattle.std.proofs.Common.{◌≡◌, ◌≢◌, ℕ, suc, ◌<◌, ◌≤◌, List, [], ◌∷◌, ◌++◌, map, Option, Some, None, refl, ap, sym, ◌∙◌, subst, inl, inr, arith}
use Rattle.std.specs.List.{AllByRecursion, Any, slice_get}
use Rattle.std.proofs.lemmas.Bool.{cases_eq}
use Rattle.qasm_form.specs.declared.stmt.Arg.{Arg}
use Rattle.qasm_form.specs.declared.stmt.Stmt.{Stmt}
use Rattle.qasm_names.specs.Names.{Environment, qubit_size, value_or}
use Rattle.qasm_names.specs.Environment.{environment}
use Rattle.qasm_names.specs.Applications.{times_by, applications, applied}
use Rattle.qasm_names.specs.Refusals.{SomeTwo, DifferInSize, IsPast}
use Rattle.qasm_expand.specs.declared.kind.RegisterKind.{RegisterKind}
use Rattle.qasm_expand.specs.declared.kind.RegisterKind.TheVariants as register
use Rattle.qasm_expand.specs.RegisterKinds.{place_number, IsPlaceIn}
use Rattle.qasm_expand.proofs.EnvironmentLemmas.{IsBare, size_in, size_declared}
use Rattle.qasm_expand.proofs.NumberingLemmas.{number-one}
use Rattle.qasm_expand.proofs.SoundItems.{AreDistinct, all_mapped}

-- the argument is declared, and its index is in range
pub record IsAdmissibleArg (kind : RegisterKind) (e : Environment) (arg : Arg) : Type 0 where
  pub size : ℕ
  pub is : size_in kind e arg.word ≡ Some size
  pub within : (i : ℕ) → arg.index ≡ Some i → i < size

-- an argument isn't declared, or its index isn't in range
abbrev pub IsAbsent : RegisterKind → Environment → ℕ → Arg → Type 0
IsAbsent kind e at arg = (size_in kind e arg.word ≡ None) × (at ≡ arg.at)

abbrev pub IsOutside : RegisterKind → Environment → ℕ → Arg → Type 0
IsOutside kind e at arg = IsPast (size_in kind e arg.word) arg.index × (at ≡ arg.at)

pub any_head : {X : Type 0} (P : X → Type 0) (x : X) (xs : List X) → P x → Any P (x ∷ xs)
any_head P x xs h = (0, x, omega arith, refl, h)

pub any_tail : {X : Type 0} (P : X → Type 0) (x : X) (xs : List X) → Any P xs → Any P (x ∷ xs)
any_tail P x xs (k, y, less, is, h) = (suc k, y, omega (arith, less), is, h)

fine_arg : (kind : RegisterKind) (e : Environment) (arg : Arg) (o : Option ℕ) → size_in kind e arg.word ≡ o → (IsAbsent kind e arg.at arg → ⊥) → (IsOutside kind e arg.at arg → ⊥) → IsAdmissibleArg kind e arg
fine_arg kind e arg None is absent outside = absurd (absent (is, refl))
fine_arg kind e arg (Some size) is absent outside =
    let not : (i : ℕ) → arg.index ≡ Some i → size ≤ i → ⊥ = λ i at past. outside (subst (λ o. IsPast o arg.index) (sym is) (subst (λ o. IsPast (Some size) o) (sym at) past), refl) in
    record { size = size; is = is; within = λ i at. let h = not i at in omega (arith, h) }

pub fine_args : (kind : RegisterKind) (e : Environment) (args : List Arg) → ((at : ℕ) → Any (IsAbsent kind e at) args → ⊥) → ((at : ℕ) → Any (IsOutside kind e at) args → ⊥) → AllByRecursion (IsAdmissibleArg kind e) args
fine_args kind e [] absent outside = tt
fine_args kind e (arg ∷ args) absent outside =
    (fine_arg kind e arg (size_in kind e arg.word) refl (λ h. absent arg.at (any_head (IsAbsent kind e arg.at) arg args h)) (λ h. outside arg.at (any_head (IsOutside kind e arg.at) arg args h)), fine_args kind e args (λ at h. absent at (any_tail (IsAbsent kind e at) arg args h)) (λ at h. outside at (any_tail (IsOutside kind e at) arg args h)))

-- it is a place of a register
chosen_within : (index : Option ℕ) (k size : ℕ) → ((i : ℕ) → index ≡ Some i → i < size) → (index ≡ None → k < size) → value_or index k < size
chosen_within None k size some none = none refl
chosen_within (Some i) k size some none = some i refl

pub place_of : (kind : RegisterKind) (header pre suf : List Stmt) (arg : Arg) (k : ℕ) → IsBare header → (admissible : IsAdmissibleArg kind (environment header pre) arg) → (arg.index ≡ None → k < admissible.size) → IsPlaceIn kind (pre ++ suf) (applied arg k)
place_of kind header pre suf arg k bare admissible less = record {
  size = admissible.size;
  declared = size_declared kind header pre suf arg.word admissible.size bare admissible.is;
  within = chosen_within arg.index k admissible.size admissible.within less;
}

-- no two
pub all_get : {X : Type 0} (P : X → Type 0) (xs : List X) → ((j : ℕ) (y : X) → slice_get xs j ≡ Some y → P y) → AllByRecursion P xs
all_get P [] h = tt
all_get P (x ∷ xs) h = (h 0 x refl, all_get P xs (λ j y at. h (suc j) y at))

pub first_pairs : {X : Type 0} (R : X → X → Type 0) (x : X) (xs : List X) → (SomeTwo R (x ∷ xs) → ⊥) → AllByRecursion (λ y. R x y → ⊥) xs
first_pairs R x xs not = all_get (λ y. R x y → ⊥) xs (λ j y at r. not (0, suc j, x, y, omega arith, refl, at, r))

pub rest_pairs : {X : Type 0} (R : X → X → Type 0) (x : X) (xs : List X) → (SomeTwo R (x ∷ xs) → ⊥) → SomeTwo R xs → ⊥
rest_pairs R x xs not (i, j, a, b, less, at_i, at_j, r) = not (suc i, suc j, a, b, omega (arith, less), at_i, at_j, r)

pub all_both : {X : Type 0} (P Q R : X → Type 0) (f : (x : X) → P x → Q x → R x) (xs : List X) → AllByRecursion P xs → AllByRecursion Q xs → AllByRecursion R xs
all_both P Q R f [] h k = tt
all_both P Q R f (x ∷ xs) h k = (f x h.0 k.0, all_both P Q R f xs h.1 k.1)

pub same_number : (x y : ℕ) → ((x ≡ y → ⊥) → ⊥) → x ≡ y
same_number x y h = elim (cases_eq x y) [ inl e ↦ e | inr n ↦ absurd (h n) ]

pub same_size : (o p : Option ℕ) → ((o ≢ p) → ⊥) → o ≡ p
same_size None None h = refl
same_size None (Some y) h = absurd (h (λ e. cc))
same_size (Some x) None h = absurd (h (λ e. cc))
same_size (Some x) (Some y) h = ap (λ n. Some n) (same_number x y (λ not. h (λ e. not (cc))))

-- a call is applied as often as each of its whole registers is large
abbrev pub AppliesBy : Environment → ℕ → Arg → Type 0
AppliesBy e times arg = arg.index ≡ None → times ≡ value_or (qubit_size e arg.word) 0

agree_first : (e : Environment) (a : Arg) (args : List Arg) (o : Option ℕ) → a.index ≡ o → (SomeTwo (DifferInSize e) (a ∷ args) → ⊥) → AllByRecursion (AppliesBy e (applications e args)) args → AllByRecursion (AppliesBy e (applications e (a ∷ args))) (a ∷ args)
agree_first e a args None is not rest =
    let times : applications e (a ∷ args) ≡ value_or (qubit_size e a.word) 0 = ap (λ o. times_by e a o (applications e args)) is in
    (λ none. times, all_mapped (λ b. DifferInSize e a b → ⊥) (AppliesBy e (applications e (a ∷ args))) (λ b same none. times ∙ ap (λ o. value_or o 0) (same_size (qubit_size e a.word) (qubit_size e b.word) (λ ne. same (is, none, ne)))) args (first_pairs (DifferInSize e) a args not))
agree_first e a args (Some i) is not rest =
    let times : applications e (a ∷ args) ≡ applications e args = ap (λ o. times_by e a o (applications e args)) is in
    (λ none. absurd (cc (is, none)), all_mapped (AppliesBy e (applications e args)) (AppliesBy e (applications e (a ∷ args))) (λ b h none. times ∙ h none) args rest)

pub sizes_agree : (e : Environment) (args : List Arg) → (SomeTwo (DifferInSize e) args → ⊥) → AllByRecursion (AppliesBy e (applications e args)) args
sizes_agree e [] not = tt
sizes_agree e (a ∷ args) not = agree_first e a args a.index refl not (sizes_agree e args (rest_pairs (DifferInSize e) a args not))

-- the places of a call's arguments in one application
pub places_of : (header pre suf : List Stmt) (args : List Arg) (k : ℕ) → IsBare header → AllByRecursion (IsAdmissibleArg register.Qubit (environment header pre)) args → (SomeTwo (DifferInSize (environment header pre)) args → ⊥) → k < applications (environment header pre) args → AllByRecursion (λ (arg : Arg). IsPlaceIn register.Qubit (pre ++ suf) (applied arg k)) args
places_of header pre suf args k bare admissible not less =
    let e = environment header pre in
    let times = applications e args in
    all_both (IsAdmissibleArg register.Qubit e) (AppliesBy e times) (λ (arg : Arg). IsPlaceIn register.Qubit (pre ++ suf) (applied arg k)) (λ arg f by. place_of register.Qubit header pre suf arg k bare f (λ none. subst (λ n. k < n) (by none ∙ ap (λ o. value_or o 0) f.is) less)) args admissible (sizes_agree e args not)

-- and their numbers are distinct
others_apart : (all : List Stmt) (a : Arg) (args : List Arg) (k : ℕ) → IsPlaceIn register.Qubit all (applied a k) → AllByRecursion (λ (arg : Arg). IsPlaceIn register.Qubit all (applied arg k)) args → AllByRecursion (λ b. applied a k ≡ applied b k → ⊥) args → AllByRecursion (λ y. place_number register.Qubit all (applied a k) ≢ y) (map (λ (arg : Arg). place_number register.Qubit all (applied arg k)) args)
others_apart all a [] k at places not = tt
others_apart all a (b ∷ args) k at places not =
    (λ e. not.0 (number-one register.Qubit all (applied a k) (applied b k) at places.0 e), others_apart all a args k at places.1 not.1)

pub numbers_apart : (all : List Stmt) (args : List Arg) (k : ℕ) → AllByRecursion (λ (arg : Arg). IsPlaceIn register.Qubit all (applied arg k)) args → (SomeTwo (λ a b. applied a k ≡ applied b k) args → ⊥) → AreDistinct (map (λ (arg : Arg). place_number register.Qubit all (applied arg k)) args)
numbers_apart all [] k places not = tt
numbers_apart all (a ∷ args) k places not =
    (others_apart all a args k places.0 places.1 (first_pairs (λ a b. applied a k ≡ applied b k) a args not), numbers_apart all args k places.1 (rest_pairs (λ a b. applied a k ≡ applied b k) a args not))
