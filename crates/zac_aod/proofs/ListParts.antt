-- What lists that are put together contain.
use Rattle.std.proofs.Common.{◌≡◌, ◌⊎◌, inl, inr, Option, None, Some, List, [], ◌∷◌, ◌++◌, sym, ap, ◌∙◌, subst}
use Rattle.std.specs.List.{Contains, cons_option, filter_map, flat_map}
use Rattle.zair_state.proofs.Membership.{contains_none, contains_here, contains_later, contains_cases}

pub contained_in_append : {X : Type 0} (xs ys : List X) (x : X) → Contains (xs ++ ys) x → Contains xs x ⊎ Contains ys x
contained_in_append [] ys x c = inr c
contained_in_append {X} (z ∷ zs) ys x c = elim (contains_cases z x (zs ++ ys) c) [
  | inl e ↦ inl (subst (λ (y : X). Contains (z ∷ zs) y) e (contains_here z zs))
  | inr later ↦ elim (contained_in_append zs ys x later) [ inl left ↦ inl (contains_later z x zs left) | inr right ↦ inr right ]
]

pub contains_left : {X : Type 0} (xs ys : List X) (x : X) → Contains xs x → Contains (xs ++ ys) x
contains_left [] ys x c = absurd (contains_none x c)
contains_left {X} (z ∷ zs) ys x c = elim (contains_cases z x zs c) [
  | inl e ↦ subst (λ (y : X). Contains (z ∷ zs ++ ys) y) e (contains_here z (zs ++ ys))
  | inr later ↦ contains_later z x (zs ++ ys) (contains_left zs ys x later)
]

pub contains_right : {X : Type 0} (xs ys : List X) (x : X) → Contains ys x → Contains (xs ++ ys) x
contains_right [] ys x c = c
contains_right (z ∷ zs) ys x c = contains_later z x (zs ++ ys) (contains_right zs ys x c)

pub contained_in_flat_map : {X Y : Type 0} (f : X → List Y) (xs : List X) (y : Y) → Contains (flat_map f xs) y → (x : X) × Contains xs x × Contains (f x) y
contained_in_flat_map f [] y c = absurd (contains_none y c)
contained_in_flat_map f (x ∷ xs) y c = elim (contained_in_append (f x) (flat_map f xs) y c) [
  | inl here ↦ (x, contains_here x xs, here)
  | inr later ↦ let r = contained_in_flat_map f xs y later in (r.0, contains_later x r.0 xs r.1, r.2)
]

pub contains_flat_map : {X Y : Type 0} (f : X → List Y) (xs : List X) (x : X) (y : Y) → Contains xs x → Contains (f x) y → Contains (flat_map f xs) y
contains_flat_map f [] x y c d = absurd (contains_none x c)
contains_flat_map {X} f (z ∷ zs) x y c d = elim (contains_cases z x zs c) [
  | inl e ↦ contains_left (f z) (flat_map f zs) y (subst (λ (w : X). Contains (f w) y) (sym e) d)
  | inr later ↦ contains_right (f z) (flat_map f zs) y (contains_flat_map f zs x y later d)
]

in_cons_option : {Y : Type 0} (o : Option Y) (ys : List Y) (y : Y) → Contains (cons_option o ys) y → (o ≡ Some y) ⊎ Contains ys y
in_cons_option None ys y c = inr c
in_cons_option (Some z) ys y c = elim (contains_cases z y ys c) [ inl e ↦ inl (ap Some e) | inr later ↦ inr later ]

pub contained_in_filter_map : {X Y : Type 0} (h : X → Option Y) (xs : List X) (y : Y) → Contains (filter_map h xs) y → (x : X) × Contains xs x × (h x ≡ Some y)
contained_in_filter_map h [] y c = absurd (contains_none y c)
contained_in_filter_map h (x ∷ xs) y c = elim (in_cons_option (h x) (filter_map h xs) y c) [
  | inl e ↦ (x, contains_here x xs, e)
  | inr later ↦ let r = contained_in_filter_map h xs y later in (r.0, contains_later x r.0 xs r.1, r.2)
]

past_option : {Y : Type 0} (o : Option Y) (ys : List Y) (y : Y) → Contains ys y → Contains (cons_option o ys) y
past_option None ys y c = c
past_option (Some z) ys y c = contains_later z y ys c

at_option : {Y : Type 0} (o : Option Y) (ys : List Y) (y : Y) → o ≡ Some y → Contains (cons_option o ys) y
at_option {Y} o ys y e = subst (λ (p : Option Y). Contains (cons_option p ys) y) (sym e) (contains_here y ys)

pub contains_filter_map : {X Y : Type 0} (h : X → Option Y) (xs : List X) (x : X) (y : Y) → Contains xs x → h x ≡ Some y → Contains (filter_map h xs) y
contains_filter_map h [] x y c e = absurd (contains_none x c)
contains_filter_map h (z ∷ zs) x y c e = elim (contains_cases z x zs c) [
  | inl same ↦ at_option (h z) (filter_map h zs) y (ap h same ∙ e)
  | inr later ↦ past_option (h z) (filter_map h zs) y (contains_filter_map h zs x y later e)
]
