-- Facts on what is in an option, where something is.
use Rattle.std.proofs.Common.{Option, Some, None, option_map, option_and_then}

-- where there is a value, it is so
pub OnValue : {A : Type 0} → (A → Type 0) → Option A → Type 0
OnValue P None = Unit {0}
OnValue P (Some a) = P a

pub on_none : {A : Type 0} (P : A → Type 0) → OnValue P None
unfolding OnValue
on_none P = tt

pub on_some : {A : Type 0} (P : A → Type 0) (a : A) → P a → OnValue P (Some a)
unfolding OnValue
on_some P a h = h

pub of_some : {A : Type 0} (P : A → Type 0) (a : A) → OnValue P (Some a) → P a
unfolding OnValue
of_some P a h = h

pub on_map : {A B : Type 0} (P : A → Type 0) (Q : B → Type 0) (f : A → B) → ((a : A) → P a → Q (f a)) → (o : Option A) → OnValue P o → OnValue Q (option_map f o)
unfolding OnValue
on_map P Q f step None h = tt
on_map P Q f step (Some a) h = step a h

pub on_then : {A B : Type 0} (P : A → Type 0) (Q : B → Type 0) (f : A → Option B) → ((a : A) → P a → OnValue Q (f a)) → (o : Option A) → OnValue P o → OnValue Q (option_and_then f o)
unfolding OnValue
on_then P Q f step None h = tt
on_then P Q f step (Some a) h = step a h

pub on_any : {A : Type 0} (o : Option A) → OnValue (λ a. Unit {0}) o
unfolding OnValue
on_any None = tt
on_any (Some a) = tt
