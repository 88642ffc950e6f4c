-- What the values of an array tell.
use Rattle.std.proofs.Common.{◌≡◌, ◌≢◌, ℕ, zero, suc, ◌+◌, ◌<◌, List, [], ◌∷◌, ◌++◌, map, length, get_or, take, drop, Option, Some, None, Err, option_and_then, refl, sym, ap, ◌∙◌, arith}
use Rattle.std.proofs.lemmas.Option.{none-some, same_Some}
use Rattle.serde_json.specs.Data.{Data}
use Rattle.serde_json.specs.Find.{as_array}
use Rattle.serde_json.specs.View.{view, items_of, items_view}
use Rattle.serde_json.specs.declared.value.Value.{Value}
use Rattle.zair_text.proofs.Growing.{take_one_more}
use Rattle.zair_read.specs.declared.fault.TextFault.{TextFault}
use Rattle.zair_read.specs.declared.fault.TextFault.TheVariants.{Refused, Memory}
use Rattle.zair_read.specs.Told.{◌>>=◌, Tells, two_items, told_two, three_items, told_three, told_items, told_list}

no_two : (vs : List Value) → length vs ≢ 2 → two_items (items_view vs) ≡ None
no_two [] h = refl
no_two (a ∷ []) h = refl
no_two (a ∷ b ∷ []) h = absurd (h refl)
no_two (a ∷ b ∷ c ∷ vs) h = refl

no_three : (vs : List Value) → length vs ≢ 3 → three_items (items_view vs) ≡ None
no_three [] h = refl
no_three (a ∷ []) h = refl
no_three (a ∷ b ∷ []) h = refl
no_three (a ∷ b ∷ c ∷ []) h = absurd (h refl)
no_three (a ∷ b ∷ c ∷ d ∷ vs) h = refl

-- an array of more or fewer values tells no two
pub told_no_two : (d : Data) (vs : List Value) → Some (items_view vs) ≡ as_array d → length vs ≢ 2 → None ≡ told_two d
told_no_two d vs e h = sym (ap (λ o. option_and_then two_items o) (sym e) ∙ no_two vs h)

pub told_no_three : (d : Data) (vs : List Value) → Some (items_view vs) ≡ as_array d → length vs ≢ 3 → None ≡ told_three d
told_no_three d vs e h = sym (ap (λ o. option_and_then three_items o) (sym e) ∙ no_three vs h)

-- ---- a list, value by value

cons_some : {A : Type 0} (o : Option A) (p : Option (List A)) (xs : List A) → (o >>= (λ a. p >>= (λ as'. Some (a ∷ as')))) ≡ Some xs
    → (a : A) × (as' : List A) × (o ≡ Some a) × (p ≡ Some as') × (xs ≡ a ∷ as')
cons_some None p xs e = absurd (none-some xs e)
cons_some (Some a) None xs e = absurd (none-some xs e)
cons_some (Some a) (Some as') xs e = (a, as', refl, refl, sym (same_Some (a ∷ as') xs e))

split_here : {X Y : Type 0} (f : X → Y) (xs : List X) (i : ℕ) (x : X) → i < length xs → x ≡ get_or xs i x → map f (take i xs) ++ f x ∷ map f (drop (i + 1) xs) ≡ map f xs
split_here f [] i x h e = absurd (omega arith)
split_here f (y ∷ ys) zero x h e = ap (λ z. f z ∷ map f ys) e
split_here f (y ∷ ys) (suc i) x h e =
    let more : suc i + 1 ≡ suc (i + 1) = omega arith in
    rw more (ap (λ ls. f y ∷ ls) (split_here f ys i x (omega arith) e))

module _ {A : Type 0} (told : Data → Option A) where
  -- one value more tells one thing more
  one_more : (ds : List Data) (d : Data) (xs : List A) (x : A) → told_items told (items_of ds) ≡ Some xs → told d ≡ Some x → told_items told (items_of (ds ++ d ∷ [])) ≡ Some (xs ++ x ∷ [])
  one_more [] d xs x e here = ap (λ o. o >>= (λ a. Some (a ∷ []))) here ∙ ap (λ l. Some (l ++ x ∷ [])) (same_Some [] xs e)
  one_more (y ∷ ds) d xs x e here =
      let p = cons_some (told y) (told_items told (items_of ds)) xs e in
      let rest = one_more ds d p.1 x p.3 here in
      ap (λ o. o >>= (λ a. told_items told (items_of (ds ++ d ∷ [])) >>= (λ as'. Some (a ∷ as')))) p.2
      ∙ ap (λ o. o >>= (λ as'. Some (p.0 ∷ as'))) rest
      ∙ ap (λ l. Some (l ++ x ∷ [])) (sym p.4)

  -- a value that tells nothing refuses the list
  refused_at : (ds : List Data) (d : Data) (later : List Data) (xs : List A) → told_items told (items_of ds) ≡ Some xs → told d ≡ None → told_items told (items_of (ds ++ d ∷ later)) ≡ None
  refused_at [] d later xs e here = ap (λ o. o >>= (λ a. told_items told (items_of later) >>= (λ as'. Some (a ∷ as')))) here
  refused_at (y ∷ ds) d later xs e here =
      let p = cons_some (told y) (told_items told (items_of ds)) xs e in
      let rest = refused_at ds d later p.1 p.3 here in
      ap (λ o. o >>= (λ a. told_items told (items_of (ds ++ d ∷ later)) >>= (λ as'. Some (a ∷ as')))) p.2
      ∙ ap (λ o. o >>= (λ as'. Some (p.0 ∷ as'))) rest

  -- the values up to place i
  pub told_more : (vs : List Value) (i : ℕ) (v : Value) (xs : List A) (x : A) → i < length vs → v ≡ get_or vs i v → told (view v) ≡ Some x
      → told_items told (items_view (take i vs)) ≡ Some xs → told_items told (items_view (take (i + 1) vs)) ≡ Some (xs ++ x ∷ [])
  told_more vs i v xs x h e here before =
      ap (λ ds. told_items told (items_of ds)) (take_one_more view vs i v h e) ∙ one_more (map view (take i vs)) (view v) xs x before here

  -- the value at place i tells nothing
  pub told_refused : (vs : List Value) (i : ℕ) (v : Value) (xs : List A) → i < length vs → v ≡ get_or vs i v → told (view v) ≡ None
      → told_items told (items_view (take i vs)) ≡ Some xs → told_items told (items_view vs) ≡ None
  told_refused vs i v xs h e here before =
      ap (λ ds. told_items told (items_of ds)) (sym (split_here view vs i v h e)) ∙ refused_at (map view (take i vs)) (view v) (map view (drop (i + 1) vs)) xs before here

  -- the list of an array's values
  pub told_array : (d : Data) (vs : List Value) (o : Option (List A)) → Some (items_view vs) ≡ as_array d → told_items told (items_view vs) ≡ o → told_list told d ≡ o
  told_array d vs o e h = ap (λ x. x >>= told_items told) (sym e) ∙ h

-- an array with a value that is refused is refused
pub list_refused : {A : Type 0} (told : Data → Option A) (d : Data) (vs : List Value) (i : ℕ) (v : Value) (xs : List A) (f : TextFault) → Some (items_view vs) ≡ as_array d → i < length vs → v ≡ get_or vs i v
    → told_items told (items_view (take i vs)) ≡ Some xs → Tells {A = A} (Err f) (told (view v)) → Tells {A = List A} (Err f) (told_list told d)
list_refused told d vs i v xs Refused array h e before here = told_array told d vs None array (told_refused told vs i v xs h e here before)
list_refused told d vs i v xs Memory array h e before here = tt
