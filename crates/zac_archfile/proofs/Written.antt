-- What is written for a card: its members, put in one after another; it has no float, and is not deep.
use Rattle.std.proofs.Common.{◌≡◌, ℕ, zero, suc, ◌+◌, ◌<◌, ◌≤◌, not, false, List, [], ◌∷◌, length, map, filter, take, get_or, refl, sym, ap, ◌∙◌, arith}
use Rattle.serde_json.specs.Data.{Data, Members, no_members, put, depth, items_depth}
use Rattle.serde_json.specs.Read.{max_depth}
use Rattle.serde_json.specs.View.{items_of}
use Rattle.serde_json.specs.Written.{has_float, items_have_float}
use Rattle.zac_arch.specs.Architecture.{Architecture, is_storage}
use Rattle.zac_archfile.specs.declared.field.Field.{Field}
use Rattle.zac_archfile.specs.Fields.{key_of}
use Rattle.zac_archfile.specs.Values.{number_value, storage_value, entangling_value, card_value}
use Rattle.zac_archfile.specs.Writing.{with_numbers}

with_numbers-more : (ms : Members) (ps : List (Field × ℕ)) (i : ℕ) (d : Field × ℕ) → i < length ps
    → with_numbers ms (take (i + 1) ps) ≡ put (key_of (get_or ps i d).0) (number_value (get_or ps i d).1) (with_numbers ms (take i ps))
with_numbers-more ms [] i d h = absurd (omega arith)
with_numbers-more ms (p ∷ ps) zero d h = refl
with_numbers-more ms (p ∷ ps) (suc i) d h =
    let more : suc i + 1 ≡ suc (i + 1) = omega arith in
    rw more (with_numbers-more (put (key_of p.0) (number_value p.1) ms) ps i d (omega arith))

pub written_more : (old new : Members) (ps : List (Field × ℕ)) (i : ℕ) (d : Field × ℕ) (value : Data) → i < length ps → new ≡ put (key_of (get_or ps i d).0) value old
    → value ≡ number_value (get_or ps i d).1 → old ≡ with_numbers no_members (take i ps) → new ≡ with_numbers no_members (take (i + 1) ps)
written_more old new ps i d value h e is before =
    e ∙ ap (λ x. put (key_of (get_or ps i d).0) x old) is ∙ ap (put (key_of (get_or ps i d).0) (number_value (get_or ps i d).1)) before ∙ sym (with_numbers-more no_members ps i d h)

no_floats : {X : Type 0} (f : X → Data) → ((x : X) → has_float (f x) ≡ false) → (xs : List X) → items_have_float (items_of (map f xs)) ≡ false
no_floats f h [] = refl
no_floats f h (x ∷ xs) = rw (h x) (no_floats f h xs)

shallow : {X : Type 0} (f : X → Data) (n : ℕ) → ((x : X) → depth (f x) ≤ n) → (xs : List X) → items_depth (items_of (map f xs)) ≤ n
shallow f n h [] = omega arith
shallow f n h (x ∷ xs) = omega (arith, h x, shallow f n h xs)

pub card_no_float : (a : Architecture) → has_float (card_value a) ≡ false
card_no_float a =
    rw (no_floats entangling_value (λ z. refl) (filter (λ z. not (is_storage z.kind)) a.zones), no_floats storage_value (λ z. refl) (filter (λ z. is_storage z.kind) a.zones)) refl

pub card_shallow : (a : Architecture) → depth (card_value a) ≤ max_depth
card_shallow a =
    omega (arith, shallow entangling_value 1 (λ z. omega arith) (filter (λ z. not (is_storage z.kind)) a.zones), shallow storage_value 1 (λ z. omega arith) (filter (λ z. is_storage z.kind) a.zones))
