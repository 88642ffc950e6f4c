-- An object of which each field's value is told, and which has no other key, is one object.
use Rattle.std.proofs.Common.{◌≡◌, ℕ, Bool, true, false, not, ◌||◌, if◌then◌else◌, cond, List, [], ◌∷◌, Option, Some, None, Ordering, Less, Equal, Greater, is_eq, bytes_eq, refl, sym, ap, ◌∙◌, true≢false}
use Rattle.std.proofs.lemmas.Cmp.{nat_list_cmp_total}
use Rattle.std.proofs.lemmas.Map.Text.{is_eq-slice_cmp}
use Rattle.std.proofs.lemmas.Slice.Eq.{bytes_eq-Decides}
use Rattle.std.specs.FinMap.Entries.{find, same_entries}
use Rattle.std.specs.List.{AllByRecursion, list_any}
use Rattle.std.specs.Ordering.{match_ordering}
use Rattle.serde_json.specs.Data.{Data, Members, no_members, member}
use Rattle.serde_json.specs.Find.{get_member}
use Rattle.zac_archfile.specs.declared.field.Field.{Field}
use Rattle.zac_archfile.specs.Fields.{key_of}
use Rattle.zac_archfile.specs.Entries.{member_keys, is_key_of}
use Rattle.zac_archfile.proofs.Ordered.{key_cmp, pairs, AreSorted}

-- the members with each field's value at its key, in the order of the list
abbrev pub built : List Field → (Field → Data) → Members
built [] v = no_members
built (f ∷ fs) v = member (key_of f) (v f) (built fs v)

same_key : (q k : List ℕ) → bytes_eq q k ≡ true → q ≡ k
same_key q k e = (bytes_eq-Decides q k).0 e

get_at : (o : Ordering) (rest : Option Data) (e : Data) → match_ordering o rest (Some e) rest ≡ cond (is_eq o) (Some e) rest
get_at Less rest e = refl
get_at Equal rest e = refl
get_at Greater rest e = refl

get-find : (q : List ℕ) (ms : Members) → get_member q ms ≡ find key_cmp q (pairs ms)
get-find q no_members = refl
get-find q (member l e ms) = get_at (key_cmp q l) (get_member q ms) e ∙ ap (λ r. cond (is_eq (key_cmp q l)) (Some e) r) (get-find q ms)

here_or_later : (b c : Bool) (x inner whole : Option Data) → (b ≡ true → x ≡ whole) → inner ≡ (if c then whole else None) → cond b x inner ≡ (if b || c then whole else None)
here_or_later true c x inner whole h rest = h refl
here_or_later false c x inner whole h rest = rest

-- what the built members have at a key
find_built : (es : List (List ℕ × Data)) (v : Field → Data) (fs : List Field) → AllByRecursion (λ f. find key_cmp (key_of f) es ≡ Some (v f)) fs → (q : List ℕ)
    → find key_cmp q (pairs (built fs v)) ≡ (if is_key_of fs q then find key_cmp q es else None)
find_built es v [] h q = refl
find_built es v (f ∷ fs) h q =
    ap (λ b. cond b (Some (v f)) (find key_cmp q (pairs (built fs v)))) (is_eq-slice_cmp q (key_of f))
    ∙ here_or_later (bytes_eq q (key_of f)) (is_key_of fs q) (Some (v f)) (find key_cmp q (pairs (built fs v))) (find key_cmp q es)
    (λ e. sym h.0 ∙ ap (λ k. find key_cmp k es) (sym (same_key q (key_of f) e)))
    (find_built es v fs h.1 q)

pub or_parts : (a b : Bool) → (a || b) ≡ false → (a ≡ false) × (b ≡ false)
or_parts true b e = absurd (true≢false e)
or_parts false b e = (refl, e)

not_false : (b : Bool) → not b ≡ false → b ≡ true
not_false true e = refl
not_false false e = absurd (true≢false e)

skip : (b : Bool) (x rest : Option Data) → (b ≡ true → ⊥) → rest ≡ None → cond b x rest ≡ None
skip true x rest h e = absurd (h refl)
skip false x rest h e = e

-- a key that the test refuses isn't there, where it passes each key
find_none : (test : List ℕ → Bool) (ms : Members) → list_any (λ k. not (test k)) (member_keys ms) ≡ false → (q : List ℕ) → test q ≡ false → find key_cmp q (pairs ms) ≡ None
find_none test no_members h q e = refl
find_none test (member l d ms) h q e =
    let parts = or_parts (not (test l)) (list_any (λ k. not (test k)) (member_keys ms)) h in
    ap (λ b. cond b (Some d) (find key_cmp q (pairs ms))) (is_eq-slice_cmp q l)
    ∙ skip (bytes_eq q l) (Some d) (find key_cmp q (pairs ms))
    (λ is. true≢false (sym (not_false (test l) parts.0) ∙ ap test (sym (same_key q l is)) ∙ e))
    (find_none test ms parts.1 q e)

not_here : (b c : Bool) → (b ≡ true → ⊥) → c ≡ false → (b || c) ≡ false
not_here true c h e = absurd (h refl)
not_here false c h e = e

-- a key of no field of the one list is a key of no field of the other, where each of the other's keys is one of the first's
pub keys_within : (fields fs : List Field) → AllByRecursion (λ f. is_key_of fs (key_of f) ≡ true) fields → (q : List ℕ) → is_key_of fs q ≡ false → is_key_of fields q ≡ false
keys_within [] fs h q e = refl
keys_within (f ∷ fields) fs h q e =
    not_here (bytes_eq q (key_of f)) (is_key_of fields q)
    (λ is. true≢false (sym h.0 ∙ ap (is_key_of fs) (sym (same_key q (key_of f) is)) ∙ e))
    (keys_within fields fs h.1 q e)

from_pairs : List (List ℕ × Data) → Members
from_pairs [] = no_members
from_pairs (e ∷ es) = member e.0 e.1 (from_pairs es)

from_pairs-pairs : (ms : Members) → from_pairs (pairs ms) ≡ ms
unfolding from_pairs
from_pairs-pairs no_members = refl
from_pairs-pairs (member k d ms) = ap (member k d) (from_pairs-pairs ms)

told : (ms : Members) (v : Field → Data) (fs : List Field) → AllByRecursion (λ f. get_member (key_of f) ms ≡ Some (v f)) fs → AllByRecursion (λ f. find key_cmp (key_of f) (pairs ms) ≡ Some (v f)) fs
told ms v [] h = tt
told ms v (f ∷ fs) h = (sym (get-find (key_of f) ms) ∙ h.0, told ms v fs h.1)

if_none : (b : Bool) (x : Option Data) → (b ≡ false → x ≡ None) → x ≡ (if b then x else None)
if_none true x h = refl
if_none false x h = h refl

pub exact : (ms : Members) (fields fs : List Field) (v : Field → Data) → AreSorted ms → AreSorted (built fs v) → AllByRecursion (λ f. get_member (key_of f) ms ≡ Some (v f)) fs
    → list_any (λ k. not (is_key_of fields k)) (member_keys ms) ≡ false → AllByRecursion (λ f. is_key_of fs (key_of f) ≡ true) fields → ms ≡ built fs v
exact ms fields fs v sorted rising values known within =
    let same = same_entries key_cmp nat_list_cmp_total (λ x y e. same_key x y (sym (is_eq-slice_cmp x y) ∙ ap is_eq e)) (pairs ms) (pairs (built fs v)) sorted rising
    (λ q. if_none (is_key_of fs q) (find key_cmp q (pairs ms)) (λ e. find_none (is_key_of fields) ms known q (keys_within fields fs within q e))
    ∙ sym (find_built (pairs ms) v fs (told ms v fs values) q)) in
    sym (from_pairs-pairs ms) ∙ ap from_pairs same ∙ from_pairs-pairs (built fs v)
