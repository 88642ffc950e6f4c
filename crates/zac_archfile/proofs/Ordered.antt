-- The objects of what a text reads as have their keys in order.
use Rattle.std.proofs.Common.{◌≡◌, ℕ, List, [], ◌∷◌, Option, Some, option_map, option_and_then, Ordering, Less, Equal, Greater, nat_cmp, refl, sym, ap, ◌∙◌, subst, T}
use Rattle.std.proofs.lemmas.Cmp.{nat_list_cmp_total}
use Rattle.std.specs.Cmp.Lexicographic.{slice_cmp}
use Rattle.std.specs.FinMap.Entries.{by_order, is_sorted, is_sorted-put, put as put_entry}
use Rattle.std.specs.List.{AllByRecursion}
use Rattle.std.specs.Ordering.{match_ordering}
use Rattle.json.specs.Json as json
use Rattle.json.specs.Lex.{tokens}
use Rattle.serde_json.specs.Data.{Num, Data, null, boolean, number, string, array, object, Items, no_items, item, Members, no_members, member, put}
use Rattle.serde_json.specs.Read.{number_of, of_json, of_items, of_members, max_depth, read}
use Rattle.serde_json.specs.Find.{get, get_member}
use Rattle.zac_archfile.specs.Entries.{list_of}
use Rattle.zac_archfile.proofs.OnValues.{OnValue, on_none, on_some, of_some, on_map, on_then, on_any}

-- the order of keys
abbrev pub key_cmp : List ℕ → List ℕ → Ordering
key_cmp = slice_cmp nat_cmp

-- the members as a list
abbrev pub pairs : Members → List (List ℕ × Data)
pairs no_members = []
pairs (member k d ms) = (k, d) ∷ pairs ms

pairs-match : (o : Ordering) (a b c : Members) → pairs (match_ordering o a b c) ≡ by_order o (pairs a) (pairs b) (pairs c)
pairs-match Less a b c = refl
pairs-match Equal a b c = refl
pairs-match Greater a b c = refl

pairs-put : (k : List ℕ) (d : Data) (ms : Members) → pairs (put k d ms) ≡ put_entry key_cmp k d (pairs ms)
pairs-put k d no_members = refl
pairs-put k d (member l e ms) =
    pairs-match (key_cmp k l) (member k d (member l e ms)) (member l d ms) (member l e (put k d ms))
    ∙ ap (λ es. by_order (key_cmp k l) ((k, d) ∷ (l, e) ∷ pairs ms) ((l, d) ∷ pairs ms) ((l, e) ∷ es)) (pairs-put k d ms)

-- the keys of members rise
abbrev pub AreSorted : Members → Type 0
AreSorted ms = T (is_sorted key_cmp (pairs ms))

-- so do the keys of each object in a value
abbrev mutual
  pub IsOrdered : Data → Type 0
  IsOrdered null = Unit {0}
  IsOrdered (boolean b) = Unit {0}
  IsOrdered (number n) = Unit {0}
  IsOrdered (string s) = Unit {0}
  IsOrdered (array ds) = AreOrdered ds
  IsOrdered (object ms) = AreSorted ms × HasOrdered ms

  pub AreOrdered : Items → Type 0
  AreOrdered no_items = Unit {0}
  AreOrdered (item d ds) = IsOrdered d × AreOrdered ds

  pub HasOrdered : Members → Type 0
  HasOrdered no_members = Unit {0}
  HasOrdered (member k d ms) = IsOrdered d × HasOrdered ms

sorted-put : (k : List ℕ) (d : Data) (ms : Members) → AreSorted ms → AreSorted (put k d ms)
sorted-put k d ms h =
    let P : List (List ℕ × Data) → Type 0 = λ es. T (is_sorted key_cmp es) in
    subst P (sym (pairs-put k d ms)) (is_sorted-put key_cmp nat_list_cmp_total k d (pairs ms) h)

one_of_three : (o : Ordering) (a b c : Members) → HasOrdered a → HasOrdered b → HasOrdered c → HasOrdered (match_ordering o a b c)
one_of_three Less a b c h k l = h
one_of_three Equal a b c h k l = k
one_of_three Greater a b c h k l = l

ordered-put : (k : List ℕ) (d : Data) (ms : Members) → IsOrdered d → HasOrdered ms → HasOrdered (put k d ms)
ordered-put k d no_members h all = (h, tt)
ordered-put k d (member l e ms) h all =
    one_of_three (key_cmp k l) (member k d (member l e ms)) (member l d ms) (member l e (put k d ms)) (h, all) (h, all.1) (all.0, ordered-put k d ms h all.1)

-- members that are sorted and whose values are ordered
abbrev Sorted : Members → Type 0
Sorted ms = AreSorted ms × HasOrdered ms

mutual
  of_json_ordered : (j : json.Json) → OnValue IsOrdered (of_json j)
  of_json_ordered json.null = on_some IsOrdered null tt
  of_json_ordered (json.boolean b) = on_some IsOrdered (boolean b) tt
  of_json_ordered (json.number s) = on_map (λ (n : Num). Unit {0}) IsOrdered number (λ n h. h) (number_of s) (on_any (number_of s))
  of_json_ordered (json.string s) = on_some IsOrdered (string s) tt
  of_json_ordered (json.array js) = on_map AreOrdered IsOrdered array (λ ds h. h) (of_items js) (of_items_ordered js)
  of_json_ordered (json.object ms) = on_map Sorted IsOrdered object (λ ns h. h) (of_members ms no_members) (of_members_ordered ms no_members (tt, tt))

  of_items_ordered : (js : json.Items) → OnValue AreOrdered (of_items js)
  of_items_ordered json.no_items = on_some AreOrdered no_items tt
  of_items_ordered (json.item j js) =
      on_then IsOrdered AreOrdered (λ d. option_map (item d) (of_items js)) (λ d h. on_map AreOrdered AreOrdered (item d) (λ ds k. (h, k)) (of_items js) (of_items_ordered js)) (of_json j) (of_json_ordered j)

  of_members_ordered : (ms : json.Members) (found : Members) → Sorted found → OnValue Sorted (of_members ms found)
  of_members_ordered json.no_members found h = on_some Sorted found h
  of_members_ordered (json.member k j ms) found h =
      on_then IsOrdered Sorted (λ d. of_members ms (put k d found)) (λ d is. of_members_ordered ms (put k d found) (sorted-put k d found h.0, ordered-put k d found is h.1)) (of_json j) (of_json_ordered j)

on_read : (text : List ℕ) → OnValue IsOrdered (read text)
on_read text =
    let found : Option json.Json = option_and_then (λ p. json.if_last p.0 p.1) (json.value max_depth (tokens text)) in
    let P : json.Json → Type 0 = λ j. Unit {0} in
    on_then P IsOrdered of_json (λ j h. of_json_ordered j) found (on_any found)

-- what a text reads as is ordered
pub read_ordered : (text : List ℕ) (d : Data) → read text ≡ Some d → IsOrdered d
read_ordered text d e =
    let P : Option Data → Type 0 = λ o. OnValue IsOrdered o in
    of_some IsOrdered d (subst P e (on_read text))

-- ---- parts of an ordered value

on_match : (o : Ordering) (a b c : Option Data) → OnValue IsOrdered a → OnValue IsOrdered b → OnValue IsOrdered c → OnValue IsOrdered (match_ordering o a b c)
on_match Less a b c h k l = h
on_match Equal a b c h k l = k
on_match Greater a b c h k l = l

member_ordered : (k : List ℕ) (ms : Members) → HasOrdered ms → OnValue IsOrdered (get_member k ms)
member_ordered k no_members h = on_none IsOrdered
member_ordered k (member l e ms) h =
    let rest = member_ordered k ms h.1 in
    on_match (key_cmp k l) (get_member k ms) (Some e) (get_member k ms) rest (on_some IsOrdered e h.0) rest

found_ordered : (k : List ℕ) (d : Data) → IsOrdered d → OnValue IsOrdered (get k d)
found_ordered k null h = on_none IsOrdered
found_ordered k (boolean b) h = on_none IsOrdered
found_ordered k (number n) h = on_none IsOrdered
found_ordered k (string s) h = on_none IsOrdered
found_ordered k (array ds) h = on_none IsOrdered
found_ordered k (object ms) h = member_ordered k ms h.1

items_ordered : (ds : Items) → AreOrdered ds → AllByRecursion IsOrdered (list_of ds)
items_ordered no_items h = tt
items_ordered (item d ds) h = (h.0, items_ordered ds h.1)

-- the items of an array in an ordered value are ordered
pub list_ordered : (k : List ℕ) (d : Data) (ds : Items) → IsOrdered d → get k d ≡ Some (array ds) → AllByRecursion IsOrdered (list_of ds)
list_ordered k d ds h e =
    let P : Option Data → Type 0 = λ o. OnValue IsOrdered o in
    items_ordered ds (of_some IsOrdered (array ds) (subst P e (found_ordered k d h)))
