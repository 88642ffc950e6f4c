-- Each text is that of one card, or has one fault, and not both.
use Rattle.std.proofs.Common.{◌≡◌, ℕ, zero, suc, ◌+◌, ◌-◌, ◌<◌, ◌≤◌, ◌⊎◌, Bool, true, false, ◌&&◌, nat_le, List, [], ◌∷◌, ◌++◌, map, slice_get, Option, Some, None, IsUtf8, refl, sym, ap, ◌∙◌, subst, inl, inr, arith, true≢false}
use Rattle.std.specs.Str.{is_utf8}
use Rattle.std.proofs.lemmas.Bool.{and_parts, and_from}
use Rattle.std.proofs.lemmas.Option.{none-some, same_Some}
use Rattle.std.proofs.lemmas.Str.{is_utf8-from_IsUtf8, IsUtf8-from_is_utf8}
use Rattle.std.specs.List.{AllByRecursion, list_all}
use Rattle.serde_json.specs.Data.{Data}
use Rattle.serde_json.specs.Read.{read}
use Rattle.zac_arch.specs.Architecture.{Architecture}
use Rattle.zac_arch.specs.Rules.{KeepsRules, IsLeastBroken, rule_tests, lengths_in_range, times_in_range, beams_in_range, figures_in_range, zone_in_range}
use Rattle.zac_archfile.specs.declared.fault.CardFault.{CardFault}
use Rattle.zac_archfile.specs.declared.fault.CardFault.TheVariants.{NotJson, Missing, Unknown, NotWhole, Range, Invalid, Memory}
use Rattle.zac_archfile.specs.declared.field.Field.TheVariants.{Reach, Storage, StorageX, StorageY, Entangling, EntanglingX, EntanglingY}
use Rattle.zac_archfile.specs.Fields.{figure_fields, storage_fields, entangling_fields}
use Rattle.zac_archfile.specs.Entries.{is_object, zones_at}
use Rattle.zac_archfile.specs.Faults.{IsObjectText, IsFault, form_fault}
use Rattle.zac_archfile.specs.Texts.{IsCardText}
use Rattle.zac_archfile.specs.Values.{card_value, architecture_of, number_at, figures_of, storage_zone, entangling_zone}
use Rattle.zac_archfile.proofs.Back.{no_form_fault, told_back}
use Rattle.zac_archfile.proofs.Canon.{card_canon, zones_order}
use Rattle.zac_archfile.proofs.Faulty.{fault_of_form_told}
use Rattle.zac_archfile.proofs.Formed.{HasNumbers, formed}

pub one_card : (bytes : List ℕ) (a b : Architecture) → IsCardText bytes a → IsCardText bytes b → a ≡ b
one_card bytes a b h k =
    sym (told_back a h.rules) ∙ ap architecture_of (same_Some (card_value a) (card_value b) (sym h.value ∙ k.value)) ∙ told_back b k.rules

-- ---- the object of a text

one_object : (bytes : List ℕ) (d e : Data) → IsObjectText bytes d → IsObjectText bytes e → d ≡ e
one_object bytes d e h k = same_Some d e (sym h.value ∙ k.value)

card_object : (bytes : List ℕ) (a : Architecture) → IsCardText bytes a → IsObjectText bytes (card_value a)
card_object bytes a h = record { utf8 = h.utf8; value = h.value; is_one = refl }

-- what a fault says of a text: there is no object, or its form is at fault, or a rule is broken
data Seen (bytes : List ℕ) (e : CardFault) : Type 0 where
  none : ((d : Data) → ¬ IsObjectText bytes d) → e ≡ NotJson → Seen bytes e
  form : (d : Data) → IsObjectText bytes d → form_fault d ≡ Some e → Seen bytes e
  rule : (d : Data) → IsObjectText bytes d → form_fault d ≡ None → (n : ℕ) → IsLeastBroken (architecture_of d) n → e ≡ Invalid n → Seen bytes e

seen : (bytes : List ℕ) (e : CardFault) → IsFault bytes e → Seen bytes e
seen bytes NotJson h = none h refl
seen bytes (Missing f) h = form h.0 h.1 h.2
seen bytes Unknown h = form h.0 h.1 h.2
seen bytes (NotWhole f) h = form h.0 h.1 h.2
seen bytes (Range f) h = form h.0 h.1 h.2
seen bytes (Invalid n) h = rule h.0 h.1 h.2 n h.3 refl
seen bytes Memory h = absurd h

-- ---- one fault

one_least : (a : Architecture) (n m : ℕ) → IsLeastBroken a n → IsLeastBroken a m → n ≡ m
one_least a n m h k =
    let below : n < m → ⊥ = λ lt. k.first n lt h.broken in
    let above : m < n → ⊥ = λ lt. h.first m lt k.broken in
    omega (arith, below, above)

both_seen : (bytes : List ℕ) (e f : CardFault) → Seen bytes e → Seen bytes f → e ≡ f
both_seen bytes e f (none empty is) (none empty' is') = is ∙ sym is'
both_seen bytes e f (none empty is) (form d text has) = absurd (empty d text)
both_seen bytes e f (none empty is) (rule d text clear n least is') = absurd (empty d text)
both_seen bytes e f (form d text has) (none empty is) = absurd (empty d text)
both_seen bytes e f (form d text has) (form d' text' has') =
    same_Some e f (sym has ∙ ap form_fault (one_object bytes d d' text text') ∙ has')
both_seen bytes e f (form d text has) (rule d' text' clear n least is) =
    absurd (none-some e (sym clear ∙ ap form_fault (one_object bytes d' d text' text) ∙ has))
both_seen bytes e f (rule d text clear n least is) (none empty is') = absurd (empty d text)
both_seen bytes e f (rule d text clear n least is) (form d' text' has) =
    absurd (none-some f (sym clear ∙ ap form_fault (one_object bytes d d' text text') ∙ has))
both_seen bytes e f (rule d text clear n least is) (rule d' text' clear' m least' is') =
    let P : Data → Type 0 = λ x. IsLeastBroken (architecture_of x) m in
    let moved = subst P (one_object bytes d' d text' text) least' in
    is ∙ ap (λ k. Invalid k) (one_least (architecture_of d) n m least moved) ∙ sym is'

pub one_fault : (bytes : List ℕ) (e f : CardFault) → IsFault bytes e → IsFault bytes f → e ≡ f
one_fault bytes e f h k = both_seen bytes e f (seen bytes e h) (seen bytes f k)

-- ---- not both

tests_pass : (a : Architecture) → KeepsRules a → list_all (λ b. b) (rule_tests a) ≡ true
tests_pass a k =
    and_from _ _ k.few_zones (and_from _ _ k.parking (and_from _ _ k.spacing (and_from _ _ k.blockade (and_from _ _ k.separation (and_from _ _ k.extent (and_from _ _ k.ranges refl))))))

none_fails : (tests : List Bool) (m : ℕ) → list_all (λ b. b) tests ≡ true → slice_get tests m ≡ Some false → ⊥
none_fails [] m h e = cc
none_fails (t ∷ ts) zero h e =
    let fails : t ≡ false = cc in
    true≢false (sym (and_parts t (list_all (λ b. b) ts) h).0 ∙ fails)
none_fails (t ∷ ts) (suc m) h e = none_fails ts m (and_parts t (list_all (λ b. b) ts) h).1 e

seen_card : (bytes : List ℕ) (a : Architecture) (e : CardFault) → IsCardText bytes a → Seen bytes e → ⊥
seen_card bytes a e h (none empty is) = empty (card_value a) (card_object bytes a h)
seen_card bytes a e h (form d text has) =
    none-some e (sym (no_form_fault a h.rules) ∙ ap form_fault (one_object bytes (card_value a) d (card_object bytes a h) text) ∙ has)
seen_card bytes a e h (rule d text clear n least is) =
    let P : Architecture → Type 0 = λ x. IsLeastBroken x n in
    let same = ap architecture_of (one_object bytes d (card_value a) text (card_object bytes a h)) ∙ told_back a h.rules in
    none_fails (rule_tests a) (n - 1) (tests_pass a h.rules) (subst P same least).broken.fails

pub not_both : (bytes : List ℕ) (a : Architecture) (e : CardFault) → IsCardText bytes a → ¬ IsFault bytes e
not_both bytes a e h k = seen_card bytes a e h (seen bytes e k)

-- ---- one of both

-- the first of the tests that fails
record IsFirst (tests : List Bool) (n : ℕ) : Type 0 where
  fails : slice_get tests n ≡ Some false
  first : (m : ℕ) → m < n → slice_get tests m ≡ Some false → ⊥

later : (ts : List Bool) (n m : ℕ) → IsFirst ts n → m < suc n → slice_get (true ∷ ts) m ≡ Some false → ⊥
later ts n zero h lt e = cc
later ts n (suc m) h lt e = h.first m (omega arith) e

either_tests : (tests : List Bool) → (list_all (λ b. b) tests ≡ true) ⊎ ((n : ℕ) × IsFirst tests n)
either_tests [] = inl refl
either_tests (false ∷ ts) = inr (0, record { fails = refl; first = λ m lt e. absurd (omega arith) })
either_tests (true ∷ ts) =
    elim (either_tests ts) [
      | inl h ↦ inl h
      | inr h ↦ inr (suc h.0, record { fails = h.1.fails; first = λ m lt e. later ts h.0 m h.1 lt e })
    ]

rules_kept : (d : Data) → list_all (λ b. b) (rule_tests (architecture_of d)) ≡ true → KeepsRules (architecture_of d)
rules_kept d h =
    let p1 = and_parts _ _ h in
    let p2 = and_parts _ _ p1.1 in
    let p3 = and_parts _ _ p2.1 in
    let p4 = and_parts _ _ p3.1 in
    let p5 = and_parts _ _ p4.1 in
    let p6 = and_parts _ _ p5.1 in
    let p7 = and_parts _ _ p6.1 in
    record { few_zones = p1.0; parking = p2.0; spacing = p3.0; blockade = p4.0; separation = p5.0; extent = p6.0; ranges = p7.0; order = zones_order d }

least_broken : (a : Architecture) (n : ℕ) → IsFirst (rule_tests a) n → IsLeastBroken a (n + 1)
least_broken a n h =
    let at : n ≡ n + 1 - 1 = omega arith in
    record {
      broken = record { counted = omega arith; fails = ap (slice_get (rule_tests a)) (sym at) ∙ h.fails };
      first = λ m lt b. h.first (m - 1) (omega (arith, b.counted)) b.fails;
    }

abbrev Either : List ℕ → Type 0
Either bytes = ((a : Architecture) × IsCardText bytes a) ⊎ ((e : CardFault) × IsFault bytes e)

either_rule : (bytes : List ℕ) (d : Data) → IsObjectText bytes d → form_fault d ≡ None → Either bytes
either_rule bytes d text clear =
    elim (either_tests (rule_tests (architecture_of d))) [
      | inl h ↦ inl (architecture_of d, card_canon bytes d text clear (rules_kept d h))
      | inr h ↦ inr (Invalid (h.0 + 1), (d, text, clear, least_broken (architecture_of d) h.0 h.1))
    ]

either_form : (bytes : List ℕ) (d : Data) (o : Option CardFault) → form_fault d ≡ o → IsObjectText bytes d → Either bytes
either_form bytes d None is text = either_rule bytes d text is
either_form bytes d (Some e) is text = inr (e, fault_of_form_told bytes d e text is)

either_object : (bytes : List ℕ) (d : Data) (b : Bool) → is_object d ≡ b → IsUtf8 bytes → read bytes ≡ Some d → Either bytes
either_object bytes d true is utf8 e = either_form bytes d (form_fault d) refl (record { utf8 = utf8; value = e; is_one = is })
either_object bytes d false is utf8 e =
    inr (NotJson, λ x text. true≢false (sym text.is_one ∙ ap is_object (same_Some x d (sym text.value ∙ e)) ∙ is))

either_value : (bytes : List ℕ) (o : Option Data) → read bytes ≡ o → IsUtf8 bytes → Either bytes
either_value bytes None e utf8 = inr (NotJson, λ x text. none-some x (sym e ∙ text.value))
either_value bytes (Some d) e utf8 = either_object bytes d (is_object d) refl utf8 e

either_text : (bytes : List ℕ) (b : Bool) → is_utf8 bytes ≡ b → Either bytes
either_text bytes true e = either_value bytes (read bytes) refl (IsUtf8-from_is_utf8 bytes e)
either_text bytes false e = inr (NotJson, λ x text. true≢false (sym (is_utf8-from_IsUtf8 bytes text.utf8) ∙ e))

pub card_or_fault : (bytes : List ℕ) → Either bytes
card_or_fault bytes = either_text bytes (is_utf8 bytes) refl

-- ---- one of the first six rules

figures_fit : (d : Data) → HasNumbers figure_fields d → figures_in_range (figures_of d) ≡ true
figures_fit d h =
    let h1 = h.1 in
    let h2 = h1.1 in
    let h3 = h2.1 in
    let h4 = h3.1 in
    let h5 = h4.1 in
    let h6 = h5.1 in
    let h7 = h6.1 in
    let h8 = h7.1 in
    let h9 = h8.1 in
    let h10 = h9.1 in
    let h11 = h10.1 in
    let h12 = h11.1 in
    let h13 = h12.1 in
    let reach : nat_le (number_at d Reach) 100000 ≡ true = (and_parts (nat_le 0 (number_at d Reach)) (nat_le (number_at d Reach) 100000) h3.0.range).1 in
    let lengths : lengths_in_range (figures_of d) ≡ true = and_from _ _ (and_from _ _ (and_from _ _ h1.0.range h2.0.range) reach) h4.0.range in
    let times : times_in_range (figures_of d) ≡ true =
    and_from _ _ (and_from _ _ (and_from _ _ (and_from _ _ (and_from _ _ h5.0.range h6.0.range) h7.0.range) h8.0.range) h9.0.range) h10.0.range in
    let beams : beams_in_range (figures_of d) ≡ true = and_from _ _ (and_from _ _ h11.0.range h12.0.range) h13.0.range in
    and_from _ _ (and_from _ _ lengths times) beams

-- a number is at most the greatest of a range from 0 on
up_to : (n most : ℕ) → (nat_le 0 n && nat_le n most) ≡ true → nat_le n most ≡ true
up_to n most h = (and_parts (nat_le 0 n) (nat_le n most) h).1

storage_fits : (d : Data) → HasNumbers storage_fields d → zone_in_range (storage_zone d) ≡ true
storage_fits d h =
    let x = up_to (number_at d StorageX) 1000000 h.0.range in
    let y = up_to (number_at d StorageY) 1000000 h.1.0.range in
    and_from _ _ (and_from _ _ (and_from _ _ (and_from _ _ (and_from _ _ (and_from _ _ x y) h.1.1.0.range) h.1.1.1.0.range) refl) h.1.1.1.1.0.range) h.1.1.1.1.1.0.range

entangling_fits : (d : Data) → HasNumbers entangling_fields d → zone_in_range (entangling_zone d) ≡ true
entangling_fits d h =
    let x = up_to (number_at d EntanglingX) 1000000 h.0.range in
    let y = up_to (number_at d EntanglingY) 1000000 h.1.0.range in
    and_from _ _ (and_from _ _ (and_from _ _ (and_from _ _ (and_from _ _ (and_from _ _ x y) h.1.1.0.range) h.1.1.1.0.range) h.1.1.1.1.0.range) h.1.1.1.1.1.0.range) h.1.1.1.1.1.1.0.range

zones_fit : (xs ys : List Data) → AllByRecursion (HasNumbers storage_fields) xs → AllByRecursion (HasNumbers entangling_fields) ys → list_all zone_in_range (map storage_zone xs ++ map entangling_zone ys) ≡ true
zones_fit [] [] h k = refl
zones_fit [] (y ∷ ys) h k = and_from _ _ (entangling_fits y k.0) (zones_fit [] ys h k.1)
zones_fit (x ∷ xs) ys h k = and_from _ _ (storage_fits x h.0) (zones_fit xs ys h.1 k)

below_six : (t1 t2 t3 t4 t5 t6 t7 : Bool) (k : ℕ) → t7 ≡ true → slice_get (t1 ∷ t2 ∷ t3 ∷ t4 ∷ t5 ∷ t6 ∷ t7 ∷ []) k ≡ Some false → k < 6
below_six t1 t2 t3 t4 t5 t6 t7 zero h e = omega arith
below_six t1 t2 t3 t4 t5 t6 t7 (suc zero) h e = omega arith
below_six t1 t2 t3 t4 t5 t6 t7 (suc (suc zero)) h e = omega arith
below_six t1 t2 t3 t4 t5 t6 t7 (suc (suc (suc zero))) h e = omega arith
below_six t1 t2 t3 t4 t5 t6 t7 (suc (suc (suc (suc zero)))) h e = omega arith
below_six t1 t2 t3 t4 t5 t6 t7 (suc (suc (suc (suc (suc zero))))) h e = omega arith
below_six t1 t2 t3 t4 t5 t6 t7 (suc (suc (suc (suc (suc (suc zero)))))) h e =
    let fails : t7 ≡ false = cc in
    absurd (true≢false (sym h ∙ fails))
below_six t1 t2 t3 t4 t5 t6 t7 (suc (suc (suc (suc (suc (suc (suc k))))))) h e = cc

pub one_of_six : (bytes : List ℕ) (n : ℕ) → IsFault bytes (Invalid n) → (1 ≤ n) × (n ≤ 6)
one_of_six bytes n h =
    let d = h.0 in
    let f = formed d h.2 in
    let a = architecture_of d in
    let ranges : (figures_in_range a.figures && list_all zone_in_range a.zones) ≡ true =
    and_from _ _ (figures_fit d f.figures) (zones_fit (zones_at d Storage) (zones_at d Entangling) f.storages f.entanglings) in
    let below = below_six _ _ _ _ _ _ _ (n - 1) ranges h.3.broken.fails in
    let counted = h.3.broken.counted in
    (counted, omega arith)
