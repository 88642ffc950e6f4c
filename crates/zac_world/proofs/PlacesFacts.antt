-- The traps of the qubits, and which are empty.
use Rattle.std.proofs.Common.{◌≡◌, ◌≢◌, ◌==◌, inl, inr, ℕ, zero, suc, ◌+◌, ◌<◌, ◌≤◌, Bool, true, false, cond, not, IsTrue, IsSome, is_none, is_some, List, [], ◌∷◌, ◌++◌, length, map, filter, get_or, set, Option, Some, None, refl, sym, ap, ◌∙◌, subst, ⊎_elim, rules, arith}
use Rattle.std.specs.List.{slice_get, list_any, flat_map, range_with_len, AllPairs}
use Rattle.std.specs.Option.{unwrap_or, option_map, MatchOption}
use Rattle.std.proofs.lemmas.Bool.{cases_Bool, cases_lt, cases_eq, eqb-true, eq-eqb, not_from_true, not_from_false}
use Rattle.std.proofs.lemmas.List.{length-append, length-map, map-set, length-set}
use Rattle.std.proofs.lemmas.List.Elements.{filter-append}
use Rattle.std.proofs.lemmas.List.Folds.{Any-from_list_any, list_any-from_Any}
use Rattle.std.proofs.lemmas.Option.{slice_get-map, slice_get-get_or, slice_get_within, get_or_from_slice_get, same_Some}
use Rattle.zac_arch.specs.Architecture.{Architecture, trap_count, storage_count, zone_traps, is_storage}
use Rattle.zac_arch.specs.declared.card.Zone.{Zone}
use Rattle.zac_arch.specs.declared.place.TrapId.{TrapId}
use Rattle.zac_pairing.specs.Pairing.{mate, IsPairing, freed}
use Rattle.zac_pairing.proofs.PairingFacts.{length-freed, mate_in, mate-set_same, mate-set_other}
use Rattle.zac_world.specs.Places.{is_empty, traps_of, ArePlaced}

-- the trap of a qubit, and its partner
pub trap_from_mate : (left : List (Option ℕ)) (q t : ℕ) → mate left q ≡ Some t → slice_get (traps_of left) q ≡ Some t
trap_from_mate left q t is =
    let within = mate_in left q t is in
    let f : Option ℕ → ℕ = λ o. unwrap_or o 0 in
    slice_get-map f left q ∙ ap (option_map f) (slice_get-get_or left q None within ∙ ap (λ (o : Option ℕ). Some o) is)

pub some_mate : (left : List (Option ℕ)) (q : ℕ) → IsSome (mate left q) → (t : ℕ) × (mate left q ≡ Some t)
some_mate left q some = by_case (mate left q) refl some
  where
    by_case : (o : Option ℕ) → mate left q ≡ o → IsSome o → (t : ℕ) × (mate left q ≡ Some t)
    by_case None is some = cc
    by_case (Some t) is some = (t, is)

pub mate_from_trap : (a : Architecture) (left right : List (Option ℕ)) (q t : ℕ) → ArePlaced a left right → slice_get (traps_of left) q ≡ Some t → mate left q ≡ Some t
mate_from_trap a left right q t placed is =
    let f : Option ℕ → ℕ = λ o. unwrap_or o 0 in
    let within : q < length left = omega (arith, slice_get_within (traps_of left) q t is, length-map left f) in
    let m = some_mate left q (placed.placed q within) in
    let same : m.0 ≡ t = same_Some m.0 t (sym (trap_from_mate left q m.0 m.1) ∙ is) in
    m.1 ∙ ap (λ (s : ℕ). Some s) same

-- it is a trap of the card
pub trap_in_card : (a : Architecture) (left right : List (Option ℕ)) (q : ℕ) → ArePlaced a left right → IsPairing left right → q < length left → unwrap_or (mate left q) 0 < trap_count a
trap_in_card a left right q placed pairing within =
    let m = some_mate left q (placed.placed q within) in
    let value : unwrap_or (mate left q) 0 ≡ m.0 = ap (λ (o : Option ℕ). unwrap_or o 0) m.1 in
    omega (arith, value, mate_in right m.0 q (pairing.there q m.0 m.1), placed.all_traps)

-- a trap is empty exactly where it has no partner
pub empty_from_none : (a : Architecture) (left right : List (Option ℕ)) (t : ℕ) → ArePlaced a left right → IsPairing left right → mate right t ≡ None → IsTrue (is_empty (traps_of left) t)
empty_from_none a left right t placed pairing none =
    ⊎_elim
    (λ (taken : list_any (λ (x : ℕ). x == t) (traps_of left) ≡ true).
    let any = Any-from_list_any (λ (x : ℕ). x == t) (traps_of left) taken in
    let same : any.1 ≡ t = eqb-true any.1 t any.4 in
    let at : slice_get (traps_of left) any.0 ≡ Some t = slice_get-get_or (traps_of left) any.0 any.1 any.2 ∙ ap (λ (x : ℕ). Some x) (any.3 ∙ same) in
    let back : mate right t ≡ Some any.0 = pairing.there any.0 t (mate_from_trap a left right any.0 t placed at) in
    cc)
    (λ free. not_from_false (list_any (λ (x : ℕ). x == t) (traps_of left)) free)
    (cases_Bool (list_any (λ (x : ℕ). x == t) (traps_of left)))

pub none_from_empty : (left right : List (Option ℕ)) (t : ℕ) → IsPairing left right → IsTrue (is_empty (traps_of left) t) → mate right t ≡ None
none_from_empty left right t pairing empty = by_case (mate right t) refl
  where
    by_case : (o : Option ℕ) → mate right t ≡ o → o ≡ None
    by_case None is = refl
    by_case (Some q) is =
        let at = trap_from_mate left q t (pairing.back q t is) in
        let within = slice_get_within (traps_of left) q t at in
        let taken : list_any (λ (x : ℕ). x == t) (traps_of left) ≡ true = list_any-from_Any (λ (x : ℕ). x == t) (traps_of left) (q, t, within, get_or_from_slice_get (traps_of left) q t t at, eq-eqb t t refl) in
        let no = not_from_true (list_any (λ (x : ℕ). x == t) (traps_of left)) taken in
        cc

-- the same as a test
pub empty_is : (a : Architecture) (left right : List (Option ℕ)) (t : ℕ) (o : Option ℕ) → ArePlaced a left right → IsPairing left right → o ≡ mate right t → is_empty (traps_of left) t ≡ is_none o
empty_is a left right t None placed pairing is = empty_from_none a left right t placed pairing (sym is)
empty_is a left right t (Some q) placed pairing is =
    ⊎_elim
    (λ (e : is_empty (traps_of left) t ≡ true). let none = none_from_empty left right t pairing e in cc)
    (λ (e : is_empty (traps_of left) t ≡ false). e)
    (cases_Bool (is_empty (traps_of left) t))

pub atom_found : (a : Architecture) (left right : List (Option ℕ)) (t : ℕ) (o : Option ℕ) → ArePlaced a left right → IsPairing left right → o ≡ mate right t → MatchOption o (IsTrue (is_empty (traps_of left) t)) (λ q. slice_get (traps_of left) q ≡ Some t)
atom_found a left right t None placed pairing is = empty_from_none a left right t placed pairing (sym is)
atom_found a left right t (Some q) placed pairing is = trap_from_mate left q t (pairing.back q t (sym is))

-- the traps once a qubit is put into another one
pub traps_put : (left : List (Option ℕ)) (q t : ℕ) → traps_of (set left q (Some t)) ≡ set (traps_of left) q t
traps_put left q t = let f : Option ℕ → ℕ = λ o. unwrap_or o 0 in map-set f left q (Some t)

-- each qubit still has a trap
pub placed_after : (a : Architecture) (left right : List (Option ℕ)) (q t : ℕ) → ArePlaced a left right → ArePlaced a (set left q (Some t)) (set (freed right (mate left q)) t (Some q))
placed_after a left right q t old =
    record {
      placed = λ u lt. elim (cases_eq u q) as (λ _. IsSome (mate (set left q (Some t)) u)) [
        | inl same ↦ subst IsSome (sym (ap (mate (set left q (Some t))) same ∙ mate-set_same left q (Some t) (omega (arith, lt, same, length-set left q (Some t))))) (search rules)
        | inr apart ↦ subst IsSome (sym (mate-set_other left q u (Some t) apart)) (old.placed u (omega (arith, lt, length-set left q (Some t))))
      ];
      all_traps = length-set (freed right (mate left q)) t (Some q) ∙ length-freed right (mate left q) ∙ old.all_traps;
    }

-- the storage traps are some of the traps
storage_step : (z : Zone) (zones : List Zone) (b : Bool) → length (flat_map zone_traps (filter (λ (y : Zone). is_storage y.kind) zones)) ≤ length (flat_map zone_traps zones) →
    length (flat_map zone_traps (cond b (z ∷ filter (λ (y : Zone). is_storage y.kind) zones) (filter (λ (y : Zone). is_storage y.kind) zones))) ≤ length (zone_traps z ++ flat_map zone_traps zones)
storage_step z zones true rest = omega (arith, rest, length-append (zone_traps z) (flat_map zone_traps zones), length-append (zone_traps z) (flat_map zone_traps (filter (λ (y : Zone). is_storage y.kind) zones)))
storage_step z zones false rest = omega (arith, rest, length-append (zone_traps z) (flat_map zone_traps zones))

storage_below : (zones : List Zone) → length (flat_map zone_traps (filter (λ (z : Zone). is_storage z.kind) zones)) ≤ length (flat_map zone_traps zones)
storage_below [] = omega arith
storage_below (z ∷ zones) = storage_step z zones (is_storage z.kind) (storage_below zones)

pub storage_in : (a : Architecture) → storage_count a ≤ trap_count a
storage_in a = storage_below a.zones

-- one number more
range_push : (a n : ℕ) → range_with_len a (suc n) ≡ range_with_len a n ++ (a + n) ∷ []
range_push a zero = let here : a ≡ a + 0 = omega arith in ap (λ (x : ℕ). x ∷ []) here
range_push a (suc n) =
    let here : (a + 1) + n ≡ a + suc n = omega arith in
    ap (λ (l : List ℕ). a ∷ l) (range_push (a + 1) n ∙ ap (λ (x : ℕ). range_with_len (a + 1) n ++ x ∷ []) here)

pub filter_more : (p : ℕ → Bool) (k : ℕ) (b : Bool) → p k ≡ b → filter p (range_with_len 0 (k + 1)) ≡ filter p (range_with_len 0 k) ++ cond b (k ∷ []) []
filter_more p k b is =
    let one : k + 1 ≡ suc k = omega arith in
    let none : 0 + k ≡ k = omega arith in
    ap (λ (n : ℕ). filter p (range_with_len 0 n)) one ∙ ap (filter p) (range_push 0 k ∙ ap (λ (x : ℕ). range_with_len 0 k ++ x ∷ []) none)
    ∙ filter-append p (range_with_len 0 k) (k ∷ [])
    ∙ ap (λ (c : Bool). filter p (range_with_len 0 k) ++ cond c (k ∷ []) []) is

-- inside a list the default isn't read
pub home_any : (homes : List TrapId) (k : ℕ) (d e : TrapId) → k < length homes → get_or homes k d ≡ get_or homes k e
home_any [] k d e lt = absurd (omega arith)
home_any (h ∷ homes) zero d e lt = refl
home_any (h ∷ homes) (suc k) d e lt = home_any homes k d e (omega arith)

-- the qubits before q are in their homes, and the others have no trap
pub record AreHomed (homes : List TrapId) (left : List (Option ℕ)) (q : ℕ) : Type 0 where
  pub len : length left ≡ length homes
  pub placed : (k : ℕ) (d : TrapId) → k < q → mate left k ≡ Some (get_or homes k d).0
  pub later : (k : ℕ) → q ≤ k → mate left k ≡ None

-- the next home is free
pub home_free : (homes : List TrapId) (left right : List (Option ℕ)) (q : ℕ) (d : TrapId) → AllPairs (λ g h. g.0 ≢ h.0) homes → IsPairing left right → AreHomed homes left q → q < length homes → mate right (get_or homes q d).0 ≡ None
home_free homes left right q d distinct pairing homed within = by_case (mate right (get_or homes q d).0) refl
  where
    by_case : (o : Option ℕ) → mate right (get_or homes q d).0 ≡ o → o ≡ None
    by_case None is = refl
    by_case (Some u) is =
        let back : mate left u ≡ Some (get_or homes q d).0 = pairing.back u (get_or homes q d).0 is in
        ⊎_elim
        (λ (lt : u < q). absurd (distinct u q d lt within (same_Some (get_or homes u d).0 (get_or homes q d).0 (sym (homed.placed u d lt) ∙ back))))
        (λ (le : q ≤ u). let none = homed.later u le in cc)
        (cases_lt u q)

-- one qubit more is in its home
pub homed_more : (homes : List TrapId) (left : List (Option ℕ)) (q : ℕ) (e : TrapId) → AreHomed homes left q → q < length homes → AreHomed homes (set left q (Some (get_or homes q e).0)) (q + 1)
homed_more homes left q e homed within =
    let m : Option ℕ = Some (get_or homes q e).0 in
    record {
      len = length-set left q m ∙ homed.len;
      placed = λ k d lt. ⊎_elim
          (λ (same : k ≡ q).
          ap (mate (set left q m)) same ∙ mate-set_same left q m (omega (arith, homed.len))
          ∙ ap (λ (h : TrapId). Some h.0) (home_any homes q e d within ∙ ap (λ (i : ℕ). get_or homes i d) (sym same)))
          (λ apart. mate-set_other left q k m apart ∙ homed.placed k d (omega (arith, apart)))
          (cases_eq k q);
      later = λ k le. mate-set_other left q k m (λ same. omega (arith, same)) ∙ homed.later k (omega arith);
    }

-- once all are, the traps are the homes
pub traps_are_homes : (homes : List TrapId) (left : List (Option ℕ)) → length left ≡ length homes → ((k : ℕ) (d : TrapId) → k < length homes → mate left k ≡ Some (get_or homes k d).0) → traps_of left ≡ map (λ (h : TrapId). h.0) homes
traps_are_homes [] [] len placed = refl
traps_are_homes [] (o ∷ left) len placed = absurd (omega arith)
traps_are_homes (h ∷ homes) [] len placed = absurd (omega arith)
traps_are_homes (h ∷ homes) (o ∷ left) len placed =
    let f : Option ℕ → ℕ = λ p. unwrap_or p 0 in
    let head : f o ≡ h.0 = ap f (placed 0 h (omega arith)) in
    ap (λ (t : ℕ). t ∷ traps_of left) head ∙ ap (λ (l : List ℕ). h.0 ∷ l) (traps_are_homes homes left (omega arith) (λ k d lt. placed (suc k) d (omega arith)))

pub placed_all : (a : Architecture) (homes : List TrapId) (left right : List (Option ℕ)) (q : ℕ) → AreHomed homes left q → length homes ≤ q → length right ≡ trap_count a → ArePlaced a left right
placed_all a homes left right q homed all right_len =
    record {
      placed = λ k lt. let none : TrapId = record { 0 = 0 } in subst IsSome (sym (homed.placed k none (omega (arith, homed.len)))) (search rules);
      all_traps = right_len;
    }

-- whether there is none, as it is tested
pub none_by_test : (o : Option ℕ) (tested b : Bool) → is_some o ≡ not tested → tested ≡ b → is_none o ≡ b
none_by_test o true b e is = ap not e ∙ is
none_by_test o false b e is = ap not e ∙ is
