-- There are as many empty storage traps as there are qubits at sites: the qubits are no more than the storage traps.
use Rattle.std.proofs.Common.{◌≡◌, ◌≢◌, ℕ, ◌<◌, ◌≤◌, ◌==◌, Bool, true, not, List, [], ◌∷◌, Some, length, get_or, map, refl, sym, ap, ◌∙◌, subst, arith, slice_get}
use Rattle.std.proofs.lemmas.List.{length-map}
use Rattle.std.specs.Prelude.{nat_lt}
use Rattle.std.specs.List.{AllPairs, Contains, filter, list_any, range_with_len}
use Rattle.std.proofs.lemmas.Bool.{eq-eqb, eqb-true, le-ltb, lt-ltb, ne_eqb, not-false, not-true, not_from_false}
use Rattle.std.proofs.lemmas.List.Elements.{Contains-get_or}
use Rattle.std.proofs.lemmas.List.Filters.{length-filter_both}
use Rattle.std.proofs.lemmas.List.Folds.{Any-from_list_any, list_any-from_Any}
use Rattle.std.proofs.lemmas.List.FromFn.{length-range_with_len}
use Rattle.std.proofs.lemmas.List.Kept.{AllPairs-filter}
use Rattle.zac_arch.specs.Architecture.{Architecture, storage_count}
use Rattle.zac_arch.specs.declared.place.TrapId.{TrapId}
use Rattle.zac_world.specs.Places.{empty_storage, is_empty}
use Rattle.zac_plan.specs.Plan.{places, trap_of}
use Rattle.zac_plan.specs.Seats.{RestWell}
use Rattle.zac_plan.proofs.Lists.{any_from_contained, contained_in_filter, contained_in_map, contained_in_range, contains_at, contains_filter, contains_here, contains_later, pairs_head, pairs_map, pairs_tail, range_rises}
use Rattle.zac_plan.proofs.Resting.{same_trap, shown_at, trap_is}
use Rattle.zac_plan.proofs.Shifting.{numbered}

-- different numbers that are all of a list are no more than it has
pub differ_within : (xs ys : List ℕ) → AllPairs (λ x y. x ≢ y) xs → ((x : ℕ) → Contains xs x → Contains ys x) → length xs ≤ length ys
differ_within [] ys differ within = omega arith
differ_within (x ∷ xs) ys differ within =
    let same : ℕ → Bool = λ y. y == x in
    let other : ℕ → Bool = λ y. not (y == x) in
    let here = contains_filter same ys x (within x (contains_here x xs)) (eq-eqb x x refl) in
    let rest = differ_within xs (filter other ys) (pairs_tail (λ (u v : ℕ). u ≢ v) x xs differ)
    (λ y listed. contains_filter other ys y (within y (contains_later x y xs listed))
    (not_from_false (y == x) (ne_eqb y x (λ e. pairs_head (λ (u v : ℕ). u ≢ v) x xs differ y listed (sym e))))) in
    omega (arith, rest, here.1, length-filter_both same other (λ y. refl) ys)

-- no qubit rests in an empty trap
pub none_rests : (rests : List TrapId) (t : ℕ) → is_empty (map (λ (u : TrapId). u.0) rests) t ≡ true → (q : ℕ) → slice_get rests q ≢ Some (numbered t)
none_rests rests t empty q at =
    let shown : List ℕ = map (λ (u : TrapId). u.0) rests in
    let taken : list_any (λ x. x == t) shown ≡ true =
    list_any-from_Any (λ (x : ℕ). x == t) shown
    (any_from_contained (λ x. (x == t) ≡ true) shown t (contains_at shown q t (shown_at rests q (numbered t) at)) (eq-eqb t t refl)) in
    let free = not-true (list_any (λ x. x == t) shown) empty in
    cc

-- in a trap that is not empty some qubit rests
taken_at : (shown : List ℕ) (t : ℕ) → not (is_empty shown t) ≡ true → Contains shown t
taken_at shown t taken =
    let is = not-false (list_any (λ x. x == t) shown) (not-true (is_empty shown t) taken) in
    let any = Any-from_list_any (λ (x : ℕ). x == t) shown is in
    let same : any.1 ≡ t = eqb-true any.1 t any.4 in
    subst (Contains shown) same (any.0, any.2, any.3)

-- an empty storage trap
pub record IsEmptyStorage (a : Architecture) (rests : List TrapId) (t : ℕ) : Type 0 where
  pub stored : t < storage_count a
  pub empty : (q : ℕ) → slice_get rests q ≢ Some (numbered t)

pub empty_stored : (a : Architecture) (rests : List TrapId) (t : ℕ) → Contains (empty_storage (places a rests)) t → IsEmptyStorage a rests t
empty_stored a rests t listed =
    let is = contained_in_filter (is_empty (map (λ (u : TrapId). u.0) rests)) (range_with_len 0 (storage_count a)) t listed in
    record {
      stored = let range = contained_in_range 0 (storage_count a) t is.0 in omega (arith, range.1);
      empty = none_rests rests t is.1;
    }

-- a qubit rests in an entangling trap
pub record IsAtSite (a : Architecture) (traps : List TrapId) (q : ℕ) : Type 0 where
  pub trap : TrapId
  pub rests : slice_get traps q ≡ Some trap
  pub entangling : storage_count a ≤ trap.0

module _ (a : Architecture) (n : ℕ) (rests : List TrapId) (well : RestWell a n rests) (fit : n ≤ storage_count a) (qs : List ℕ)
    (differ : AllPairs (λ q r. q ≢ r) qs) (at_sites : (q : ℕ) → Contains qs q → IsAtSite a rests q) where
  shown : List ℕ
  shown = map (λ (u : TrapId). u.0) rests

  is_stored : ℕ → Bool
  is_stored t = nat_lt t (storage_count a)

  is_elsewhere : ℕ → Bool
  is_elsewhere t = not (nat_lt t (storage_count a))

  is_taken : ℕ → Bool
  is_taken t = not (is_empty (map (λ (u : TrapId). u.0) rests) t)

  number_of : ℕ → ℕ
  number_of q = (trap_of rests q).0

  -- the taken storage traps are no more than the qubits in storage
  taken_most : length (filter is_taken (range_with_len 0 (storage_count a))) ≤ length (filter is_stored shown)
  unfolding shown is_stored is_taken
  taken_most =
      let range : List ℕ = range_with_len 0 (storage_count a) in
      differ_within (filter is_taken range) (filter is_stored shown)
      (AllPairs-filter (λ t u. t ≢ u) is_taken range (λ i j d before within e. absurd (omega (arith, range_rises 0 (storage_count a) i j d before within))))
      (λ t listed.
      let is = contained_in_filter is_taken range t listed in
      let in_range = contained_in_range 0 (storage_count a) t is.0 in
      contains_filter is_stored shown t (taken_at shown t is.1) (lt-ltb t (storage_count a) (omega (arith, in_range.1))))

  -- those at sites are no more than the qubits elsewhere
  listed_most : length qs ≤ length (filter is_elsewhere shown)
  unfolding shown is_elsewhere number_of
  listed_most =
      let most = differ_within (map number_of qs) (filter is_elsewhere shown)
      (pairs_map (λ t u. t ≢ u) number_of qs
      (λ i j d before within e.
      let q = get_or qs i d in
      let r = get_or qs j d in
      let first = at_sites q (Contains-get_or qs i d (omega arith)) in
      let second = at_sites r (Contains-get_or qs j d within) in
      let one : first.trap ≡ second.trap = sym (trap_is rests q first.trap first.rests) ∙ same_trap (trap_of rests q) (trap_of rests r) e ∙ trap_is rests r second.trap second.rests in
      differ i j d before within (well.apart q r first.trap first.rests (second.rests ∙ ap (λ (x : TrapId). Some x) (sym one)))))
      (λ t listed.
      let behind = contained_in_map number_of qs t listed in
      let at = at_sites behind.0 behind.1 in
      let is : at.trap.0 ≡ t = ap (λ (x : TrapId). x.0) (sym (trap_is rests behind.0 at.trap at.rests)) ∙ behind.2 in
      let P : ℕ → Type 0 = λ m. Contains (filter is_elsewhere shown) m in
      subst P is
      (contains_filter is_elsewhere shown at.trap.0 (contains_at shown behind.0 at.trap.0 (shown_at rests behind.0 at.trap at.rests))
      (not_from_false (nat_lt at.trap.0 (storage_count a)) (le-ltb at.trap.0 (storage_count a) at.entangling)))) in
      omega (arith, most, length-map qs number_of)

  -- so each of them finds an empty storage trap
  pub room : length qs ≤ length (empty_storage (places a rests))
  unfolding shown is_stored is_elsewhere is_taken
  room =
      let range : List ℕ = range_with_len 0 (storage_count a) in
      omega (
        arith,
        taken_most,
        listed_most,
        well.long,
        length-map rests (λ (u : TrapId). u.0),
        length-range_with_len 0 (storage_count a),
        length-filter_both is_stored is_elsewhere (λ t. refl) shown,
        length-filter_both (is_empty (map (λ (u : TrapId). u.0) rests)) is_taken (λ t. refl) range,
      )
