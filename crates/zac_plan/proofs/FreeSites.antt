-- The free sites: no atom rests at them, and there are as many as there are new gates, or more.
use Rattle.std.proofs.Common.{◌≡◌, ◌≢◌, ℕ, zero, suc, ◌+◌, ◌<◌, ◌≤◌, ◌==◌, inl, inr, true, false, cond, not, List, [], ◌∷◌, Some, length, map, refl, sym, ap, ◌∙◌, subst, arith, slice_get}
use Rattle.std.specs.List.{AllPairs, Contains, filter, list_any, range_with_len}
use Rattle.std.proofs.lemmas.Bool.{and_cases, and_parts, both_ways, eq-eqb, eqb-true, false≢true, not-false, not-true, or_cases, or_left, or_right}
use Rattle.std.proofs.lemmas.List.{length-map}
use Rattle.std.proofs.lemmas.List.Filters.{length-filter_both}
use Rattle.std.proofs.lemmas.List.FromFn.{length-range_with_len}
use Rattle.std.proofs.lemmas.List.Kept.{AllPairs-filter}
use Rattle.std.proofs.lemmas.Option.{same_Some}
use Rattle.zac_arch.specs.Architecture.{Architecture, IsTrapOf, left_trap, right_trap, site_count, storage_count}
use Rattle.zac_arch.specs.declared.place.TrapId.{TrapId}
use Rattle.zac_world.specs.Places.{is_empty}
use Rattle.zair_form.specs.declared.step.PairOf.{PairOf}
use Rattle.zac_plan.specs.Plan.{free_sites, held_gates, is_at_site, is_free, is_held, new_gates, other_trap, site_at, trap_of}
use Rattle.zac_plan.specs.Seats.{AreCleared, IsPulse}
use Rattle.zac_plan.proofs.Pigeonhole.{no_more_distinct}
use Rattle.zac_plan.proofs.Held.{IsHeld, IsOn, coming_there, held_from, held_is, new_and_held, one_of, stayed_at}
use Rattle.zac_plan.proofs.Lists.{contained_in_filter, contained_in_range, contains_filter, contains_map, range_rises}
use Rattle.zac_plan.proofs.Resting.{trap_is}
use Rattle.zac_plan.proofs.SiteTraps.{other_at, site_of_trap, trap_above}

-- a trap that isn't empty has an atom
pub taken_by : (rests : List TrapId) (t : ℕ) → list_any (λ x. x == t) (map (λ (u : TrapId). u.0) rests) ≡ true → (q : ℕ) × (u : TrapId) × (slice_get rests q ≡ Some u) × (u.0 ≡ t)
taken_by [] t h = absurd (false≢true h)
taken_by (u ∷ us) t h = elim (or_cases (u.0 == t) (list_any (λ x. x == t) (map (λ (v : TrapId). v.0) us)) h) [
  | inl here ↦ (0, u, refl, eqb-true u.0 t here)
  | inr later ↦ let r = taken_by us t later in (suc r.0, r.1, r.2, r.3)
]

pub taken_from : (rests : List TrapId) (q : ℕ) (u : TrapId) (t : ℕ) → slice_get rests q ≡ Some u → u.0 ≡ t → list_any (λ x. x == t) (map (λ (v : TrapId). v.0) rests) ≡ true
taken_from [] q u t there e = cc
taken_from (v ∷ vs) zero u t there e =
    let same : v ≡ u = same_Some v u there in
    or_left (v.0 == t) (list_any (λ x. x == t) (map (λ (w : TrapId). w.0) vs)) (eq-eqb v.0 t (ap (λ (x : TrapId). x.0) same ∙ e))
taken_from (v ∷ vs) (suc q) u t there e =
    or_right (v.0 == t) (list_any (λ x. x == t) (map (λ (w : TrapId). w.0) vs)) (taken_from vs q u t there e)

-- no atom rests in an empty trap
pub none_in_empty : (rests : List TrapId) (t : ℕ) → is_empty (map (λ (u : TrapId). u.0) rests) t ≡ true → (q : ℕ) (u : TrapId) → slice_get rests q ≡ Some u → u.0 ≢ t
none_in_empty rests t empty q u there e =
    both_ways (list_any (λ x. x == t) (map (λ (v : TrapId). v.0) rests)) (not-true (list_any (λ x. x == t) (map (λ (v : TrapId). v.0) rests)) empty) (taken_from rests q u t there e)

-- no atom rests at a free site
pub none_at_free : (a : Architecture) (rests : List TrapId) (site : ℕ) → is_free a rests site ≡ true → (q : ℕ) (t : TrapId) → slice_get rests q ≡ Some t → ¬ IsTrapOf a site t.0
none_at_free a rests site free q t there at =
    let both = and_parts (is_empty (map (λ (u : TrapId). u.0) rests) (left_trap a site)) (is_empty (map (λ (u : TrapId). u.0) rests) (right_trap a site)) free in
    elim at as (λ _. ⊥) [
      | inl e ↦ none_in_empty rests (left_trap a site) both.0 q t there e
      | inr e ↦ none_in_empty rests (right_trap a site) both.1 q t there e
    ]

-- an atom rests at a site that isn't free
pub atom_at_taken : (a : Architecture) (rests : List TrapId) (site : ℕ) → is_free a rests site ≡ false → (q : ℕ) × (t : TrapId) × (slice_get rests q ≡ Some t) × IsTrapOf a site t.0
atom_at_taken a rests site taken =
    let traps = map (λ (u : TrapId). u.0) rests in
    elim (and_cases (is_empty traps (left_trap a site)) (is_empty traps (right_trap a site)) taken) [
      | inl e ↦
          let r = taken_by rests (left_trap a site) (not-false (list_any (λ x. x == left_trap a site) traps) e) in
          (r.0, r.1, r.2, inl r.3)
      | inr e ↦
          let r = taken_by rests (right_trap a site) (not-false (list_any (λ x. x == right_trap a site) traps) e) in
          (r.0, r.1, r.2, inr r.3)
    ]

-- a free site is a site of the card, and free
pub free_in : (a : Architecture) (rests : List TrapId) (site : ℕ) → Contains (free_sites a rests) site → (site < site_count a) × (is_free a rests site ≡ true)
free_in a rests site listed =
    let kept = contained_in_filter (is_free a rests) (range_with_len 0 (site_count a)) site listed in
    let within = contained_in_range 0 (site_count a) site kept.0 in
    (omega (arith, within.1), kept.1)

-- the sites that aren't free
taken_sites : Architecture → List TrapId → List ℕ
taken_sites a rests = filter (λ s. not (is_free a rests s)) (range_with_len 0 (site_count a))

free_and_taken : (a : Architecture) (rests : List TrapId) → length (free_sites a rests) + length (taken_sites a rests) ≡ site_count a
unfolding taken_sites
free_and_taken a rests =
    length-filter_both (is_free a rests) (λ s. not (is_free a rests s)) (λ s. refl) (range_with_len 0 (site_count a)) ∙ length-range_with_len 0 (site_count a)

taken_distinct : (a : Architecture) (rests : List TrapId) → AllPairs (λ m n. m ≢ n) (taken_sites a rests)
unfolding taken_sites
taken_distinct a rests i j d before within e =
    let rises = AllPairs-filter (λ m n. m < n) (λ s. not (is_free a rests s)) (range_with_len 0 (site_count a)) (range_rises 0 (site_count a)) i j d before within in
    absurd (omega arith)

-- the site of a held gate
site_of_held : Architecture → List TrapId → PairOf → ℕ
site_of_held a rests p = site_at a (trap_of rests (cond (is_at_site a rests p.a) p.a p.b))

module _ (a : Architecture) (n : ℕ) (rests : List TrapId) (pairs : List PairOf) (pulse : IsPulse a n pairs) (cleared : AreCleared a n rests pairs) where
  -- a held gate's atom at a site is at the site of that gate
  site_is : (p : PairOf) (q site : ℕ) (t : TrapId) → Contains pairs p → IsHeld a rests p → IsOn p q → slice_get rests q ≡ Some t → IsTrapOf a site t.0 →
      site_of_held a rests p ≡ site
  unfolding site_of_held
  site_is p q site t listed h on there at =
      let mine : site_of_held a rests p ≡ site_at a (trap_of rests h.stayed) = ap (λ m. site_at a (trap_of rests m)) h.first in
      elim (one_of p h.stayed h.coming q h.both on) [
        | inl e ↦
            let same : trap_of rests h.stayed ≡ t = ap (trap_of rests) e ∙ trap_is rests q t there in
            mine ∙ ap (site_at a) same ∙ site_of_trap a site t at
        | inr e ↦
            let same : trap_of rests h.coming ≡ t = ap (trap_of rests) e ∙ trap_is rests q t there in
            let within : storage_count a ≤ (trap_of rests h.coming).0 = subst (λ (x : TrapId). storage_count a ≤ x.0) (sym same) (trap_above a site t.0 at) in
            let other : trap_of rests h.coming ≡ other_trap a (trap_of rests h.stayed) = coming_there a n rests pairs pulse cleared p listed h within in
            let its_site = site_at a (trap_of rests h.stayed) in
            let one : site_at a t ≡ its_site =
            ap (site_at a) (sym same ∙ other)
            ∙ site_of_trap a its_site (other_trap a (trap_of rests h.stayed)) (other_at a its_site (trap_of rests h.stayed) (stayed_at a n rests pairs pulse cleared p h)) in
            mine ∙ sym one ∙ site_of_trap a site t at
      ]

  -- each site that isn't free is that of a held gate
  taken_by_held : (site : ℕ) → Contains (taken_sites a rests) site → Contains (map (site_of_held a rests) (held_gates a rests pairs)) site
  unfolding taken_sites
  taken_by_held site listed =
      let kept = contained_in_filter (λ s. not (is_free a rests s)) (range_with_len 0 (site_count a)) site listed in
      let atom = atom_at_taken a rests site (not-true (is_free a rests site) kept.1) in
      let q = atom.0 in
      let t = atom.1 in
      let pair = cleared.of_pairs q t atom.2 (trap_above a site t.0 atom.3) in
      let p = pair.0 in
      let within : storage_count a ≤ (trap_of rests q).0 = subst (λ (x : TrapId). storage_count a ≤ x.0) (sym (trap_is rests q t atom.2)) (trap_above a site t.0 atom.3) in
      let held = held_from a rests p q pair.2 within in
      let in_held : Contains (held_gates a rests pairs) p = contains_filter (is_held a rests) pairs p pair.1 held in
      subst (Contains (map (site_of_held a rests) (held_gates a rests pairs))) (site_is p q site t pair.1 (held_is a rests p held) pair.2 atom.2 atom.3)
      (contains_map (site_of_held a rests) (held_gates a rests pairs) p in_held)

  -- there is a free site for each new gate
  pub enough_free : length (new_gates a rests pairs) ≤ length (free_sites a rests)
  enough_free =
      let taken : length (taken_sites a rests) ≤ length (map (site_of_held a rests) (held_gates a rests pairs)) =
      no_more_distinct (taken_sites a rests) (map (site_of_held a rests) (held_gates a rests pairs)) (taken_distinct a rests) taken_by_held in
      let mapped : length (map (site_of_held a rests) (held_gates a rests pairs)) ≡ length (held_gates a rests pairs) = length-map (held_gates a rests pairs) (site_of_held a rests) in
      let few = pulse.few in
      omega (arith, free_and_taken a rests, new_and_held a rests pairs)
