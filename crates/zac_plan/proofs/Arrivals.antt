-- What the calls that bring a pulse's atoms together ask for, and how many moves there are.
use Rattle.std.proofs.Common.{◌≡◌, ◌==◌, ℕ, ◌*◌, ◌<◌, ◌≤◌, inl, inr, Bool, true, false, cond, not, List, [], ◌∷◌, ◌++◌, length, map, refl, sym, ap, ◌∙◌, subst, arith}
use Rattle.std.specs.List.{All, AllPairs, Contains, flat_map, range_with_len}
use Rattle.std.proofs.lemmas.List.{length-append, length-map}
use Rattle.std.proofs.lemmas.List.Elements.{All-contains, All-filter, All-same, All-weaker}
use Rattle.std.proofs.lemmas.List.Filters.{length-filter_both}
use Rattle.std.proofs.lemmas.List.Kept.{AllPairs-filter}
use Rattle.zac_arch.specs.Architecture.{Architecture, site_count, trap_count}
use Rattle.zac_arch.specs.declared.place.SiteId.{SiteId}
use Rattle.zac_arch.specs.declared.place.TrapId.{TrapId}
use Rattle.zac_group.specs.Groups.{IsPhase}
use Rattle.zac_group.specs.Moves.{IsBetweenKinds}
use Rattle.zac_group.specs.declared.shift.Shift.{Shift}
use Rattle.zac_place.specs.Placing.{IsLeastPlacing, IsPlacing}
use Rattle.zac_place.specs.Sites.{AreStored, site_cost}
use Rattle.zac_world.specs.Places.{Places}
use Rattle.zair_form.specs.declared.step.PairOf.{PairOf}
use Rattle.zac_plan.specs.Plan.{AreGateSites, arrivals, completing, ends_of, free_sites, held_gates, is_at_site, is_free, is_held, move_unless_there, new_gates, other_trap, places, shift_to, to_sites, trap_of}
use Rattle.zac_plan.specs.Seats.{CanArrive, CanMake, HasQubitsBelow, rests_in}
use Rattle.zac_plan.proofs.Lists.{all_from_contains, contained_in_filter, contained_in_range, contains_map, pairs_cons, pairs_head, pairs_none, pairs_tail, range_rises}
use Rattle.zac_plan.proofs.Worlds.{length-rests_in, places_of_world}

-- what holds of the pairs of a map, of the items
pairs_unmap : {X Y : Type 0} (R : Y → Y → Type 0) (f : X → Y) (xs : List X) → AllPairs R (map f xs) → AllPairs (λ x y. R (f x) (f y)) xs
pairs_unmap {X} R f [] h = pairs_none (λ (x y : X). R (f x) (f y))
pairs_unmap {X} R f (x ∷ xs) h =
    pairs_cons (λ (u v : X). R (f u) (f v)) x xs (λ y later. pairs_head R (f x) (map f xs) h (f y) (contains_map f xs y later))
    (pairs_unmap R f xs (pairs_tail R (f x) (map f xs) h))

-- a free site is one of the card
free_below : (a : Architecture) (rests : List TrapId) (site : ℕ) → Contains (free_sites a rests) site → site < site_count a
free_below a rests site free =
    omega (arith, (contained_in_range 0 (site_count a) site (contained_in_filter (is_free a rests) (range_with_len 0 (site_count a)) site free).0).1)

module _ (a : Architecture) (rests : List TrapId) (free : List SiteId) (free_is : map (λ s. s.0) free ≡ free_sites a rests) where
  -- the free sites rise
  pub free_rise : AllPairs (λ s t. s.0 < t.0) free
  free_rise =
      pairs_unmap (λ (i j : ℕ). i < j) (λ (s : SiteId). s.0) free
      (subst (AllPairs (λ (i j : ℕ). i < j)) (sym free_is)
      (AllPairs-filter (λ (i j : ℕ). i < j) (is_free a rests) (range_with_len 0 (site_count a)) (range_rises 0 (site_count a))))

  -- and are sites of the card
  pub free_in_card : All (λ s. s.0 < site_count a) free
  free_in_card =
      all_from_contains (λ (s : SiteId). s.0 < site_count a) free
      (λ s in_free. free_below a rests s.0 (subst (λ (l : List ℕ). Contains l s.0) free_is (contains_map (λ (t : SiteId). t.0) free s in_free)))

  -- so are those that the gates take
  pub taken_in_card : (rows : ℕ) (sites : List ℕ) → IsPlacing (map (λ s. s.0) free) rows sites → All (λ s. s < site_count a) sites
  taken_in_card rows sites placing =
      all_from_contains (λ (s : ℕ). s < site_count a) sites
      (λ s in_sites. free_below a rests s (subst (λ (l : List ℕ). Contains l s) free_is (All-contains (Contains (map (λ (t : SiteId). t.0) free)) sites s placing.offers in_sites)))

  module _ (world : Places) (world_is : places a rests ≡ world) (pairs new : List PairOf) (new_is : new ≡ new_gates a rests pairs) (gates : List (ℕ × ℕ)) (gates_are : gates ≡ ends_of new)
      (sites : List ℕ) where
    rows_are : length gates ≡ length (new_gates a rests pairs)
    rows_are = ap (λ (l : List (ℕ × ℕ)). length l) gates_are ∙ length-map new (λ (p : PairOf). (p.a, p.b)) ∙ ap (λ (l : List PairOf). length l) new_is

    -- the sites are a placing of the new gates
    placing_is : IsPlacing (map (λ s. s.0) free) (length gates) sites → IsPlacing (free_sites a rests) (length (new_gates a rests pairs)) sites
    placing_is placing =
        subst (λ n. IsPlacing (free_sites a rests) n sites) rows_are (subst (λ (l : List ℕ). IsPlacing l (length gates) sites) free_is placing)

    -- and a least one
    pub least_is : IsLeastPlacing (site_cost world gates) (map (λ s. s.0) free) (length gates) sites → AreGateSites a rests pairs sites
    least_is least =
        let ends : gates ≡ ends_of (new_gates a rests pairs) = gates_are ∙ ap ends_of new_is in
        subst (λ (g : List (ℕ × ℕ)). IsLeastPlacing (site_cost (places a rests) g) (free_sites a rests) (length (new_gates a rests pairs)) sites) ends
        (subst (λ (w : Places). IsLeastPlacing (site_cost w gates) (free_sites a rests) (length (new_gates a rests pairs)) sites) (sym world_is)
        (subst (λ n. IsLeastPlacing (site_cost world gates) (free_sites a rests) n sites) rows_are
        (subst (λ (l : List ℕ). IsLeastPlacing (site_cost world gates) l (length gates) sites) free_is least)))

-- the new gates are some of the gates
pub new_below : (a : Architecture) (world : Places) (pairs new : List PairOf) → new ≡ new_gates a (rests_in world) pairs → All (HasQubitsBelow (length (rests_in world))) pairs →
    All (HasQubitsBelow (length world.traps)) new
new_below a world pairs new new_is below =
    All-same (HasQubitsBelow (length world.traps)) new (new_gates a (rests_in world) pairs) new_is
    (subst (λ n. All (HasQubitsBelow n) (new_gates a (rests_in world) pairs)) (length-rests_in world)
    (All-filter (λ (p : PairOf). not (is_held a (rests_in world) p)) (HasQubitsBelow (length (rests_in world))) pairs below))

-- their atoms are in storage
pub new_stored : (a : Architecture) (world : Places) (pairs new : List PairOf) (gates : List (ℕ × ℕ)) → world.architecture ≡ a → new ≡ new_gates a (rests_in world) pairs →
    gates ≡ ends_of new → All (AreStored (places a (rests_in world))) (ends_of (new_gates a (rests_in world) pairs)) → All (AreStored world) gates
new_stored a world pairs new gates its_card new_is gates_are stored =
    All-same (AreStored world) gates (ends_of (new_gates a (rests_in world) pairs)) (gates_are ∙ ap ends_of new_is)
    (subst (λ (w : Places). All (AreStored w) (ends_of (new_gates a (rests_in world) pairs))) (places_of_world a world its_card) stored)

-- the moves that are listed
moves_are : (a : Architecture) (rests : List TrapId) (pairs new : List PairOf) (sites : List ℕ) (completed now : List Shift) → new ≡ new_gates a rests pairs →
    completed ≡ flat_map (completing a rests) (held_gates a rests pairs) → now ≡ completed ++ to_sites a rests new sites → now ≡ arrivals a rests pairs sites
moves_are a rests pairs new sites completed now new_is completed_is now_is =
    now_is
    ∙ ap (λ (l : List PairOf). completed ++ to_sites a rests l sites) new_is
    ∙ ap (λ (l : List Shift). l ++ to_sites a rests (new_gates a rests pairs) sites) completed_is

-- they end in traps of the card
pub targets_in_card : (a : Architecture) (shifts : List Shift) → IsPhase a shifts → All (λ s. s.to.0 < trap_count a) shifts
targets_in_card a shifts phase =
    All-weaker (IsBetweenKinds a) (λ (s : Shift). s.to.0 < trap_count a)
    (λ s between. elim between [ inl out ↦ out.1.1 | inr back ↦ omega (arith, back.0.0, back.0.1, back.1) ]) shifts phase.between

-- at most one move completes a gate
one_or_none : (rests : List TrapId) (q : ℕ) (t : TrapId) → length (move_unless_there rests q t) ≤ 1
one_or_none rests q t = by_case ((trap_of rests q).0 == t.0)
  where
    by_case : (b : Bool) → length (cond b [] (shift_to rests q t ∷ [])) ≤ 1
    by_case true = omega arith
    by_case false = omega arith

completing_one : (a : Architecture) (rests : List TrapId) (p : PairOf) → length (completing a rests p) ≤ 1
completing_one a rests p = by_case (is_at_site a rests p.a)
  where
    by_case : (b : Bool) → length (cond b (move_unless_there rests p.b (other_trap a (trap_of rests p.a))) (move_unless_there rests p.a (other_trap a (trap_of rests p.b)))) ≤ 1
    by_case true = one_or_none rests p.b (other_trap a (trap_of rests p.a))
    by_case false = one_or_none rests p.a (other_trap a (trap_of rests p.b))

completing_few : (a : Architecture) (rests : List TrapId) (pairs : List PairOf) → length (flat_map (completing a rests) pairs) ≤ length pairs
completing_few a rests [] = omega arith
completing_few a rests (p ∷ ps) =
    omega (arith, length-append (completing a rests p) (flat_map (completing a rests) ps), completing_one a rests p, completing_few a rests ps)

to_sites_few : (a : Architecture) (rests : List TrapId) (pairs : List PairOf) (sites : List ℕ) → length (to_sites a rests pairs sites) ≤ 2 * length pairs
to_sites_few a rests [] sites = omega arith
to_sites_few a rests (p ∷ ps) [] = omega arith
to_sites_few a rests (p ∷ ps) (s ∷ ss) = omega (arith, to_sites_few a rests ps ss)

-- there are at most two moves for a gate
pub arrivals_few : (a : Architecture) (rests : List TrapId) (pairs : List PairOf) (sites : List ℕ) → length (arrivals a rests pairs sites) ≤ 2 * length pairs
arrivals_few a rests pairs sites =
    omega (
      arith,
      length-append (flat_map (completing a rests) (held_gates a rests pairs)) (to_sites a rests (new_gates a rests pairs) sites),
      completing_few a rests (held_gates a rests pairs),
      to_sites_few a rests (new_gates a rests pairs) sites,
      length-filter_both (is_held a rests) (λ (p : PairOf). not (is_held a rests p)) (λ p. refl) pairs,
    )

-- The moves are those of the arrivals at these sites, and can be made together, as a phase; they are at most two for a gate.
pub record AreListed (a : Architecture) (rests : List TrapId) (pairs : List PairOf) (sites : List ℕ) (shifts : List Shift) : Type 0 where
  pub are : shifts ≡ arrivals a rests pairs sites
  pub make : CanMake rests shifts
  pub phase : IsPhase a shifts
  pub few : length shifts ≤ 2 * length pairs

-- so are they where the new gates take sites in that way: the lists that the calls read are those that the calls before gave
pub listed : (a : Architecture) (world : Places) → world.architecture ≡ a → (pairs : List PairOf) → CanArrive a (rests_in world) pairs →
    (free : List SiteId) → map (λ s. s.0) free ≡ free_sites a (rests_in world) →
    (new : List PairOf) → new ≡ new_gates a (rests_in world) pairs → (gates : List (ℕ × ℕ)) → gates ≡ ends_of new →
    (sites : List ℕ) → IsPlacing (map (λ s. s.0) free) (length gates) sites →
    (completed : List Shift) → completed ≡ flat_map (completing a (rests_in world)) (held_gates a (rests_in world) pairs) →
    (read : List PairOf) → read ≡ new → (taken : List ℕ) → taken ≡ sites →
    (shifts : List Shift) → shifts ≡ completed ++ to_sites a (rests_in world) read taken →
    AreListed a (rests_in world) pairs sites shifts
listed a world its_card pairs can free free_is new new_is gates gates_are sites placing completed completed_is read read_is taken taken_is shifts shifts_are =
    let rests = rests_in world in
    let right : IsPlacing (free_sites a rests) (length (new_gates a rests pairs)) sites =
    placing_is a rests free free_is world (places_of_world a world its_card) pairs new new_is gates gates_are sites placing in
    let are : shifts ≡ arrivals a rests pairs sites =
    moves_are a rests pairs read sites completed shifts (read_is ∙ new_is) completed_is (shifts_are ∙ ap (λ (l : List ℕ). completed ++ to_sites a rests read l) taken_is) in
    record {
      are = are;
      make = subst (CanMake rests) (sym are) (can.make sites right);
      phase = subst (IsPhase a) (sym are) (can.phase sites right);
      few = omega (arith, ap (λ (l : List Shift). length l) are, arrivals_few a rests pairs sites);
    }
