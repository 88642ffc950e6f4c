-- How the atoms of a pulse come together at the sites: held gates are completed, and new ones find free sites.
use Rattle.std.proofs.Common.{◌≡◌, ◌≢◌, ℕ, ◌<◌, ◌≤◌, inl, inr, true, false, not, List, Some, length, refl, sym, ap, ◌∙◌, subst, arith, slice_get}
use Rattle.std.specs.List.{All, AllPairs, Contains, flat_map}
use Rattle.std.proofs.lemmas.Bool.{both_ways, cases_Bool, cases_lt, not_from_false}
use Rattle.std.proofs.lemmas.List.{length-map}
use Rattle.std.proofs.lemmas.List.Elements.{All-contains, All-map, Contains-append_left, Contains-append_right}
use Rattle.std.proofs.lemmas.List.Kept.{AllPairs-filter}
use Rattle.zac_arch.specs.Architecture.{Architecture, IsTrapOf, left_trap, right_trap, site_count, storage_count, trap_count}
use Rattle.zac_arch.specs.Rules.{KeepsRules}
use Rattle.zac_arch.specs.declared.place.TrapId.{TrapId}
use Rattle.zac_group.specs.Moves.{IsBetweenKinds}
use Rattle.zac_group.specs.declared.shift.Shift.{Shift}
use Rattle.zac_place.specs.Placing.{IsPlacing}
use Rattle.zac_place.specs.Sites.{AreStored, IsStored, left_qubit, right_qubit}
use Rattle.zair_form.specs.declared.step.PairOf.{PairOf}
use Rattle.zair_state.specs.Legal.{IsPairOf}
use Rattle.zac_plan.specs.Plan.{after_shifts, arrivals, completing, ends_of, free_sites, held_gates, is_free, is_held, left, new_gates, other_trap, places, right, shift_to, to_sites, trap_of}
use Rattle.zac_plan.specs.Seats.{AreApart, AreCleared, AreSeated, CanArrive, CanMake, HasQubitsBelow, IsPulse, IsSeated}
use Rattle.zac_plan.proofs.Bringing.{bringing, brought, goes_left, goes_right, move_from, move_on, move_to, pairs_to_sites, sides, there_or_moved}
use Rattle.zac_plan.proofs.Completing.{completing_at, completing_atoms, completing_empty, completing_from, completing_of, completing_on, completing_stored, completing_targets, its_site}
use Rattle.zac_plan.proofs.Distinct.{apart_at, one_pair}
use Rattle.zac_plan.proofs.FreeSites.{enough_free, free_in, none_at_free}
use Rattle.zac_plan.proofs.Held.{IsOn, held_is, in_new, new_stored, on_below, on_first, on_second, pair_rests, stayed_at}
use Rattle.zac_plan.proofs.Joined.{contains_flat_map}
use Rattle.zac_plan.proofs.Lists.{all_from_contains, contained_in_append, contains_filter, pairs_append}
use Rattle.zac_plan.proofs.Phases.{after_shifts-other, after_shifts-there}
use Rattle.zac_plan.proofs.Pulse.{one_site_trap}
use Rattle.zac_plan.proofs.Resting.{moved_or_not, phase_of, trap_in_is, well_after}
use Rattle.zac_plan.proofs.SiteTraps.{other_at, sides_of, site_in, trap_above, trap_in_card}

-- the two qubits of a pair in the other order
swapped : (p : PairOf) (q r : ℕ) → IsPairOf p q r → IsPairOf p r q
swapped p q r (inl e) = inr e
swapped p q r (inr e) = inl e

differ_from : (p : PairOf) (q r : ℕ) → IsPairOf p q r → p.a ≢ p.b → q ≢ r
differ_from p q r (inl e) differ same = differ (e.0 ∙ same ∙ sym e.1)
differ_from p q r (inr e) differ same = differ (e.0 ∙ sym same ∙ sym e.1)

-- a pair with one qubit in the left trap of a site and one in the right trap is seated there
seat_from : (a : Architecture) (rests : List TrapId) (site : ℕ) (p : PairOf) (q r : ℕ) → IsPairOf p q r → slice_get rests q ≡ Some (left a site) →
    slice_get rests r ≡ Some (right a site) → IsSeated a rests site p
seat_from a rests site p q r (inl e) at_q at_r = inl (ap (slice_get rests) e.0 ∙ at_q, ap (slice_get rests) e.1 ∙ at_r)
seat_from a rests site p q r (inr e) at_q at_r = inr (ap (slice_get rests) e.0 ∙ at_r, ap (slice_get rests) e.1 ∙ at_q)

-- the same for a trap and the other trap of its site
seat_beside : (a : Architecture) (rests : List TrapId) (site : ℕ) (t : TrapId) (p : PairOf) (q r : ℕ) → IsTrapOf a site t.0 → IsPairOf p q r → slice_get rests q ≡ Some t →
    slice_get rests r ≡ Some (other_trap a t) → IsSeated a rests site p
seat_beside a rests site t p q r at both at_q at_r = elim (sides_of a site t at) [
  | inl e ↦ seat_from a rests site p q r both (at_q ∙ ap (λ (x : TrapId). Some x) e.0) (at_r ∙ ap (λ (x : TrapId). Some x) e.1)
  | inr e ↦ seat_from a rests site p r q (swapped p q r both) (at_r ∙ ap (λ (x : TrapId). Some x) e.1) (at_q ∙ ap (λ (x : TrapId). Some x) e.0)
]

-- an arrival takes an atom of a pair from storage to an empty trap of a site
record IsArriving (a : Architecture) (rests : List TrapId) (pairs : List PairOf) (s : Shift) : Type 0 where
  pair : PairOf
  listed : Contains pairs pair
  on : IsOn pair s.q
  from : s.from ≡ trap_of rests s.q
  stored : (trap_of rests s.q).0 < storage_count a
  site : ℕ
  site_within : site < site_count a
  at : IsTrapOf a site s.to.0
  empty : (k : ℕ) → slice_get rests k ≢ Some s.to

module _ (a : Architecture) (rules : KeepsRules a) (n : ℕ) (rests : List TrapId) (pairs : List PairOf) (pulse : IsPulse a n pairs) (cleared : AreCleared a n rests pairs) where
  below : All (HasQubitsBelow (length rests)) pairs
  below = all_from_contains (HasQubitsBelow (length rests)) pairs
      (λ p listed.
      let each = pulse.each p listed in
      let long : length rests ≡ n = cleared.well.long in
      (omega arith, omega arith))

  -- both qubits of a new gate are in storage
  stored : (p : PairOf) (q : ℕ) → Contains (new_gates a rests pairs) p → IsOn p q → IsStored (places a rests) q
  stored p q listed on =
      let of = in_new a rests pairs p listed in
      let long : length rests ≡ n = cleared.well.long in
      let within : q < n = on_below a n pairs pulse p q of.0 on in
      let less : (trap_of rests q).0 < storage_count a = new_stored a rests p q of.1 on in
      record {
        exists = omega (arith, length-map rests (λ (t : TrapId). t.0));
        below = omega (arith, trap_in_is a rests q);
      }

  in_storage : All (AreStored (places a rests)) (ends_of (new_gates a rests pairs))
  in_storage =
      All-map (AreStored (places a rests)) (λ (p : PairOf). (p.a, p.b)) (new_gates a rests pairs)
      (all_from_contains (λ (p : PairOf). AreStored (places a rests) (p.a, p.b)) (new_gates a rests pairs)
      (λ p listed. (stored p p.a listed (inl refl), stored p p.b listed (inr refl))))

  module _ (sites : List ℕ) (placing : IsPlacing (free_sites a rests) (length (new_gates a rests pairs)) sites) where
    site_free : (site : ℕ) → Contains sites site → (site < site_count a) × (is_free a rests site ≡ true)
    site_free site listed = free_in a rests site (All-contains (Contains (free_sites a rests)) sites site placing.offers listed)

    of_new : (s : Shift) → Contains (to_sites a rests (new_gates a rests pairs) sites) s → IsArriving a rests pairs s
    of_new s listed =
        let b = bringing a rests (new_gates a rests pairs) sites s listed in
        let of = in_new a rests pairs b.pair b.of_pairs in
        let free = site_free b.site b.of_sites in
        let on = move_on a rests b.pair b.site s b.is in
        let at = move_to a rests b.pair b.site s b.is in
        record {
          pair = b.pair;
          listed = of.0;
          on = on;
          from = move_from a rests b.pair b.site s b.is;
          stored = new_stored a rests b.pair s.q of.1 on;
          site = b.site;
          site_within = free.0;
          at = at;
          empty = λ k there. none_at_free a rests b.site free.1 k s.to there at;
        }

    of_held : (s : Shift) → Contains (flat_map (completing a rests) (held_gates a rests pairs)) s → IsArriving a rests pairs s
    of_held s listed =
        let found = completing_of a rests pairs s listed in
        let p = found.0 in
        let c = found.1 in
        let stays = pair_rests a n rests pairs pulse cleared p c.held.stayed c.listed (on_first p c.held.stayed c.held.coming c.held.both) in
        record {
          pair = p;
          listed = c.listed;
          on = completing_on a n rests pairs pulse cleared p s c;
          from = completing_from a n rests pairs pulse cleared p s c;
          stored = completing_stored a n rests pairs pulse cleared p s c;
          site = its_site a rests p c.held;
          site_within = site_in a rules (trap_of rests c.held.stayed) c.held.at (cleared.well.in_card c.held.stayed (trap_of rests c.held.stayed) stays);
          at = completing_at a n rests pairs pulse cleared p s c;
          empty = completing_empty a n rests pairs pulse cleared p s c;
        }

    arriving : (s : Shift) → Contains (arrivals a rests pairs sites) s → IsArriving a rests pairs s
    arriving s listed = elim (contained_in_append (flat_map (completing a rests) (held_gates a rests pairs)) (to_sites a rests (new_gates a rests pairs) sites) s listed) [
      | inl first ↦ of_held s first
      | inr second ↦ of_new s second
    ]

    new_apart : AllPairs AreApart (new_gates a rests pairs)
    new_apart = AllPairs-filter AreApart (λ (p : PairOf). not (is_held a rests p)) pairs pulse.apart

    new_atoms : AllPairs (λ (s t : Shift). s.q ≢ t.q) (to_sites a rests (new_gates a rests pairs) sites)
    new_atoms =
        pairs_to_sites a rests (λ (s t : Shift). s.q ≢ t.q) (new_gates a rests pairs) sites new_apart placing.distinct
        (λ p site listed. differ_from p (left_qubit (places a rests) (p.a, p.b)) (right_qubit (places a rests) (p.a, p.b)) (sides a rests p) (pulse.each p (in_new a rests pairs p listed).0).2)
        (λ p p' site site' s s' apart differ is is' e. apart_at p p' s'.q apart (subst (IsOn p) e (move_on a rests p site s is)) (move_on a rests p' site' s' is'))

    new_targets : AllPairs (λ (s t : Shift). s.to ≢ t.to) (to_sites a rests (new_gates a rests pairs) sites)
    new_targets =
        pairs_to_sites a rests (λ (s t : Shift). s.to ≢ t.to) (new_gates a rests pairs) sites new_apart placing.distinct
        (λ p site listed e. let same : left_trap a site ≡ right_trap a site = ap (λ (x : TrapId). x.0) e in absurd (omega arith))
        (λ p p' site site' s s' apart differ is is' e.
        differ (one_site_trap a site site' s'.to.0 (subst (λ (t : TrapId). IsTrapOf a site t.0) e (move_to a rests p site s is)) (move_to a rests p' site' s' is')))

    -- the atoms and the targets of held gates and of new ones
    between_atoms : (s t : Shift) → Contains (flat_map (completing a rests) (held_gates a rests pairs)) s → Contains (to_sites a rests (new_gates a rests pairs) sites) t → s.q ≢ t.q
    between_atoms s t first second e =
        let found = completing_of a rests pairs s first in
        let c = found.1 in
        let b = bringing a rests (new_gates a rests pairs) sites t second in
        let of = in_new a rests pairs b.pair b.of_pairs in
        let same : found.0 ≡ b.pair =
        one_pair a n pairs pulse found.0 b.pair t.q c.listed of.0 (subst (IsOn found.0) e (completing_on a n rests pairs pulse cleared found.0 s c)) (move_on a rests b.pair b.site t b.is) in
        both_ways (is_held a rests b.pair) of.1 (subst (λ (p : PairOf). is_held a rests p ≡ true) same c.gate)

    between_targets : (s t : Shift) → Contains (flat_map (completing a rests) (held_gates a rests pairs)) s → Contains (to_sites a rests (new_gates a rests pairs) sites) t → s.to ≢ t.to
    between_targets s t first second e =
        let found = completing_of a rests pairs s first in
        let p = found.0 in
        let c = found.1 in
        let b = bringing a rests (new_gates a rests pairs) sites t second in
        let site = its_site a rests p c.held in
        let at : IsTrapOf a site t.to.0 = subst (λ (u : TrapId). IsTrapOf a site u.0) e (completing_at a n rests pairs pulse cleared p s c) in
        let one : site ≡ b.site = one_site_trap a site b.site t.to.0 at (move_to a rests b.pair b.site t b.is) in
        let stays = pair_rests a n rests pairs pulse cleared p c.held.stayed c.listed (on_first p c.held.stayed c.held.coming c.held.both) in
        none_at_free a rests b.site (site_free b.site b.of_sites).1 c.held.stayed (trap_of rests c.held.stayed) stays
        (subst (λ m. IsTrapOf a m (trap_of rests c.held.stayed).0) one (stayed_at a n rests pairs pulse cleared p c.held))

    pub can_make : CanMake rests (arrivals a rests pairs sites)
    can_make = record {
      each = λ s listed.
          let w = arriving s listed in
          record { rests = pair_rests a n rests pairs pulse cleared w.pair s.q w.listed w.on ∙ ap (λ (t : TrapId). Some t) (sym w.from); empty = w.empty };
      atoms = pairs_append (λ (s t : Shift). s.q ≢ t.q) (flat_map (completing a rests) (held_gates a rests pairs)) (to_sites a rests (new_gates a rests pairs) sites)
          (completing_atoms a n rests pairs pulse cleared) new_atoms between_atoms;
      targets = pairs_append (λ (s t : Shift). s.to ≢ t.to) (flat_map (completing a rests) (held_gates a rests pairs)) (to_sites a rests (new_gates a rests pairs) sites)
          (completing_targets a n rests pairs pulse cleared) new_targets between_targets;
    }

    target_in : (s : Shift) → Contains (arrivals a rests pairs sites) s → s.to.0 < trap_count a
    target_in s listed = let w = arriving s listed in trap_in_card a rules w.site s.to.0 w.site_within w.at

    between : All (IsBetweenKinds a) (arrivals a rests pairs sites)
    between = all_from_contains (IsBetweenKinds a) (arrivals a rests pairs sites)
        (λ s listed.
        let w = arriving s listed in
        let below : s.from.0 < storage_count a = subst (λ (t : TrapId). t.0 < storage_count a) (sym w.from) w.stored in
        inl (below, (trap_above a w.site s.to.0 w.at, target_in s listed)))

    -- an atom at a site stays, and one that arrives rests in its target
    stays_there : (q : ℕ) → storage_count a ≤ (trap_of rests q).0 → slice_get (after_shifts rests (arrivals a rests pairs sites)) q ≡ slice_get rests q
    stays_there q within =
        after_shifts-other rests (arrivals a rests pairs sites) q
        (λ s listed e.
        let w = arriving s listed in
        let less : (trap_of rests q).0 < storage_count a = subst (λ m. (trap_of rests m).0 < storage_count a) e w.stored in
        absurd (omega arith))

    arrived : (s : Shift) → Contains (arrivals a rests pairs sites) s → slice_get (after_shifts rests (arrivals a rests pairs sites)) s.q ≡ Some s.to
    arrived s listed = after_shifts-there rests (arrivals a rests pairs sites) s s.from can_make.atoms listed (can_make.each s listed).rests

    held_seat : (p : PairOf) → Contains pairs p → is_held a rests p ≡ true → (site : ℕ) × (site < site_count a) × IsSeated a (after_shifts rests (arrivals a rests pairs sites)) site p
    held_seat p listed gate =
        let h = held_is a rests p gate in
        let t = trap_of rests h.stayed in
        let site = its_site a rests p h in
        let at = stayed_at a n rests pairs pulse cleared p h in
        let stays = pair_rests a n rests pairs pulse cleared p h.stayed listed (on_first p h.stayed h.coming h.both) in
        let comes = pair_rests a n rests pairs pulse cleared p h.coming listed (on_second p h.stayed h.coming h.both) in
        let first = stays_there h.stayed h.at ∙ stays in
        let second : slice_get (after_shifts rests (arrivals a rests pairs sites)) h.coming ≡ Some (other_trap a t) =
        elim (there_or_moved rests h.coming (other_trap a t)) [
          | inl there ↦
              let within : storage_count a ≤ (trap_of rests h.coming).0 = subst (λ (u : TrapId). storage_count a ≤ u.0) (sym there) (trap_above a site (other_trap a t).0 (other_at a site t at)) in
              stays_there h.coming within ∙ comes ∙ ap (λ (u : TrapId). Some u) there
          | inr moves ↦
              let in_moves : Contains (completing a rests p) (shift_to rests h.coming (other_trap a t)) =
              subst (λ (l : List Shift). Contains l (shift_to rests h.coming (other_trap a t))) (sym h.moves) moves in
              let in_held : Contains (held_gates a rests pairs) p = contains_filter (is_held a rests) pairs p listed gate in
              arrived (shift_to rests h.coming (other_trap a t))
              (Contains-append_left (flat_map (completing a rests) (held_gates a rests pairs)) (to_sites a rests (new_gates a rests pairs) sites) (shift_to rests h.coming (other_trap a t))
              (contains_flat_map (completing a rests) (held_gates a rests pairs) p (shift_to rests h.coming (other_trap a t)) in_held in_moves))
        ] in
        (site, site_in a rules t h.at (cleared.well.in_card h.stayed t stays), seat_beside a (after_shifts rests (arrivals a rests pairs sites)) site t p h.stayed h.coming at h.both first second)

    new_seat : (p : PairOf) → Contains pairs p → is_held a rests p ≡ false → (site : ℕ) × (site < site_count a) × IsSeated a (after_shifts rests (arrivals a rests pairs sites)) site p
    new_seat p listed new =
        let in_new : Contains (new_gates a rests pairs) p = contains_filter (λ (x : PairOf). not (is_held a rests x)) pairs p listed (not_from_false (is_held a rests p) new) in
        let b = brought a rests (new_gates a rests pairs) sites placing.each_row p in_new in
        let among : (s : Shift) → Contains (to_sites a rests (new_gates a rests pairs) sites) s → Contains (arrivals a rests pairs sites) s =
        λ s in_moves. Contains-append_right (flat_map (completing a rests) (held_gates a rests pairs)) (to_sites a rests (new_gates a rests pairs) sites) s in_moves in (
          b.site,
          (site_free b.site b.of_sites).0,
          seat_from a (after_shifts rests (arrivals a rests pairs sites)) b.site p (left_qubit (places a rests) (p.a, p.b)) (right_qubit (places a rests) (p.a, p.b)) (sides a rests p)
              (arrived (goes_left a rests p b.site) (among (goes_left a rests p b.site) b.left_moves))
              (arrived (goes_right a rests p b.site) (among (goes_right a rests p b.site) b.right_moves)),
        )

    pub are_seated : AreSeated a n (after_shifts rests (arrivals a rests pairs sites)) pairs
    are_seated = record {
      well = well_after rests (arrivals a rests pairs sites) can_make a n cleared.well target_in;
      seated = λ p listed. elim (cases_Bool (is_held a rests p)) [
        | inl gate ↦ held_seat p listed gate
        | inr new ↦ new_seat p listed new
      ];
      others = λ q t there. elim (moved_or_not rests (arrivals a rests pairs sites) can_make q t there) [
        | inl moved ↦
            let w = arriving moved.0 moved.1 in
            inl (w.pair, w.listed, subst (IsOn w.pair) moved.2 w.on)
        | inr stays ↦ elim (cases_lt t.0 (storage_count a)) [
          | inl below ↦ inr below
          | inr within ↦ inl (cleared.of_pairs q t stays.1 within)
        ]
      ];
    }

module _ (a : Architecture) (rules : KeepsRules a) (n : ℕ) (fit : n ≤ storage_count a) (rests : List TrapId) (pairs : List PairOf)
    (pulse : IsPulse a n pairs) (cleared : AreCleared a n rests pairs) where
  pub can_arrive : CanArrive a rests pairs
  can_arrive = record {
    below = below a rules n rests pairs pulse cleared;
    in_storage = in_storage a rules n rests pairs pulse cleared;
    few = enough_free a n rests pairs pulse cleared;
    make = can_make a rules n rests pairs pulse cleared;
    phase = λ sites placing.
        phase_of rests (arrivals a rests pairs sites) (can_make a rules n rests pairs pulse cleared sites placing) a cleared.well.apart (between a rules n rests pairs pulse cleared sites placing);
  }

  pub seated : (sites : List ℕ) → IsPlacing (free_sites a rests) (length (new_gates a rests pairs)) sites →
      AreSeated a n (after_shifts rests (arrivals a rests pairs sites)) pairs
  seated sites placing = are_seated a rules n rests pairs pulse cleared sites placing
