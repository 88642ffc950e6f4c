-- How the atoms of a pulse leave the sites: some stay with a kept gate, and the others find empty storage traps.
use Rattle.std.proofs.Common.{◌≡◌, ◌≢◌, ℕ, ◌<◌, ◌≤◌, ◌⊎◌, inl, inr, not, List, Some, length, map, refl, sym, ap, ◌∙◌, subst, arith, slice_get}
use Rattle.std.proofs.lemmas.List.{length-map}
use Rattle.std.specs.List.{AllPairs, Contains}
use Rattle.std.proofs.lemmas.List.Elements.{All-contains}
use Rattle.std.proofs.lemmas.List.Kept.{AllPairs-filter}
use Rattle.std.proofs.lemmas.Option.{slice_get_within}
use Rattle.zac_arch.specs.Architecture.{Architecture, IsTrapOf, storage_count}
use Rattle.zac_arch.specs.Rules.{KeepsRules}
use Rattle.zac_arch.specs.declared.place.TrapId.{TrapId}
use Rattle.zac_arch.proofs.Geometry.{trap_count_is}
use Rattle.zac_gates.specs.declared.circuit.Op.{Op}
use Rattle.zac_group.specs.Moves.{IsBetweenKinds}
use Rattle.zac_group.specs.declared.shift.Shift.{Shift}
use Rattle.zac_place.specs.Placing.{IsPlacing}
use Rattle.zac_place.specs.Returns.{IsEntangling, trap_in}
use Rattle.zac_reuse.specs.Keeping.{IsKeeping}
use Rattle.zac_world.specs.Places.{empty_storage}
use Rattle.zair_form.specs.declared.step.PairOf.{PairOf}
use Rattle.zac_plan.specs.Plan.{after_shifts, held_gates, is_held, leaving, pairs_at, places, qubits_of, shifts_to, stays, trap_of}
use Rattle.zac_plan.specs.Seats.{AreCleared, AreSeated, CanMake, CanReturn, IsInPair, IsPulse, IsSeated}
use Rattle.zac_plan.proofs.Distinct.{one_pair, qubit_below, qubit_listed, qubit_of_pair, qubits_differ}
use Rattle.zac_plan.proofs.Lists.{all_from_contains, contained_in_filter, contained_in_map, contains_filter, contains_map, pairs_map}
use Rattle.zac_plan.proofs.KeptGates.{ArePairNumbers, held_at, held_qubit, is_shared, numbers_differ, shared_stays}
use Rattle.zac_plan.proofs.Phases.{after_shifts-other}
use Rattle.zac_plan.proofs.Resting.{length-after_shifts, phase_of, rests_there, trap_in_is, trap_is, well_after}
use Rattle.zac_plan.proofs.Room.{IsAtSite, IsEmptyStorage, differ_within, empty_stored, room}
use Rattle.zac_plan.proofs.Seated.{one_at_site, seat_of, seated_alike, seated_too, site_above, site_of}
use Rattle.zac_plan.proofs.Shifting.{can_shift_to, is_shift_to, shift_qubit, shift_trap, shifted_or_not}
use Rattle.zac_plan.proofs.Staying.{IsOn, StaysWith, leaves_or_stays, one_new, one_of_number, one_old}

module _ (a : Architecture) (rules : KeepsRules a) (n : ℕ) (fit : n ≤ storage_count a) (ops : List Op) (rests : List TrapId)
    (before pulse : List ℕ) (kept : List (ℕ × ℕ)) (keeping : IsKeeping ops before pulse kept)
    (here : IsPulse a n (pairs_at ops before)) (next : IsPulse a n (pairs_at ops pulse)) (seats : AreSeated a n rests (pairs_at ops before)) where
  -- a leaving qubit is one of a pair of the pulse before
  leaving_in_pair : (q : ℕ) → Contains (leaving ops (pairs_at ops before) kept) q → IsInPair (pairs_at ops before) q
  leaving_in_pair q listed =
      qubit_of_pair (pairs_at ops before) q (contained_in_filter (λ r. not (stays ops kept r)) (qubits_of (pairs_at ops before)) q listed).0

  -- so it rests at a site
  leaving_at_site : (q : ℕ) → Contains (leaving ops (pairs_at ops before) kept) q → IsAtSite a rests q
  leaving_at_site q listed =
      let of = leaving_in_pair q listed in
      let seat = seats.seated of.0 of.1 in
      let at = seat_of a rests seat.0 of.0 q seat.2 of.2 in
      record { trap = at.trap; rests = at.there; entangling = site_above a seat.0 at.trap.0 at.of_site }

  leaving_differ : AllPairs (λ q r. q ≢ r) (leaving ops (pairs_at ops before) kept)
  leaving_differ = AllPairs-filter (λ q r. q ≢ r) (λ r. not (stays ops kept r)) (qubits_of (pairs_at ops before)) (qubits_differ a n (pairs_at ops before) here)

  leaving_within : (q : ℕ) → Contains (leaving ops (pairs_at ops before) kept) q → q < length rests
  leaving_within q listed = let at = leaving_at_site q listed in slice_get_within rests q at.trap at.rests

  leaving_entangling : (q : ℕ) → Contains (leaving ops (pairs_at ops before) kept) q → IsEntangling (places a rests) q
  leaving_entangling q listed =
      let at = leaving_at_site q listed in
      let in_card = seats.well.in_card q at.trap at.rests in
      let is : trap_in (places a rests) q ≡ at.trap.0 = trap_in_is a rests q ∙ ap (λ (x : TrapId). x.0) (trap_is rests q at.trap at.rests) in
      record {
        exists = omega (arith, leaving_within q listed, length-map rests (λ (t : TrapId). t.0));
        from = omega (arith, at.entangling);
        below = omega arith;
      }

  -- a next pair on a qubit that stays is that of its kept pair
  kept_with : (q : ℕ) → StaysWith ops before pulse kept q → (p : PairOf) → Contains (pairs_at ops pulse) p → IsOn p q → (gates : ℕ × ℕ) × Contains kept gates × (gates.1 ≡ p.op)
  kept_with q with p listed on =
      let one = one_pair a n (pairs_at ops pulse) next with.new.pair p q with.new.listed listed with.new.on on in
      (with.gates, with.listed, sym with.new.number ∙ ap (λ (x : PairOf). x.op) one)

  module _ (traps : List ℕ) (placing : IsPlacing (empty_storage (places a rests)) (length (leaving ops (pairs_at ops before) kept)) traps) where
    target_empty : (t : ℕ) → Contains traps t → IsEmptyStorage a rests t
    target_empty t listed = empty_stored a rests t (All-contains (Contains (empty_storage (places a rests))) traps t placing.offers listed)

    can_make : CanMake rests (shifts_to rests (leaving ops (pairs_at ops before) kept) traps)
    can_make = can_shift_to rests (leaving ops (pairs_at ops before) kept) traps leaving_differ placing.distinct leaving_within (λ t listed. (target_empty t listed).empty)

    -- a leaving qubit goes from an entangling trap to a storage trap
    homewards : (s : Shift) → Contains (shifts_to rests (leaving ops (pairs_at ops before) kept) traps) s → IsBetweenKinds a s
    homewards s listed =
        let qs : List ℕ = leaving ops (pairs_at ops before) kept in
        let at = leaving_at_site s.q (shift_qubit rests qs traps s listed) in
        let from : s.from ≡ at.trap = (is_shift_to rests qs traps s listed).from ∙ trap_is rests s.q at.trap at.rests in
        let number : at.trap.0 ≡ s.from.0 = ap (λ (x : TrapId). x.0) (sym from) in
        let in_card = seats.well.in_card s.q at.trap at.rests in
        let stored = (target_empty s.to.0 (shift_trap rests qs traps s listed)).stored in
        inr ((omega (arith, at.entangling), omega arith), stored)

    -- what rests at a site after the returns is where it was, with a kept pair
    site_stays : (q : ℕ) (t : TrapId) → slice_get (after_shifts rests (shifts_to rests (leaving ops (pairs_at ops before) kept) traps)) q ≡ Some t → storage_count a ≤ t.0 →
        StaysWith ops before pulse kept q × (slice_get rests q ≡ Some t)
    site_stays q t at above =
        let qs : List ℕ = leaving ops (pairs_at ops before) kept in
        elim (shifted_or_not rests qs traps can_make placing.each_row q t at) [
          | inl moved ↦ absurd (omega (arith, (target_empty t.0 moved.1).stored))
          | inr still ↦ elim (seats.others q t still.1) [
            | inl in_pair ↦ elim (leaves_or_stays ops before pulse kept keeping q in_pair) [
              | inl leaves ↦ absurd (still.0 leaves)
              | inr with ↦ (with, still.1)
            ]
            | inr stored ↦ absurd (omega arith)
          ]
        ]

    -- two atoms at one site stay with kept pairs of one old gate, so with one kept pair
    one_next : (q r site : ℕ) (t u : TrapId) (first : StaysWith ops before pulse kept q) (second : StaysWith ops before pulse kept r) → slice_get rests q ≡ Some t →
        slice_get rests r ≡ Some u → IsTrapOf a site t.0 → IsTrapOf a site u.0 → first.new.pair ≡ second.new.pair
    one_next q r site t u first second at_q at_r of_t of_u =
        let one = one_at_site a n rests (pairs_at ops before) here seats first.old.pair second.old.pair site first.old.listed second.old.listed
        (site_of a n rests (pairs_at ops before) here seats first.old.pair q site t first.old.listed first.old.on at_q of_t)
        (site_of a n rests (pairs_at ops before) here seats second.old.pair r site u second.old.listed second.old.on at_r of_u) in
        let old : first.gates.0 ≡ second.gates.0 = sym first.old.number ∙ ap (λ (x : PairOf). x.op) one ∙ second.old.number in
        let new = one_old ops before pulse kept keeping first.gates second.gates first.listed second.listed old in
        one_of_number ops pulse pulse first.new.pair second.new.pair first.new.listed second.new.listed (first.new.number ∙ new ∙ sym second.new.number)

    -- two atoms of one next pair at sites stay with kept pairs of one new gate, so they were of one old one
    one_before : (p : PairOf) → Contains (pairs_at ops pulse) p → (first : StaysWith ops before pulse kept p.a) (second : StaysWith ops before pulse kept p.b) →
        first.old.pair ≡ second.old.pair
    one_before p listed first second =
        let is_first : first.new.pair ≡ p = one_pair a n (pairs_at ops pulse) next first.new.pair p p.a first.new.listed listed first.new.on (inl refl) in
        let is_second : second.new.pair ≡ p = one_pair a n (pairs_at ops pulse) next second.new.pair p p.b second.new.listed listed second.new.on (inr refl) in
        let new : first.gates.1 ≡ second.gates.1 = sym first.new.number ∙ ap (λ (x : PairOf). x.op) (is_first ∙ sym is_second) ∙ second.new.number in
        let old = one_new ops before pulse kept keeping first.gates second.gates first.listed second.listed new in
        one_of_number ops before before first.old.pair second.old.pair first.old.listed second.old.listed (first.old.number ∙ old ∙ sym second.old.number)

    still_seated : (p : PairOf) (t u : TrapId) → Contains (pairs_at ops pulse) p →
        slice_get (after_shifts rests (shifts_to rests (leaving ops (pairs_at ops before) kept) traps)) p.a ≡ Some t →
        slice_get (after_shifts rests (shifts_to rests (leaving ops (pairs_at ops before) kept) traps)) p.b ≡ Some u →
        storage_count a ≤ t.0 → storage_count a ≤ u.0 → (site : ℕ) × IsSeated a (after_shifts rests (shifts_to rests (leaving ops (pairs_at ops before) kept) traps)) site p
    still_seated p t u listed at_a at_b above_t above_u =
        let after : List TrapId = after_shifts rests (shifts_to rests (leaving ops (pairs_at ops before) kept) traps) in
        let first = site_stays p.a t at_a above_t in
        let second = site_stays p.b u at_b above_u in
        let old = first.0.old.pair in
        let seat = seats.seated old first.0.old.listed in
        let one = one_before p listed first.0 second.0 in
        let on_b : (old.a ≡ p.b) ⊎ (old.b ≡ p.b) = subst (λ (x : PairOf). (x.a ≡ p.b) ⊎ (x.b ≡ p.b)) (sym one) second.0.old.on in
        (seat.0, seated_alike a rests after seat.0 p (seated_too a rests seat.0 old p (next.each p listed).2 seat.2 first.0.old.on on_b) (at_a ∙ sym first.1) (at_b ∙ sym second.1))

    -- the new gate of a kept pair is held, since the qubit that it shares with the old one stays
    kept_is_held : ArePairNumbers ops before → ArePairNumbers ops pulse → (gates : ℕ × ℕ) → Contains kept gates →
        (p : PairOf) × Contains (held_gates a (after_shifts rests (shifts_to rests (leaving ops (pairs_at ops before) kept) traps)) (pairs_at ops pulse)) p × (p.op ≡ gates.1)
    kept_is_held olds news gates listed =
        let qs : List ℕ = leaving ops (pairs_at ops before) kept in
        let after : List TrapId = after_shifts rests (shifts_to rests qs traps) in
        let shared = is_shared ops before pulse kept keeping olds news gates listed in
        let old = shared.old.pair in
        let seat = seats.seated old shared.old.listed in
        let at = seat_of a rests seat.0 old shared.qubit seat.2 shared.old.on in
        let still = after_shifts-other rests (shifts_to rests qs traps) shared.qubit
        (λ s moves e. shared_stays ops before pulse kept gates listed shared (subst (Contains qs) e (shift_qubit rests qs traps s moves))) in
        let held = held_at a after shared.new.pair shared.qubit at.trap shared.new.on (still ∙ at.there) (site_above a seat.0 at.trap.0 at.of_site) in
        (shared.new.pair, contains_filter (is_held a after) (pairs_at ops pulse) shared.new.pair shared.new.listed held, shared.new.number)

    -- and a held gate is that of a kept pair
    held_is_kept : (p : PairOf) → Contains (held_gates a (after_shifts rests (shifts_to rests (leaving ops (pairs_at ops before) kept) traps)) (pairs_at ops pulse)) p →
        (gates : ℕ × ℕ) × Contains kept gates × (gates.1 ≡ p.op)
    held_is_kept p listed =
        let after : List TrapId = after_shifts rests (shifts_to rests (leaving ops (pairs_at ops before) kept) traps) in
        let is = contained_in_filter (is_held a after) (pairs_at ops pulse) p listed in
        let at = held_qubit a after p is.1 in
        let below = qubit_below a n (pairs_at ops pulse) next at.qubit (qubit_listed (pairs_at ops pulse) at.qubit (p, is.0, at.on)) in
        let there = rests_there after at.qubit (omega (arith, below, seats.well.long, length-after_shifts rests (shifts_to rests (leaving ops (pairs_at ops before) kept) traps))) in
        kept_with at.qubit (site_stays at.qubit (trap_of after at.qubit) there at.above).0 p is.0 at.on

    same_size : ArePairNumbers ops before → ArePairNumbers ops pulse →
        length (held_gates a (after_shifts rests (shifts_to rests (leaving ops (pairs_at ops before) kept) traps)) (pairs_at ops pulse)) ≡ length kept
    same_size olds news =
        let after : List TrapId = after_shifts rests (shifts_to rests (leaving ops (pairs_at ops before) kept) traps) in
        let held : List PairOf = held_gates a after (pairs_at ops pulse) in
        let number : PairOf → ℕ = λ p. p.op in
        let new : ℕ × ℕ → ℕ = λ k. k.1 in
        let held_differ : AllPairs (λ p r. p ≢ r) (map number held) =
        pairs_map (λ m k. m ≢ k) number held (AllPairs-filter (λ (p r : PairOf). p.op ≢ r.op) (is_held a after) (pairs_at ops pulse) (numbers_differ a n ops pulse next)) in
        let kept_differ : AllPairs (λ p r. p ≢ r) (map new kept) =
        pairs_map (λ m k. m ≢ k) new kept (λ i j d less within. (keeping.no_gate_twice i j d less within).1) in
        let most = differ_within (map number held) (map new kept) held_differ
        (λ m listed.
        let behind = contained_in_map number held m listed in
        let with = held_is_kept behind.0 behind.1 in
        subst (Contains (map new kept)) (with.2 ∙ behind.2) (contains_map new kept with.0 with.1)) in
        let least = differ_within (map new kept) (map number held) kept_differ
        (λ m listed.
        let behind = contained_in_map new kept m listed in
        let gate = kept_is_held olds news behind.0 behind.1 in
        subst (Contains (map number held)) (gate.2 ∙ behind.2) (contains_map number held gate.0 gate.1)) in
        omega (arith, most, least, length-map held number, length-map kept new)

  pub can_return : CanReturn a ops rests (pairs_at ops before) kept
  can_return = record {
    at_sites = all_from_contains (IsEntangling (places a rests)) (leaving ops (pairs_at ops before) kept) leaving_entangling;
    few = room a n rests seats.well fit (leaving ops (pairs_at ops before) kept) leaving_differ leaving_at_site;
    make = can_make;
    phase = λ traps placing.
        phase_of rests (shifts_to rests (leaving ops (pairs_at ops before) kept) traps) (can_make traps placing) a seats.well.apart
        (all_from_contains (IsBetweenKinds a) (shifts_to rests (leaving ops (pairs_at ops before) kept) traps) (homewards traps placing));
  }

  pub cleared : (traps : List ℕ) → IsPlacing (empty_storage (places a rests)) (length (leaving ops (pairs_at ops before) kept)) traps →
      AreCleared a n (after_shifts rests (shifts_to rests (leaving ops (pairs_at ops before) kept) traps)) (pairs_at ops pulse)
  cleared traps placing = record {
    well = well_after rests (shifts_to rests (leaving ops (pairs_at ops before) kept) traps) (can_make traps placing) a n seats.well
        (λ s listed.
        let stored = (target_empty traps placing s.to.0 (shift_trap rests (leaving ops (pairs_at ops before) kept) traps s listed)).stored in
        omega (arith, trap_count_is a rules));
    of_pairs = λ q t at above. let with = (site_stays traps placing q t at above).0 in (with.new.pair, with.new.listed, with.new.on);
    together = λ q r site t u at_q at_r of_t of_u.
        let first = site_stays traps placing q t at_q (site_above a site t.0 of_t) in
        let second = site_stays traps placing r u at_r (site_above a site u.0 of_u) in
        let one = one_next traps placing q r site t u first.0 second.0 first.1 second.1 of_t of_u in
        let p = first.0.new.pair in
        (p, first.0.new.listed, first.0.new.on, subst (λ (x : PairOf). (x.a ≡ r) ⊎ (x.b ≡ r)) (sym one) second.0.new.on);
    whole = still_seated traps placing;
  }

  -- as many gates are held as were kept, where the numbers of both pulses are those of pairs
  pub held_are_kept : ArePairNumbers ops before → ArePairNumbers ops pulse → (traps : List ℕ) → IsPlacing (empty_storage (places a rests)) (length (leaving ops (pairs_at ops before) kept)) traps →
      length (held_gates a (after_shifts rests (shifts_to rests (leaving ops (pairs_at ops before) kept) traps)) (pairs_at ops pulse)) ≡ length kept
  held_are_kept olds news traps placing = same_size traps placing olds news
