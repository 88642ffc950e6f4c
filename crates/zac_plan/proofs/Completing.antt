-- The moves that complete held gates: each takes an atom from storage to an empty trap, beside the atom that has stayed.
use Rattle.std.proofs.Common.{◌≡◌, ◌≢◌, ℕ, ◌<◌, ◌≤◌, inl, inr, true, List, Some, sym, ap, ◌∙◌, subst, slice_get}
use Rattle.std.specs.List.{AllPairs, Contains, flat_map}
use Rattle.std.proofs.lemmas.Bool.{cases_lt}
use Rattle.std.proofs.lemmas.List.Kept.{AllPairs-filter}
use Rattle.std.proofs.lemmas.Option.{same_Some}
use Rattle.zac_arch.specs.Architecture.{Architecture, IsTrapOf, storage_count}
use Rattle.zac_arch.specs.declared.place.TrapId.{TrapId}
use Rattle.zac_group.specs.declared.shift.Shift.{Shift}
use Rattle.zair_form.specs.declared.step.PairOf.{PairOf}
use Rattle.zac_plan.specs.Plan.{completing, held_gates, is_held, other_trap, shift_to, site_at, trap_of}
use Rattle.zac_plan.specs.Seats.{AreApart, AreCleared, IsPulse}
use Rattle.zac_plan.proofs.Bringing.{moved, one_move}
use Rattle.zac_plan.proofs.Distinct.{one_pair}
use Rattle.zac_plan.proofs.Held.{IsHeld, IsOn, coming_there, held_is, in_held, on_first, on_second, one_of, pair_rests, stayed_at}
use Rattle.zac_plan.proofs.Joined.{contained_in_flat_map, pairs_flat_map}
use Rattle.zac_plan.proofs.Pulse.{one_site_trap}
use Rattle.zac_plan.proofs.SiteTraps.{other_at, other_differs}

-- the move completes the held gate
pub record IsCompleting (a : Architecture) (rests : List TrapId) (pairs : List PairOf) (p : PairOf) (s : Shift) : Type 0 where
  pub listed : Contains pairs p
  pub gate : is_held a rests p ≡ true
  pub held : IsHeld a rests p
  pub is : s ≡ shift_to rests held.coming (other_trap a (trap_of rests held.stayed))
  pub away : (trap_of rests held.coming).0 ≢ (other_trap a (trap_of rests held.stayed)).0

pub completes : (a : Architecture) (rests : List TrapId) (pairs : List PairOf) (p : PairOf) (s : Shift) → Contains (held_gates a rests pairs) p →
    Contains (completing a rests p) s → IsCompleting a rests pairs p s
completes a rests pairs p s listed in_moves =
    let of = in_held a rests pairs p listed in
    let held = held_is a rests p of.1 in
    let move = moved rests held.coming (other_trap a (trap_of rests held.stayed)) s (subst (λ (l : List Shift). Contains l s) held.moves in_moves) in
    record { listed = of.0; gate = of.1; held = held; is = move.0; away = move.1 }

pub completing_of : (a : Architecture) (rests : List TrapId) (pairs : List PairOf) (s : Shift) → Contains (flat_map (completing a rests) (held_gates a rests pairs)) s →
    (p : PairOf) × IsCompleting a rests pairs p s
completing_of a rests pairs s listed =
    let part = contained_in_flat_map (completing a rests) (held_gates a rests pairs) s listed in
    (part.0, completes a rests pairs part.0 s part.1 part.2)

-- the site of a held gate
abbrev pub its_site : (a : Architecture) (rests : List TrapId) (p : PairOf) → IsHeld a rests p → ℕ
its_site a rests p h = site_at a (trap_of rests h.stayed)

module _ (a : Architecture) (n : ℕ) (rests : List TrapId) (pairs : List PairOf) (pulse : IsPulse a n pairs) (cleared : AreCleared a n rests pairs) where
  -- two held gates at one site are one
  pub one_gate : (p p' : PairOf) → Contains pairs p → Contains pairs p' → (h : IsHeld a rests p) → (h' : IsHeld a rests p') → its_site a rests p h ≡ its_site a rests p' h' → p ≡ p'
  one_gate p p' listed listed' h h' same =
      let on = on_first p h.stayed h.coming h.both in
      let on' = on_first p' h'.stayed h'.coming h'.both in
      let at = stayed_at a n rests pairs pulse cleared p h in
      let at' = subst (λ s. IsTrapOf a s (trap_of rests h'.stayed).0) (sym same) (stayed_at a n rests pairs pulse cleared p' h') in
      let one = cleared.together h.stayed h'.stayed (its_site a rests p h) (trap_of rests h.stayed) (trap_of rests h'.stayed)
      (pair_rests a n rests pairs pulse cleared p h.stayed listed on) (pair_rests a n rests pairs pulse cleared p' h'.stayed listed' on') at at' in
      one_pair a n pairs pulse p one.0 h.stayed listed one.1 on one.2 ∙ one_pair a n pairs pulse one.0 p' h'.stayed one.1 listed' one.3 on'

  module _ (p : PairOf) (s : Shift) (c : IsCompleting a rests pairs p s) where
    pub completing_on : IsOn p s.q
    completing_on = subst (λ (x : Shift). IsOn p x.q) (sym c.is) (on_second p c.held.stayed c.held.coming c.held.both)

    pub completing_from : s.from ≡ trap_of rests s.q
    completing_from = ap (λ (x : Shift). x.from) c.is ∙ ap (λ (x : Shift). trap_of rests x.q) (sym c.is)

    pub completing_to : s.to ≡ other_trap a (trap_of rests c.held.stayed)
    completing_to = ap (λ (x : Shift). x.to) c.is

    -- the atom that comes rests in storage
    pub completing_stored : (trap_of rests s.q).0 < storage_count a
    completing_stored = elim (cases_lt (trap_of rests s.q).0 (storage_count a)) [
      | inl below ↦ below
      | inr within ↦
          let at : storage_count a ≤ (trap_of rests c.held.coming).0 = subst (λ (x : Shift). storage_count a ≤ (trap_of rests x.q).0) c.is within in
          absurd (c.away (ap (λ (x : TrapId). x.0) (coming_there a n rests pairs pulse cleared p c.listed c.held at)))
    ]

    -- and goes to a trap of the gate's site
    pub completing_at : IsTrapOf a (its_site a rests p c.held) s.to.0
    completing_at =
        subst (λ (t : TrapId). IsTrapOf a (its_site a rests p c.held) t.0) (sym completing_to)
        (other_at a (its_site a rests p c.held) (trap_of rests c.held.stayed) (stayed_at a n rests pairs pulse cleared p c.held))

    -- in which no atom rests
    pub completing_empty : (k : ℕ) → slice_get rests k ≢ Some s.to
    completing_empty k there =
        let h = c.held in
        let site = its_site a rests p h in
        let on = on_first p h.stayed h.coming h.both in
        let at = stayed_at a n rests pairs pulse cleared p h in
        let stays = pair_rests a n rests pairs pulse cleared p h.stayed c.listed on in
        let one = cleared.together h.stayed k site (trap_of rests h.stayed) s.to stays there at completing_at in
        let same : one.0 ≡ p = one_pair a n pairs pulse one.0 p h.stayed one.1 c.listed one.2 on in
        elim (one_of p h.stayed h.coming k h.both (subst (λ (x : PairOf). IsOn x k) same one.3)) as (λ _. ⊥) [
          | inl e ↦
              let met : other_trap a (trap_of rests h.stayed) ≡ trap_of rests h.stayed =
              sym completing_to ∙ same_Some s.to (trap_of rests h.stayed) (sym there ∙ ap (slice_get rests) (sym e) ∙ stays) in
              other_differs a site (trap_of rests h.stayed) at (ap (λ (x : TrapId). x.0) met)
          | inr e ↦
              let comes = pair_rests a n rests pairs pulse cleared p h.coming c.listed (on_second p h.stayed h.coming h.both) in
              let met : trap_of rests h.coming ≡ other_trap a (trap_of rests h.stayed) =
              same_Some (trap_of rests h.coming) s.to (sym comes ∙ ap (slice_get rests) e ∙ there) ∙ completing_to in
              c.away (ap (λ (x : TrapId). x.0) met)
        ]

  -- the moves of different held gates move different atoms to different traps
  moves_alone : (R : Shift → Shift → Type 0) (p : PairOf) → Contains (held_gates a rests pairs) p → AllPairs R (completing a rests p)
  moves_alone R p listed =
      let held = held_is a rests p (in_held a rests pairs p listed).1 in
      subst (AllPairs R) (sym held.moves) (one_move R rests held.coming (other_trap a (trap_of rests held.stayed)))

  held_apart : AllPairs AreApart (held_gates a rests pairs)
  held_apart = AllPairs-filter AreApart (is_held a rests) pairs pulse.apart

  pub completing_atoms : AllPairs (λ (s t : Shift). s.q ≢ t.q) (flat_map (completing a rests) (held_gates a rests pairs))
  completing_atoms =
      pairs_flat_map AreApart (λ (s t : Shift). s.q ≢ t.q) (completing a rests) (held_gates a rests pairs) held_apart (moves_alone (λ (s t : Shift). s.q ≢ t.q))
      (λ p p' s s' listed listed' apart in_moves in_moves' e.
      let c = completes a rests pairs p s listed in_moves in
      let c' = completes a rests pairs p' s' listed' in_moves' in
      let same : p ≡ p' = one_pair a n pairs pulse p p' s'.q c.listed c'.listed (subst (IsOn p) e (completing_on p s c)) (completing_on p' s' c') in
      apart.aa (ap (λ (x : PairOf). x.a) same))

  pub completing_targets : AllPairs (λ (s t : Shift). s.to ≢ t.to) (flat_map (completing a rests) (held_gates a rests pairs))
  completing_targets =
      pairs_flat_map AreApart (λ (s t : Shift). s.to ≢ t.to) (completing a rests) (held_gates a rests pairs) held_apart (moves_alone (λ (s t : Shift). s.to ≢ t.to))
      (λ p p' s s' listed listed' apart in_moves in_moves' e.
      let c = completes a rests pairs p s listed in_moves in
      let c' = completes a rests pairs p' s' listed' in_moves' in
      let at : IsTrapOf a (its_site a rests p c.held) s'.to.0 = subst (λ (t : TrapId). IsTrapOf a (its_site a rests p c.held) t.0) e (completing_at p s c) in
      let one = one_site_trap a (its_site a rests p c.held) (its_site a rests p' c'.held) s'.to.0 at (completing_at p' s' c') in
      let same : p ≡ p' = one_gate p p' c.listed c'.listed c.held c'.held one in
      apart.aa (ap (λ (x : PairOf). x.a) same))
