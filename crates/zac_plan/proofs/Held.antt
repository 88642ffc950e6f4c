-- Held gates, of which an atom has stayed at a site, and new ones.
use Rattle.std.proofs.Common.{◌≡◌, ℕ, ◌+◌, ◌<◌, ◌≤◌, ◌⊎◌, inl, inr, true, false, cond, not, ltb, List, Some, length, refl, sym, ap, ◌∙◌, subst, arith, slice_get}
use Rattle.std.specs.List.{Contains}
use Rattle.std.proofs.lemmas.Bool.{cases_Bool, cond-false, cond-true, le-ltb, ltb-false, ltb-true, not-false, not-true, not_from_false, or_cases, or_left, or_parts, or_right, both_ways}
use Rattle.std.proofs.lemmas.List.Filters.{length-filter_both}
use Rattle.std.proofs.lemmas.Option.{same_Some}
use Rattle.zac_arch.specs.Architecture.{Architecture, IsTrapOf, storage_count}
use Rattle.zac_arch.specs.declared.place.TrapId.{TrapId}
use Rattle.zair_form.specs.declared.step.PairOf.{PairOf}
use Rattle.zair_state.specs.Legal.{IsPairOf}
use Rattle.zac_plan.specs.Plan.{completing, held_gates, is_at_site, is_held, left, move_unless_there, new_gates, other_trap, right, site_at, trap_of}
use Rattle.zac_plan.specs.Seats.{AreCleared, IsPulse, IsSeated}
use Rattle.zac_plan.proofs.Lists.{contained_in_filter}
use Rattle.zac_plan.proofs.Resting.{rests_there}
use Rattle.zac_plan.proofs.SiteTraps.{other_of_left, other_of_right, trap_of_site}

-- the pair is on the qubit
abbrev pub IsOn : PairOf → ℕ → Type 0
IsOn p q = (p.a ≡ q) ⊎ (p.b ≡ q)

-- what the test on a qubit at a site says
pub at_site-true : (a : Architecture) (rests : List TrapId) (q : ℕ) → is_at_site a rests q ≡ true → storage_count a ≤ (trap_of rests q).0
at_site-true a rests q e = ltb-false (trap_of rests q).0 (storage_count a) (not-true (ltb (trap_of rests q).0 (storage_count a)) e)

pub at_site-false : (a : Architecture) (rests : List TrapId) (q : ℕ) → is_at_site a rests q ≡ false → (trap_of rests q).0 < storage_count a
at_site-false a rests q e = ltb-true (trap_of rests q).0 (storage_count a) (not-false (ltb (trap_of rests q).0 (storage_count a)) e)

pub at_site_from : (a : Architecture) (rests : List TrapId) (q : ℕ) → storage_count a ≤ (trap_of rests q).0 → is_at_site a rests q ≡ true
at_site_from a rests q within = not_from_false (ltb (trap_of rests q).0 (storage_count a)) (le-ltb (trap_of rests q).0 (storage_count a) within)

-- a held gate and its two qubits: one has stayed at a site, and the other comes to the other trap of that site
pub record IsHeld (a : Architecture) (rests : List TrapId) (p : PairOf) : Type 0 where
  pub stayed : ℕ
  pub coming : ℕ
  pub both : IsPairOf p stayed coming
  pub at : storage_count a ≤ (trap_of rests stayed).0
  pub first : cond (is_at_site a rests p.a) p.a p.b ≡ stayed
  pub moves : completing a rests p ≡ move_unless_there rests coming (other_trap a (trap_of rests stayed))

pub held_is : (a : Architecture) (rests : List TrapId) (p : PairOf) → is_held a rests p ≡ true → IsHeld a rests p
held_is a rests p held =
    elim (cases_Bool (is_at_site a rests p.a)) [
      | inl at ↦ record {
        stayed = p.a;
        coming = p.b;
        both = inl (refl, refl);
        at = at_site-true a rests p.a at;
        first = cond-true (is_at_site a rests p.a) p.a p.b at;
        moves = cond-true (is_at_site a rests p.a) (move_unless_there rests p.b (other_trap a (trap_of rests p.a))) (move_unless_there rests p.a (other_trap a (trap_of rests p.b))) at;
      }
      | inr away ↦
          elim (or_cases (is_at_site a rests p.a) (is_at_site a rests p.b) held) [
            | inl at ↦ absurd (both_ways (is_at_site a rests p.a) away at)
            | inr at ↦ record {
              stayed = p.b;
              coming = p.a;
              both = inr (refl, refl);
              at = at_site-true a rests p.b at;
              first = cond-false (is_at_site a rests p.a) p.a p.b away;
              moves = cond-false (is_at_site a rests p.a) (move_unless_there rests p.b (other_trap a (trap_of rests p.a))) (move_unless_there rests p.a (other_trap a (trap_of rests p.b))) away;
            }
          ]
    ]

-- a gate with a qubit at a site is held, and both qubits of a new one are in storage
pub held_from : (a : Architecture) (rests : List TrapId) (p : PairOf) (q : ℕ) → IsOn p q → storage_count a ≤ (trap_of rests q).0 → is_held a rests p ≡ true
held_from a rests p q (inl e) within = or_left (is_at_site a rests p.a) (is_at_site a rests p.b) (ap (is_at_site a rests) e ∙ at_site_from a rests q within)
held_from a rests p q (inr e) within = or_right (is_at_site a rests p.a) (is_at_site a rests p.b) (ap (is_at_site a rests) e ∙ at_site_from a rests q within)

pub new_stored : (a : Architecture) (rests : List TrapId) (p : PairOf) (q : ℕ) → is_held a rests p ≡ false → IsOn p q → (trap_of rests q).0 < storage_count a
new_stored a rests p q new (inl e) =
    at_site-false a rests q (ap (is_at_site a rests) (sym e) ∙ (or_parts (is_at_site a rests p.a) (is_at_site a rests p.b) new).0)
new_stored a rests p q new (inr e) =
    at_site-false a rests q (ap (is_at_site a rests) (sym e) ∙ (or_parts (is_at_site a rests p.a) (is_at_site a rests p.b) new).1)

-- the held gates and the new ones are gates of the pulse
pub in_held : (a : Architecture) (rests : List TrapId) (pairs : List PairOf) (p : PairOf) → Contains (held_gates a rests pairs) p → Contains pairs p × (is_held a rests p ≡ true)
in_held a rests pairs p listed = contained_in_filter (is_held a rests) pairs p listed

pub in_new : (a : Architecture) (rests : List TrapId) (pairs : List PairOf) (p : PairOf) → Contains (new_gates a rests pairs) p → Contains pairs p × (is_held a rests p ≡ false)
in_new a rests pairs p listed =
    let kept = contained_in_filter (λ (x : PairOf). not (is_held a rests x)) pairs p listed in
    (kept.0, not-true (is_held a rests p) kept.1)

pub new_and_held : (a : Architecture) (rests : List TrapId) (pairs : List PairOf) → length (held_gates a rests pairs) + length (new_gates a rests pairs) ≡ length pairs
new_and_held a rests pairs = length-filter_both (is_held a rests) (λ (x : PairOf). not (is_held a rests x)) (λ x. refl) pairs

-- the qubits of a pair
pub on_first : (p : PairOf) (q r : ℕ) → IsPairOf p q r → IsOn p q
on_first p q r (inl e) = inl e.0
on_first p q r (inr e) = inr e.1

pub on_second : (p : PairOf) (q r : ℕ) → IsPairOf p q r → IsOn p r
on_second p q r (inl e) = inr e.1
on_second p q r (inr e) = inl e.0

pub one_of : (p : PairOf) (q r k : ℕ) → IsPairOf p q r → IsOn p k → (q ≡ k) ⊎ (r ≡ k)
one_of p q r k (inl e) (inl f) = inl (sym e.0 ∙ f)
one_of p q r k (inl e) (inr f) = inr (sym e.1 ∙ f)
one_of p q r k (inr e) (inl f) = inr (sym e.0 ∙ f)
one_of p q r k (inr e) (inr f) = inl (sym e.1 ∙ f)

two_traps : (t u v w : TrapId) → Some t ≡ Some u → Some v ≡ Some w → (t ≡ u) × (v ≡ w)
two_traps t u v w e f = (same_Some t u e, same_Some v w f)

-- of the two atoms of a seated pair, each rests in the other trap of the site
pub seated_other : (a : Architecture) (rests : List TrapId) (site : ℕ) (p : PairOf) (q r : ℕ) (t u : TrapId) → IsSeated a rests site p → IsPairOf p q r →
    slice_get rests q ≡ Some t → slice_get rests r ≡ Some u → u ≡ other_trap a t
seated_other a rests site p q r t u (inl s) (inl e) at_q at_r =
    let both = two_traps t (left a site) u (right a site) (sym at_q ∙ ap (slice_get rests) (sym e.0) ∙ s.0) (sym at_r ∙ ap (slice_get rests) (sym e.1) ∙ s.1) in
    both.1 ∙ sym (ap (other_trap a) both.0 ∙ other_of_left a site)
seated_other a rests site p q r t u (inl s) (inr e) at_q at_r =
    let both = two_traps t (right a site) u (left a site) (sym at_q ∙ ap (slice_get rests) (sym e.1) ∙ s.1) (sym at_r ∙ ap (slice_get rests) (sym e.0) ∙ s.0) in
    both.1 ∙ sym (ap (other_trap a) both.0 ∙ other_of_right a site)
seated_other a rests site p q r t u (inr s) (inl e) at_q at_r =
    let both = two_traps t (right a site) u (left a site) (sym at_q ∙ ap (slice_get rests) (sym e.0) ∙ s.0) (sym at_r ∙ ap (slice_get rests) (sym e.1) ∙ s.1) in
    both.1 ∙ sym (ap (other_trap a) both.0 ∙ other_of_right a site)
seated_other a rests site p q r t u (inr s) (inr e) at_q at_r =
    let both = two_traps t (left a site) u (right a site) (sym at_q ∙ ap (slice_get rests) (sym e.1) ∙ s.1) (sym at_r ∙ ap (slice_get rests) (sym e.0) ∙ s.0) in
    both.1 ∙ sym (ap (other_trap a) both.0 ∙ other_of_left a site)

-- it is below the count of qubits
pub on_below : (a : Architecture) (n : ℕ) (pairs : List PairOf) → IsPulse a n pairs → (p : PairOf) (q : ℕ) → Contains pairs p → IsOn p q → q < n
on_below a n pairs pulse p q listed (inl e) = subst (λ m. m < n) e (pulse.each p listed).0
on_below a n pairs pulse p q listed (inr e) = subst (λ m. m < n) e (pulse.each p listed).1

module _ (a : Architecture) (n : ℕ) (rests : List TrapId) (pairs : List PairOf) (pulse : IsPulse a n pairs) (cleared : AreCleared a n rests pairs) where
  -- each qubit of a pair rests somewhere
  pub pair_rests : (p : PairOf) (q : ℕ) → Contains pairs p → IsOn p q → slice_get rests q ≡ Some (trap_of rests q)
  pair_rests p q listed on =
      let below : q < n = on_below a n pairs pulse p q listed on in
      let long : length rests ≡ n = cleared.well.long in
      rests_there rests q (omega arith)

  -- where both qubits of a held gate are at sites, they are in the two traps of one site
  pub coming_there : (p : PairOf) → Contains pairs p → (h : IsHeld a rests p) → storage_count a ≤ (trap_of rests h.coming).0 →
      trap_of rests h.coming ≡ other_trap a (trap_of rests h.stayed)
  coming_there p listed h within =
      let stays = pair_rests p h.stayed listed (on_first p h.stayed h.coming h.both) in
      let comes = pair_rests p h.coming listed (on_second p h.stayed h.coming h.both) in
      let seat = at_one_site h.both h.at within stays comes in
      seated_other a rests seat.0 p h.stayed h.coming (trap_of rests h.stayed) (trap_of rests h.coming) seat.1 h.both stays comes
    where
      at_one_site : {q r : ℕ} → IsPairOf p q r → storage_count a ≤ (trap_of rests q).0 → storage_count a ≤ (trap_of rests r).0 →
          slice_get rests q ≡ Some (trap_of rests q) → slice_get rests r ≡ Some (trap_of rests r) → (site : ℕ) × IsSeated a rests site p
      at_one_site {q} {r} (inl e) at_q at_r rests_q rests_r =
          cleared.whole p (trap_of rests q) (trap_of rests r) listed (ap (slice_get rests) e.0 ∙ rests_q) (ap (slice_get rests) e.1 ∙ rests_r) at_q at_r
      at_one_site {q} {r} (inr e) at_q at_r rests_q rests_r =
          cleared.whole p (trap_of rests r) (trap_of rests q) listed (ap (slice_get rests) e.0 ∙ rests_r) (ap (slice_get rests) e.1 ∙ rests_q) at_r at_q

  -- the trap of the qubit that has stayed is one of its site
  pub stayed_at : (p : PairOf) → (h : IsHeld a rests p) → IsTrapOf a (site_at a (trap_of rests h.stayed)) (trap_of rests h.stayed).0
  stayed_at p h = trap_of_site a (trap_of rests h.stayed) h.at
