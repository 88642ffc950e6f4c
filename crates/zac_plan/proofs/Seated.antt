-- Where the qubits of seated pairs rest.
use Rattle.std.proofs.Common.{◌≡◌, ◌≢◌, ℕ, ◌≤◌, ◌⊎◌, inl, inr, List, Some, refl, sym, ap, ◌∙◌, subst, arith, slice_get}
use Rattle.std.specs.List.{Contains}
use Rattle.zac_arch.specs.Architecture.{Architecture, IsTrapOf, storage_count}
use Rattle.zac_arch.specs.declared.place.TrapId.{TrapId}
use Rattle.zair_form.specs.declared.step.PairOf.{PairOf}
use Rattle.zac_plan.specs.Plan.{left, right}
use Rattle.zac_plan.specs.Seats.{AreSeated, IsPulse, IsSeated}
use Rattle.zac_plan.proofs.Distinct.{one_pair}
use Rattle.zac_plan.proofs.Resting.{same_number, same_trap}

-- a trap of a site is an entangling one
pub site_above : (a : Architecture) (site t : ℕ) → IsTrapOf a site t → storage_count a ≤ t
site_above a site t (inl e) = omega arith
site_above a site t (inr e) = omega arith

-- and of one site
pub one_site_of : (a : Architecture) (k l t : ℕ) → IsTrapOf a k t → IsTrapOf a l t → k ≡ l
one_site_of a k l t (inl e) (inl f) = omega arith
one_site_of a k l t (inl e) (inr f) = omega arith
one_site_of a k l t (inr e) (inl f) = omega arith
one_site_of a k l t (inr e) (inr f) = omega arith

-- a qubit of a seated pair rests in a trap of its site
pub record RestsAt (a : Architecture) (rests : List TrapId) (site q : ℕ) : Type 0 where
  pub trap : TrapId
  pub there : slice_get rests q ≡ Some trap
  pub of_site : IsTrapOf a site trap.0

pub seat_of : (a : Architecture) (rests : List TrapId) (site : ℕ) (p : PairOf) (q : ℕ) → IsSeated a rests site p → (p.a ≡ q) ⊎ (p.b ≡ q) → RestsAt a rests site q
seat_of a rests site p q (inl s) (inl e) = record { trap = left a site; there = ap (slice_get rests) (sym e) ∙ s.0; of_site = inl refl }
seat_of a rests site p q (inl s) (inr e) = record { trap = right a site; there = ap (slice_get rests) (sym e) ∙ s.1; of_site = inr refl }
seat_of a rests site p q (inr s) (inl e) = record { trap = right a site; there = ap (slice_get rests) (sym e) ∙ s.0; of_site = inr refl }
seat_of a rests site p q (inr s) (inr e) = record { trap = left a site; there = ap (slice_get rests) (sym e) ∙ s.1; of_site = inl refl }

-- a trap of a site is its left or its right one
side_of : (a : Architecture) (site : ℕ) (t : TrapId) → IsTrapOf a site t.0 → (t ≡ left a site) ⊎ (t ≡ right a site)
side_of a site t (inl e) = inl (same_trap t (left a site) e)
side_of a site t (inr e) = inr (same_trap t (right a site) e)

-- where a pair is seated, in each trap of the site rests a qubit of it
taken_by : (a : Architecture) (rests : List TrapId) (site : ℕ) (p : PairOf) (t : TrapId) → IsSeated a rests site p → (t ≡ left a site) ⊎ (t ≡ right a site) →
    (q : ℕ) × ((p.a ≡ q) ⊎ (p.b ≡ q)) × (slice_get rests q ≡ Some t)
taken_by a rests site p t (inl s) (inl e) = (p.a, inl refl, s.0 ∙ ap (λ (x : TrapId). Some x) (sym e))
taken_by a rests site p t (inl s) (inr e) = (p.b, inr refl, s.1 ∙ ap (λ (x : TrapId). Some x) (sym e))
taken_by a rests site p t (inr s) (inl e) = (p.b, inr refl, s.1 ∙ ap (λ (x : TrapId). Some x) (sym e))
taken_by a rests site p t (inr s) (inr e) = (p.a, inl refl, s.0 ∙ ap (λ (x : TrapId). Some x) (sym e))

module _ (a : Architecture) (n : ℕ) (rests : List TrapId) (pairs : List PairOf) (pulse : IsPulse a n pairs) (seats : AreSeated a n rests pairs) where
  -- a qubit that rests at the site of a pair is one of that pair
  pub seated_there : (p : PairOf) (site q : ℕ) → IsSeated a rests site p → RestsAt a rests site q → (p.a ≡ q) ⊎ (p.b ≡ q)
  seated_there p site q seated at =
      let by = taken_by a rests site p at.trap seated (side_of a site at.trap at.of_site) in
      let same : by.0 ≡ q = seats.well.apart by.0 q at.trap by.2 at.there in
      subst (λ m. (p.a ≡ m) ⊎ (p.b ≡ m)) same by.1

  -- two pairs at one site are one
  pub one_at_site : (p r : PairOf) (site : ℕ) → Contains pairs p → Contains pairs r → IsSeated a rests site p → IsSeated a rests site r → p ≡ r
  one_at_site p r site at_p at_r seated_p seated_r =
      one_pair a n pairs pulse p r r.a at_p at_r (seated_there p site r.a seated_p (seat_of a rests site r r.a seated_r (inl refl))) (inl refl)

  -- a qubit of a pair rests at its site
  pub site_of : (p : PairOf) (q site : ℕ) (t : TrapId) → Contains pairs p → (p.a ≡ q) ⊎ (p.b ≡ q) → slice_get rests q ≡ Some t → IsTrapOf a site t.0 → IsSeated a rests site p
  site_of p q site t listed on at is_of =
      let seat = seats.seated p listed in
      let there = seat_of a rests seat.0 p q seat.2 on in
      let trap : there.trap.0 ≡ t.0 = same_number there.trap t (sym there.there ∙ at) in
      let P : ℕ → Type 0 = λ m. IsTrapOf a seat.0 m in
      let Q : ℕ → Type 0 = λ m. IsSeated a rests m p in
      subst Q (one_site_of a seat.0 site t.0 (subst P trap there.of_site) is_of) seat.2

-- a pair whose two qubits are those of a seated pair is seated there
pub seated_too : (a : Architecture) (rests : List TrapId) (site : ℕ) (p r : PairOf) → r.a ≢ r.b → IsSeated a rests site p →
    (p.a ≡ r.a) ⊎ (p.b ≡ r.a) → (p.a ≡ r.b) ⊎ (p.b ≡ r.b) → IsSeated a rests site r
seated_too a rests site p r differ s (inl e) (inl f) = absurd (differ (sym e ∙ f))
seated_too a rests site p r differ (inl s) (inl e) (inr f) = inl (ap (slice_get rests) (sym e) ∙ s.0, ap (slice_get rests) (sym f) ∙ s.1)
seated_too a rests site p r differ (inr s) (inl e) (inr f) = inr (ap (slice_get rests) (sym e) ∙ s.0, ap (slice_get rests) (sym f) ∙ s.1)
seated_too a rests site p r differ (inl s) (inr e) (inl f) = inr (ap (slice_get rests) (sym e) ∙ s.1, ap (slice_get rests) (sym f) ∙ s.0)
seated_too a rests site p r differ (inr s) (inr e) (inl f) = inl (ap (slice_get rests) (sym e) ∙ s.1, ap (slice_get rests) (sym f) ∙ s.0)
seated_too a rests site p r differ s (inr e) (inr f) = absurd (differ (sym e ∙ f))

-- a pair stays seated where both its qubits stay
pub seated_alike : (a : Architecture) (rests rests' : List TrapId) (site : ℕ) (p : PairOf) → IsSeated a rests site p → slice_get rests' p.a ≡ slice_get rests p.a →
    slice_get rests' p.b ≡ slice_get rests p.b → IsSeated a rests' site p
seated_alike a rests rests' site p (inl s) e f = inl (e ∙ s.0, f ∙ s.1)
seated_alike a rests rests' site p (inr s) e f = inr (e ∙ s.0, f ∙ s.1)
