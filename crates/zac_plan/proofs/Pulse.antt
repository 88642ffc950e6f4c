-- A pulse is legal where each of its pairs rests at a site of its own, and all other atoms in storage.
use Rattle.std.proofs.Common.{◌≡◌, ◌≢◌, ℕ, ◌+◌, ◌-◌, ◌*◌, ◌<◌, ◌≤◌, ◌⊎◌, inl, inr, List, Some, get_or, sym, ap, ◌∙◌, subst, arith, slice_get, add_comm}
use Rattle.std.specs.List.{AllPairs, Any, Contains}
use Rattle.std.proofs.lemmas.List.Elements.{Contains-get_or}
use Rattle.zac_arch.specs.Architecture.{Architecture, trap_count, site_count, left_trap, right_trap, IsTrapOf}
use Rattle.zac_arch.specs.Distances.{difference, squared_distance, IsWithin}
use Rattle.zac_arch.specs.Rules.{KeepsRules}
use Rattle.zac_arch.specs.declared.place.Point.{Point}
use Rattle.zac_arch.specs.declared.place.TrapId.{TrapId}
use Rattle.zac_arch.proofs.Geometry.{storage_dark, entangling_lit, site_within, one_site, trap_count_is}
use Rattle.zair_form.specs.declared.step.PairOf.{PairOf}
use Rattle.zair_form.specs.declared.step.Step.TheVariants.{Pulse}
use Rattle.zair_state.specs.State.{State, Beams, opening, RestsLit, AreInRange}
use Rattle.zair_state.specs.Legal.{IsLegal, IsPairOf}
use Rattle.zac_group.specs.Moves.{point_at}
use Rattle.zac_plan.specs.Plan.{left, right}
use Rattle.zac_plan.specs.Seats.{AreSeated, IsInPair, IsPulse, IsSeated, RestApart}
use Rattle.zac_plan.proofs.Lists.{any_from_contained, contained_in_none}
use Rattle.zac_plan.proofs.Rests.{no_beam, rests_in, rests_only_in, stands_at}

difference_comm : (m n : ℕ) → difference m n ≡ difference n m
difference_comm m n = add_comm (m - n) (n - m)

-- two points are as near to each other either way
pub within_comm : (d : ℕ) (p q : Point) → IsWithin d p q → IsWithin d q p
within_comm d p q h =
    let x = difference_comm p.x q.x in
    let y = difference_comm p.y q.y in
    let same : squared_distance p q ≡ squared_distance q p =
    ap (λ n. n * n + difference p.y q.y * difference p.y q.y) x ∙ ap (λ n. difference q.x p.x * difference q.x p.x + n * n) y in
    let P : ℕ → Type 0 = λ n. n ≤ d * d in
    subst P same h

pub in_range_comm : (a : Architecture) (s : State) (q r : ℕ) → AreInRange a s q r → AreInRange a s r q
in_range_comm a s q r h = record {
  two = λ e. h.two (sym e);
  q_at = h.r_at;
  r_at = h.q_at;
  q_rests = h.r_rests;
  r_rests = h.q_rests;
  near = within_comm a.figures.radius h.q_at h.r_at h.near;
}

number_of : (t u : TrapId) → Some t ≡ Some u → t.0 ≡ u.0
number_of t u e = let same : t ≡ u = cc in ap (λ (x : TrapId). x.0) same

one_trap : (t u : TrapId) → t.0 ≡ u.0 → t ≡ u
one_trap t u e = λ i. record { 0 = e i }

some_trap : {t u : TrapId} → t ≡ u → Some t ≡ Some u
some_trap e = ap (λ (x : TrapId). Some x) e

-- the trap in which a qubit of a seated pair rests is one of its site
pub seat_of : (a : Architecture) (rests : List TrapId) (k : ℕ) (p : PairOf) (q : ℕ) (t : TrapId) → IsSeated a rests k p → (p.a ≡ q) ⊎ (p.b ≡ q) →
    slice_get rests q ≡ Some t → IsTrapOf a k t.0
seat_of a rests k p q t (inl s) (inl e) there = inl (number_of t (left a k) (sym there ∙ ap (slice_get rests) (sym e) ∙ s.0))
seat_of a rests k p q t (inl s) (inr e) there = inr (number_of t (right a k) (sym there ∙ ap (slice_get rests) (sym e) ∙ s.1))
seat_of a rests k p q t (inr s) (inl e) there = inr (number_of t (right a k) (sym there ∙ ap (slice_get rests) (sym e) ∙ s.0))
seat_of a rests k p q t (inr s) (inr e) there = inl (number_of t (left a k) (sym there ∙ ap (slice_get rests) (sym e) ∙ s.1))

-- two qubits of one pair
both_of : (p : PairOf) (q r : ℕ) → q ≢ r → (p.a ≡ q) ⊎ (p.b ≡ q) → (p.a ≡ r) ⊎ (p.b ≡ r) → IsPairOf p q r
both_of p q r ne (inl e) (inl f) = absurd (ne (sym e ∙ f))
both_of p q r ne (inl e) (inr f) = inl (e, f)
both_of p q r ne (inr e) (inl f) = inr (f, e)
both_of p q r ne (inr e) (inr f) = absurd (ne (sym e ∙ f))

-- a trap is one of one site
pub one_site_trap : (a : Architecture) (k l t : ℕ) → IsTrapOf a k t → IsTrapOf a l t → k ≡ l
one_site_trap a k l t (inl e) (inl f) = omega arith
one_site_trap a k l t (inl e) (inr f) = omega arith
one_site_trap a k l t (inr e) (inl f) = omega arith
one_site_trap a k l t (inr e) (inr f) = omega arith

-- an atom in one of the two traps of a site is one of the pair that is seated there
sits_in : (a : Architecture) (rests : List TrapId) (site : ℕ) (p : PairOf) (r : ℕ) (t : TrapId) → RestApart rests → IsSeated a rests site p →
    IsTrapOf a site t.0 → slice_get rests r ≡ Some t → (p.a ≡ r) ⊎ (p.b ≡ r)
sits_in a rests site p r t apart (inl s) (inl e) there = let same : t ≡ left a site = one_trap t (left a site) e in inl (apart p.a r t (s.0 ∙ some_trap (sym same)) there)
sits_in a rests site p r t apart (inl s) (inr e) there = let same : t ≡ right a site = one_trap t (right a site) e in inr (apart p.b r t (s.1 ∙ some_trap (sym same)) there)
sits_in a rests site p r t apart (inr s) (inl e) there = let same : t ≡ left a site = one_trap t (left a site) e in inr (apart p.b r t (s.1 ∙ some_trap (sym same)) there)
sits_in a rests site p r t apart (inr s) (inr e) there = let same : t ≡ right a site = one_trap t (right a site) e in inl (apart p.a r t (s.0 ∙ some_trap (sym same)) there)

module _ (a : Architecture) (rules : KeepsRules a) (n : ℕ) (rests : List TrapId) (pairs : List PairOf) (pulse : IsPulse a n pairs) (seats : AreSeated a n rests pairs) where
  -- where the left and the right trap of a site stand
  left_in : (site : ℕ) → site < site_count a → left_trap a site < trap_count a
  left_in site within = omega (arith, trap_count_is a rules)

  right_in : (site : ℕ) → site < site_count a → right_trap a site < trap_count a
  right_in site within = omega (arith, trap_count_is a rules)

  left_lit : (site q : ℕ) → site < site_count a → slice_get rests q ≡ Some (left a site) → RestsLit a (opening a rests) q (point_at a (left a site))
  left_lit site q within there =
      let stands = stands_at a (left a site) (left_in site within) in
      (left a site, rests_in a rests q (left a site) there, stands, entangling_lit a rules (left_trap a site) (point_at a (left a site)) (omega arith) stands)

  right_lit : (site q : ℕ) → site < site_count a → slice_get rests q ≡ Some (right a site) → RestsLit a (opening a rests) q (point_at a (right a site))
  right_lit site q within there =
      let stands = stands_at a (right a site) (right_in site within) in
      (right a site, rests_in a rests q (right a site) there, stands, entangling_lit a rules (right_trap a site) (point_at a (right a site)) (omega arith) stands)

  -- two atoms in the two traps of a site are in range
  near_at : (site q r : ℕ) → site < site_count a → slice_get rests q ≡ Some (left a site) → slice_get rests r ≡ Some (right a site) → AreInRange a (opening a rests) q r
  near_at site q r within at_left at_right = record {
    two = λ e.
        let same : left_trap a site ≡ right_trap a site = number_of (left a site) (right a site) (sym at_left ∙ ap (slice_get rests) e ∙ at_right) in
        absurd (omega arith);
    q_at = point_at a (left a site);
    r_at = point_at a (right a site);
    q_rests = left_lit site q within at_left;
    r_rests = right_lit site r within at_right;
    near = site_within a rules site (point_at a (left a site)) (point_at a (right a site)) within (stands_at a (left a site) (left_in site within)) (stands_at a (right a site) (right_in site within));
  }

  seated_in_range : (site : ℕ) (p : PairOf) → site < site_count a → IsSeated a rests site p → AreInRange a (opening a rests) p.a p.b
  seated_in_range site p within (inl s) = near_at site p.a p.b within s.0 s.1
  seated_in_range site p within (inr s) = in_range_comm a (opening a rests) p.b p.a (near_at site p.b p.a within s.1 s.0)

  -- the pair of an atom that is lit
  lit_pair : (q : ℕ) (p : Point) → RestsLit a (opening a rests) q p → IsInPair pairs q
  lit_pair q p h =
      let t = h.0 in
      elim (seats.others q t (rests_only_in a rests q t h.1)) [
        | inl found ↦ found
        | inr stored ↦ absurd (storage_dark a rules t.0 p stored h.2 h.3)
      ]

  listed : (q r : ℕ) → AreInRange a (opening a rests) q r → Any (λ (p : PairOf). IsPairOf p q r) pairs
  listed q r h =
      let mine = lit_pair q h.q_at h.q_rests in
      let other = lit_pair r h.r_at h.r_rests in
      let mine_seat = seats.seated mine.0 mine.1 in
      let other_seat = seats.seated other.0 other.1 in
      let q_there = rests_only_in a rests q h.q_rests.0 h.q_rests.1 in
      let r_there = rests_only_in a rests r h.r_rests.0 h.r_rests.1 in
      let mine_at = seat_of a rests mine_seat.0 mine.0 q h.q_rests.0 mine_seat.2 mine.2 q_there in
      let other_at = seat_of a rests other_seat.0 other.0 r h.r_rests.0 other_seat.2 other.2 r_there in
      let site : mine_seat.0 ≡ other_seat.0 = one_site a rules mine_seat.0 other_seat.0 h.q_rests.0.0 h.r_rests.0.0 h.q_at h.r_at mine_at other_at h.q_rests.2 h.r_rests.2 h.near in
      let shared : (mine.0.a ≡ r) ⊎ (mine.0.b ≡ r) =
      sits_in a rests mine_seat.0 mine.0 r h.r_rests.0 seats.well.apart mine_seat.2 (subst (λ s. IsTrapOf a s h.r_rests.0.0) (sym site) other_at) r_there in
      any_from_contained (λ (p : PairOf). IsPairOf p q r) pairs mine.0 mine.1 (both_of mine.0 q r h.two mine.2 shared)

  listed_once : AllPairs (λ (p p' : PairOf). ¬ IsPairOf p' p.a p.b) pairs
  listed_once i j d before within same =
      let apart = pulse.apart i j d before within in
      elim same as (λ _. ⊥) [
        | inl e ↦ apart.aa (sym e.0)
        | inr e ↦ apart.ab (sym e.1)
      ]

  pub pulse_rests : IsLegal a (opening a rests) (Pulse pairs)
  pulse_rests = record {
    in_range = record {
      only = λ k d within.
          let p = get_or pairs k d in
          let seat = seats.seated p (Contains-get_or pairs k d within) in
          seated_in_range seat.0 p seat.1 seat.2;
      all = listed;
      once = listed_once;
    };
    none_alone = λ q p h.
        let found = lit_pair q p h in
        any_from_contained (λ (pair : PairOf). (pair.a ≡ q) ⊎ (pair.b ≡ q)) pairs found.0 found.1 found.2;
    dark = λ aod row column in_row in_column. absurd (contained_in_none row (subst (λ (b : Beams). Contains b.rows row) (no_beam a rests aod) in_row));
  }
