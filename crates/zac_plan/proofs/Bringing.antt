-- The moves of a pulse's arrivals: those that complete held gates, and those that bring new gates to sites.
use Rattle.std.proofs.Common.{◌≡◌, ◌≢◌, ℕ, ◌⊎◌, inl, inr, Bool, true, false, cond, eqb, List, [], ◌∷◌, length, refl, sym, ap, ◌∙◌, subst, arith}
use Rattle.std.specs.List.{AllPairs, Contains}
use Rattle.std.proofs.lemmas.Bool.{cases_Bool, eqb-false, eqb-true}
use Rattle.zac_arch.specs.Architecture.{Architecture, IsTrapOf}
use Rattle.zac_arch.specs.declared.place.TrapId.{TrapId}
use Rattle.zac_group.specs.declared.shift.Shift.{Shift}
use Rattle.zac_place.specs.Sites.{comes_before, left_qubit, right_qubit}
use Rattle.zac_place.specs.Returns.{trap_in}
use Rattle.zair_form.specs.declared.step.PairOf.{PairOf}
use Rattle.zair_state.specs.Legal.{IsPairOf}
use Rattle.zac_plan.specs.Plan.{left, move_unless_there, places, right, shift_to, to_sites, trap_of}
use Rattle.zac_plan.specs.Seats.{AreApart}
use Rattle.zac_plan.proofs.Held.{IsOn, on_first, on_second}
use Rattle.zac_plan.proofs.Lists.{AllPairs-one, contained_in_none, contained_in_one, contains_cases, contains_here, contains_later, contains_one, pairs_cons, pairs_head, pairs_none, pairs_tail}
use Rattle.zac_plan.proofs.Resting.{same_trap}

-- a move that isn't left out goes elsewhere
pub moved : (rests : List TrapId) (q : ℕ) (t : TrapId) (s : Shift) → Contains (move_unless_there rests q t) s → (s ≡ shift_to rests q t) × ((trap_of rests q).0 ≢ t.0)
moved rests q t s listed = elim (cases_Bool (eqb (trap_of rests q).0 t.0)) [
  | inl there ↦ absurd (contained_in_none s (subst (λ b. Contains (cond b [] (shift_to rests q t ∷ [])) s) there listed))
  | inr away ↦
      (contained_in_one (shift_to rests q t) s (subst (λ b. Contains (cond b [] (shift_to rests q t ∷ [])) s) away listed), eqb-false (trap_of rests q).0 t.0 away)
]

-- the qubit is there, or moves there
pub there_or_moved : (rests : List TrapId) (q : ℕ) (t : TrapId) → (trap_of rests q ≡ t) ⊎ Contains (move_unless_there rests q t) (shift_to rests q t)
there_or_moved rests q t = elim (cases_Bool (eqb (trap_of rests q).0 t.0)) [
  | inl there ↦ inl (same_trap (trap_of rests q) t (eqb-true (trap_of rests q).0 t.0 there))
  | inr away ↦ inr (subst (λ b. Contains (cond b [] (shift_to rests q t ∷ [])) (shift_to rests q t)) (sym away) (contains_one (shift_to rests q t)))
]

pub one_move : (R : Shift → Shift → Type 0) (rests : List TrapId) (q : ℕ) (t : TrapId) → AllPairs R (move_unless_there rests q t)
one_move R rests q t = at_most_one (eqb (trap_of rests q).0 t.0)
  where
    at_most_one : (b : Bool) → AllPairs R (cond b [] (shift_to rests q t ∷ []))
    at_most_one true = pairs_none R
    at_most_one false = AllPairs-one R (shift_to rests q t)

-- the two moves of a new gate
abbrev pub goes_left : Architecture → List TrapId → PairOf → ℕ → Shift
goes_left a rests p site = shift_to rests (left_qubit (places a rests) (p.a, p.b)) (left a site)

abbrev pub goes_right : Architecture → List TrapId → PairOf → ℕ → Shift
goes_right a rests p site = shift_to rests (right_qubit (places a rests) (p.a, p.b)) (right a site)

abbrev pub IsMoveOf : Architecture → List TrapId → PairOf → ℕ → Shift → Type 0
IsMoveOf a rests p site s = (s ≡ goes_left a rests p site) ⊎ (s ≡ goes_right a rests p site)

-- the left and the right qubit are the two of the pair
sides_at : (p : PairOf) (b : Bool) → IsPairOf p (cond b p.a p.b) (cond b p.b p.a)
sides_at p true = inl (refl, refl)
sides_at p false = inr (refl, refl)

pub sides : (a : Architecture) (rests : List TrapId) (p : PairOf) → IsPairOf p (left_qubit (places a rests) (p.a, p.b)) (right_qubit (places a rests) (p.a, p.b))
sides a rests p = sides_at p (comes_before a (trap_in (places a rests) p.a) (trap_in (places a rests) p.b))

-- what such a move moves, and where
pub move_on : (a : Architecture) (rests : List TrapId) (p : PairOf) (site : ℕ) (s : Shift) → IsMoveOf a rests p site s → IsOn p s.q
move_on a rests p site s (inl e) =
    subst (λ (x : Shift). IsOn p x.q) (sym e) (on_first p (left_qubit (places a rests) (p.a, p.b)) (right_qubit (places a rests) (p.a, p.b)) (sides a rests p))
move_on a rests p site s (inr e) =
    subst (λ (x : Shift). IsOn p x.q) (sym e) (on_second p (left_qubit (places a rests) (p.a, p.b)) (right_qubit (places a rests) (p.a, p.b)) (sides a rests p))

pub move_to : (a : Architecture) (rests : List TrapId) (p : PairOf) (site : ℕ) (s : Shift) → IsMoveOf a rests p site s → IsTrapOf a site s.to.0
move_to a rests p site s (inl e) = inl (ap (λ (x : Shift). x.to.0) e)
move_to a rests p site s (inr e) = inr (ap (λ (x : Shift). x.to.0) e)

pub move_from : (a : Architecture) (rests : List TrapId) (p : PairOf) (site : ℕ) (s : Shift) → IsMoveOf a rests p site s → s.from ≡ trap_of rests s.q
move_from a rests p site s (inl e) = ap (λ (x : Shift). x.from) e ∙ ap (λ (x : Shift). trap_of rests x.q) (sym e)
move_from a rests p site s (inr e) = ap (λ (x : Shift). x.from) e ∙ ap (λ (x : Shift). trap_of rests x.q) (sym e)

-- a move to the sites is one of some gate and some site
pub record IsBringing (a : Architecture) (rests : List TrapId) (pairs : List PairOf) (sites : List ℕ) (s : Shift) : Type 0 where
  pub pair : PairOf
  pub site : ℕ
  pub of_pairs : Contains pairs pair
  pub of_sites : Contains sites site
  pub is : IsMoveOf a rests pair site s

pub bringing : (a : Architecture) (rests : List TrapId) (pairs : List PairOf) (sites : List ℕ) (s : Shift) → Contains (to_sites a rests pairs sites) s → IsBringing a rests pairs sites s
bringing a rests [] sites s listed = absurd (contained_in_none s listed)
bringing a rests (p ∷ ps) [] s listed = absurd (contained_in_none s listed)
bringing a rests (p ∷ ps) (site ∷ sites) s listed =
    elim (contains_cases (goes_left a rests p site) s (goes_right a rests p site ∷ to_sites a rests ps sites) listed) [
      | inl e ↦ record { pair = p; site = site; of_pairs = contains_here p ps; of_sites = contains_here site sites; is = inl (sym e) }
      | inr more ↦ elim (contains_cases (goes_right a rests p site) s (to_sites a rests ps sites) more) [
        | inl e ↦ record { pair = p; site = site; of_pairs = contains_here p ps; of_sites = contains_here site sites; is = inr (sym e) }
        | inr rest ↦
            let r = bringing a rests ps sites s rest in
            record { pair = r.pair; site = r.site; of_pairs = contains_later p r.pair ps r.of_pairs; of_sites = contains_later site r.site sites r.of_sites; is = r.is }
      ]
    ]

-- each gate has its two moves, to one of the sites
pub record IsBrought (a : Architecture) (rests : List TrapId) (pairs : List PairOf) (sites : List ℕ) (p : PairOf) : Type 0 where
  pub site : ℕ
  pub of_sites : Contains sites site
  pub left_moves : Contains (to_sites a rests pairs sites) (goes_left a rests p site)
  pub right_moves : Contains (to_sites a rests pairs sites) (goes_right a rests p site)

pub brought : (a : Architecture) (rests : List TrapId) (pairs : List PairOf) (sites : List ℕ) → length sites ≡ length pairs → (p : PairOf) → Contains pairs p →
    IsBrought a rests pairs sites p
brought a rests [] sites each p listed = absurd (contained_in_none p listed)
brought a rests (p' ∷ ps) [] each p listed = absurd (omega arith)
brought a rests (p' ∷ ps) (site ∷ sites) each p listed =
    let here = contains_here (goes_left a rests p' site) (goes_right a rests p' site ∷ to_sites a rests ps sites) in
    let next = contains_later (goes_left a rests p' site) (goes_right a rests p' site) (goes_right a rests p' site ∷ to_sites a rests ps sites) (contains_here (goes_right a rests p' site) (to_sites a rests ps sites)) in
    elim (contains_cases p' p ps listed) [
      | inl e ↦ subst (IsBrought a rests (p' ∷ ps) (site ∷ sites)) e (record { site = site; of_sites = contains_here site sites; left_moves = here; right_moves = next })
      | inr later ↦
          let r = brought a rests ps sites (omega arith) p later in
          let behind : (s : Shift) → Contains (to_sites a rests ps sites) s → Contains (to_sites a rests (p' ∷ ps) (site ∷ sites)) s =
          λ s in_rest.
          contains_later (goes_left a rests p' site) s (goes_right a rests p' site ∷ to_sites a rests ps sites)
          (contains_later (goes_right a rests p' site) s (to_sites a rests ps sites) in_rest) in
          record {
            site = r.site;
            of_sites = contains_later site r.site sites r.of_sites;
            left_moves = behind (goes_left a rests p r.site) r.left_moves;
            right_moves = behind (goes_right a rests p r.site) r.right_moves;
          }
    ]

-- how the moves to the sites stand to each other
pub pairs_to_sites : (a : Architecture) (rests : List TrapId) (R : Shift → Shift → Type 0) (pairs : List PairOf) (sites : List ℕ) →
    AllPairs AreApart pairs → AllPairs (λ m n. m ≢ n) sites →
    ((p : PairOf) (site : ℕ) → Contains pairs p → R (goes_left a rests p site) (goes_right a rests p site)) →
    ((p p' : PairOf) (site site' : ℕ) (s s' : Shift) → AreApart p p' → site ≢ site' → IsMoveOf a rests p site s → IsMoveOf a rests p' site' s' → R s s') →
    AllPairs R (to_sites a rests pairs sites)
pairs_to_sites a rests R [] sites apart differ inside between = pairs_none R
pairs_to_sites a rests R (p ∷ ps) [] apart differ inside between = pairs_none R
pairs_to_sites a rests R (p ∷ ps) (site ∷ sites) apart differ inside between =
    let later : (s s' : Shift) → IsMoveOf a rests p site s → Contains (to_sites a rests ps sites) s' → R s s' =
    λ s s' is in_rest.
    let of = bringing a rests ps sites s' in_rest in
    between p of.pair site of.site s s' (pairs_head AreApart p ps apart of.pair of.of_pairs) (pairs_head (λ m n. m ≢ n) site sites differ of.site of.of_sites) is of.is in
    pairs_cons R (goes_left a rests p site) (goes_right a rests p site ∷ to_sites a rests ps sites)
    (λ s listed. elim (contains_cases (goes_right a rests p site) s (to_sites a rests ps sites) listed) as (λ _. R (goes_left a rests p site) s) [
      | inl e ↦ subst (R (goes_left a rests p site)) e (inside p site (contains_here p ps))
      | inr rest ↦ later (goes_left a rests p site) s (inl refl) rest
    ])
    (pairs_cons R (goes_right a rests p site) (to_sites a rests ps sites)
    (λ s listed. later (goes_right a rests p site) s (inr refl) listed)
    (pairs_to_sites a rests R ps sites (pairs_tail AreApart p ps apart) (pairs_tail (λ m n. m ≢ n) site sites differ)
    (λ q other listed. inside q other (contains_later p q ps listed)) between))
