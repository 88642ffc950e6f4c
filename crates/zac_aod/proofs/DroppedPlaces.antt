-- An atom that is dropped once rests in its trap.
use Rattle.std.proofs.Common.{◌≡◌, ◌≢◌, ℕ, zero, suc, inl, inr, List, [], ◌∷◌, Some, set, refl, sym, ap, ◌∙◌, subst, slice_get}
use Rattle.std.specs.List.{All, AllPairs, Contains}
use Rattle.std.proofs.lemmas.List.Elements.{All-contains}
use Rattle.zair_form.specs.declared.step.Dropped.{Dropped}
use Rattle.zair_state.specs.declared.place.Place.{Place}
use Rattle.zair_state.specs.declared.place.Place.TheVariants.{Trap}
use Rattle.zair_state.specs.Result.{after_dropping}
use Rattle.zair_state.proofs.Membership.{contains_none, contains_cases, pairs_head, pairs_tail}
use Rattle.zair_state.proofs.Placing.{IsDropped, not_dropped_stays}

-- what is written is read, where something stood
written : {X : Type 0} (xs : List X) (i : ℕ) (x y : X) → slice_get xs i ≡ Some x → slice_get (set xs i y) i ≡ Some y
written [] i x y h = cc
written (z ∷ zs) zero x y h = refl
written (z ∷ zs) (suc i) x y h = written zs i x y h

unwritten : {X : Type 0} (xs : List X) (i k : ℕ) (y : X) → k ≢ i → slice_get (set xs i y) k ≡ slice_get xs k
unwritten [] i k y ne = refl
unwritten (z ∷ zs) zero zero y ne = absurd (ne refl)
unwritten (z ∷ zs) zero (suc k) y ne = refl
unwritten (z ∷ zs) (suc i) zero y ne = refl
unwritten (z ∷ zs) (suc i) (suc k) y ne = unwritten zs i k y (λ e. ne (ap suc e))

pub dropped_rests : (atoms : List Dropped) (places : List Place) (d : Dropped) (place : Place) → AllPairs (λ (c d : Dropped). c.q ≢ d.q) atoms → Contains atoms d → slice_get places d.q ≡ Some place
    → slice_get (after_dropping atoms places) d.q ≡ Some (Trap d.trap)
dropped_rests [] places d place once h there = absurd (contains_none d h)
dropped_rests (b ∷ bs) places d place once h there =
    let other : All (λ (c : Dropped). b.q ≢ c.q) bs = pairs_head (λ (c d : Dropped). c.q ≢ d.q) b bs once in
    elim (contains_cases b d bs h) [
      | inl e ↦
          let unlisted : ¬ IsDropped bs b.q = λ again. All-contains (λ (c : Dropped). b.q ≢ c.q) bs again.0 other again.1 (sym again.2) in
          let there_b : slice_get places b.q ≡ Some place = subst (λ (x : Dropped). slice_get places x.q ≡ Some place) (sym e) there in
          let rests_b : slice_get (after_dropping (b ∷ bs) places) b.q ≡ Some (Trap b.trap) =
          not_dropped_stays bs (set places b.q (Trap b.trap)) b.q unlisted ∙ written places b.q place (Trap b.trap) there_b in
          subst (λ (x : Dropped). slice_get (after_dropping (b ∷ bs) places) x.q ≡ Some (Trap x.trap)) e rests_b
      | inr later ↦
          let ne : d.q ≢ b.q = λ e. All-contains (λ (c : Dropped). b.q ≢ c.q) bs d other later (sym e) in
          dropped_rests bs (set places b.q (Trap b.trap)) d place (pairs_tail (λ (c d : Dropped). c.q ≢ d.q) b bs once) later
          (unwritten places b.q d.q (Trap b.trap) ne ∙ there)
    ]
