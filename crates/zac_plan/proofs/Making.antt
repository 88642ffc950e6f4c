-- One move more, of those that are listed and of those that are made.
use Rattle.std.proofs.Common.{◌≡◌, ℕ, zero, suc, ◌+◌, ◌<◌, List, [], ◌∷◌, ◌++◌, Some, IsTrue, length, get_or, take, drop, set, refl, sym, ap, ◌∙◌, subst, arith, slice_get}
use Rattle.std.proofs.lemmas.List.{length-map, length-take, map-set, take_more}
use Rattle.std.proofs.lemmas.Option.{slice_get_within}
use Rattle.zac_arch.specs.Architecture.{Architecture}
use Rattle.zac_arch.specs.declared.place.TrapId.{TrapId}
use Rattle.zac_group.specs.declared.shift.Shift.{Shift}
use Rattle.zac_world.specs.Places.{Places, is_empty}
use Rattle.zac_plan.specs.Plan.{after_shifts, places, shift_to, shifts_to, trap_of}
use Rattle.zac_plan.specs.Seats.{CanMake, CanShift, rests_in}
use Rattle.zac_plan.proofs.Lists.{contains_here}
use Rattle.zac_plan.proofs.Phases.{after_shifts-append, make_rest}
use Rattle.zac_plan.proofs.Worlds.{is_empty_from_none, trap_of_qubit}

shifts_to-append : (rests : List TrapId) (qs ts : List ℕ) (q t : ℕ) → length qs ≡ length ts →
    shifts_to rests (qs ++ q ∷ []) (ts ++ t ∷ []) ≡ shifts_to rests qs ts ++ shift_to rests q (record { 0 = t }) ∷ []
shifts_to-append rests [] [] q t long = refl
shifts_to-append rests [] (u ∷ us) q t long = absurd (omega arith)
shifts_to-append rests (p ∷ ps) [] q t long = absurd (omega arith)
shifts_to-append rests (p ∷ ps) (u ∷ us) q t long =
    ap (λ (l : List Shift). shift_to rests p (record { 0 = u }) ∷ l) (shifts_to-append rests ps us q t (omega arith))

-- one move more is listed
shifts_more : (rests : List TrapId) (qs ts : List ℕ) (k : ℕ) → k < length qs → k < length ts →
    shifts_to rests (take (k + 1) qs) (take (k + 1) ts) ≡ shifts_to rests (take k qs) (take k ts) ++ shift_to rests (get_or qs k 0) (record { 0 = get_or ts k 0 }) ∷ []
shifts_more rests qs ts k in_qs in_ts =
    ap (λ (l : List ℕ). shifts_to rests l (take (k + 1) ts)) (take_more qs k 0 in_qs)
    ∙ ap (λ (l : List ℕ). shifts_to rests (take k qs ++ get_or qs k 0 ∷ []) l) (take_more ts k 0 in_ts)
    ∙ shifts_to-append rests (take k qs) (take k ts) (get_or qs k 0) (get_or ts k 0) (omega (arith, length-take k qs, length-take k ts))

-- it is pushed
pub listed_more : (p : Places) (qs ts : List ℕ) (k q t : ℕ) (from : TrapId) (before after : List Shift) → k < length qs → k < length ts →
    q ≡ get_or qs k 0 → t ≡ get_or ts k 0 → slice_get p.traps q ≡ Some from.0 →
    before ≡ shifts_to (rests_in p) (take k qs) (take k ts) → after ≡ before ++ (record { q = q; from = from; to = record { 0 = t } }) ∷ [] →
    after ≡ shifts_to (rests_in p) (take (k + 1) qs) (take (k + 1) ts)
listed_more p qs ts k q t from before after in_qs in_ts q_is t_is rests listed pushed =
    let its : from ≡ trap_of (rests_in p) q = sym (trap_of_qubit p q from.0 rests) in
    pushed
    ∙ ap (λ (l : List Shift). l ++ (record { q = q; from = from; to = record { 0 = t } }) ∷ []) listed
    ∙ ap (λ (u : TrapId). shifts_to (rests_in p) (take k qs) (take k ts) ++ (record { q = q; from = u; to = record { 0 = t } }) ∷ []) its
    ∙ ap (λ m. shifts_to (rests_in p) (take k qs) (take k ts) ++ shift_to (rests_in p) m (record { 0 = t }) ∷ []) q_is
    ∙ ap (λ m. shifts_to (rests_in p) (take k qs) (take k ts) ++ shift_to (rests_in p) (get_or qs k 0) (record { 0 = m }) ∷ []) t_is
    ∙ sym (shifts_more (rests_in p) qs ts k in_qs in_ts)

split_at : {X : Type 0} (xs : List X) (k : ℕ) (d : X) → k < length xs → xs ≡ take k xs ++ (get_or xs k d ∷ drop (k + 1) xs)
split_at [] k d within = absurd (omega arith)
split_at (x ∷ xs) zero d within = refl
split_at {X} (x ∷ xs) (suc k) d within =
    let next : suc (k + 1) ≡ suc k + 1 = omega arith in
    ap (λ (l : List X). x ∷ l) (split_at xs k d (omega arith))
    ∙ ap (λ m. x ∷ (take k xs ++ (get_or xs k d ∷ drop m (x ∷ xs)))) next

-- the moves up to one have been made
module _ (rests : List TrapId) (shifts : List Shift) (can_make : CanMake rests shifts) (k : ℕ) (d : Shift) (within : k < length shifts) where
  can : CanShift (after_shifts rests (take k shifts)) (get_or shifts k d)
  can =
      (make_rest rests (take k shifts) (get_or shifts k d ∷ drop (k + 1) shifts)
      (subst (CanMake rests) (split_at shifts k d within) can_make)).each (get_or shifts k d) (contains_here (get_or shifts k d) (drop (k + 1) shifts))

  -- this one can be made
  pub next_in : (a : Architecture) (w : Places) → w ≡ places a (after_shifts rests (take k shifts)) → (get_or shifts k d).q < length w.traps
  next_in a w e =
      omega (
        arith,
        ap (λ (p : Places). length p.traps) e,
        length-map (after_shifts rests (take k shifts)) (λ (t : TrapId). t.0),
        slice_get_within (after_shifts rests (take k shifts)) (get_or shifts k d).q (get_or shifts k d).from can.rests,
      )

  pub next_empty : (a : Architecture) (w : Places) → w ≡ places a (after_shifts rests (take k shifts)) → IsTrue (is_empty w.traps (get_or shifts k d).to.0)
  next_empty a w e =
      subst (λ (p : Places). IsTrue (is_empty p.traps (get_or shifts k d).to.0)) (sym e)
      (is_empty_from_none (after_shifts rests (take k shifts)) (get_or shifts k d).to can.empty)

  -- and when it has been made
  pub made_more : (a : Architecture) (w v : Places) → w ≡ places a (after_shifts rests (take k shifts)) →
      v ≡ record { architecture = w.architecture; traps = set w.traps (get_or shifts k d).q (get_or shifts k d).to.0 } →
      v ≡ places a (after_shifts rests (take (k + 1) shifts))
  made_more a w v e put =
      let s = get_or shifts k d in
      let before = after_shifts rests (take k shifts) in
      let more : after_shifts rests (take (k + 1) shifts) ≡ set before s.q s.to =
      ap (after_shifts rests) (take_more shifts k d within) ∙ after_shifts-append rests (take k shifts) (s ∷ []) in
      put
      ∙ ap (λ (p : Places). record { architecture = p.architecture; traps = set p.traps s.q s.to.0 }) e
      ∙ ap (λ (l : List ℕ). record { architecture = a; traps = l }) (sym (map-set (λ (t : TrapId). t.0) before s.q s.to))
      ∙ ap (places a) (sym more)
