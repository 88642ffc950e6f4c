-- What leaves the sites, one pair after another, and what its moves home ask for.
use Rattle.std.proofs.Common.{◌≡◌, ℕ, ◌+◌, ◌<◌, ◌≤◌, inl, inr, Bool, not, cond, List, [], ◌∷◌, ◌++◌, length, get_or, take, refl, sym, ap, ◌∙◌, subst, arith, append_assoc}
use Rattle.std.specs.List.{All, filter}
use Rattle.std.proofs.lemmas.List.{take_more}
use Rattle.std.proofs.lemmas.List.Elements.{filter-append}
use Rattle.zac_arch.specs.Architecture.{Architecture, trap_count}
use Rattle.zac_gates.specs.declared.circuit.Op.{Op}
use Rattle.zac_group.specs.Groups.{IsPhase}
use Rattle.zac_group.specs.declared.shift.Shift.{Shift}
use Rattle.zac_place.specs.Placing.{IsLeastPlacing, IsPlacing}
use Rattle.zac_place.specs.Returns.{return_cost}
use Rattle.zac_world.specs.Places.{Places, empty_storage}
use Rattle.zair_form.specs.declared.step.PairOf.{PairOf}
use Rattle.zac_plan.specs.declared.agenda.Agenda.{Agenda}
use Rattle.zac_plan.specs.Growth.{GrowsByJobs, GrowsByReturns}
use Rattle.zac_plan.specs.Plan.{after_shifts, leaving, places, qubits_of, shifts_to, stays}
use Rattle.zac_plan.specs.Seats.{CanMake, CanReturn, rests_in}
use Rattle.zac_plan.proofs.Worlds.{places_of_world}

qubits_of-append : (ps qs : List PairOf) → qubits_of (ps ++ qs) ≡ qubits_of ps ++ qubits_of qs
qubits_of-append [] qs = refl
qubits_of-append (p ∷ ps) qs = ap (λ (l : List ℕ). p.a ∷ p.b ∷ l) (qubits_of-append ps qs)

-- the qubits of one pair more, each unless it stays
pub leaving_more : (ops : List Op) (before : List PairOf) (kept : List (ℕ × ℕ)) (k : ℕ) (p : PairOf) (found : ℕ → Bool) (start middle end : List ℕ) → k < length before →
    ((q : ℕ) → found q ≡ stays ops kept q) → start ≡ leaving ops (take k before) kept →
    middle ≡ start ++ filter (λ q. not (found q)) ((get_or before k p).a ∷ []) → end ≡ middle ++ filter (λ q. not (found q)) ((get_or before k p).b ∷ []) →
    end ≡ leaving ops (take (k + 1) before) kept
leaving_more ops before kept k p found start middle end within is_stays started first second =
    let q = (get_or before k p).a in
    let r = (get_or before k p).b in
    let goes = λ (n : ℕ). not (stays ops kept n) in
    let one = λ (n : ℕ). ap (λ b. cond (not b) (n ∷ []) []) (is_stays n) in
    second
    ∙ ap (λ (l : List ℕ). l ++ filter (λ n. not (found n)) (r ∷ [])) first
    ∙ ap (λ (l : List ℕ). (start ++ filter (λ n. not (found n)) (q ∷ [])) ++ l) (one r)
    ∙ ap (λ (l : List ℕ). (start ++ l) ++ filter goes (r ∷ [])) (one q)
    ∙ append_assoc start (filter goes (q ∷ [])) (filter goes (r ∷ []))
    ∙ ap (λ (l : List ℕ). start ++ l) (sym (filter-append goes (q ∷ []) (r ∷ [])))
    ∙ ap (λ (l : List ℕ). l ++ filter goes (q ∷ r ∷ [])) started
    ∙ sym (filter-append goes (qubits_of (take k before)) (q ∷ r ∷ []))
    ∙ ap (filter goes) (sym (qubits_of-append (take k before) (get_or before k p ∷ [])))
    ∙ ap (λ (l : List PairOf). leaving ops l kept) (sym (take_more before k p within))

-- moves of a phase end in traps of the card
phase_in : (a : Architecture) (shifts : List Shift) → IsPhase a shifts → All (λ s. s.to.0 < trap_count a) shifts
phase_in a shifts phase k d within = elim (phase.between k d within) [
  | inl out ↦ omega (arith, out.1.1)
  | inr home ↦ omega (arith, home.0.0, home.0.1, home.1)
]

-- the qubits that leave a world
module _ (a : Architecture) (ops : List Op) (p : Places) (before : List PairOf) (kept : List (ℕ × ℕ)) (its_card : p.architecture ≡ a)
    (can : CanReturn a ops (rests_in p) before kept) (qubits : List ℕ) (leave : qubits ≡ leaving ops before kept) where
  -- are at most as many as the empty storage traps
  pub few_leave : length qubits ≤ length (empty_storage p)
  few_leave =
      let at_most : length (leaving ops before kept) ≤ length (empty_storage p) =
      subst (λ (w : Places). length (leaving ops before kept) ≤ length (empty_storage w)) (places_of_world a p its_card) can.few in
      subst (λ (l : List ℕ). length l ≤ length (empty_storage p)) (sym leave) at_most

  -- and their moves to different ones
  module _ (targets : List ℕ) (placing : IsPlacing (empty_storage p) (length qubits) targets) (shifts : List Shift) (listed : shifts ≡ shifts_to (rests_in p) qubits targets) where
    placed : IsPlacing (empty_storage (places a (rests_in p))) (length (leaving ops before kept)) targets
    placed =
        subst (λ (w : Places). IsPlacing (empty_storage w) (length (leaving ops before kept)) targets) (sym (places_of_world a p its_card))
        (subst (λ (l : List ℕ). IsPlacing (empty_storage p) (length l) targets) leave placing)

    these : shifts_to (rests_in p) (leaving ops before kept) targets ≡ shifts
    these = ap (λ (l : List ℕ). shifts_to (rests_in p) l targets) (sym leave) ∙ sym listed

    -- can be made together
    pub can_go_home : CanMake (rests_in p) shifts
    can_go_home = subst (CanMake (rests_in p)) these (can.make targets placed)

    -- as a phase
    pub phase_home : IsPhase a shifts
    phase_home = subst (IsPhase a) these (can.phase targets placed)

    -- and end in traps of the card
    pub ends_home : All (λ s. s.to.0 < trap_count p.architecture) shifts
    ends_home = subst (λ (b : Architecture). All (λ (s : Shift). s.to.0 < trap_count b) shifts) (sym its_card) (phase_in a shifts phase_home)

    -- where they are the nearest ones, an agenda grows by their jobs, and the world is as behind them
    pub grows_home : (old new : Agenda) (to : Places) → IsLeastPlacing (return_cost p qubits) (empty_storage p) (length qubits) targets →
        to ≡ places p.architecture (after_shifts (rests_in p) shifts) → GrowsByJobs a old new shifts → GrowsByReturns a ops before kept old new p to
    grows_home old new to least made grows = record {
      targets = targets;
      chosen =
          subst (λ (w : Places). IsLeastPlacing (return_cost w (leaving ops before kept)) (empty_storage w) (length (leaving ops before kept)) targets)
          (sym (places_of_world a p its_card))
          (subst (λ (l : List ℕ). IsLeastPlacing (return_cost p l) (empty_storage p) (length l) targets) leave least);
      grows = subst (GrowsByJobs a old new) (sym these) grows;
      moved =
          made
          ∙ ap (λ (b : Architecture). places b (after_shifts (rests_in p) shifts)) its_card
          ∙ ap (λ (l : List Shift). places a (after_shifts (rests_in p) l)) (sym these);
    }
