-- The states before and behind a tidy step differ only in what its act uses.
use Rattle.std.proofs.Common.{◌≡◌, ◌≢◌, ℕ, ◌⊎◌, inl, inr, true, length, length-set, get_or-set_other, get_or-set_same, slice_get, refl, sym, ap, ◌∙◌, subst}
use Rattle.std.specs.List.{Contains}
use Rattle.std.proofs.lemmas.Bool.{cases_eq, eqb-true}
use Rattle.std.proofs.lemmas.List.Elements.{All-contains}
use Rattle.zac_arch.specs.Architecture.{Architecture, StandsAt}
use Rattle.zac_arch.specs.declared.place.Point.{Point}
use Rattle.zair_form.specs.Steps.{is_step_of, steps_of}
use Rattle.zair_form.specs.declared.program.Act.{Act}
use Rattle.zair_form.specs.declared.program.Act.TheVariants.{Init, Gates, Rydberg, Job, Readout}
use Rattle.zair_form.specs.declared.step.Caught.{Caught}
use Rattle.zair_form.specs.declared.step.Dropped.{Dropped}
use Rattle.zair_form.specs.declared.step.Step.{Step}
use Rattle.zair_form.specs.declared.step.Step.TheVariants.{Activate, Move, Deactivate, One, Pulse}
use Rattle.zair_form.specs.declared.step.Step.TheVariants as kind
use Rattle.zair_state.specs.Legal.{Drops, IsLegal, Picks}
use Rattle.zair_state.specs.Resources.{Uses}
use Rattle.zair_state.specs.Resources.{Resource as resource}
use Rattle.zair_state.specs.Result.{after}
use Rattle.zair_state.specs.State.{State, Beams, beams_of, crossing, EachCrossing, idle, IsAt}
use Rattle.zair_state.specs.declared.place.Place.{Place}
use Rattle.zair_state.specs.declared.place.Place.TheVariants.{Trap, Held}
use Rattle.zair_state.proofs.Changing.{not_farther_there}
use Rattle.zair_state.proofs.Membership.{contained_in_map, contains_none}
use Rattle.zac_sched.specs.Exchange.{IsAtTrapsOf, IsTidyStep, KeepsToItsTraps}
use Rattle.zac_sched.proofs.Surroundings.{CardLaws}
use Rattle.zac_sched.proofs.Differing.{CrossesOwnTraps, DifferOnlyIn, IsCarried}
use Rattle.zac_sched.proofs.JobSteps.{aod_used, job_or_still, qubit_used}
use Rattle.zac_sched.proofs.Writes.{after_writes, beams_set, places_set, stepped, written_at}

one_point_or_two : (p q : Point) → (p ≡ q) ⊎ (p ≢ q)
one_point_or_two p q = elim (cases_eq p.x q.x) [
  | inl ex ↦ elim (cases_eq p.y q.y) [
    | inl ey ↦
        let e : p ≡ q = ap (λ (n : ℕ). record { x = n; y = p.y }) ex ∙ ap (λ (n : ℕ). record { x = q.x; y = n }) ey in
        inl e
    | inr ne ↦ inr (λ e. ne (ap (λ (r : Point). r.y) e))
  ]
  | inr ne ↦ inr (λ e. ne (ap (λ (r : Point). r.x) e))
]

-- the crossings of an act that has a step are at its traps, as it keeps to them
crosses : (a : Architecture) (x : Act) (s : State) (step : Step) → Contains (steps_of x) step → KeepsToItsTraps a s x → CrossesOwnTraps a x s
crosses a (Init homes) s step within keeps = absurd (contains_none step within)
crosses a (Gates ones) s step within keeps = λ aod used. absurd used
crosses a (Rydberg pairs) s step within keeps = λ aod used. absurd used
crosses a (Job n steps) s step within keeps = λ aod e.
    subst (λ (m : ℕ). EachCrossing (beams_of s m).rows (beams_of s m).columns (λ row column. IsAtTrapsOf a (Job n steps) (crossing row column))) e keeps
crosses a (Readout reads) s step within keeps = λ aod used. absurd used

module _ (a : Architecture) (laws : CardLaws a) (x : Act) (s : State) where
  -- a trap at which a point at the act's traps stands exactly is one of the act's
  own_trap : (t : ℕ) (r : Point) → IsAtTrapsOf a x r → StandsAt a t r → Uses a x (resource.Trap t)
  own_trap t r near stands = elim (one_point_or_two near.stands r) [
    | inl e ↦ subst (λ (n : ℕ). Uses a x (resource.Trap n)) (laws.one_trap near.trap t r (subst (StandsAt a near.trap) e near.stands_at) stands) near.used
    | inr ne ↦ absurd (not_farther_there a.figures.reach r r refl
        (laws.parked_apart near.trap t near.stands r r near.stands_at stands (record { corner = near.corner; elsewhere = λ e. ne (sym e) })))
  ]

  -- a qubit whose place a step writes goes from one place of the act to another
  carried : (n : ℕ) (step : Step) (w : ℕ × Place) → Contains (places_set step) w → IsLegal a s step → is_step_of n step ≡ true → Uses a x (resource.Aod n) →
      CrossesOwnTraps a x s → CrossesOwnTraps a x (after s step) → Uses a x (resource.Qubit w.0) → ((p : Place) → IsAt s w.0 p → IsAt (after s step) w.0 w.1) →
      IsCarried a x s (after s step) w.0
  carried n (Activate aod rows columns atoms) w within legal own its_aod before behind used moves =
      let step : Step = Activate aod rows columns atoms in
      let there : Beams = beams_set step (beams_of s aod) in
      let aod_own : Uses a x (resource.Aod aod) = subst (λ (m : ℕ). Uses a x (resource.Aod m)) (sym (eqb-true aod n own)) its_aod in
      let same : beams_of (after s step) aod ≡ there = get_or-set_same s.aods aod there idle legal.known in
      let near : EachCrossing there.rows there.columns (λ row column. IsAtTrapsOf a x (crossing row column)) =
      subst (λ (b : Beams). EachCrossing b.rows b.columns (λ row column. IsAtTrapsOf a x (crossing row column))) same (behind aod aod_own) in
      let c = contained_in_map (λ (c : Caught). (c.q, Held aod c.row c.column)) atoms w within in
      let pick = All-contains (Picks a s aod rows columns there.rows there.columns) atoms c.0 legal.picks c.1 in
      let rests : IsAt s w.0 (Trap pick.trap) = subst (λ (q : ℕ). IsAt s q (Trap pick.trap)) (ap (λ (p : ℕ × Place). p.0) c.2) pick.rests in
      let held : Held aod c.0.row c.0.column ≡ w.1 = ap (λ (p : ℕ × Place). p.1) c.2 in
      record {
        used = used;
        here = Trap pick.trap;
        there = Held aod c.0.row c.0.column;
        at_here = rests;
        at_there = subst (λ (p : Place). IsAt (after s step) w.0 p) (sym held) (moves (Trap pick.trap) rests);
        own_here = own_trap pick.trap.0 (crossing pick.row pick.column) (near pick.row pick.column pick.row_active pick.column_active) pick.exact;
        own_there = aod_own;
      }
  carried n (Move aod rows columns) w within legal own its_aod before behind used moves = absurd (contains_none w within)
  carried n (Deactivate aod rows columns atoms) w within legal own its_aod before behind used moves =
      let step : Step = Deactivate aod rows columns atoms in
      let aod_own : Uses a x (resource.Aod aod) = subst (λ (m : ℕ). Uses a x (resource.Aod m)) (sym (eqb-true aod n own)) its_aod in
      let d = contained_in_map (λ (d : Dropped). (d.q, Trap d.trap)) atoms w within in
      let drop = All-contains (Drops a s aod rows columns) atoms d.0 legal.drops d.1 in
      let held : IsAt s w.0 (Held aod drop.row.id drop.column.id) = subst (λ (q : ℕ). IsAt s q (Held aod drop.row.id drop.column.id)) (ap (λ (p : ℕ × Place). p.0) d.2) drop.held in
      let rests : Trap d.0.trap ≡ w.1 = ap (λ (p : ℕ × Place). p.1) d.2 in
      record {
        used = used;
        here = Held aod drop.row.id drop.column.id;
        there = Trap d.0.trap;
        at_here = held;
        at_there = subst (λ (p : Place). IsAt (after s step) w.0 p) (sym rests) (moves (Held aod drop.row.id drop.column.id) held);
        own_here = aod_own;
        own_there = own_trap d.0.trap.0 (crossing drop.row drop.column) (before aod aod_own drop.row drop.column drop.row_active drop.column_active) drop.exact;
      }
  carried n (One gate) w within legal own its_aod before behind used moves = absurd (contains_none w within)
  carried n (Pulse pairs) w within legal own its_aod before behind used moves = absurd (contains_none w within)
  carried n (kind.Readout reads) w within legal own its_aod before behind used moves = absurd (contains_none w within)

  -- a tidy step changes only what its act uses
  pub differ_behind : (step : Step) → IsTidyStep a s x step → DifferOnlyIn a x s (after s step)
  differ_behind step tidy =
      let before : CrossesOwnTraps a x s = crosses a x s step tidy.of_act tidy.before in
      let behind : CrossesOwnTraps a x (after s step) = crosses a x (after s step) step tidy.of_act tidy.behind in
      elim (job_or_still x step tidy.of_act tidy.own) [
        | inl job ↦
            let writes : after s step ≡ stepped job.aod step s = after_writes job.aod s step job.own in
            record {
              count = sym (ap (λ (t : State). length t.aods) writes ∙ length-set s.aods job.aod (beams_set step (beams_of s job.aod)));
              others = λ aod none.
                  sym (ap (λ (t : State). beams_of t aod) writes
                  ∙ get_or-set_other s.aods job.aod aod (beams_set step (beams_of s job.aod)) idle (λ e. none (subst (λ (m : ℕ). Uses a x (resource.Aod m)) (sym e) (aod_used a x step job))));
              places = λ q. elim (written_at (places_set step) s.places q) [
                | inl e ↦ inl (e ∙ sym (ap (λ (t : State). slice_get t.places q) writes))
                | inr w ↦ inr (subst (λ (r : ℕ). IsCarried a x s (after s step) r) w.2
                    (carried job.aod step w.0 w.1 tidy.legal job.own (aod_used a x step job) before behind (qubit_used a x step job w.0 w.1)
                    (λ p there. ap (λ (t : State). slice_get t.places w.0.0) writes
                    ∙ subst (λ (r : ℕ). IsAt (stepped job.aod step s) r w.0.1) (sym w.2) (w.3 p (subst (λ (r : ℕ). IsAt s r p) w.2 there)))))
              ];
              crossings = before;
              crossings_then = behind;
            }
        | inr still ↦ record {
          count = ap (λ (t : State). length t.aods) (sym (still s));
          others = λ aod none. ap (λ (t : State). beams_of t aod) (sym (still s));
          places = λ q. inl (ap (λ (t : State). slice_get t.places q) (sym (still s)));
          crossings = before;
          crossings_then = behind;
        }
      ]
