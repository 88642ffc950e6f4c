use Rattle.std.proofs.Common.{◌≡◌, ◌<◌, ℕ, List, length, map, sym, ap, ◌∙◌, subst}
use Rattle.std.specs.List.{All}
use Rattle.std.proofs.lemmas.Result.{on_ok_weaker}
use Rattle.zac_arch.specs.Architecture.{Architecture, site_count, trap_count}
use Rattle.zac_arch.specs.declared.place.SiteId.{SiteId}
use Rattle.zac_group.specs.declared.shift.Shift.{Shift}
use Rattle.zac_plan.specs.Growth.{GrowsByJobs}
use Rattle.zac_plan.specs.Plan.{after_shifts, arrivals, ends_of, places}
use Rattle.zac_plan.specs.Seats.{rests_in}
use Rattle.zac_plan.proofs.Arrivals.{free_in_card, free_rise, least_is, listed, new_below, new_stored, taken_in_card, targets_in_card}
use Rattle.zac_plan.proofs.Worlds.{places_of_world}
use Rattle.zac_plan.proofs.agenda.Agenda.add_arrivals.Goals as goal

pub gate_sites-requires-clause-rising : goal.gate_sites-requires-clause-rising
gate_sites-requires-clause-rising c =
    free_rise c.args.card.now (rests_in c.args.world.now) c.deref.result.now
    (ap (map (λ (s : SiteId). s.0)) c.deref.ensures.value ∙ c.in_ok-free.ensures.free)

pub gate_sites-requires-clause-sites : goal.gate_sites-requires-clause-sites
gate_sites-requires-clause-sites c =
    free_in_card c.args.card.now (rests_in c.args.world.now) c.deref.result.now
    (ap (map (λ (s : SiteId). s.0)) c.deref.ensures.value ∙ c.in_ok-free.ensures.free)

pub gate_sites-requires-clause-stored : goal.gate_sites-requires-clause-stored
gate_sites-requires-clause-stored c =
    new_stored c.args.card.now c.args.world.now c.args.pairs.now c.deref-2.result.now c.deref-3.result.now c.requires.its_card
    (c.deref-2.ensures.value ∙ c.in_ok-new.ensures.new) (c.deref-3.ensures.value ∙ c.in_ok-ends_of.ensures.ends) c.requires.can_arrive.in_storage

pub to_sites-requires-clause-below : goal.to_sites-requires-clause-below
to_sites-requires-clause-below c =
    new_below c.args.card.now c.args.world.now c.args.pairs.now c.deref-4.result.now
    (c.deref-4.ensures.value ∙ c.in_ok-new.ensures.new) c.requires.can_arrive.below

pub to_sites-requires-clause-sites : goal.to_sites-requires-clause-sites
to_sites-requires-clause-sites c =
    let a = c.args.card.now in
    let free = ap (map (λ (s : SiteId). s.0)) c.deref.ensures.value ∙ c.in_ok-free.ensures.free in
    subst (λ (l : List ℕ). All (λ s. s < site_count a) l) (sym c.as_slice.ensures)
    (taken_in_card a (rests_in c.args.world.now) c.deref.result.now free (length c.deref-3.result.now) c.in_ok-placed.placed.targets c.in_ok-placed.ensures.placing)

pub put_all-requires-clause-can_make : goal.put_all-requires-clause-can_make
put_all-requires-clause-can_make c =
    (listed c.args.card.now c.args.world.now c.requires.its_card c.args.pairs.now c.requires.can_arrive c.deref.result.now (ap (map (λ (s : SiteId). s.0)) c.deref.ensures.value ∙ c.in_ok-free.ensures.free)
    c.in_ok-new.new.items c.in_ok-new.ensures.new c.deref-3.result.now (c.deref-3.ensures.value ∙ c.in_ok-ends_of.ensures.ends ∙ ap ends_of c.deref-2.ensures.value)
    c.in_ok-placed.placed.targets c.in_ok-placed.ensures.placing c.in_ok-shifts.shifts.items c.in_ok-shifts.ensures.shifts
    c.deref-4.result.now c.deref-4.ensures.value c.as_slice.result.now c.as_slice.ensures
    c.deref-5.result.now (c.deref-5.ensures.value ∙ c.in_ok-to_sites.ensures.added)).make

pub put_all-requires-clause-targets : goal.put_all-requires-clause-targets
put_all-requires-clause-targets c =
    let phase = (listed c.args.card.now c.args.world.now c.requires.its_card c.args.pairs.now c.requires.can_arrive c.deref.result.now (ap (map (λ (s : SiteId). s.0)) c.deref.ensures.value ∙ c.in_ok-free.ensures.free)
    c.in_ok-new.new.items c.in_ok-new.ensures.new c.deref-3.result.now (c.deref-3.ensures.value ∙ c.in_ok-ends_of.ensures.ends ∙ ap ends_of c.deref-2.ensures.value)
    c.in_ok-placed.placed.targets c.in_ok-placed.ensures.placing c.in_ok-shifts.shifts.items c.in_ok-shifts.ensures.shifts
    c.deref-4.result.now c.deref-4.ensures.value c.as_slice.result.now c.as_slice.ensures
    c.deref-5.result.now (c.deref-5.ensures.value ∙ c.in_ok-to_sites.ensures.added)).phase in
    subst (λ (a : Architecture). All (λ s. s.to.0 < trap_count a) c.deref-5.result.now) (sym c.requires.its_card)
    (targets_in_card c.args.card.now c.deref-5.result.now phase)

pub add_jobs-requires : goal.add_jobs-requires
add_jobs-requires c = record {
  phase = (listed c.args.card.now c.args.world.now c.requires.its_card c.args.pairs.now c.requires.can_arrive c.deref.result.now (ap (map (λ (s : SiteId). s.0)) c.deref.ensures.value ∙ c.in_ok-free.ensures.free)
      c.in_ok-new.new.items c.in_ok-new.ensures.new c.deref-3.result.now (c.deref-3.ensures.value ∙ c.in_ok-ends_of.ensures.ends ∙ ap ends_of c.deref-2.ensures.value)
      c.in_ok-placed.placed.targets c.in_ok-placed.ensures.placing c.in_ok-shifts.shifts.items c.in_ok-shifts.ensures.shifts
      c.deref-4.result.now c.deref-4.ensures.value c.as_slice.result.now c.as_slice.ensures
      c.of.result (c.of.ensures ∙ c.in_ok-to_sites.ensures.added)).phase;
}

pub returns : goal.returns
returns c =
    let a = c.args.card.now in
    let world = c.args.world.now in
    let rests = rests_in world in
    let pairs = c.args.pairs.now in
    let sites = c.in_ok-placed.placed.targets in
    let free = ap (map (λ (s : SiteId). s.0)) c.deref.ensures.value ∙ c.in_ok-free.ensures.free in
    let new = c.deref-2.ensures.value ∙ c.in_ok-new.ensures.new in
    let ends = c.deref-3.ensures.value ∙ c.in_ok-ends_of.ensures.ends in
    let moves = listed c.args.card.now c.args.world.now c.requires.its_card c.args.pairs.now c.requires.can_arrive c.deref.result.now (ap (map (λ (s : SiteId). s.0)) c.deref.ensures.value ∙ c.in_ok-free.ensures.free)
    c.in_ok-new.new.items c.in_ok-new.ensures.new c.deref-3.result.now (c.deref-3.ensures.value ∙ c.in_ok-ends_of.ensures.ends ∙ ap ends_of c.deref-2.ensures.value)
    c.in_ok-placed.placed.targets c.in_ok-placed.ensures.placing c.in_ok-shifts.shifts.items c.in_ok-shifts.ensures.shifts
    c.deref-4.result.now c.deref-4.ensures.value c.as_slice.result.now c.as_slice.ensures
    c.of.result (c.of.ensures ∙ c.in_ok-to_sites.ensures.added) in
    let made : c.put_all.new.world ≡ places a (after_shifts rests (arrivals a rests pairs sites)) =
    c.put_all.ensures
    ∙ ap (λ (card : Architecture). places card (after_shifts rests c.deref-5.result.now)) c.requires.its_card
    ∙ ap (λ (l : List Shift). places a (after_shifts rests l)) (c.deref-5.ensures.value ∙ sym c.of.ensures ∙ moves.are) in
    record {
      ok = on_ok_weaker c.add_jobs.result
          (λ (grows : GrowsByJobs a c.args.self.now c.add_jobs.new.self c.of.result). record {
            sites = sites;
            chosen = least_is a rests c.deref.result.now free world (places_of_world a world c.requires.its_card) pairs c.deref-2.result.now new c.deref-3.result.now ends sites c.in_ok-placed.ensures.least;
            grows = subst (GrowsByJobs a c.args.self.now c.add_jobs.new.self) moves.are grows;
            moved = made;
          })
          c.add_jobs.ensures.ok;
    }
