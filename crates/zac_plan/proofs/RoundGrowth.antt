-- An agenda grows by a round where it grows by the round's parts.
use Rattle.std.proofs.Common.{◌≡◌, ℕ, List, [], ◌∷◌, length, sym, ap, ◌∙◌, subst}
use Rattle.zac_arch.specs.Architecture.{Architecture}
use Rattle.zac_arch.specs.declared.place.TrapId.{TrapId}
use Rattle.zac_gates.specs.declared.circuit.Op.{Op}
use Rattle.zac_world.specs.Places.{Places}
use Rattle.zac_sched.specs.declared.todo.Todo.TheVariants.{Rydberg}
use Rattle.zac_plan.specs.declared.agenda.Agenda.{Agenda}
use Rattle.zac_plan.specs.Growth.{GoesOn, GrowsByArrivals, GrowsByRound, IsSentHome}
use Rattle.zac_plan.specs.Plan.{AreGateSites, AreJobs, after_returns, after_shifts, arrivals, gates_at, gates_todo, held_gates, leaving, pairs_at, places, shifts_to}
use Rattle.zac_plan.specs.Seats.{rests_in}
use Rattle.zac_plan.proofs.Growing.{four_go_on}
use Rattle.zac_plan.proofs.Worlds.{rests_of_places}

module _ (a : Architecture) (ops : List Op) (before slot pulse : List ℕ) (x g h k z : Agenda) (w v u : Places)
    (gates : GoesOn x g (gates_todo (gates_at ops slot))) (sent : IsSentHome a ops before pulse g h w v)
    (came : GrowsByArrivals a (pairs_at ops pulse) h k v u) (pulsed : GoesOn k z (Rydberg (pairs_at ops pulse) ∷ [])) where
  between : rests_in v ≡ after_returns ops (rests_in w) before (record { kept = sent.kept; targets = sent.grows.targets; sites = came.sites })
  between =
      ap rests_in sent.grows.moved
      ∙ rests_of_places a (after_shifts (rests_in w) (shifts_to (rests_in w) (leaving ops (pairs_at ops before) sent.kept) sent.grows.targets))

  -- the gates that are held behind the returns are as many as are kept
  pub grows_by_round : length (held_gates a (after_shifts (rests_in w) (shifts_to (rests_in w) (leaving ops (pairs_at ops before) sent.kept) sent.grows.targets)) (pairs_at ops pulse)) ≡ length sent.kept →
      GrowsByRound a ops before slot pulse x z w u
  grows_by_round held =
      let these : List TrapId = after_returns ops (rests_in w) before (record { kept = sent.kept; targets = sent.grows.targets; sites = came.sites }) in
      record {
        chosen = record { kept = sent.kept; targets = sent.grows.targets; sites = came.sites };
        right = record {
          keeping = sent.keeping;
          held = record { pairs = sent.kept; keeping = sent.keeping; greatest = sent.greatest; size = sym held };
          targets = sent.grows.chosen;
          sites = subst (λ (l : List TrapId). AreGateSites a l (pairs_at ops pulse) came.sites) between came.chosen;
        };
        return_jobs = sent.grows.grows.jobs;
        arrival_jobs = came.grows.jobs;
        returned = sent.grows.grows.are;
        arrived = subst (λ (l : List TrapId). AreJobs a (arrivals a l (pairs_at ops pulse) came.sites) came.grows.jobs) between came.grows.are;
        goes_on =
            four_go_on x g h k z (gates_todo (gates_at ops slot)) sent.grows.grows.jobs came.grows.jobs (Rydberg (pairs_at ops pulse) ∷ [])
            gates sent.grows.grows.goes_on came.grows.goes_on pulsed;
        moved = came.moved ∙ ap (λ (l : List TrapId). places a (after_shifts l (arrivals a l (pairs_at ops pulse) came.sites))) between;
      }
