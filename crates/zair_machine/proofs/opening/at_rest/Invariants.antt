use Rattle.std.proofs.Common.{◌≡◌, map, take}
use Rattle.zair_state.specs.declared.place.Place.TheVariants.{Trap}
use Rattle.zair_machine.proofs.opening.at_rest.Given as goal

abbrev pub invariant-loop-home : goal.invariant-loop-home
invariant-loop-home l = l.places.items ≡ map (λ home. Trap home) (take l.home-index l.homes)
