-- States at rest: each atom in a trap, and no AOD with a beam.
use Rattle.std.proofs.Common.{◌≡◌, ℕ, zero, suc, ◌<◌, List, Option, Some, None, refl, sym, ap, ◌∙◌, slice_get}
use Rattle.std.specs.List.{slice_index_or}
use Rattle.std.specs.Option.{option_map}
use Rattle.std.proofs.lemmas.Option.{slice_get-get_or, slice_get-map}
use Rattle.std.specs.Prelude.{replicate}
use Rattle.zac_arch.specs.Architecture.{Architecture, trap_points, trap_count, StandsAt}
use Rattle.zac_arch.specs.declared.place.TrapId.{TrapId}
use Rattle.zac_group.specs.Moves.{point_at}
use Rattle.zair_state.specs.declared.place.Place.TheVariants.{Trap}
use Rattle.zair_state.specs.State.{beams_of, idle, opening, IsAt}

idle_at : (m k : ℕ) → slice_index_or (replicate m idle) k idle ≡ idle
idle_at zero k = refl
idle_at (suc m) zero = refl
idle_at (suc m) (suc k) = idle_at m k

in_trap : (o : Option TrapId) (t : TrapId) → option_map (λ u. Trap u) o ≡ Some (Trap t) → o ≡ Some t
in_trap None t e = cc
in_trap (Some u) t e = let same : u ≡ t = cc in ap (λ (x : TrapId). Some x) same

-- a trap stands where its number says
pub stands_at : (a : Architecture) (t : TrapId) → t.0 < trap_count a → StandsAt a t.0 (point_at a t)
stands_at a t within = slice_get-get_or (trap_points a) t.0 _ within

-- an atom rests in this trap
pub rests_in : (a : Architecture) (traps : List TrapId) (q : ℕ) (t : TrapId) → slice_get traps q ≡ Some t → IsAt (opening a traps) q (Trap t)
rests_in a traps q t h = slice_get-map (λ u. Trap u) traps q ∙ ap (option_map (λ u. Trap u)) h

pub rests_only_in : (a : Architecture) (traps : List TrapId) (q : ℕ) (t : TrapId) → IsAt (opening a traps) q (Trap t) → slice_get traps q ≡ Some t
rests_only_in a traps q t h = in_trap (slice_get traps q) t (sym (slice_get-map (λ u. Trap u) traps q) ∙ h)

-- no AOD has a beam in a state at rest
pub no_beam : (a : Architecture) (traps : List TrapId) (aod : ℕ) → beams_of (opening a traps) aod ≡ idle
no_beam a traps aod = idle_at a.figures.aods aod
