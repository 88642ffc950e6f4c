-- A job on the card that it was made for: the traps of its grid, when it can begin, and what its end changes.
use Rattle.std.proofs.Common.{◌≡◌, ℕ, ◌<◌, inl, inr, List, ◌++◌, fold, get_or, length, map, max, set, refl, sym, ap, ◌∙◌, subst}
use Rattle.std.proofs.lemmas.List.{get_or_default, with_items_is}
use Rattle.std.specs.List.{All}
use Rattle.std.specs.Vec.{with_item, with_items}
use Rattle.zac_aod.specs.Jobs.{StandAt}
use Rattle.zac_aod.specs.Lines.{source_points, target_points}
use Rattle.zac_aod.specs.Lowering.{job_steps}
use Rattle.zac_aod.specs.Resources.{HasResources}
use Rattle.zac_arch.specs.Architecture.{Architecture, StandsAt, trap_count}
use Rattle.zac_arch.specs.declared.place.Point.{Point}
use Rattle.zac_arch.specs.declared.place.TrapId.{TrapId}
use Rattle.zac_group.specs.Groups.{IsGroup}
use Rattle.zac_group.specs.declared.shift.Shift.{Shift}
use Rattle.zac_sched.specs.Ends.{AreEnds, AreMarked, IsFreeFrom}
use Rattle.zac_sched.specs.declared.ends.Ends.{Ends}
use Rattle.zac_sched.proofs.ByKind.{job_free, job_from, job_mark, zone_job_free, JobChanges, ZonesTold}
use Rattle.zac_sched.proofs.Changing.{Told}
use Rattle.zac_sched.proofs.Clashes.{AreGridTraps, MeetsZones}
use Rattle.zac_sched.proofs.GridTraps.{all_within, grid_traps}
use Rattle.zair_form.specs.declared.program.Act.TheVariants as act
use Rattle.zair_form.specs.declared.program.Instr.{Instr}

module _ (x a : Architecture) (shifts : List Shift) (grid : List TrapId) (same : x ≡ a) (one_trap : (t u : ℕ) (p : Point) → StandsAt a t p → StandsAt a u p → t ≡ u)
    (stand : StandAt x grid (source_points x shifts ++ target_points x shifts)) where
  grid_of : AreGridTraps a shifts grid
  grid_of = grid_traps a shifts grid one_trap (subst (λ (y : Architecture). StandAt y grid (source_points y shifts ++ target_points y shifts)) same stand)

  pub grid_within : (n : ℕ) → n ≡ trap_count a → All (λ (k : TrapId). k.0 < n) grid
  grid_within n e = subst (λ (m : ℕ). All (λ (k : TrapId). k.0 < m) grid) (sym e) (all_within a shifts grid grid_of)

  module _ (old : Ends) (aod : ℕ) (group : IsGroup (record { card = x; shifts = shifts }))
      (resources : (shifts : List Shift) → (aod : ℕ) → IsGroup (record { card = a; shifts = shifts }) → HasResources a shifts aod (job_steps a shifts aod)) where
    has_resources : HasResources a shifts aod (job_steps a shifts aod)
    has_resources = resources shifts aod (subst (λ (y : Architecture). IsGroup (record { card = y; shifts = shifts })) same group)

    -- all is free for it at the latest of these ends, and of the last pulse where it uses a trap of the entangling zones
    pub begins : aod < length old.aods.items → All (λ (s : Shift). s.q < length old.qubits.items) shifts → length old.traps.items ≡ trap_count a
        → (from : ℕ) → from ≡ job_from old aod shifts grid → (latest : ℕ) → Told (MeetsZones a grid) (max from old.pulse) from latest
        → (earlier : List Instr) → AreEnds a earlier old → IsFreeFrom a earlier (act.Job aod (job_steps a shifts aod)) latest
    begins known inside traps from from_is latest (inl m) earlier h =
        subst (λ (n : ℕ). IsFreeFrom a earlier (act.Job aod (job_steps a shifts aod)) n) (sym (m.1 ∙ ap (λ (n : ℕ). max n old.pulse) from_is))
        (zone_job_free a old aod shifts (job_steps a shifts aod) grid has_resources grid_of known inside (grid_within (length old.traps.items) traps) m.0 earlier h)
    begins known inside traps from from_is latest (inr m) earlier h =
        subst (λ (n : ℕ). IsFreeFrom a earlier (act.Job aod (job_steps a shifts aod)) n) (sym (m.1 ∙ from_is))
        (job_free a old aod shifts (job_steps a shifts aod) grid has_resources grid_of known inside (grid_within (length old.traps.items) traps) m.0 earlier h)

    -- its end is noted
    pub marks : (end : ℕ) (new : Ends) → JobChanges old aod shifts grid end new → ZonesTold a old grid end new → AreMarked a old (act.Job aod (job_steps a shifts aod)) end new
    marks end new changes told = job_mark a old new aod shifts (job_steps a shifts aod) grid end has_resources grid_of changes told

-- the latest end of what its moves and its grid use
pub from_ends : (old : Ends) (aod : ℕ) (shifts own : List Shift) (grid : List TrapId) (qubits traps : List ℕ) (first moves from : ℕ) → aod < length old.aods.items
    → own ≡ shifts → qubits ≡ old.qubits.items → traps ≡ old.traps.items → first ≡ get_or old.aods.items aod first
    → moves ≡ fold max first (map (λ (s : Shift). get_or qubits s.q 0) own) → from ≡ fold max moves (map (λ (k : TrapId). get_or traps k.0 0) grid)
    → from ≡ job_from old aod shifts grid
from_ends old aod shifts own grid qubits traps first moves from known own_is qubits_are traps_are first_is moves_are from_is =
    let begin : first ≡ get_or old.aods.items aod 0 = first_is ∙ get_or_default old.aods.items aod first 0 known in
    let moved : moves ≡ fold max (get_or old.aods.items aod 0) (map (λ (s : Shift). get_or old.qubits.items s.q 0) shifts) =
    moves_are ∙ (λ i. fold max (begin i) (map (λ (s : Shift). get_or (qubits_are i) s.q 0) (own_is i))) in
    from_is ∙ (λ i. fold max (moved i) (map (λ (k : TrapId). get_or (traps_are i) k.0 0) grid))

-- the last ends with that of an AOD, of qubits and traps, and of the jobs in the entangling zones changed
abbrev pub changed : Ends → ℕ → ℕ → List ℕ → List ℕ → ℕ → Ends
changed old aod end qubits traps zones =
    record { laser = old.laser; aods = with_item old.aods aod end; qubits = with_items old.qubits qubits; traps = with_items old.traps traps; zones = zones; pulse = old.pulse }

pub changes : (old : Ends) (aod : ℕ) (shifts : List Shift) (grid : List TrapId) (end : ℕ) (qubits traps : List ℕ) (zones : ℕ)
    → length qubits ≡ old.qubits.len → qubits ≡ fold (λ ns (s : Shift). set ns s.q end) old.qubits.items shifts
    → length traps ≡ old.traps.len → traps ≡ fold (λ ns (k : TrapId). set ns k.0 end) old.traps.items grid
    → JobChanges old aod shifts grid end (changed old aod end qubits traps zones)
changes old aod shifts grid end qubits traps zones as_long qubits_are as_many traps_are = record {
  laser = refl;
  pulse = refl;
  aods = refl;
  qubits = with_items_is old.qubits qubits as_long ∙ qubits_are;
  traps = with_items_is old.traps traps as_many ∙ traps_are;
}
