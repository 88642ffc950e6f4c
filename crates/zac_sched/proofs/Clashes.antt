-- Which acts conflict with gates, a pulse, a readout or a job.
use Rattle.std.proofs.Common.{◌≡◌, ℕ, ◌<◌, ◌≤◌, ◌⊎◌, inl, inr, List, length, get_or, refl, sym, subst}
use Rattle.std.specs.List.{Any}
use Rattle.zac_arch.specs.Architecture.{Architecture, storage_count, trap_count}
use Rattle.zac_arch.specs.declared.place.TrapId.{TrapId}
use Rattle.zac_aod.specs.Resources.{HasResources}
use Rattle.zac_aod.specs.Soundness.{IsOnGrids}
use Rattle.zac_group.specs.declared.shift.Shift.{Shift}
use Rattle.zair_form.specs.declared.program.Act.{Act}
use Rattle.zair_form.specs.declared.program.Act.TheVariants.{Init, Gates, Rydberg, Job, Readout}
use Rattle.zair_form.specs.declared.step.OneGate.{OneGate}
use Rattle.zair_form.specs.declared.step.PairOf.{PairOf}
use Rattle.zair_form.specs.declared.step.ReadOf.{ReadOf}
use Rattle.zair_form.specs.declared.step.Step.{Step}
use Rattle.zair_state.specs.Resources.{Conflict, Uses}
use Rattle.zair_state.specs.Resources.{Resource}
use Rattle.zair_state.specs.Resources.Resource.{Laser, Aod, Qubit, Trap}
use Rattle.zac_sched.specs.Ends.{IsPulseOrInit, TakesTrap, TakesZoneTrap}

-- gates and a readout: whatever uses the laser or one of their qubits
pub with_gates : (a : Architecture) (ones : List OneGate) (x : Act) → Uses a x Laser ⊎ Any (λ (g : OneGate). Uses a x (Qubit g.q)) ones → Conflict a x (Gates ones)
with_gates a ones x (inl u) = (Laser, u, tt)
with_gates a ones x (inr h) = (Qubit h.1.q, h.4, (h.0, h.1, h.2, h.3, refl))

gates_by : (a : Architecture) (ones : List OneGate) (x : Act) (r : Resource) → Uses a x r → Uses a (Gates ones) r → Uses a x Laser ⊎ Any (λ (g : OneGate). Uses a x (Qubit g.q)) ones
gates_by a ones x Laser u v = inl u
gates_by a ones x (Aod n) u v = absurd v
gates_by a ones x (Qubit q) u v = inr (v.0, v.1, v.2, v.3, subst (λ (n : ℕ). Uses a x (Qubit n)) (sym v.4) u)
gates_by a ones x (Trap t) u v = absurd v

pub of_gates : (a : Architecture) (ones : List OneGate) (x : Act) → Conflict a x (Gates ones) → Uses a x Laser ⊎ Any (λ (g : OneGate). Uses a x (Qubit g.q)) ones
of_gates a ones x c = gates_by a ones x c.0 c.1 c.2

pub with_readout : (a : Architecture) (reads : List ReadOf) (x : Act) → Uses a x Laser ⊎ Any (λ (r : ReadOf). Uses a x (Qubit r.q)) reads → Conflict a x (Readout reads)
with_readout a reads x (inl u) = (Laser, u, tt)
with_readout a reads x (inr h) = (Qubit h.1.q, h.4, (h.0, h.1, h.2, h.3, refl))

readout_by : (a : Architecture) (reads : List ReadOf) (x : Act) (r : Resource) → Uses a x r → Uses a (Readout reads) r → Uses a x Laser ⊎ Any (λ (r : ReadOf). Uses a x (Qubit r.q)) reads
readout_by a reads x Laser u v = inl u
readout_by a reads x (Aod n) u v = absurd v
readout_by a reads x (Qubit q) u v = inr (v.0, v.1, v.2, v.3, subst (λ (n : ℕ). Uses a x (Qubit n)) (sym v.4) u)
readout_by a reads x (Trap t) u v = absurd v

pub of_readout : (a : Architecture) (reads : List ReadOf) (x : Act) → Conflict a x (Readout reads) → Uses a x Laser ⊎ Any (λ (r : ReadOf). Uses a x (Qubit r.q)) reads
of_readout a reads x c = readout_by a reads x c.0 c.1 c.2

-- a pulse: whatever uses the laser, a trap of the entangling zones or one of its qubits
abbrev pub OfPair : Architecture → PairOf → Act → Type 0
OfPair a p x = Uses a x (Qubit p.a) ⊎ Uses a x (Qubit p.b)

with_zones : (a : Architecture) (pairs : List PairOf) (x : Act) → TakesZoneTrap a x → Conflict a x (Rydberg pairs)
with_zones a pairs (Init homes) z = (Laser, tt, tt)
with_zones a pairs (Gates ones) z = absurd z
with_zones a pairs (Rydberg others) z = absurd z
with_zones a pairs (Job aod steps) z = (Trap z.0, z.3, (z.1, z.2))
with_zones a pairs (Readout reads) z = absurd z

with_pair : (a : Architecture) (pairs : List PairOf) (x : Act) (k : ℕ) (p : PairOf) → k < length pairs → get_or pairs k p ≡ p → OfPair a p x → Conflict a x (Rydberg pairs)
with_pair a pairs x k p within is (inl u) = (Qubit p.a, u, (k, p, within, is, inl refl))
with_pair a pairs x k p within is (inr u) = (Qubit p.b, u, (k, p, within, is, inr refl))

pub with_pulse : (a : Architecture) (pairs : List PairOf) (x : Act) → (Uses a x Laser ⊎ TakesZoneTrap a x) ⊎ Any (λ (p : PairOf). OfPair a p x) pairs → Conflict a x (Rydberg pairs)
with_pulse a pairs x (inl (inl u)) = (Laser, u, tt)
with_pulse a pairs x (inl (inr z)) = with_zones a pairs x z
with_pulse a pairs x (inr h) = with_pair a pairs x h.0 h.1 h.2 h.3 h.4

of_pair : (a : Architecture) (x : Act) (q : ℕ) (p : PairOf) → Uses a x (Qubit q) → (p.a ≡ q) ⊎ (p.b ≡ q) → OfPair a p x
of_pair a x q p u (inl e) = inl (subst (λ (n : ℕ). Uses a x (Qubit n)) (sym e) u)
of_pair a x q p u (inr e) = inr (subst (λ (n : ℕ). Uses a x (Qubit n)) (sym e) u)

of_zones : (a : Architecture) (x : Act) (t : ℕ) → Uses a x (Trap t) → storage_count a ≤ t → t < trap_count a → Uses a x Laser ⊎ TakesZoneTrap a x
of_zones a (Init homes) t u low high = inl tt
of_zones a (Gates ones) t u low high = absurd u
of_zones a (Rydberg others) t u low high = inl tt
of_zones a (Job aod steps) t u low high = inr (t, low, high, u)
of_zones a (Readout reads) t u low high = absurd u

pulse_by : (a : Architecture) (pairs : List PairOf) (x : Act) (r : Resource) → Uses a x r → Uses a (Rydberg pairs) r → (Uses a x Laser ⊎ TakesZoneTrap a x) ⊎ Any (λ (p : PairOf). OfPair a p x) pairs
pulse_by a pairs x Laser u v = inl (inl u)
pulse_by a pairs x (Aod n) u v = absurd v
pulse_by a pairs x (Qubit q) u v = inr (v.0, v.1, v.2, v.3, of_pair a x q v.1 u v.4)
pulse_by a pairs x (Trap t) u v = inl (of_zones a x t u v.0 v.1)

pub of_pulse : (a : Architecture) (pairs : List PairOf) (x : Act) → Conflict a x (Rydberg pairs) → (Uses a x Laser ⊎ TakesZoneTrap a x) ⊎ Any (λ (p : PairOf). OfPair a p x) pairs
of_pulse a pairs x c = pulse_by a pairs x c.0 c.1 c.2

-- the traps are those of the job's grids
pub record AreGridTraps (a : Architecture) (shifts : List Shift) (grid : List TrapId) : Type 0 where
  pub listed : (t : ℕ) → IsOnGrids a shifts t → Any (λ (k : TrapId). k.0 ≡ t) grid
  pub on_grids : (t : ℕ) → Any (λ (k : TrapId). k.0 ≡ t) grid → IsOnGrids a shifts t
  pub within : (t : ℕ) → Any (λ (k : TrapId). k.0 ≡ t) grid → t < trap_count a

-- a job: whatever uses its AOD, one of its qubits, or a trap of its grids; a pulse too if one of them is in the entangling zones
abbrev pub OfJob : Architecture → ℕ → List Shift → List TrapId → Act → Type 0
OfJob a aod shifts grid x =
    (Uses a x (Aod aod) ⊎ Any (λ (s : Shift). Uses a x (Qubit s.q)) shifts) ⊎ Any (λ (k : TrapId). TakesTrap a k.0 x) grid

with_trap : (a : Architecture) (x y : Act) (t : ℕ) → TakesTrap a t x → Uses a y (Trap t) → Conflict a x y
with_trap a (Init homes) y t h u = (Trap t, tt, u)
with_trap a (Gates ones) y t h u = absurd h
with_trap a (Rydberg pairs) y t h u = absurd h
with_trap a (Job aod steps) y t h u = (Trap t, h, u)
with_trap a (Readout reads) y t h u = absurd h

pub with_job : (a : Architecture) (aod : ℕ) (shifts : List Shift) (steps : List Step) (grid : List TrapId) → HasResources a shifts aod steps → AreGridTraps a shifts grid
    → (x : Act) → OfJob a aod shifts grid x → Conflict a x (Job aod steps)
with_job a aod shifts steps grid r g x (inl (inl u)) = (Aod aod, u, r.own_aod)
with_job a aod shifts steps grid r g x (inl (inr h)) = (Qubit h.1.q, h.4, r.own_qubits h.1.q (h.0, h.1, h.2, h.3, refl))
with_job a aod shifts steps grid r g x (inr h) = with_trap a x (Job aod steps) h.1.0 h.4 (r.own_traps h.1.0 (g.on_grids h.1.0 (h.0, h.1, h.2, h.3, refl)))

with_pulses_at : (a : Architecture) (x y : Act) (t : ℕ) → storage_count a ≤ t → t < trap_count a → Uses a y (Trap t) → IsPulseOrInit x → Conflict a x y
with_pulses_at a (Init homes) y t low high u h = (Trap t, tt, u)
with_pulses_at a (Gates ones) y t low high u h = absurd h
with_pulses_at a (Rydberg pairs) y t low high u h = (Trap t, (low, high), u)
with_pulses_at a (Job aod steps) y t low high u h = absurd h
with_pulses_at a (Readout reads) y t low high u h = absurd h

-- some listed trap is one of the entangling zones
abbrev pub MeetsZones : Architecture → List TrapId → Type 0
MeetsZones a grid = Any (λ (k : TrapId). storage_count a ≤ k.0) grid

pub with_pulses : (a : Architecture) (aod : ℕ) (shifts : List Shift) (steps : List Step) (grid : List TrapId) → HasResources a shifts aod steps → AreGridTraps a shifts grid
    → MeetsZones a grid → (x : Act) → IsPulseOrInit x → Conflict a x (Job aod steps)
with_pulses a aod shifts steps grid r g m x h =
    let listed : Any (λ (k : TrapId). k.0 ≡ m.1.0) grid = (m.0, m.1, m.2, m.3, refl) in
    with_pulses_at a x (Job aod steps) m.1.0 m.4 (g.within m.1.0 listed) (r.own_traps m.1.0 (g.on_grids m.1.0 listed)) h

of_trap : (a : Architecture) (aod : ℕ) (shifts : List Shift) (grid : List TrapId) (x : Act) (t : ℕ) → Uses a x (Trap t) → Any (λ (k : TrapId). k.0 ≡ t) grid
    → OfJob a aod shifts grid x ⊎ (IsPulseOrInit x × MeetsZones a grid)
of_trap a aod shifts grid (Init homes) t u h = inl (inl (inl tt))
of_trap a aod shifts grid (Gates ones) t u h = absurd u
of_trap a aod shifts grid (Rydberg pairs) t u h = inr (tt, (h.0, h.1, h.2, h.3, subst (λ (n : ℕ). storage_count a ≤ n) (sym h.4) u.0))
of_trap a aod shifts grid (Job other steps) t u h = inl (inr (h.0, h.1, h.2, h.3, subst (λ (n : ℕ). Uses a (Job other steps) (Trap n)) (sym h.4) u))
of_trap a aod shifts grid (Readout reads) t u h = absurd u

job_by : (a : Architecture) (aod : ℕ) (shifts : List Shift) (steps : List Step) (grid : List TrapId) → HasResources a shifts aod steps → AreGridTraps a shifts grid
    → (x : Act) (r : Resource) → Uses a x r → Uses a (Job aod steps) r → OfJob a aod shifts grid x ⊎ (IsPulseOrInit x × MeetsZones a grid)
job_by a aod shifts steps grid r g x Laser u v = absurd v
job_by a aod shifts steps grid r g x (Aod n) u v = inl (inl (inl (subst (λ (m : ℕ). Uses a x (Aod m)) (sym v) u)))
job_by a aod shifts steps grid r g x (Qubit q) u v =
    let own = r.qubits_are q v in
    inl (inl (inr (own.0, own.1, own.2, own.3, subst (λ (n : ℕ). Uses a x (Qubit n)) (sym own.4) u)))
job_by a aod shifts steps grid r g x (Trap t) u v = of_trap a aod shifts grid x t u (g.listed t (r.traps_are t v))

pub of_job : (a : Architecture) (aod : ℕ) (shifts : List Shift) (steps : List Step) (grid : List TrapId) → HasResources a shifts aod steps → AreGridTraps a shifts grid
    → (x : Act) → Conflict a x (Job aod steps) → OfJob a aod shifts grid x ⊎ (IsPulseOrInit x × MeetsZones a grid)
of_job a aod shifts steps grid r g x c = job_by a aod shifts steps grid r g x c.0 c.1 c.2
