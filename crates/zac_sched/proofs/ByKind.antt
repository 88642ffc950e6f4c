-- When gates, a pulse, a readout or a job can begin, and the last ends behind it.
use Rattle.std.proofs.Common.{◌≡◌, ℕ, ◌<◌, ◌≤◌, ◌⊎◌, inl, inr, List, length, get_or, set, fold, map, max, refl, sym, ap, ◌∙◌, subst, arith}
use Rattle.std.specs.List.{All, Any}
use Rattle.std.proofs.Math.ListN.{length-set}
use Rattle.std.proofs.lemmas.List.Elements.{All-weaker}
use Rattle.zac_aod.specs.Resources.{HasResources}
use Rattle.zac_arch.specs.Architecture.{Architecture, storage_count}
use Rattle.zac_arch.specs.declared.place.TrapId.{TrapId}
use Rattle.zac_group.specs.declared.shift.Shift.{Shift}
use Rattle.zair_form.specs.declared.program.Act.TheVariants.{Gates, Rydberg, Job, Readout}
use Rattle.zair_form.specs.declared.program.Instr.{Instr}
use Rattle.zair_form.specs.declared.step.OneGate.{OneGate}
use Rattle.zair_form.specs.declared.step.PairOf.{PairOf}
use Rattle.zair_form.specs.declared.step.ReadOf.{ReadOf}
use Rattle.zair_form.specs.declared.step.Step.{Step}
use Rattle.zair_state.specs.Resources.{Conflict, Uses}
use Rattle.zair_state.specs.Resources.Resource.{Laser, Aod, Qubit, Trap}
use Rattle.zac_sched.specs.Ends.{AreEnds, AreMarked, IsLatest, IsPulseOrInit, TakesTrap, TakesZoneTrap}
use Rattle.zac_sched.specs.declared.ends.Ends.{Ends}
use Rattle.zac_sched.proofs.Changing.{Told, as_latest, changes_mark}
use Rattle.zac_sched.proofs.Clashes.{AreGridTraps, MeetsZones, OfJob, OfPair, of_gates, of_job, of_pulse, of_readout, with_gates, with_job, with_pulse, with_pulses, with_readout}
use Rattle.zac_sched.proofs.Latest.{Either, latest_alike, latest_either, latest_of_all}
use Rattle.zac_sched.proofs.Marking.{Noted, length_noted, noted_all, noted_one, noted_two}

-- the last end of a qubit
abbrev pub of_qubit : Ends → ℕ → ℕ
of_qubit ends q = get_or ends.qubits.items q 0

pub gates_free : (a : Architecture) (old : Ends) (ones : List OneGate) → All (λ (g : OneGate). g.q < length old.qubits.items) ones → (earlier : List Instr) → AreEnds a earlier old
    → IsLatest (λ x. Conflict a x (Gates ones)) earlier (fold max old.laser (map (λ (g : OneGate). of_qubit old g.q) ones))
gates_free a old ones inside earlier h =
    latest_alike (λ x. Uses a x Laser ⊎ Any (λ (g : OneGate). Uses a x (Qubit g.q)) ones) (λ x. Conflict a x (Gates ones)) (with_gates a ones) (of_gates a ones) earlier
    (fold max old.laser (map (λ (g : OneGate). of_qubit old g.q) ones))
    (latest_of_all (λ x. Uses a x Laser) (λ (g : OneGate) x. Uses a x (Qubit g.q)) (λ (g : OneGate). of_qubit old g.q) earlier old.laser ones (as_latest a earlier Laser old.laser h.laser)
    (All-weaker (λ (g : OneGate). g.q < length old.qubits.items) (λ (g : OneGate). IsLatest (λ x. Uses a x (Qubit g.q)) earlier (of_qubit old g.q)) (λ g lt. as_latest a earlier (Qubit g.q) (of_qubit old g.q) (h.qubits g.q lt)) ones inside))

pub readout_free : (a : Architecture) (old : Ends) (reads : List ReadOf) → All (λ (r : ReadOf). r.q < length old.qubits.items) reads → (earlier : List Instr) → AreEnds a earlier old
    → IsLatest (λ x. Conflict a x (Readout reads)) earlier (fold max old.laser (map (λ (r : ReadOf). of_qubit old r.q) reads))
readout_free a old reads inside earlier h =
    latest_alike (λ x. Uses a x Laser ⊎ Any (λ (r : ReadOf). Uses a x (Qubit r.q)) reads) (λ x. Conflict a x (Readout reads)) (with_readout a reads) (of_readout a reads) earlier
    (fold max old.laser (map (λ (r : ReadOf). of_qubit old r.q) reads))
    (latest_of_all (λ x. Uses a x Laser) (λ (r : ReadOf) x. Uses a x (Qubit r.q)) (λ (r : ReadOf). of_qubit old r.q) earlier old.laser reads (as_latest a earlier Laser old.laser h.laser)
    (All-weaker (λ (r : ReadOf). r.q < length old.qubits.items) (λ (r : ReadOf). IsLatest (λ x. Uses a x (Qubit r.q)) earlier (of_qubit old r.q)) (λ r lt. as_latest a earlier (Qubit r.q) (of_qubit old r.q) (h.qubits r.q lt)) reads inside))

pub pulse_free : (a : Architecture) (old : Ends) (pairs : List PairOf) → All (λ (p : PairOf). (p.a < length old.qubits.items) × (p.b < length old.qubits.items)) pairs → (earlier : List Instr) → AreEnds a earlier old
    → IsLatest (λ x. Conflict a x (Rydberg pairs)) earlier (fold max (max old.laser old.zones) (map (λ (p : PairOf). max (of_qubit old p.a) (of_qubit old p.b)) pairs))
pulse_free a old pairs inside earlier h =
    latest_alike (λ x. (Uses a x Laser ⊎ TakesZoneTrap a x) ⊎ Any (λ (p : PairOf). OfPair a p x) pairs) (λ x. Conflict a x (Rydberg pairs)) (with_pulse a pairs) (of_pulse a pairs) earlier
    (fold max (max old.laser old.zones) (map (λ (p : PairOf). max (of_qubit old p.a) (of_qubit old p.b)) pairs))
    (latest_of_all (Either (λ x. Uses a x Laser) (TakesZoneTrap a)) (OfPair a) (λ (p : PairOf). max (of_qubit old p.a) (of_qubit old p.b)) earlier (max old.laser old.zones) pairs
    (latest_either (λ x. Uses a x Laser) (TakesZoneTrap a) earlier old.laser old.zones (as_latest a earlier Laser old.laser h.laser) h.zones)
    (All-weaker (λ (p : PairOf). (p.a < length old.qubits.items) × (p.b < length old.qubits.items)) (λ (p : PairOf). IsLatest (OfPair a p) earlier (max (of_qubit old p.a) (of_qubit old p.b)))
    (λ p lt. latest_either (λ x. Uses a x (Qubit p.a)) (λ x. Uses a x (Qubit p.b)) earlier (of_qubit old p.a) (of_qubit old p.b) (as_latest a earlier (Qubit p.a) (of_qubit old p.a) (h.qubits p.a lt.0)) (as_latest a earlier (Qubit p.b) (of_qubit old p.b) (h.qubits p.b lt.1)))
    pairs inside))

-- what the job uses but for pulses
abbrev pub job_from : Ends → ℕ → List Shift → List TrapId → ℕ
job_from old aod shifts grid =
    fold max (fold max (get_or old.aods.items aod 0) (map (λ (s : Shift). of_qubit old s.q) shifts)) (map (λ (k : TrapId). get_or old.traps.items k.0 0) grid)

job_part : (a : Architecture) (old : Ends) (aod : ℕ) (shifts : List Shift) (grid : List TrapId) → aod < length old.aods.items → All (λ (s : Shift). s.q < length old.qubits.items) shifts
    → All (λ (k : TrapId). k.0 < length old.traps.items) grid → (earlier : List Instr) → AreEnds a earlier old
    → IsLatest (OfJob a aod shifts grid) earlier (job_from old aod shifts grid)
job_part a old aod shifts grid known inside within earlier h =
    latest_of_all (λ x. Uses a x (Aod aod) ⊎ Any (λ (s : Shift). Uses a x (Qubit s.q)) shifts) (λ (k : TrapId) x. TakesTrap a k.0 x) (λ (k : TrapId). get_or old.traps.items k.0 0) earlier
    (fold max (get_or old.aods.items aod 0) (map (λ (s : Shift). of_qubit old s.q) shifts)) grid
    (latest_of_all (λ x. Uses a x (Aod aod)) (λ (s : Shift) x. Uses a x (Qubit s.q)) (λ (s : Shift). of_qubit old s.q) earlier (get_or old.aods.items aod 0) shifts
    (as_latest a earlier (Aod aod) (get_or old.aods.items aod 0) (h.aods aod (omega (arith, h.aods_are))))
    (All-weaker (λ (s : Shift). s.q < length old.qubits.items) (λ (s : Shift). IsLatest (λ x. Uses a x (Qubit s.q)) earlier (of_qubit old s.q)) (λ s lt. as_latest a earlier (Qubit s.q) (of_qubit old s.q) (h.qubits s.q lt)) shifts inside))
    (All-weaker (λ (k : TrapId). k.0 < length old.traps.items) (λ (k : TrapId). IsLatest (TakesTrap a k.0) earlier (get_or old.traps.items k.0 0)) (λ k lt. h.traps k.0 (omega (arith, h.traps_are))) grid within)

-- a job that uses no trap of the entangling zones
pub job_free : (a : Architecture) (old : Ends) (aod : ℕ) (shifts : List Shift) (steps : List Step) (grid : List TrapId) → HasResources a shifts aod steps → AreGridTraps a shifts grid
    → aod < length old.aods.items → All (λ (s : Shift). s.q < length old.qubits.items) shifts → All (λ (k : TrapId). k.0 < length old.traps.items) grid
    → ¬ MeetsZones a grid → (earlier : List Instr) → AreEnds a earlier old
    → IsLatest (λ x. Conflict a x (Job aod steps)) earlier (job_from old aod shifts grid)
job_free a old aod shifts steps grid r g known inside within clear earlier h =
    latest_alike (OfJob a aod shifts grid) (λ x. Conflict a x (Job aod steps)) (with_job a aod shifts steps grid r g)
    (λ x c. elim (of_job a aod shifts steps grid r g x c) [ inl j ↦ j | inr p ↦ absurd (clear p.1) ]) earlier (job_from old aod shifts grid)
    (job_part a old aod shifts grid known inside within earlier h)

-- a job that uses one
pub zone_job_free : (a : Architecture) (old : Ends) (aod : ℕ) (shifts : List Shift) (steps : List Step) (grid : List TrapId) → HasResources a shifts aod steps → AreGridTraps a shifts grid
    → aod < length old.aods.items → All (λ (s : Shift). s.q < length old.qubits.items) shifts → All (λ (k : TrapId). k.0 < length old.traps.items) grid
    → MeetsZones a grid → (earlier : List Instr) → AreEnds a earlier old
    → IsLatest (λ x. Conflict a x (Job aod steps)) earlier (max (job_from old aod shifts grid) old.pulse)
zone_job_free a old aod shifts steps grid r g known inside within meets earlier h =
    latest_alike (Either (OfJob a aod shifts grid) IsPulseOrInit) (λ x. Conflict a x (Job aod steps))
    (λ x u. elim u [ inl j ↦ with_job a aod shifts steps grid r g x j | inr p ↦ with_pulses a aod shifts steps grid r g meets x p ])
    (λ x c. elim (of_job a aod shifts steps grid r g x c) [ inl j ↦ inl j | inr p ↦ inr p.0 ]) earlier (max (job_from old aod shifts grid) old.pulse)
    (latest_either (OfJob a aod shifts grid) IsPulseOrInit earlier (job_from old aod shifts grid) old.pulse (job_part a old aod shifts grid known inside within earlier h) h.pulse)

-- nothing is noted
unnoted : (One : Type 0) (end : ℕ) (old new : List ℕ) (q : ℕ) → ¬ One → new ≡ old → Noted One end old new q
unnoted One end old new q none e = inr (none, ap (λ (ns : List ℕ). get_or ns q 0) e)

-- the ends of these qubits are noted
noted : {X : Type 0} (place : X → ℕ) (end : ℕ) (xs : List X) (old new : List ℕ) (q : ℕ) → q < length old → new ≡ fold (λ ns x. set ns (place x) end) old xs → Noted (Any (λ x. place x ≡ q) xs) end old new q
noted place end xs old new q within e =
    subst (λ (ns : List ℕ). Noted (Any (λ x. place x ≡ q) xs) end old ns q) (sym e)
    (noted_all (λ ns x. set ns (place x) end) (λ x p. place x ≡ p) end (λ ns x. length-set ns (place x) end) (λ ns x p lt. noted_one end ns (place x) p lt) xs old q within)

as_long : {X : Type 0} (place : X → ℕ) (end : ℕ) (xs : List X) (old new : List ℕ) → new ≡ fold (λ ns x. set ns (place x) end) old xs → length new ≡ length old
as_long place end xs old new e = ap length e ∙ length_noted (λ ns x. set ns (place x) end) (λ ns x. length-set ns (place x) end) xs old

-- the parts of the last ends that only jobs change
pub record AreKept (old new : Ends) : Type 0 where
  pub aods : new.aods.items ≡ old.aods.items
  pub traps : new.traps.items ≡ old.traps.items
  pub zones : new.zones ≡ old.zones

pub gates_mark : (a : Architecture) (old new : Ends) (ones : List OneGate) (end : ℕ) → AreKept old new → new.laser ≡ end → new.pulse ≡ old.pulse
    → new.qubits.items ≡ fold (λ ns (g : OneGate). set ns g.q end) old.qubits.items ones → AreMarked a old (Gates ones) end new
gates_mark a old new ones end kept laser pulse qubits = changes_mark a old (Gates ones) end new (record {
  laser = inl (tt, laser);
  aods_are = ap length kept.aods;
  aods = λ n within. unnoted ⊥ end old.aods.items new.aods.items n (λ u. u) kept.aods;
  qubits_are = as_long (λ (g : OneGate). g.q) end ones old.qubits.items new.qubits.items qubits;
  qubits = λ q within. noted (λ (g : OneGate). g.q) end ones old.qubits.items new.qubits.items q within qubits;
  traps_are = ap length kept.traps;
  traps = λ t within. unnoted ⊥ end old.traps.items new.traps.items t (λ u. u) kept.traps;
  zones = inr (λ u. u, kept.zones);
  pulse = inr (λ u. u, pulse);
})

pub readout_mark : (a : Architecture) (old new : Ends) (reads : List ReadOf) (end : ℕ) → AreKept old new → new.laser ≡ end → new.pulse ≡ old.pulse
    → new.qubits.items ≡ fold (λ ns (r : ReadOf). set ns r.q end) old.qubits.items reads → AreMarked a old (Readout reads) end new
readout_mark a old new reads end kept laser pulse qubits = changes_mark a old (Readout reads) end new (record {
  laser = inl (tt, laser);
  aods_are = ap length kept.aods;
  aods = λ n within. unnoted ⊥ end old.aods.items new.aods.items n (λ u. u) kept.aods;
  qubits_are = as_long (λ (r : ReadOf). r.q) end reads old.qubits.items new.qubits.items qubits;
  qubits = λ q within. noted (λ (r : ReadOf). r.q) end reads old.qubits.items new.qubits.items q within qubits;
  traps_are = ap length kept.traps;
  traps = λ t within. unnoted ⊥ end old.traps.items new.traps.items t (λ u. u) kept.traps;
  zones = inr (λ u. u, kept.zones);
  pulse = inr (λ u. u, pulse);
})

abbrev pub note_pair : ℕ → List ℕ → PairOf → List ℕ
note_pair end ns p = set (set ns p.a end) p.b end

pair_long : (end : ℕ) (ns : List ℕ) (p : PairOf) → length (note_pair end ns p) ≡ length ns
pair_long end ns p = length-set (set ns p.a end) p.b end ∙ length-set ns p.a end

pub pulse_mark : (a : Architecture) (old new : Ends) (pairs : List PairOf) (end : ℕ) → AreKept old new → new.laser ≡ end → new.pulse ≡ end
    → new.qubits.items ≡ fold (note_pair end) old.qubits.items pairs → AreMarked a old (Rydberg pairs) end new
pulse_mark a old new pairs end kept laser pulse qubits = changes_mark a old (Rydberg pairs) end new (record {
  laser = inl (tt, laser);
  aods_are = ap length kept.aods;
  aods = λ n within. unnoted ⊥ end old.aods.items new.aods.items n (λ u. u) kept.aods;
  qubits_are = ap length qubits ∙ length_noted (note_pair end) (pair_long end) pairs old.qubits.items;
  qubits = λ q within.
      subst (λ (ns : List ℕ). Noted (Any (λ (p : PairOf). (p.a ≡ q) ⊎ (p.b ≡ q)) pairs) end old.qubits.items ns q) (sym qubits)
      (noted_all (note_pair end) (λ (p : PairOf) n. (p.a ≡ n) ⊎ (p.b ≡ n)) end (pair_long end) (λ ns p n lt. noted_two end ns p.a p.b n lt) pairs old.qubits.items q within);
  traps_are = ap length kept.traps;
  traps = λ t within. unnoted ⊥ end old.traps.items new.traps.items t (λ u. u) kept.traps;
  zones = inr (λ u. u, kept.zones);
  pulse = inl (tt, pulse);
})

-- one property for another
alike : (One Other : Type 0) (end : ℕ) (old new : List ℕ) (q : ℕ) → (One → Other) → (Other → One) → Noted One end old new q → Noted Other end old new q
alike One Other end old new q there back (inl h) = inl (there h.0, h.1)
alike One Other end old new q there back (inr h) = inr (λ o. h.0 (back o), h.1)

-- what a job changes but for the end of the jobs in the entangling zones
pub record JobChanges (old : Ends) (aod : ℕ) (shifts : List Shift) (grid : List TrapId) (end : ℕ) (new : Ends) : Type 0 where
  pub laser : new.laser ≡ old.laser
  pub pulse : new.pulse ≡ old.pulse
  pub aods : new.aods.items ≡ set old.aods.items aod end
  pub qubits : new.qubits.items ≡ fold (λ ns (s : Shift). set ns s.q end) old.qubits.items shifts
  pub traps : new.traps.items ≡ fold (λ ns (k : TrapId). set ns k.0 end) old.traps.items grid

-- the end of the jobs in the entangling zones
abbrev pub ZonesTold : Architecture → Ends → List TrapId → ℕ → Ends → Type 0
ZonesTold a old grid end new = Told (MeetsZones a grid) (max old.zones end) old.zones new.zones

job_zones : (a : Architecture) (old new : Ends) (aod : ℕ) (shifts : List Shift) (steps : List Step) (grid : List TrapId) (end : ℕ) → HasResources a shifts aod steps → AreGridTraps a shifts grid
    → ZonesTold a old grid end new → Told (TakesZoneTrap a (Job aod steps)) (max old.zones end) old.zones new.zones
job_zones a old new aod shifts steps grid end r g (inl m) =
    let k = m.0 in
    let listed : Any (λ (t : TrapId). t.0 ≡ k.1.0) grid = (k.0, k.1, k.2, k.3, refl) in
    inl ((k.1.0, k.4, g.within k.1.0 listed, r.own_traps k.1.0 (g.on_grids k.1.0 listed)), m.1)
job_zones a old new aod shifts steps grid end r g (inr m) =
    inr (λ z. let k = g.listed z.0 (r.traps_are z.0 z.3) in m.0 (k.0, k.1, k.2, k.3, subst (λ (n : ℕ). storage_count a ≤ n) (sym k.4) z.1), m.1)

pub job_mark : (a : Architecture) (old new : Ends) (aod : ℕ) (shifts : List Shift) (steps : List Step) (grid : List TrapId) (end : ℕ) → HasResources a shifts aod steps → AreGridTraps a shifts grid
    → JobChanges old aod shifts grid end new → ZonesTold a old grid end new → AreMarked a old (Job aod steps) end new
job_mark a old new aod shifts steps grid end r g ch zones = changes_mark a old (Job aod steps) end new (record {
  laser = inr (r.no_laser, ch.laser);
  aods_are = ap length ch.aods ∙ length-set old.aods.items aod end;
  aods = λ n within. subst (λ (ns : List ℕ). Noted (aod ≡ n) end old.aods.items ns n) (sym ch.aods) (noted_one end old.aods.items aod n within);
  qubits_are = as_long (λ (s : Shift). s.q) end shifts old.qubits.items new.qubits.items ch.qubits;
  qubits = λ q within. alike (Any (λ (s : Shift). s.q ≡ q) shifts) (Uses a (Job aod steps) (Qubit q)) end old.qubits.items new.qubits.items q (r.own_qubits q) (r.qubits_are q)
      (noted (λ (s : Shift). s.q) end shifts old.qubits.items new.qubits.items q within ch.qubits);
  traps_are = as_long (λ (k : TrapId). k.0) end grid old.traps.items new.traps.items ch.traps;
  traps = λ t within. alike (Any (λ (k : TrapId). k.0 ≡ t) grid) (Uses a (Job aod steps) (Trap t)) end old.traps.items new.traps.items t
      (λ k. r.own_traps t (g.on_grids t k)) (λ u. g.listed t (r.traps_are t u))
      (noted (λ (k : TrapId). k.0) end grid old.traps.items new.traps.items t within ch.traps);
  zones = job_zones a old new aod shifts steps grid end r g zones;
  pulse = inr (λ u. u, ch.pulse);
})

pub qubits_kept : {X : Type 0} (place : X → ℕ) (end : ℕ) (xs : List X) (old new : List ℕ) → new ≡ fold (λ ns x. set ns (place x) end) old xs → length new ≡ length old
qubits_kept place end xs old new e = as_long place end xs old new e

pub pairs_kept : (end : ℕ) (pairs : List PairOf) (old new : List ℕ) → new ≡ fold (note_pair end) old pairs → length new ≡ length old
pairs_kept end pairs old new e = ap length e ∙ length_noted (note_pair end) (pair_long end) pairs old
