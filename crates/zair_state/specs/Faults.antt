-- What can be wrong with a step, condition by condition.
use Rattle.std.specs.Prelude.{◌≡◌, ◌≢◌, ℕ, ◌+◌, ◌<◌, ◌≤◌, ◌⊎◌, List, [], ◌∷◌, Some, length, map, flat_map, count_by, nat_le}
use Rattle.std.specs.List.{Any, Contains, slice_get}
use Rattle.zac_arch.specs.Architecture.{Architecture, StandsAt, IsLit, trap_count}
use Rattle.zac_arch.specs.declared.place.Point.{Point}
use Rattle.zac_arch.specs.declared.place.TrapId.{TrapId}
use Rattle.zair_form.specs.declared.step.Beam.{Beam}
use Rattle.zair_form.specs.declared.step.Caught.{Caught}
use Rattle.zair_form.specs.declared.step.PairOf.{PairOf}
use Rattle.zair_form.specs.declared.step.Step.{Step}
use Rattle.zair_form.specs.declared.step.Step.TheVariants.{Activate, Move, Deactivate, One, Pulse, Readout}
use Rattle.zair_state.specs.declared.fault.Axis.{Axis}
use Rattle.zair_state.specs.declared.fault.Axis.TheVariants.{Row, Column}
use Rattle.zair_state.specs.declared.fault.BeamId.{BeamId}
use Rattle.zair_state.specs.declared.place.Place.TheVariants.{Trap, Held}
use Rattle.zair_state.specs.State.{State, beams_of, IsAt, HasId, crossing, IsFreeOfOthers, IsClear, RestsLit, AreInRange}
use Rattle.zair_state.specs.Legal.{Picks, Drops, IsPairOf}
use Rattle.zair_state.specs.Result.{with_beams}

-- Of rows and columns, those of the axis.
abbrev pub along : {X : Type 0} → Axis → X → X → X
along Row rows columns = rows
along Column rows columns = columns

-- The active beams of an AOD along the axis.
abbrev pub active : State → ℕ → Axis → List Beam
active s aod axis = along axis (beams_of s aod).rows (beams_of s aod).columns

-- The beams along the axis after a step that switches beams on or moves them, by rising id.
abbrev pub beams_after : State → Step → Axis → List Beam
beams_after s (Activate aod rows columns atoms) axis = with_beams (along axis rows columns) (active s aod axis)
beams_after s (Move aod rows columns) axis = with_beams (along axis rows columns) []
beams_after s (Deactivate aod rows columns atoms) axis = []
beams_after s (One gate) axis = []
beams_after s (Pulse pairs) axis = []
beams_after s (Readout reads) axis = []

-- The AODs that a step names.
abbrev pub aods_named : Step → List ℕ
aods_named (Activate aod rows columns atoms) = aod ∷ []
aods_named (Move aod rows columns) = aod ∷ []
aods_named (Deactivate aod rows columns atoms) = aod ∷ []
aods_named (One gate) = []
aods_named (Pulse pairs) = []
aods_named (Readout reads) = []

-- The qubits that a step names.
abbrev pub qubits_named : Step → List ℕ
qubits_named (Activate aod rows columns atoms) = map (λ c. c.q) atoms
qubits_named (Move aod rows columns) = []
qubits_named (Deactivate aod rows columns atoms) = map (λ d. d.q) atoms
qubits_named (One gate) = gate.q ∷ []
qubits_named (Pulse pairs) = flat_map (λ p. p.a ∷ p.b ∷ []) pairs
qubits_named (Readout reads) = map (λ r. r.q) reads

-- The traps that a step names.
abbrev pub traps_named : Step → List ℕ
traps_named (Activate aod rows columns atoms) = []
traps_named (Move aod rows columns) = []
traps_named (Deactivate aod rows columns atoms) = map (λ d. d.trap.0) atoms
traps_named (One gate) = []
traps_named (Pulse pairs) = []
traps_named (Readout reads) = []

-- The step names an AOD, a qubit or a trap of this number, and the machine has none.
abbrev pub IsUnknown : Architecture → State → Step → ℕ → Type 0
IsUnknown a s step number =
    (Contains (aods_named step) number × (length s.aods ≤ number))
    ⊎ ((Contains (qubits_named step) number × (length s.places ≤ number)) ⊎ (Contains (traps_named step) number × (trap_count a ≤ number)))

-- The number stands in the list at two places.
abbrev pub IsTwice : List ℕ → ℕ → Type 0
IsTwice ns n = (i : ℕ) × (j : ℕ) × (i < j) × (slice_get ns i ≡ Some n) × (slice_get ns j ≡ Some n)

-- The ids of beams.
abbrev pub ids : List Beam → List ℕ
ids beams = map (λ b. b.id) beams

-- The id is listed twice in one list of beams, or the step switches on a beam that is active.
abbrev pub IsBusy : State → Step → BeamId → Type 0
IsBusy s (Activate aod rows columns atoms) b =
    IsTwice (ids (along b.axis rows columns)) b.id ⊎ (HasId (along b.axis rows columns) b.id × HasId (active s aod b.axis) b.id)
IsBusy s (Move aod rows columns) b = IsTwice (ids (along b.axis rows columns)) b.id
IsBusy s (Deactivate aod rows columns atoms) b = IsTwice (along b.axis rows columns) b.id
IsBusy s (One gate) b = ⊥
IsBusy s (Pulse pairs) b = ⊥
IsBusy s (Readout reads) b = ⊥

-- The beam along the axis that a caught atom names.
abbrev pub named_beam : Axis → Caught → ℕ
named_beam axis c = along axis c.row c.column

-- A beam is moved or switched off that isn't active, a move leaves an active beam out, or a caught atom names a beam that isn't active after the step.
abbrev pub IsNotActive : State → Step → BeamId → Type 0
IsNotActive s (Activate aod rows columns atoms) b =
    Any (λ c. named_beam b.axis c ≡ b.id) atoms × ¬ HasId (with_beams (along b.axis rows columns) (active s aod b.axis)) b.id
IsNotActive s (Move aod rows columns) b =
    (HasId (along b.axis rows columns) b.id × ¬ HasId (active s aod b.axis) b.id)
    ⊎ (HasId (active s aod b.axis) b.id × ¬ HasId (along b.axis rows columns) b.id)
IsNotActive s (Deactivate aod rows columns atoms) b = Contains (along b.axis rows columns) b.id × ¬ HasId (active s aod b.axis) b.id
IsNotActive s (One gate) b = ⊥
IsNotActive s (Pulse pairs) b = ⊥
IsNotActive s (Readout reads) b = ⊥

-- The beam of this id and those of lower id are more than so many.
abbrev pub IsOneTooMany : ℕ → List Beam → ℕ → Type 0
IsOneTooMany most beams id = HasId beams id × (most < count_by (λ b. nat_le b.id id) beams)

-- The beam of this id stands past 1,000,000.
abbrev pub IsOffField : List Beam → ℕ → Type 0
IsOffField beams id = Any (λ b. (b.id ≡ id) × (1000000 < b.at)) beams

-- The beam is one too many, or stands off the field, after the step.
abbrev pub IsPastLimit : Architecture → State → Step → BeamId → Type 0
IsPastLimit a s (Activate aod rows columns atoms) b =
    IsOneTooMany (along b.axis a.figures.rows a.figures.columns) (with_beams (along b.axis rows columns) (active s aod b.axis)) b.id
    ⊎ IsOffField (with_beams (along b.axis rows columns) (active s aod b.axis)) b.id
IsPastLimit a s (Move aod rows columns) b = IsOffField (with_beams (along b.axis rows columns) []) b.id
IsPastLimit a s (Deactivate aod rows columns atoms) b = ⊥
IsPastLimit a s (One gate) b = ⊥
IsPastLimit a s (Pulse pairs) b = ⊥
IsPastLimit a s (Readout reads) b = ⊥

-- Of beams by rising id, upper has this id, and lower is that of next lower id.
abbrev pub AreNeighbours : List Beam → ℕ → Beam → Beam → Type 0
AreNeighbours beams id lower upper =
    (k : ℕ) × (slice_get beams k ≡ Some lower) × (slice_get beams (k + 1) ≡ Some upper) × (upper.id ≡ id)

-- After the step the beam of this id is upper, and lower is that of next lower id.
abbrev pub IsBehind : State → Step → BeamId → Beam → Beam → Type 0
IsBehind s step b lower upper = AreNeighbours (beams_after s step b.axis) b.id lower upper

-- The beam's position isn't greater than that of the beam of next lower id.
abbrev pub IsOutOfOrder : State → Step → BeamId → Type 0
IsOutOfOrder s step b = (lower : Beam) × (upper : Beam) × IsBehind s step b lower upper × (upper.at ≤ lower.at)

-- The beam's position is greater than that of the beam of next lower id, but by less than the gap.
abbrev pub IsTooNear : Architecture → State → Step → BeamId → Type 0
IsTooNear a s step b =
    (lower : Beam) × (upper : Beam) × IsBehind s step b lower upper × (lower.at < upper.at) × (upper.at < lower.at + a.figures.gap)

-- The crossing holds an atom, stands exactly on a trap, and is free of others.
pub record IsOnTrapWithAtom (a : Architecture) (s : State) (aod : ℕ) (row column : Beam) : Type 0 where
  pub q : ℕ
  pub holds : IsAt s q (Held aod row.id column.id)
  pub trap : ℕ
  pub exact : StandsAt a trap (crossing row column)
  pub free : IsFreeOfOthers a s aod (crossing row column)

-- The crossing of this row and column after the step comes too near: a new one of no listed atom isn't clear, or a moved one isn't clear and holds no atom, stands on no trap or isn't free of others.
abbrev pub TouchesAt : Architecture → State → Step → Beam → Beam → Type 0
TouchesAt a s (Activate aod rows columns atoms) row column =
    (HasId rows row.id ⊎ HasId columns column.id) × ¬ Any (λ c. (c.row ≡ row.id) × (c.column ≡ column.id)) atoms × ¬ IsClear a s aod (crossing row column)
TouchesAt a s (Move aod rows columns) row column = ¬ IsClear a s aod (crossing row column) × ¬ IsOnTrapWithAtom a s aod row column
TouchesAt a s (Deactivate aod rows columns atoms) row column = ⊥
TouchesAt a s (One gate) row column = ⊥
TouchesAt a s (Pulse pairs) row column = ⊥
TouchesAt a s (Readout reads) row column = ⊥

-- The row and the column of these ids touch.
abbrev pub DoTouch : Architecture → State → Step → ℕ → ℕ → Type 0
DoTouch a s step r c =
    (row : Beam) × (column : Beam) × Contains (beams_after s step Row) row × Contains (beams_after s step Column) column
    × (row.id ≡ r) × (column.id ≡ c) × TouchesAt a s step row column

-- Two places of the list of caught atoms name one atom or one crossing.
abbrev pub AreSameCatch : Caught → Caught → Type 0
AreSameCatch c d = (c.q ≡ d.q) ⊎ ((c.row ≡ d.row) × (c.column ≡ d.column))

-- An atom of this qubit is listed that can't be caught so, or shares its qubit or its crossing with another one of the list.
abbrev pub IsPickWrong : Architecture → State → Step → ℕ → Type 0
IsPickWrong a s (Activate aod rows columns atoms) q =
    (c : Caught) × (i : ℕ) × (slice_get atoms i ≡ Some c) × (c.q ≡ q)
    × (¬ Picks a s aod rows columns (with_beams rows (beams_of s aod).rows) (with_beams columns (beams_of s aod).columns) c
    ⊎ ((d : Caught) × (j : ℕ) × (slice_get atoms j ≡ Some d) × (i ≢ j) × AreSameCatch c d))
IsPickWrong a s (Move aod rows columns) q = ⊥
IsPickWrong a s (Deactivate aod rows columns atoms) q = ⊥
IsPickWrong a s (One gate) q = ⊥
IsPickWrong a s (Pulse pairs) q = ⊥
IsPickWrong a s (Readout reads) q = ⊥

-- The atom of this qubit is held at a vanishing crossing and not listed, or listed and not held there over the listed trap, or listed twice.
abbrev pub IsDropWrong : Architecture → State → Step → ℕ → Type 0
IsDropWrong a s (Deactivate aod rows columns atoms) q =
    ((row : ℕ) × (column : ℕ) × IsAt s q (Held aod row column) × (Contains rows row ⊎ Contains columns column) × ¬ Any (λ d. d.q ≡ q) atoms)
    ⊎ (Any (λ d. (d.q ≡ q) × ¬ Drops a s aod rows columns d) atoms ⊎ IsTwice (map (λ d. d.q) atoms) q)
IsDropWrong a s (Activate aod rows columns atoms) q = ⊥
IsDropWrong a s (Move aod rows columns) q = ⊥
IsDropWrong a s (One gate) q = ⊥
IsDropWrong a s (Pulse pairs) q = ⊥
IsDropWrong a s (Readout reads) q = ⊥

-- The move takes the atom of this qubit exactly onto a trap that holds an atom.
abbrev pub IsTrapFull : Architecture → State → Step → ℕ → TrapId → Type 0
IsTrapFull a s (Move aod rows columns) q trap =
    (row : Beam) × (column : Beam) × Contains (with_beams rows []) row × Contains (with_beams columns []) column
    × IsAt s q (Held aod row.id column.id) × StandsAt a trap.0 (crossing row column) × ((r : ℕ) × IsAt s r (Trap trap))
IsTrapFull a s (Activate aod rows columns atoms) q trap = ⊥
IsTrapFull a s (Deactivate aod rows columns atoms) q trap = ⊥
IsTrapFull a s (One gate) q trap = ⊥
IsTrapFull a s (Pulse pairs) q trap = ⊥
IsTrapFull a s (Readout reads) q trap = ⊥

-- The pair of these qubits, the smaller first, is listed twice in either order, or is listed and not in range, or is in range and not listed.
abbrev pub IsPairWrong : Architecture → State → Step → ℕ → ℕ → Type 0
IsPairWrong a s (Pulse pairs) q r =
    (q ≤ r) × (((i : ℕ) × (j : ℕ) × (p : PairOf) × (p' : PairOf) × (i < j) × (slice_get pairs i ≡ Some p) × (slice_get pairs j ≡ Some p') × IsPairOf p q r × IsPairOf p' q r)
    ⊎ ((Any (λ p. IsPairOf p q r) pairs × ¬ AreInRange a s q r) ⊎ (AreInRange a s q r × ¬ Any (λ p. IsPairOf p q r) pairs)))
IsPairWrong a s (Activate aod rows columns atoms) q r = ⊥
IsPairWrong a s (Move aod rows columns) q r = ⊥
IsPairWrong a s (Deactivate aod rows columns atoms) q r = ⊥
IsPairWrong a s (One gate) q r = ⊥
IsPairWrong a s (Readout reads) q r = ⊥

-- The pulse lights the atom of this qubit, which is in no listed pair.
abbrev pub IsLitAlone : Architecture → State → Step → ℕ → Type 0
IsLitAlone a s (Pulse pairs) q = ((p : Point) × RestsLit a s q p) × ¬ Any (λ pair. (pair.a ≡ q) ⊎ (pair.b ≡ q)) pairs
IsLitAlone a s (Activate aod rows columns atoms) q = ⊥
IsLitAlone a s (Move aod rows columns) q = ⊥
IsLitAlone a s (Deactivate aod rows columns atoms) q = ⊥
IsLitAlone a s (One gate) q = ⊥
IsLitAlone a s (Readout reads) q = ⊥

-- A crossing holds the atom of this qubit.
abbrev pub IsHeld : State → ℕ → Type 0
IsHeld s q = (aod : ℕ) × (row : ℕ) × (column : ℕ) × IsAt s q (Held aod row column)

-- A gate or a readout is asked of the atom of this qubit, which is held.
abbrev pub IsNotAtRest : State → Step → ℕ → Type 0
IsNotAtRest s (One gate) q = (gate.q ≡ q) × IsHeld s q
IsNotAtRest s (Readout reads) q = Any (λ r. r.q ≡ q) reads × IsHeld s q
IsNotAtRest s (Activate aod rows columns atoms) q = ⊥
IsNotAtRest s (Move aod rows columns) q = ⊥
IsNotAtRest s (Deactivate aod rows columns atoms) q = ⊥
IsNotAtRest s (Pulse pairs) q = ⊥

-- At the pulse this AOD's crossing of the row and the column of these ids stands inside a lit box.
abbrev pub IsCrossingLit : Architecture → State → Step → ℕ → ℕ → ℕ → Type 0
IsCrossingLit a s (Pulse pairs) aod r c =
    (row : Beam) × (column : Beam) × Contains (beams_of s aod).rows row × Contains (beams_of s aod).columns column
    × (row.id ≡ r) × (column.id ≡ c) × IsLit a (crossing row column)
IsCrossingLit a s (Activate aod' rows columns atoms) aod r c = ⊥
IsCrossingLit a s (Move aod' rows columns) aod r c = ⊥
IsCrossingLit a s (Deactivate aod' rows columns atoms) aod r c = ⊥
IsCrossingLit a s (One gate) aod r c = ⊥
IsCrossingLit a s (Readout reads) aod r c = ⊥
