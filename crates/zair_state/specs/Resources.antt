-- Which resources an instruction has, and which instructions conflict.
use Rattle.std.specs.Prelude.{◌≡◌, ℕ, ◌≤◌, ◌<◌, ◌⊎◌, List, [], ◌∷◌, ◌++◌, map}
use Rattle.std.specs.List.{Any, AllPairs, Contains, flat_map, filter_map}
use Rattle.zac_arch.specs.Architecture.{Architecture, StandsAt, storage_count, trap_count}
use Rattle.zac_arch.specs.declared.place.Point.{Point}
use Rattle.zair_form.specs.declared.step.Step.{Step}
use Rattle.zair_form.specs.declared.step.Step.TheVariants.{Activate, Move, Deactivate, One, Pulse}
use Rattle.zair_form.specs.declared.step.Step.TheVariants as step
use Rattle.zair_form.specs.declared.program.Act.{Act}
use Rattle.zair_form.specs.declared.program.Act.TheVariants.{Init, Gates, Rydberg, Job, Readout}
use Rattle.zair_form.specs.declared.program.Instr.{Instr}
use Rattle.zair_form.specs.Times.{rows_set, columns_set, last_at}

-- The laser, an AOD, a qubit, or a trap.
pub data Resource : Type 0 where
  Laser : Resource
  Aod : ℕ → Resource
  Qubit : ℕ → Resource
  Trap : ℕ → Resource

-- The positions at which an activate switches on rows; none for the other steps.
abbrev pub rows_on : Step → List ℕ
rows_on (Activate aod rows columns atoms) = map (λ b. b.at) rows
rows_on (Move aod rows columns) = []
rows_on (Deactivate aod rows columns atoms) = []
rows_on (One gate) = []
rows_on (Pulse pairs) = []
rows_on (step.Readout reads) = []

-- The same of columns.
abbrev pub columns_on : Step → List ℕ
columns_on (Activate aod rows columns atoms) = map (λ b. b.at) columns
columns_on (Move aod rows columns) = []
columns_on (Deactivate aod rows columns atoms) = []
columns_on (One gate) = []
columns_on (Pulse pairs) = []
columns_on (step.Readout reads) = []

-- The ids of the rows that a deactivate switches off; none for the other steps.
abbrev pub rows_off : Step → List ℕ
rows_off (Activate aod rows columns atoms) = []
rows_off (Move aod rows columns) = []
rows_off (Deactivate aod rows columns atoms) = rows
rows_off (One gate) = []
rows_off (Pulse pairs) = []
rows_off (step.Readout reads) = []

-- The same of columns.
abbrev pub columns_off : Step → List ℕ
columns_off (Activate aod rows columns atoms) = []
columns_off (Move aod rows columns) = []
columns_off (Deactivate aod rows columns atoms) = columns
columns_off (One gate) = []
columns_off (Pulse pairs) = []
columns_off (step.Readout reads) = []

-- For each row that a step switches off, the last position that it was given before.
abbrev pub last_rows : List Step → List Step → List ℕ
last_rows earlier [] = []
last_rows earlier (s ∷ ss) =
    filter_map (λ id. last_at id (flat_map rows_set earlier)) (rows_off s) ++ last_rows (earlier ++ s ∷ []) ss

-- The same of columns.
abbrev pub last_columns : List Step → List Step → List ℕ
last_columns earlier [] = []
last_columns earlier (s ∷ ss) =
    filter_map (λ id. last_at id (flat_map columns_set earlier)) (columns_off s) ++ last_columns (earlier ++ s ∷ []) ss

-- The trap stands at one of these x and one of these y.
abbrev pub IsOnGrid : Architecture → List ℕ → List ℕ → ℕ → Type 0
IsOnGrid a xs ys t = (p : Point) × StandsAt a t p × Contains xs p.x × Contains ys p.y

-- The trap stands where a column and a row of the job are switched on.
abbrev pub IsSource : Architecture → List Step → ℕ → Type 0
IsSource a steps t = IsOnGrid a (flat_map columns_on steps) (flat_map rows_on steps) t

-- The trap stands where a column and a row of the job stand last before they are switched off.
abbrev pub IsTarget : Architecture → List Step → ℕ → Type 0
IsTarget a steps t = IsOnGrid a (last_columns [] steps) (last_rows [] steps) t

-- The step catches or drops the atom of this qubit.
abbrev pub Carries : Step → ℕ → Type 0
Carries (Activate aod rows columns atoms) q = Any (λ c. c.q ≡ q) atoms
Carries (Move aod rows columns) q = ⊥
Carries (Deactivate aod rows columns atoms) q = Any (λ d. d.q ≡ q) atoms
Carries (One gate) q = ⊥
Carries (Pulse pairs) q = ⊥
Carries (step.Readout reads) q = ⊥

-- `Init` uses every resource. Gates and a readout use the laser and their qubits; a pulse uses the laser, its qubits
-- and all traps whose numbers come after those of storage; a job uses its AOD, the qubits that it carries, and the
-- traps of its source grid and its target grid.
abbrev pub Uses : Architecture → Act → Resource → Type 0
Uses a (Init homes) r = Unit {0}
Uses a (Gates ones) Laser = Unit {0}
Uses a (Gates ones) (Aod n) = ⊥
Uses a (Gates ones) (Qubit q) = Any (λ gate. gate.q ≡ q) ones
Uses a (Gates ones) (Trap t) = ⊥
Uses a (Rydberg pairs) Laser = Unit {0}
Uses a (Rydberg pairs) (Aod n) = ⊥
Uses a (Rydberg pairs) (Qubit q) = Any (λ p. (p.a ≡ q) ⊎ (p.b ≡ q)) pairs
Uses a (Rydberg pairs) (Trap t) = (storage_count a ≤ t) × (t < trap_count a)
Uses a (Job n steps) Laser = ⊥
Uses a (Job n steps) (Aod m) = n ≡ m
Uses a (Job n steps) (Qubit q) = Any (λ s. Carries s q) steps
Uses a (Job n steps) (Trap t) = IsSource a steps t ⊎ IsTarget a steps t
Uses a (Readout reads) Laser = Unit {0}
Uses a (Readout reads) (Aod n) = ⊥
Uses a (Readout reads) (Qubit q) = Any (λ r. r.q ≡ q) reads
Uses a (Readout reads) (Trap t) = ⊥

-- Two acts use one resource.
abbrev pub Conflict : Architecture → Act → Act → Type 0
Conflict a x y = (r : Resource) × Uses a x r × Uses a y r

-- Of two instructions that conflict, the earlier in the list ends at or before the begin of the other.
abbrev pub AreApart : Architecture → List Instr → Type 0
AreApart a program = AllPairs (λ i j. Conflict a i.act j.act → i.end ≤ j.begin) program
