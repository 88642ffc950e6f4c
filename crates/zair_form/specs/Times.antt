-- How long steps take, and when each begins.
use Rattle.std.specs.Prelude.{◌≡◌, ℕ, ◌+◌, ◌==◌, min, max, Option, Some, None, List, [], ◌∷◌, ◌++◌, length, map, fold, if◌then◌else◌}
use Rattle.std.specs.List.{flat_map}
use Rattle.std.specs.Option.{option_map_or}
use Rattle.zac_arch.specs.Distances.{difference, IsMoveTime}
use Rattle.zac_arch.specs.declared.card.Figures.{Figures}
use Rattle.zair_form.specs.declared.step.Beam.{Beam}
use Rattle.zair_form.specs.declared.step.Step.{Step}
use Rattle.zair_form.specs.declared.step.Step.TheVariants.{Activate, Move, Deactivate, One, Pulse, Readout}
use Rattle.zair_form.specs.declared.program.Instr.{Instr}
use Rattle.zair_form.specs.Steps.{steps_of}

-- The positions that an activate or a move gives to row beams; none for the other steps.
abbrev pub rows_set : Step → List Beam
rows_set (Activate aod rows columns atoms) = rows
rows_set (Move aod rows columns) = rows
rows_set (Deactivate aod rows columns atoms) = []
rows_set (One gate) = []
rows_set (Pulse pairs) = []
rows_set (Readout reads) = []

-- The same of column beams.
abbrev pub columns_set : Step → List Beam
columns_set (Activate aod rows columns atoms) = columns
columns_set (Move aod rows columns) = columns
columns_set (Deactivate aod rows columns atoms) = []
columns_set (One gate) = []
columns_set (Pulse pairs) = []
columns_set (Readout reads) = []

-- The last position in the list of the beam of this id, if it has one.
abbrev pub last_at : ℕ → List Beam → Option ℕ
last_at id [] = None
last_at id (b ∷ bs) = option_map_or Some (last_at id bs) (if b.id == id then Some b.at else None)

-- How far a beam goes from its last position, at most 1,000,000; 0 where it has none.
abbrev pub change : List Beam → Beam → ℕ
change given b = option_map_or (λ at. min 1000000 (difference at b.at)) (last_at b.id given) 0

-- The greatest change of these beams, and 0 where there are none.
abbrev pub greatest_change : List Beam → List Beam → ℕ
greatest_change given beams = fold max 0 (map (change given) beams)

-- How long a step takes after the earlier ones of its instruction. A move takes the move time of its greatest changes
-- of columns and rows; each other step takes the figure of its kind.
abbrev pub Lasts : Figures → List Step → Step → ℕ → Type 0
Lasts f earlier (Activate aod rows columns atoms) t = t ≡ f.activate
Lasts f earlier (Move aod rows columns) t =
    IsMoveTime f.accel (greatest_change (flat_map columns_set earlier) columns) (greatest_change (flat_map rows_set earlier) rows) t
Lasts f earlier (Deactivate aod rows columns atoms) t = t ≡ f.deactivate
Lasts f earlier (One gate) t = t ≡ f.one
Lasts f earlier (Pulse pairs) t = t ≡ f.pulse
Lasts f earlier (Readout reads) t = t ≡ f.readout

-- A step with its times: the number of its instruction, its place there, the step, its begin and its end.
pub record Timed : Type 0 where
  pub instr : ℕ
  pub place : ℕ
  pub step : Step
  pub begin : ℕ
  pub end : ℕ

-- The timed step is this one of this instruction, has as place the count of the earlier steps, begins at this moment,
-- and ends when it has lasted.
pub record IsTimed (f : Figures) (number : ℕ) (earlier : List Step) (from : ℕ) (s : Step) (t : Timed) : Type 0 where
  pub instr : t.instr ≡ number
  pub place : t.place ≡ length earlier
  pub step : t.step ≡ s
  pub begin : t.begin ≡ from
  pub duration : ℕ
  pub lasts : Lasts f earlier s duration
  pub end : t.end ≡ from + duration

-- The steps of one instruction, timed one after another, each beginning where the one before it ends.
abbrev pub AreTimed : Figures → ℕ → List Step → ℕ → List Step → List Timed → Type 0
AreTimed f instr earlier begin [] [] = Unit {0}
AreTimed f instr earlier begin (s ∷ ss) (t ∷ ts) =
    IsTimed f instr earlier begin s t × AreTimed f instr (earlier ++ s ∷ []) t.end ss ts
AreTimed f instr earlier begin [] (t ∷ ts) = ⊥
AreTimed f instr earlier begin (s ∷ ss) [] = ⊥

-- The timed steps of all instructions, in list order; those of an instruction begin at its begin.
abbrev pub AreTimedSteps : Figures → ℕ → List Instr → List Timed → Type 0
AreTimedSteps f place [] timed = timed ≡ []
AreTimedSteps f place (i ∷ is) timed =
    (own : List Timed) × (rest : List Timed) × (timed ≡ own ++ rest)
    × AreTimed f place [] i.begin (steps_of i.act) own × AreTimedSteps f (place + 1) is rest

-- The steps, after the earlier ones, take together this long.
abbrev pub LastTogether : Figures → List Step → List Step → ℕ → Type 0
LastTogether f earlier [] t = t ≡ 0
LastTogether f earlier (s ∷ ss) t =
    (own : ℕ) × (rest : ℕ) × (t ≡ own + rest) × Lasts f earlier s own × LastTogether f (earlier ++ s ∷ []) ss rest

-- The instruction's end is its begin and the time that its steps take together.
abbrev pub HasLength : Figures → Instr → Type 0
HasLength f i = (t : ℕ) × (i.end ≡ i.begin + t) × LastTogether f [] (steps_of i.act) t
