-- The ranges of numbers and angles that the text form of a program carries.
use Rattle.std.specs.Prelude.{ℕ, ◌<◌, ◌≤◌, ◌^◌, List, IsTrue}
use Rattle.std.specs.List.{AllByRecursion}
use Rattle.zac_gates.specs.Angle.{is_angle}
use Rattle.zac_gates.specs.declared.angle.Angles.{Angles}
use Rattle.zair_form.specs.declared.step.Beam.{Beam}
use Rattle.zair_form.specs.declared.step.Caught.{Caught}
use Rattle.zair_form.specs.declared.step.Dropped.{Dropped}
use Rattle.zair_form.specs.declared.step.OneGate.{OneGate}
use Rattle.zair_form.specs.declared.step.PairOf.{PairOf}
use Rattle.zair_form.specs.declared.step.ReadOf.{ReadOf}
use Rattle.zair_form.specs.declared.step.Step.{Step}
use Rattle.zair_form.specs.declared.step.Step.TheVariants.{Activate, Move, Deactivate, One, Pulse}
use Rattle.zair_form.specs.declared.step.Step.TheVariants as step
use Rattle.zair_form.specs.declared.program.Act.{Act}
use Rattle.zair_form.specs.declared.program.Act.TheVariants.{Init, Gates, Rydberg, Job, Readout}
use Rattle.zair_form.specs.declared.program.Instr.{Instr}

-- The id of a beam, or the number of an AOD, is at most 255.
abbrev pub IsId : ℕ → Type 0
IsId n = n ≤ 255

-- A position, in tenths of a micrometre, is at most 1,000,000.
abbrev pub IsPosition : ℕ → Type 0
IsPosition n = n ≤ 1000000

-- The number of an op, a qubit, a bit or a trap is below 2^32.
abbrev pub IsNumber : ℕ → Type 0
IsNumber n = n < 2 ^ 32

-- Each of the three angles has 1 to 16,384 printable bytes, none of them a blank, a quotation mark or a backslash.
abbrev pub AnglesFit : Angles → Type 0
AnglesFit angles = IsTrue (is_angle angles.theta) × IsTrue (is_angle angles.phi) × IsTrue (is_angle angles.lambda)

-- The id and the position of a beam are in range.
abbrev pub BeamFits : Beam → Type 0
BeamFits b = IsId b.id × IsPosition b.at

-- The numbers of an atom that is caught are in range.
abbrev pub CaughtFits : Caught → Type 0
CaughtFits c = IsNumber c.q × IsId c.row × IsId c.column

-- The numbers of an atom that is dropped are in range.
abbrev pub DroppedFits : Dropped → Type 0
DroppedFits d = IsNumber d.q × IsNumber d.trap.0

-- The numbers and the angles of a gate are in range.
abbrev pub GateFits : OneGate → Type 0
GateFits g = IsNumber g.op × IsNumber g.q × AnglesFit g.angles

-- The numbers of a pair are in range.
abbrev pub PairFits : PairOf → Type 0
PairFits p = IsNumber p.op × IsNumber p.a × IsNumber p.b

-- The numbers of a read are in range.
abbrev pub ReadFits : ReadOf → Type 0
ReadFits r = IsNumber r.op × IsNumber r.q × IsNumber r.bit

-- All that a step carries is in range.
abbrev pub StepFits : Step → Type 0
StepFits (Activate aod rows columns atoms) =
    IsId aod × AllByRecursion BeamFits rows × AllByRecursion BeamFits columns × AllByRecursion CaughtFits atoms
StepFits (Move aod rows columns) = IsId aod × AllByRecursion BeamFits rows × AllByRecursion BeamFits columns
StepFits (Deactivate aod rows columns atoms) =
    IsId aod × AllByRecursion IsId rows × AllByRecursion IsId columns × AllByRecursion DroppedFits atoms
StepFits (One gate) = GateFits gate
StepFits (Pulse pairs) = AllByRecursion PairFits pairs
StepFits (step.Readout reads) = AllByRecursion ReadFits reads

-- All that an instruction carries beside its times is in range.
abbrev pub ActFits : Act → Type 0
ActFits (Init homes) = AllByRecursion (λ home. IsNumber home.0) homes
ActFits (Gates ones) = AllByRecursion GateFits ones
ActFits (Rydberg pairs) = AllByRecursion PairFits pairs
ActFits (Job aod steps) = IsId aod × AllByRecursion StepFits steps
ActFits (Readout reads) = AllByRecursion ReadFits reads

-- An instruction begins no later than it ends, ends by 4,000,000,000,000,000,000, and carries what is in range.
pub record InstrFits (i : Instr) : Type 0 where
  pub rises : i.begin ≤ i.end
  pub ends : i.end ≤ 4000000000000000000
  pub act : ActFits i.act

-- All numbers and angles of the program are in the ranges of the text form.
abbrev pub ProgramFits : List Instr → Type 0
ProgramFits program = AllByRecursion InstrFits program
