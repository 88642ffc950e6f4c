-- One worked example of the machine: on the tiny card two atoms are carried to a site, entangled, and turned.
use Rattle.std.specs.Prelude.{ℕ, List, [], ◌∷◌}
use Rattle.zac_arch.specs.Architecture.{Architecture}
use Rattle.zac_arch.specs.Tiny.{tiny_architecture, tiny_figures}
use Rattle.zac_arch.specs.declared.place.TrapId.{TrapId}
use Rattle.zac_arch.specs.declared.card.ZoneKind.TheVariants.{Storage, Entangling}
use Rattle.zac_gates.specs.declared.angle.Angles.{Angles}
use Rattle.zac_gates.specs.declared.circuit.Op.{Op}
use Rattle.zac_gates.specs.declared.circuit.Op.TheVariants as op
use Rattle.zair_form.specs.declared.step.Beam.{Beam}
use Rattle.zair_form.specs.declared.step.Caught.{Caught}
use Rattle.zair_form.specs.declared.step.Step.{Step}
use Rattle.zair_form.specs.declared.step.Step.TheVariants.{Activate, Move, Deactivate, One, Pulse}
use Rattle.zair_form.specs.declared.program.Instr.{Instr}
use Rattle.zair_form.specs.declared.program.Act.TheVariants.{Job}
use Rattle.zair_state.specs.State.{State, opening}
use Rattle.zair_state.specs.Result.{after}

-- The trap of this number.
abbrev pub trap : ℕ → TrapId
trap n = record { 0 = n }

-- On the tiny card, qubit 0 rests in trap 0 and qubit 1 in trap 1.
abbrev pub start : State
start = opening tiny_architecture (trap 0 ∷ trap 1 ∷ [])

-- The angles of a Hadamard gate: (pi/2), 0 and pi.
abbrev pub hadamard : Angles
hadamard = record {
  theta = 40 ∷ 112 ∷ 105 ∷ 47 ∷ 50 ∷ 41 ∷ [];
  phi = 48 ∷ [];
  lambda = 112 ∷ 105 ∷ [];
}

-- A beam of this id at this position.
abbrev pub beam : ℕ → ℕ → Beam
beam id at = record { id = id; at = at }

-- A Hadamard gate on qubit 1, with this op number.
abbrev pub turn : ℕ → Step
turn n = One (record { op = n; q = 1; angles = hadamard })

-- Both atoms are caught.
abbrev pub catch_both : Step
catch_both =
    Activate 0 (beam 0 0 ∷ []) (beam 0 0 ∷ beam 1 30 ∷ [])
    (record { q = 0; row = 0; column = 0 } ∷ record { q = 1; row = 0; column = 1 } ∷ [])

-- They go to the first site.
abbrev pub carry_both : Step
carry_both = Move 0 (beam 0 100 ∷ []) (beam 0 0 ∷ beam 1 20 ∷ [])

-- They are dropped, qubit 1 into this trap.
abbrev pub drop_both : ℕ → Step
drop_both t =
    Deactivate 0 (0 ∷ []) (0 ∷ 1 ∷ []) (record { q = 0; trap = trap 4 } ∷ record { q = 1; trap = trap t } ∷ [])

-- A pulse with the pair of qubits 0 and 1.
abbrev pub entangle : Step
entangle = Pulse (record { op = 1; a = 0; b = 1 } ∷ [])

-- A gate, the carriage of both atoms to the first site, the pulse, and a gate.
abbrev pub entangling_steps : List Step
entangling_steps = turn 0 ∷ catch_both ∷ carry_both ∷ drop_both 5 ∷ entangle ∷ turn 2 ∷ []

-- A controlled not from qubit 0 to qubit 1 as native ops.
abbrev pub controlled_not : List Op
controlled_not = op.One 1 hadamard ∷ op.Two 0 1 ∷ op.One 1 hadamard ∷ []

-- The same steps, but qubit 1 is dropped into another trap.
abbrev pub dropped_astray : List Step
dropped_astray = turn 0 ∷ catch_both ∷ carry_both ∷ drop_both 6 ∷ entangle ∷ turn 2 ∷ []

-- The same steps without the move.
abbrev pub never_carried : List Step
never_carried = turn 0 ∷ catch_both ∷ drop_both 5 ∷ entangle ∷ turn 2 ∷ []

-- Beams are switched on over both atoms, and no atom is listed.
abbrev pub catch_none : Step
catch_none = Activate 0 (beam 0 0 ∷ []) (beam 0 0 ∷ beam 1 30 ∷ []) []

-- qubit 0 alone is caught, carried to the first site, and dropped
abbrev pub catch_one : Step
catch_one = Activate 0 (beam 0 0 ∷ []) (beam 0 0 ∷ []) (record { q = 0; row = 0; column = 0 } ∷ [])

-- It goes to the first site.
abbrev pub raise_one : Step
raise_one = Move 0 (beam 0 100 ∷ []) (beam 0 0 ∷ [])

-- It is dropped there.
abbrev pub drop_one : Step
drop_one = Deactivate 0 (0 ∷ []) (0 ∷ []) (record { q = 0; trap = trap 4 } ∷ [])

-- Those three steps.
abbrev pub carry_one : List Step
carry_one = catch_one ∷ raise_one ∷ drop_one ∷ []

-- the states after the first of these steps, and after the second
abbrev pub held : State
held = after start catch_one

-- The state after the second of them.
abbrev pub raised : State
raised = after held raise_one

-- Rows are switched on, and nothing else.
abbrev pub rows_alone : List Beam → Step
rows_alone rows = Activate 0 rows [] []

-- A row and a column are switched on over trap 0, for these atoms.
abbrev pub cross_at_zero : List Caught → Step
cross_at_zero atoms = Activate 0 (beam 0 0 ∷ []) (beam 0 0 ∷ []) atoms

-- The instruction that carries both atoms.
abbrev pub carrying : Instr
carrying = record { begin = 52000; end = 142453; act = Job 0 (catch_both ∷ carry_both ∷ drop_both 5 ∷ []) }

-- The tiny card with another gap and another pair distance.
abbrev pub card_with : ℕ → ℕ → Architecture
card_with gap pair = record {
  figures = record tiny_figures { gap = gap };
  zones =
      record { kind = Storage; x = 0; y = 0; dx = 30; dy = 30; pair = 0; columns = 4; rows = 1 }
      ∷ record { kind = Entangling; x = 0; y = 100; dx = 120; dy = 100; pair = pair; columns = 2; rows = 1 }
      ∷ [];
}

-- Ops that wait for one another through a qubit, through a fence, or because they are read.
abbrev pub waiting : List Op
waiting = op.One 0 hadamard ∷ op.One 1 hadamard ∷ op.Fence ∷ op.One 2 hadamard ∷ op.Read 0 0 ∷ op.Two 1 2 ∷ []

-- Qubit 0 is held halfway to the site by the first AOD.
abbrev pub halfway : State
halfway = after held (Move 0 (beam 0 50 ∷ []) (beam 0 0 ∷ []))

-- The second AOD makes an empty crossing, at this x, beside it.
abbrev pub cross_beside : ℕ → Step
cross_beside x = Activate 1 (beam 0 50 ∷ []) (beam 0 x ∷ []) []
