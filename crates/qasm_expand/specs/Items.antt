-- The calls of a program: those of its statements, each applied as often as its registers say.
use Rattle.std.specs.Prelude.{ℕ, ◌+◌, List, [], ◌∷◌, ◌++◌, if◌then◌else◌, map}
use Rattle.std.specs.List.{range_with_len}
use Rattle.std.specs.Str.{bytes_eq}
use Rattle.qasm_form.specs.declared.stmt.Arg.{Arg}
use Rattle.qasm_form.specs.declared.stmt.BodyOp.{BodyOp}
use Rattle.qasm_form.specs.declared.stmt.Node.{Node}
use Rattle.qasm_form.specs.declared.stmt.Stmt.{Stmt}
use Rattle.qasm_form.specs.declared.stmt.Stmt.TheVariants as stmt
use Rattle.qasm_names.specs.declared.gate.Target.{Target}
use Rattle.qasm_names.specs.declared.gate.Target.TheVariants as target
use Rattle.qasm_names.specs.Names.{Environment, callee, target_of, value_or}
use Rattle.qasm_names.specs.Environment.{enter, opening_names}
use Rattle.qasm_names.specs.Applications.{Place, applications, applied}

-- One call: `Applied`, of a target with its angles on numbered qubits; `Barrier`, a barrier; `Measured`, of a qubit
-- into a bit.
pub data Item : Type 0 where
  Applied : (to : Target) (angles : List (List Node)) (qubits : List ℕ) → Item
  Barrier : Item
  Measured : (qubit bit : ℕ) → Item

-- qubits are numbered over the registers in their order; so are bits
abbrev pub qubit_number : List Stmt → Place → ℕ
qubit_number [] p = p.1
qubit_number (stmt.Qreg name size at ∷ ss) p = if bytes_eq name p.0 then p.1 else size + qubit_number ss p
qubit_number (other ∷ ss) p = qubit_number ss p

-- The number of a place: its index, and the sizes of all registers of its kind that are declared before its own.
abbrev pub bit_number : List Stmt → Place → ℕ
bit_number [] p = p.1
bit_number (stmt.Creg name size at ∷ ss) p = if bytes_eq name p.0 then p.1 else size + bit_number ss p
bit_number (other ∷ ss) p = bit_number ss p

-- the numbers of all qubits and of all bits
abbrev pub qubit_count : List Stmt → ℕ
qubit_count [] = 0
qubit_count (stmt.Qreg name size at ∷ ss) = size + qubit_count ss
qubit_count (other ∷ ss) = qubit_count ss

-- The sizes of all registers of qubits together, and of all registers of bits.
abbrev pub bit_count : List Stmt → ℕ
bit_count [] = 0
bit_count (stmt.Creg name size at ∷ ss) = size + bit_count ss
bit_count (other ∷ ss) = bit_count ss

-- Application k of a call: its target, its angles, and the numbers of its qubits there.
abbrev pub application : List Stmt → Target → BodyOp → ℕ → Item
application all to call k = Applied to call.exprs (map (λ arg. qubit_number all (applied arg k)) call.args)

-- Application k of a measurement.
abbrev pub measurement : List Stmt → Arg → Arg → ℕ → Item
measurement all from into k = Measured (qubit_number all (applied from k)) (bit_number all (applied into k))

-- The calls of one statement: those of each of its applications; one `Barrier` for a barrier; none for a declaration.
abbrev pub items_of : Environment → List Stmt → Stmt → List Item
items_of e all (stmt.Call call) =
    map (application all (value_or (target_of (callee e call.name)) target.Barrier) call) (range_with_len 0 (applications e call.args))
items_of e all (stmt.Measure from into at) = map (measurement all from into) (range_with_len 0 (applications e (from ∷ [])))
items_of e all (stmt.Barrier args at) = Barrier ∷ []
items_of e all other = []

-- Those of each statement in turn, each by what names stand for there.
abbrev pub items_behind : Environment → List Stmt → List Stmt → List Item
items_behind e all [] = []
items_behind e all (s ∷ ss) = items_of e all s ++ items_behind (enter e s) all ss

-- The calls of a program.
abbrev pub program_items : List Stmt → List Stmt → List Item
program_items header statements = items_behind (opening_names header) statements statements
