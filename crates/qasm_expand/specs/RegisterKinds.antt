-- Inside: the two kinds of registers: what is limited of each, and the sizes of those that a statement declares.
use Rattle.std.specs.Prelude.{◌≡◌, ℕ, ◌<◌, List, [], ◌∷◌, Some}
use Rattle.std.specs.List.{flat_map}
use Rattle.std.specs.Map.{lookup}
use Rattle.std.specs.Str.{bytes_eq}
use Rattle.qasm_form.specs.declared.stmt.Stmt.{Stmt}
use Rattle.qasm_form.specs.declared.stmt.Stmt.TheVariants as stmt
use Rattle.qasm_names.specs.Applications.{Place}
use Rattle.qasm_expand.specs.declared.fault.LimitKind.{LimitKind}
use Rattle.qasm_expand.specs.declared.fault.LimitKind.TheVariants as limit
use Rattle.qasm_expand.specs.declared.kind.RegisterKind.{RegisterKind}
use Rattle.qasm_expand.specs.declared.kind.RegisterKind.TheVariants as register
use Rattle.qasm_expand.specs.Items.{qubit_number, bit_number, qubit_count, bit_count}
use Rattle.qasm_expand.specs.Limits.{qubit_sizes, bit_sizes}

-- the limit of the kind's sizes
abbrev pub limit_of : RegisterKind → LimitKind
limit_of register.Qubit = limit.Qubits
limit_of register.Bit = limit.Bits

-- the most places in all registers of the kind
abbrev pub most_of : RegisterKind → ℕ
most_of register.Qubit = 4096
most_of register.Bit = 65536

-- The sizes of the registers of this kind that a statement declares.
abbrev pub sizes_of : RegisterKind → Stmt → List ℕ
sizes_of register.Qubit s = qubit_sizes s
sizes_of register.Bit s = bit_sizes s

-- the registers of this kind that a statement declares: name and size
abbrev pub registers_in : RegisterKind → Stmt → List (List ℕ × ℕ)
registers_in register.Qubit (stmt.Qreg name size at) = (name, size) ∷ []
registers_in register.Bit (stmt.Creg name size at) = (name, size) ∷ []
registers_in kind other = []

-- The registers of this kind that a statement declares, and several statements: name and size.
abbrev pub registers_of : RegisterKind → List Stmt → List (List ℕ × ℕ)
registers_of kind statements = flat_map (registers_in kind) statements

-- the number of a place, and the number of all places
abbrev pub place_number : RegisterKind → List Stmt → Place → ℕ
place_number register.Qubit = qubit_number
place_number register.Bit = bit_number

-- The number of a place of this kind, and the number of all places.
abbrev pub place_count : RegisterKind → List Stmt → ℕ
place_count register.Qubit = qubit_count
place_count register.Bit = bit_count

-- The place is one of a register of this kind.
pub record IsPlaceIn (kind : RegisterKind) (statements : List Stmt) (p : Place) : Type 0 where
  pub size : ℕ
  pub declared : lookup (bytes_eq p.0) (registers_of kind statements) ≡ Some size
  pub within : p.1 < size
