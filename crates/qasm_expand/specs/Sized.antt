-- Inside: what names stand for where statements declare their registers of qubits alone.
use Rattle.std.specs.Prelude.{ℕ, List, [], map, false}
use Rattle.qasm_form.specs.declared.stmt.Stmt.{Stmt}
use Rattle.qasm_names.specs.declared.meaning.Meaning.TheVariants as means
use Rattle.qasm_names.specs.Names.{Environment, Declarations}
use Rattle.qasm_expand.specs.declared.kind.RegisterKind.TheVariants as register
use Rattle.qasm_expand.specs.RegisterKinds.{registers_of}

-- Registers of qubits as declarations.
abbrev pub declared_as : List (List ℕ × ℕ) → Declarations
declared_as registers = map (λ r. (r.0, means.Qubits r.1)) registers

-- What names stand for where statements declare their registers of qubits alone.
abbrev pub sized : List Stmt → Environment
sized statements = record { header = []; own = declared_as (registers_of register.Qubit statements); included = false; gates = [] }
