-- What names stand for after some statements.
use Rattle.std.specs.Prelude.{ℕ, List, Bool, if◌then◌else◌, Option, Some, None, codes}
use Rattle.std.specs.Map.{lookup}
use Rattle.std.specs.Option.{option_or}
use Rattle.std.specs.Str.{bytes_eq}
use Rattle.qasm_names.specs.declared.gate.GateDef.{GateDef}
use Rattle.qasm_names.specs.declared.gate.Target.{Target}
use Rattle.qasm_names.specs.declared.gate.Target.TheVariants as target
use Rattle.qasm_names.specs.declared.meaning.Meaning.{Meaning}
use Rattle.qasm_names.specs.declared.meaning.Meaning.TheVariants as means
use Rattle.qasm_names.specs.declared.meaning.Callee.{Callee}
use Rattle.qasm_names.specs.declared.meaning.Callee.TheVariants as calls

-- Names, each with what it stands for, in the order of their declarations.
abbrev pub Declarations : Type 0
Declarations = List (List ℕ × Meaning)

-- What holds behind some statements: the header's names, those that the file declares, whether the header is included,
-- and the gates with a body, those of the header first.
pub record Environment : Type 0 where
  pub header : Declarations
  pub own : Declarations
  pub included : Bool
  pub gates : List GateDef

-- What the file itself declares under a name, if it does.
abbrev pub own_meaning : Environment → List ℕ → Option Meaning
own_meaning e name = lookup (bytes_eq name) e.own

-- What a name stands for: the file's own declaration, or else the header's where it is included.
abbrev pub meaning : Environment → List ℕ → Option Meaning
meaning e name = option_or (own_meaning e name) (if e.included then lookup (bytes_eq name) e.header else None)

-- The value of an option, or another one where there is none.
abbrev pub value_or : {T : Type 0} → Option T → T → T
value_or None other = other
value_or (Some x) other = x

-- What a call of such a name calls: nothing where there is none or it is a register; the native `cz`, of no angle and
-- two arguments; a gate with a body, with the numbers of its parameters and arguments; or an opaque gate.
abbrev pub callee_of : Option Meaning → Callee
callee_of None = calls.Unknown
callee_of (Some (means.Qubits size)) = calls.Unknown
callee_of (Some (means.Bits size)) = calls.Unknown
callee_of (Some means.Native) = calls.Gate target.Cz 0 2
callee_of (Some (means.Gate place params args)) = calls.Gate (target.Gate place) params args
callee_of (Some means.Opaque) = calls.Opaque

-- What a call of this name calls. Three names are the language's own: `U` with three angles and one argument, `CX`
-- with none and two, and `barrier`.
abbrev pub callee : Environment → List ℕ → Callee
callee e name =
    if bytes_eq name (codes "U") then calls.Gate target.U 3 1
    else (if bytes_eq name (codes "CX") then calls.Gate target.Cx 0 2
    else (if bytes_eq name (codes "barrier") then calls.Barrier
    else callee_of (meaning e name)))

-- What a callee is bound to; an unknown one and an opaque one are bound to nothing.
abbrev pub target_of : Callee → Option Target
target_of calls.Unknown = None
target_of calls.Opaque = None
target_of calls.Barrier = Some target.Barrier
target_of (calls.Gate t params args) = Some t

-- the size of a register of qubits, and of one of bits
abbrev pub qubits_in : Option Meaning → Option ℕ
qubits_in (Some (means.Qubits size)) = Some size
qubits_in other = None

-- The size of a register of qubits, and of one of bits; none where the name stands for anything else.
abbrev pub bits_in : Option Meaning → Option ℕ
bits_in (Some (means.Bits size)) = Some size
bits_in other = None

-- The same of a name in an environment.
abbrev pub qubit_size : Environment → List ℕ → Option ℕ
qubit_size e name = qubits_in (meaning e name)

-- The same of a name in an environment.
abbrev pub bit_size : Environment → List ℕ → Option ℕ
bit_size e name = bits_in (meaning e name)
