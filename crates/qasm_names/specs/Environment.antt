-- How statements add to what names stand for.
use Rattle.std.specs.Prelude.{ℕ, List, [], ◌∷◌, ◌++◌, true, false, map, length, codes}
use Rattle.std.specs.List.{position_or_len}
use Rattle.std.specs.Str.{bytes_eq}
use Rattle.qasm_form.specs.declared.stmt.Arg.{Arg}
use Rattle.qasm_form.specs.declared.stmt.BodyOp.{BodyOp}
use Rattle.qasm_form.specs.declared.stmt.Named.{Named}
use Rattle.qasm_form.specs.declared.stmt.Stmt.{Stmt}
use Rattle.qasm_form.specs.declared.stmt.Stmt.TheVariants as stmt
use Rattle.qasm_names.specs.declared.gate.Bound.{Bound}
use Rattle.qasm_names.specs.declared.gate.GateDef.{GateDef}
use Rattle.qasm_names.specs.declared.gate.Target.TheVariants as target
use Rattle.qasm_names.specs.declared.meaning.Meaning.{Meaning}
use Rattle.qasm_names.specs.declared.meaning.Meaning.TheVariants as means
use Rattle.qasm_names.specs.Names.{Environment, callee, target_of, value_or}

-- The words of some names, without their offsets.
abbrev pub words_of : List Named → List (List ℕ)
words_of names = map (λ n. n.word) names

-- A call of a body, bound: its callee by what names stand for there, its angles, and its arguments by their places
-- among the gate's.
abbrev pub bound_call : Environment → List (List ℕ) → BodyOp → Bound
bound_call e args op = record {
  target = value_or (target_of (callee e op.name)) target.Barrier;
  exprs = op.exprs;
  args = map (λ (arg : Arg). position_or_len (bytes_eq arg.word) args) op.args;
}

-- A gate with a body: the names of its parameters, the number of its arguments, and its calls, bound.
abbrev pub bound_gate : Environment → List Named → List Named → List BodyOp → GateDef
bound_gate e params args body = record {
  params = words_of params;
  args = length args;
  body = map (bound_call e (words_of args)) body;
}

-- The environment with one name more.
abbrev pub with_name : Environment → List ℕ → Meaning → Environment
with_name e name m = record { header = e.header; own = e.own ++ (name, m) ∷ []; included = e.included; gates = e.gates }

-- The environment with one gate more, and its name.
abbrev pub with_gate : Environment → List ℕ → List Named → List Named → List BodyOp → Environment
with_gate e name params args body = record {
  header = e.header;
  own = e.own ++ (name, means.Gate (length e.gates) (length params) (length args)) ∷ [];
  included = e.included;
  gates = e.gates ++ bound_gate e params args body ∷ [];
}

-- The environment with the header included.
abbrev pub with_header : Environment → Environment
with_header e = record { header = e.header; own = e.own; included = true; gates = e.gates }

-- What holds behind a statement: an include includes the header; a register, a gate or an opaque gate is one name
-- more; other statements change nothing.
abbrev pub enter : Environment → Stmt → Environment
enter e (stmt.Include name at) = with_header e
enter e (stmt.Qreg name size at) = with_name e name (means.Qubits size)
enter e (stmt.Creg name size at) = with_name e name (means.Bits size)
enter e (stmt.Gate name params args body at) = with_gate e name params args body
enter e (stmt.Opaque name params args at) = with_name e name means.Opaque
enter e (stmt.Version number at) = e
enter e (stmt.Call call) = e
enter e (stmt.Measure from into at) = e
enter e (stmt.Reset arg at) = e
enter e (stmt.Barrier args at) = e
enter e (stmt.If at) = e

-- what holds behind statements
abbrev pub enter_all : Environment → List Stmt → Environment
enter_all e [] = e
enter_all e (s ∷ ss) = enter_all (enter e s) ss

-- before the header's own statements
abbrev pub no_names : Environment
no_names = record { header = []; own = []; included = false; gates = [] }

-- before a file's statements: the names of the header's statements and `cz`, not yet included, and the header's gates
abbrev pub opening_names : List Stmt → Environment
opening_names header = record {
  header = (enter_all no_names header).own ++ (codes "cz", means.Native) ∷ [];
  own = [];
  included = false;
  gates = (enter_all no_names header).gates;
}

-- What holds behind the statements of a file, with this header.
abbrev pub environment : List Stmt → List Stmt → Environment
environment header statements = enter_all (opening_names header) statements
