-- What always holds of a scope.
use Rattle.std.specs.Prelude.{◌≡◌, ℕ, List, [], ◌∷◌, ◌++◌, codes, false, None}
use Rattle.std.specs.List.{AllByRecursion}
use Rattle.qasm_form.specs.declared.stmt.Stmt.{Stmt}
use Rattle.qasm_form.specs.declared.stmt.Stmt.TheVariants as stmt
use Rattle.qasm_names.specs.declared.fault.ScopeKind.{ScopeKind}
use Rattle.qasm_names.specs.declared.gate.Target.{Target}
use Rattle.qasm_names.specs.declared.gate.Target.TheVariants as target
use Rattle.qasm_names.specs.declared.meaning.Meaning.TheVariants as means
use Rattle.qasm_names.specs.Names.{Environment, callee, own_meaning, target_of, value_or}
use Rattle.qasm_names.specs.Environment.{enter, enter_all, no_names, opening_names, environment}
use Rattle.qasm_names.specs.Header.{IsHeader}
use Rattle.qasm_names.specs.Refusals.{Refuses}
use Rattle.qasm_names.specs.Short.{HasShortNumbers}
use Rattle.qasm_names.specs.Accepted.{AreAdmissible, Context}

-- The statement is the version, or declares a gate with a body.
abbrev pub IsVersionOrGate : Stmt → Type 0
IsVersionOrGate (stmt.Version number at) = Unit {0}
IsVersionOrGate (stmt.Gate name params args body at) = Unit {0}
IsVersionOrGate other = ⊥

-- Behind these statements of the header the statement has no refusal, and it is the version or a gate with a body.
pub record IsAdmissibleInHeader (before : List Stmt) (s : Stmt) : Type 0 where
  pub admissible : (k : ScopeKind) (at : ℕ) → ¬ Refuses (enter_all no_names before) before s k at
  pub form : IsVersionOrGate s

-- Each of the header's statements is so behind those before it.
abbrev pub AreAdmissibleInHeader : List Stmt → List Stmt → Type 0
AreAdmissibleInHeader before [] = Unit {0}
AreAdmissibleInHeader before (s ∷ ss) = IsAdmissibleInHeader before s × AreAdmissibleInHeader (before ++ s ∷ []) ss

-- What is known of the header's statements: each may stand behind those before it, each number has at most 40 bytes, and
-- none of them declares `cz`.
pub record IsSoundHeader (header : List Stmt) : Type 0 where
  pub admissible : AreAdmissibleInHeader [] header
  pub short : AllByRecursion HasShortNumbers header
  pub undeclared : own_meaning (enter_all no_names header) (codes "cz") ≡ None

-- what a file begins with, behind the header's own statements
abbrev pub opening_behind : Environment → Environment
opening_behind e = record { header = e.own ++ (codes "cz", means.Native) ∷ []; own = []; included = false; gates = e.gates }

-- what a statement's call is bound to; `Barrier` where it is no call
abbrev pub bound_target : Environment → Stmt → Target
bound_target e (stmt.Call call) = value_or (target_of (callee e call.name)) target.Barrier
bound_target e other = target.Barrier

-- the same for each statement, behind those before it
abbrev pub bound_targets : Environment → List Stmt → List Target
bound_targets e [] = []
bound_targets e (s ∷ ss) = bound_target e s ∷ bound_targets (enter e s) ss

-- The environment is that of the header and the statements; the header is that of its text, and sound; none of the
-- file's statements is refused; and the targets are those of its calls. It is the invariant of a `SourceProgram`.
pub record IsScope (header : List Stmt) (now : Context) (targets : List Target) : Type 0 where
  pub means : now.environment ≡ environment header now.before
  pub is_header : IsHeader header
  pub sound : IsSoundHeader header
  pub admissible : AreAdmissible header [] now.before
  pub bound : targets ≡ bound_targets (opening_names header) now.before
