-- Programs in which no statement is refused.
use Rattle.std.specs.Prelude.{ℕ, List, [], ◌∷◌, ◌++◌}
use Rattle.qasm_form.specs.declared.stmt.Stmt.{Stmt}
use Rattle.qasm_names.specs.declared.fault.ScopeKind.{ScopeKind}
use Rattle.qasm_names.specs.Names.{Environment}
use Rattle.qasm_names.specs.Environment.{enter, environment}
use Rattle.qasm_names.specs.Refusals.{Refuses}

-- The statement has no refusal behind the header and these statements.
abbrev pub IsAdmissible : List Stmt → List Stmt → Stmt → Type 0
IsAdmissible header before s = (k : ScopeKind) (at : ℕ) → ¬ Refuses (environment header before) before s k at

-- Each of the statements has none behind those before it.
abbrev pub AreAdmissible : List Stmt → List Stmt → List Stmt → Type 0
AreAdmissible header before [] = Unit {0}
AreAdmissible header before (s ∷ ss) = IsAdmissible header before s × AreAdmissible header (before ++ s ∷ []) ss

-- The header's statements, and those that were admitted. It is the model of a `Scope`.
pub record Program : Type 0 where
  pub header : List Stmt
  pub statements : List Stmt

-- what the judgement of a statement stands on: what names stand for, and the statements before it
pub record Context : Type 0 where
  pub environment : Environment
  pub before : List Stmt

-- The context behind one more statement.
abbrev pub behind : Context → Stmt → Context
behind x s = record { environment = enter x.environment s; before = x.before ++ s ∷ [] }
