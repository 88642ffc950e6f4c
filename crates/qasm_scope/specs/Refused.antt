-- Programs in which a statement is refused.
use Rattle.std.specs.Prelude.{◌≡◌, ◌⊎◌, ℕ, ◌<◌, List, [], ◌∷◌, ◌++◌, length}
use Rattle.qasm_form.specs.Statements.{FallInto, IsStatement, IsSyntaxFault}
use Rattle.qasm_form.specs.Symbols.{Lexeme}
use Rattle.qasm_form.specs.declared.stmt.Stmt.{Stmt}
use Rattle.qasm_names.specs.Accepted.{IsAdmissible, AreAdmissible}
use Rattle.qasm_names.specs.Environment.{environment}
use Rattle.qasm_names.specs.Refusals.{IsFirstRefusal}
use Rattle.qasm_names.specs.declared.fault.ScopeKind.{ScopeKind}

-- One of these statements is refused behind the header and those before it, and none before it is.
pub record HasRefused (header statements : List Stmt) : Type 0 where
  pub front : List Stmt
  pub statement : Stmt
  pub rest : List Stmt
  pub is : statements ≡ front ++ statement ∷ rest
  pub admissible : AreAdmissible header [] front
  pub refused : ¬ IsAdmissible header front statement

-- At a place among the tokens, behind statements none of which is refused, a fault of the syntax stands, or a statement that is
-- refused, and this is its first refusal.
pub record StopsAt (header : List Stmt) (tokens : List Lexeme) (end : ℕ) : Type 0 where
  pub before : List Stmt
  pub place : ℕ
  pub falls : FallInto tokens 0 before place
  pub admissible : AreAdmissible header [] before
  pub left : place < length tokens
  pub stops : ((at : ℕ) × IsSyntaxFault tokens place end at) ⊎ ((s : Stmt) × (next : ℕ) × (kind : ScopeKind) × (at : ℕ) × IsStatement tokens place s next × IsFirstRefusal (environment header before) before s kind at)

-- The tokens fall into statements, none of which is refused.
pub record GoToTheEnd (header : List Stmt) (tokens : List Lexeme) : Type 0 where
  pub statements : List Stmt
  pub falls : FallInto tokens 0 statements (length tokens)
  pub admissible : AreAdmissible header [] statements
