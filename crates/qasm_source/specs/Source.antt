-- Which sources are accepted, and which are refused where.
use Rattle.std.specs.Prelude.{◌≡◌, ◌≢◌, ℕ, ◌<◌, ◌⊎◌, List, [], length}
use Rattle.qasm_lex.specs.Cuts.{AreTokensOf, IsLexFault}
use Rattle.qasm_lex.specs.Lexed.{Lexed}
use Rattle.qasm_form.specs.Statements.{FallInto, IsStatement, IsSyntaxFault}
use Rattle.qasm_form.specs.Symbols.{Lexeme, lexemes_of}
use Rattle.qasm_form.specs.declared.stmt.Stmt.{Stmt}
use Rattle.qasm_names.specs.Accepted.{AreAdmissible, Program}
use Rattle.qasm_names.specs.Environment.{environment}
use Rattle.qasm_names.specs.Header.{IsHeader}
use Rattle.qasm_names.specs.Refusals.{IsFirstRefusal}
use Rattle.qasm_source.specs.declared.source_fault.Refusal.{Refusal}
use Rattle.qasm_source.specs.declared.source_fault.Refusal.TheVariants as kind

-- The most bytes of a source: 4,194,304.
abbrev pub source_limit : ℕ
source_limit = 4194304

-- The source has these tokens, the program's header is the header, from the first token up to a place the tokens fall into
-- the program's statements, and none of these is refused behind the header and those before it.
pub record IsAcceptedTo (source : List ℕ) (lexed : Lexed) (program : Program) (to : ℕ) : Type 0 where
  pub tokens : AreTokensOf source lexed
  pub header : IsHeader program.header
  pub falls : FallInto (lexemes_of source lexed.tokens) 0 program.statements to
  pub admissible : AreAdmissible program.header [] program.statements

-- The source's tokens, from the first to the last, are the program's statements, so accepted, and there is one at least.
pub record IsAccepted (source : List ℕ) (program : Program) : Type 0 where
  pub lexed : Lexed
  pub all : IsAcceptedTo source lexed program (length lexed.tokens)
  pub some : program.statements ≢ []

-- At a place of the tokens, behind a program's statements: `Syntax` where no statement is read and the fault has this
-- offset; each other kind where one is read and this is its first refusal. `Lex` never.
abbrev pub StopsWith : List Lexeme → ℕ → ℕ → Program → Refusal → ℕ → Type 0
StopsWith tokens from end before kind.Lex at = ⊥
StopsWith tokens from end before kind.Syntax at = IsSyntaxFault tokens from end at
StopsWith tokens from end before (kind.Scope k) at =
    (s : Stmt) × (next : ℕ) × IsStatement tokens from s next × IsFirstRefusal (environment before.header before.statements) before.statements s k at

-- Behind accepted statements, where tokens are left or there is no statement yet, the source stops with this kind at
-- this offset.
pub record Stops (source : List ℕ) (k : Refusal) (at : ℕ) : Type 0 where
  pub lexed : Lexed
  pub before : Program
  pub from : ℕ
  pub so_far : IsAcceptedTo source lexed before from
  pub is_due : (from < length lexed.tokens) ⊎ (before.statements ≡ [])
  pub stops : StopsWith (lexemes_of source lexed.tokens) from (length source) before k at

-- The source is refused with this kind at this offset: `Lex` where no piece begins there; each other kind where the
-- source has tokens and stops so.
abbrev pub IsRefusedAt : List ℕ → Refusal → ℕ → Type 0
IsRefusedAt source kind.Lex at = IsLexFault source at
IsRefusedAt source k at = Stops source k at
