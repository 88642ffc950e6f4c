-- Readings of a source, up to a place and up to its end.
use Rattle.std.proofs.Common.{◌≡◌, ℕ, ◌<◌, inl, inr, true, List, [], ◌∷◌, ◌++◌, length, refl, sym, subst, arith, append_assoc}
use Rattle.std.proofs.lemmas.List.{append-nil}
use Rattle.qasm_lex.specs.Lexed.{Lexed}
use Rattle.qasm_form.specs.Statements.{FallInto, IsStatement, IsSyntaxFault, Begins}
use Rattle.qasm_form.specs.Symbols.{Lexeme, lexemes_of}
use Rattle.qasm_form.specs.declared.stmt.Stmt.{Stmt}
use Rattle.qasm_form.specs.declared.stmt.Stmt.TheVariants as stmt
use Rattle.qasm_form.specs.declared.symbol.Symbol.TheVariants as symbols
use Rattle.qasm_names.specs.Accepted.{AreAdmissible, IsAdmissible, Program}
use Rattle.qasm_source.specs.Source.{IsAcceptedTo, StopsWith, IsRefusedAt}
use Rattle.qasm_source.specs.declared.source_fault.Refusal.{Refusal}
use Rattle.qasm_source.specs.declared.source_fault.Refusal.TheVariants as kind

-- one more statement behind those into which tokens fall
falls_push : (tokens : List Lexeme) (from : ℕ) (ss : List Stmt) (mid : ℕ) (s : Stmt) (next : ℕ) → FallInto tokens from ss mid → IsStatement tokens mid s next → FallInto tokens from (ss ++ s ∷ []) next
falls_push tokens from [] mid s next h is =
    let P : ℕ → Type 0 = λ n. IsStatement tokens n s next in
    (next, subst P h is, refl)
falls_push tokens from (t ∷ ss) mid s next h is = (h.0, h.1, falls_push tokens h.0 ss mid s next h.2 is)

-- one more statement behind those of which none is refused
admissible_push : (header before ss : List Stmt) (s : Stmt) → AreAdmissible header before ss → IsAdmissible header (before ++ ss) s → AreAdmissible header before (ss ++ s ∷ [])
admissible_push header before [] s all here = (subst (λ b. IsAdmissible header b s) (append-nil before) here, tt)
admissible_push header before (t ∷ ss) s all here =
    (all.0, admissible_push header (before ++ t ∷ []) ss s all.1 (subst (λ b. IsAdmissible header b s) (sym (append_assoc before (t ∷ []) ss)) here))

-- a stop behind accepted statements refuses the source
pub refused_there : (source : List ℕ) (lexed : Lexed) (before : Program) (from : ℕ) (k : Refusal) (at : ℕ) → IsAcceptedTo source lexed before from →
    from < length lexed.tokens → StopsWith (lexemes_of source lexed.tokens) from (length source) before k at → IsRefusedAt source k at
refused_there source lexed before from kind.Lex at so_far less why = absurd why
refused_there source lexed before from kind.Syntax at so_far less why = record { lexed = lexed; before = before; from = from; so_far = so_far; is_due = inl less; stops = why }
refused_there source lexed before from (kind.Scope k) at so_far less why = record { lexed = lexed; before = before; from = from; so_far = so_far; is_due = inl less; stops = why }

-- one more statement behind accepted ones
pub accepted_more : (source : List ℕ) (lexed : Lexed) (before after : Program) (from next : ℕ) (s : Stmt) → IsAcceptedTo source lexed before from →
    IsStatement (lexemes_of source lexed.tokens) from s next → IsAdmissible before.header before.statements s →
    after ≡ record { header = before.header; statements = before.statements ++ s ∷ [] } → IsAcceptedTo source lexed after next
accepted_more source lexed before after from next s so_far is admissible grown =
    subst (λ (x : Program). IsAcceptedTo source lexed x next) (sym grown) (record {
      tokens = so_far.tokens;
      header = so_far.header;
      falls = falls_push (lexemes_of source lexed.tokens) 0 before.statements from s next so_far.falls is;
      admissible = admissible_push before.header [] before.statements s so_far.admissible admissible;
    })

-- a version begins with no token
version_begins : Begins 0 []
version_begins =
    let header : Lexeme = record { symbol = symbols.Header; text = []; at = 0 } in
    let number : Lexeme = record { symbol = symbols.Real; text = []; at = 0 } in
    let sign : Lexeme = record { symbol = symbols.Semicolon; text = []; at = 0 } in (
      header,
      number ∷ sign ∷ [],
      stmt.Version [] 0,
      (
        header,
        header ∷ [],
        number ∷ sign ∷ [],
        refl,
        (refl, refl),
        ((true, number), number ∷ [], sign ∷ [], refl, (refl, refl), (sign, sign ∷ [], [], refl, (refl, refl), (refl, refl))),
      ),
    )

-- a source with no tokens ends before its version does
pub no_version : (end : ℕ) → IsSyntaxFault [] 0 end end
no_version end = ([], [], refl, refl, version_begins, tt)

-- tokens that fall into no statement are none, and the version is missing at the end
pub version_missing : (source : List ℕ) (lexed : Lexed) (p : Program) → length (lexemes_of source lexed.tokens) ≡ length lexed.tokens → IsAcceptedTo source lexed p (length lexed.tokens) → p.statements ≡ [] → IsRefusedAt source kind.Syntax (length source)
version_missing source lexed p seen so_far none = record {
  lexed = lexed;
  before = p;
  from = length lexed.tokens;
  so_far = so_far;
  is_due = inr none;
  stops = subst (λ n. IsSyntaxFault all n (length source) (length source)) (sym start) (subst (λ l. IsSyntaxFault l 0 (length source) (length source)) (sym nothing) (no_version (length source)));
} where
  all : List Lexeme
  all = lexemes_of source lexed.tokens

  start : length lexed.tokens ≡ 0
  start = subst (λ b. FallInto all 0 b (length lexed.tokens)) none so_far.falls

  empty : (l : List Lexeme) → length l ≡ 0 → l ≡ []
  empty [] e = refl
  empty (x ∷ l) e = absurd (omega (arith, e))

  nothing : all ≡ []
  nothing = empty all (omega (arith, start, seen))
