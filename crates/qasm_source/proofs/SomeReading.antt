-- Each source is accepted as a list of statements, or it is refused with some kind at some offset; and a list that is accepted
-- has a native list, and passes no limit or one first.
use Rattle.std.proofs.Common.{◌≡◌, ℕ, ◌<◌, ◌⊎◌, inl, inr, List, [], ◌∷◌, length, refl, ap, subst, arith}
use Rattle.zac_gates.specs.Ops.{NativeCircuit}
use Rattle.qasm_lex.specs.Cuts.{AreTokensOf, IsLexFault}
use Rattle.qasm_lex.specs.Lexed.{Lexed}
use Rattle.qasm_lex.specs.declared.token.Token.{Token}
use Rattle.qasm_form.specs.Statements.{FallInto, IsStatement, IsSyntaxFault}
use Rattle.qasm_form.specs.Symbols.{Lexeme, lexemes_of}
use Rattle.qasm_form.specs.declared.stmt.Stmt.{Stmt}
use Rattle.qasm_names.specs.Accepted.{AreAdmissible, Program}
use Rattle.qasm_names.specs.Environment.{environment}
use Rattle.qasm_names.specs.Header.{IsHeader}
use Rattle.qasm_names.specs.Refusals.{IsFirstRefusal}
use Rattle.qasm_names.specs.Scopes.{AreAdmissibleInHeader, IsSoundHeader}
use Rattle.qasm_names.specs.declared.fault.ScopeKind.{ScopeKind}
use Rattle.qasm_scope.specs.Refused.{GoToTheEnd, StopsAt}
use Rattle.qasm_expand.specs.Expansion.{IsExpansion, IsWithinLimits, PassesFirst}
use Rattle.qasm_expand.specs.declared.fault.LimitKind.{LimitKind}
use Rattle.qasm_source.specs.Source.{IsAcceptedTo, IsAccepted, IsRefusedAt}
use Rattle.qasm_source.specs.declared.source_fault.Refusal.{Refusal}
use Rattle.qasm_source.specs.declared.source_fault.Refusal.TheVariants as kind
use Rattle.qasm_source.proofs.Reading.{refused_there, version_missing}

-- what is known of tokens, of the header and of statements
pub record SourcesAreSome : Type 0 where
  pub tokens : (source : List ℕ) → ((lexed : Lexed) × AreTokensOf source lexed) ⊎ ((at : ℕ) × IsLexFault source at)
  pub seen : (source : List ℕ) (tokens : List Token) → length (lexemes_of source tokens) ≡ length tokens
  pub header : (header : List Stmt) × IsHeader header
  pub end_or_stop : (header : List Stmt) (tokens : List Lexeme) (end : ℕ) → GoToTheEnd header tokens ⊎ StopsAt header tokens end

-- what is known of programs
pub record ProgramsAreSome : Type 0 where
  pub sound : (header : List Stmt) → IsHeader header → IsSoundHeader header
  pub expands : (p : Program) → AreAdmissibleInHeader [] p.header → AreAdmissible p.header [] p.statements → (c : NativeCircuit) × IsExpansion p c
  pub limit : (p : Program) → AreAdmissibleInHeader [] p.header → AreAdmissible p.header [] p.statements → IsWithinLimits p ⊎ ((kind : LimitKind) × (count : ℕ) × PassesFirst p kind count)

-- the source is accepted or refused
abbrev pub IsJudged : List ℕ → Type 0
IsJudged source = ((p : Program) × IsAccepted source p) ⊎ ((k : Refusal) × (at : ℕ) × IsRefusedAt source k at)

module _ (law : SourcesAreSome) (source : List ℕ) where
  module _ (lexed : Lexed) (are : AreTokensOf source lexed) where
    to_the_end : (ss : List Stmt) → IsAcceptedTo source lexed (record { header = law.header.0; statements = ss }) (length lexed.tokens) → IsJudged source
    to_the_end [] all =
        inr (kind.Syntax, length source, version_missing source lexed (record { header = law.header.0; statements = [] }) (law.seen source lexed.tokens) all refl)
    to_the_end (s ∷ ss) all =
        let some : s ∷ ss ≡ [] → ⊥ = λ none. omega (arith, ap (λ (l : List Stmt). length l) none) in
        inl (record { header = law.header.0; statements = s ∷ ss }, record { lexed = lexed; all = all; some = some })

    at_end : GoToTheEnd law.header.0 (lexemes_of source lexed.tokens) → IsJudged source
    at_end h = to_the_end h.statements (record { tokens = are; header = law.header.1; falls = here; admissible = h.admissible }) where
      here : FallInto (lexemes_of source lexed.tokens) 0 h.statements (length lexed.tokens)
      here = subst (FallInto (lexemes_of source lexed.tokens) 0 h.statements) (law.seen source lexed.tokens) h.falls

    at_stop : StopsAt law.header.0 (lexemes_of source lexed.tokens) (length source) → IsJudged source
    at_stop h = by_stop h.stops where
      so_far : IsAcceptedTo source lexed (record { header = law.header.0; statements = h.before }) h.place
      so_far = record { tokens = are; header = law.header.1; falls = h.falls; admissible = h.admissible }

      less : h.place < length lexed.tokens
      less = omega (arith, h.left, law.seen source lexed.tokens)

      by_stop : ((at : ℕ) × IsSyntaxFault (lexemes_of source lexed.tokens) h.place (length source) at) ⊎ ((s : Stmt) × (next : ℕ) × (k : ScopeKind) × (at : ℕ) × IsStatement (lexemes_of source lexed.tokens) h.place s next × IsFirstRefusal (environment law.header.0 h.before) h.before s k at) → IsJudged source
      by_stop (inl fault) =
          inr (kind.Syntax, fault.0, refused_there source lexed (record { header = law.header.0; statements = h.before }) h.place kind.Syntax fault.0 so_far less fault.1)
      by_stop (inr w) =
          inr (kind.Scope w.2, w.3, refused_there source lexed (record { header = law.header.0; statements = h.before }) h.place (kind.Scope w.2) w.3 so_far less (w.0, w.1, w.4, w.5))

    by_tokens : GoToTheEnd law.header.0 (lexemes_of source lexed.tokens) ⊎ StopsAt law.header.0 (lexemes_of source lexed.tokens) (length source) → IsJudged source
    by_tokens (inl h) = at_end h
    by_tokens (inr h) = at_stop h

  by_lexing : ((lexed : Lexed) × AreTokensOf source lexed) ⊎ ((at : ℕ) × IsLexFault source at) → IsJudged source
  by_lexing (inl w) = by_tokens w.0 w.1 (law.end_or_stop law.header.0 (lexemes_of source w.0.tokens) (length source))
  by_lexing (inr w) = inr (kind.Lex, w.0, w.1)

  -- a source is accepted or refused
  pub judged : IsJudged source
  judged = by_lexing (law.tokens source)

module _ (law : ProgramsAreSome) (source : List ℕ) (p : Program) (is : IsAccepted source p) where
  -- what is accepted has a native list
  pub expanded : (c : NativeCircuit) × IsExpansion p c
  expanded = law.expands p (law.sound p.header is.all.header).admissible is.all.admissible

  -- and passes no limit, or one first
  pub limited : IsWithinLimits p ⊎ ((k : LimitKind) × (count : ℕ) × PassesFirst p k count)
  limited = law.limit p (law.sound p.header is.all.header).admissible is.all.admissible

-- a source is accepted with a native list and within the limits, or passes one first, or is refused
abbrev pub IsAnswered : List ℕ → Type 0
IsAnswered source =
    ((p : Program) × (c : NativeCircuit) × IsAccepted source p × IsWithinLimits p × IsExpansion p c) ⊎ ((p : Program) × (k : LimitKind) × (count : ℕ) × IsAccepted source p × PassesFirst p k count) ⊎ ((k : Refusal) × (at : ℕ) × IsRefusedAt source k at)

pub answered : SourcesAreSome → ProgramsAreSome → (source : List ℕ) → IsAnswered source
answered sources programs source = by_judgement (judged sources source) where
  by_limit : (p : Program) → IsAccepted source p → IsWithinLimits p ⊎ ((k : LimitKind) × (count : ℕ) × PassesFirst p k count) → IsAnswered source
  by_limit p is (inl within) = let c = expanded programs source p is in inl (p, c.0, is, within, c.1)
  by_limit p is (inr w) = inr (inl (p, w.0, w.1, is, w.2))

  by_judgement : IsJudged source → IsAnswered source
  by_judgement (inl w) = by_limit w.0 w.1 (limited programs source w.0 w.1)
  by_judgement (inr w) = inr (inr (w.0, w.1, w.2))
