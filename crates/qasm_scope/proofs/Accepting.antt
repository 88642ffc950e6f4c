-- The tokens of a source go to their end, or stop.
use Rattle.std.proofs.Common.{◌≡◌, ℕ, zero, suc, ◌+◌, ◌<◌, ◌≤◌, ◌⊎◌, inl, inr, List, [], ◌∷◌, ◌++◌, length, refl, sym, subst, append_assoc, append-nil, arith}
use Rattle.std.proofs.lemmas.Bool.{cases_lt}
use Rattle.qasm_form.specs.Statements.{FallInto, IsStatement, IsSyntaxFault}
use Rattle.qasm_form.specs.Symbols.{Lexeme}
use Rattle.qasm_form.specs.declared.stmt.Stmt.{Stmt}
use Rattle.qasm_names.specs.declared.fault.ScopeKind.{ScopeKind}
use Rattle.qasm_names.specs.Accepted.{IsAdmissible, AreAdmissible}
use Rattle.qasm_names.specs.Environment.{environment}
use Rattle.qasm_names.specs.Refusals.{IsFirstRefusal}
use Rattle.qasm_scope.specs.Refused.{StopsAt, GoToTheEnd}
use Rattle.qasm_scope.proofs.HeaderReadingLemmas.{FallInto-push}
use Rattle.qasm_scope.proofs.Judging.{judged}

-- a statement stands at a place, or a fault does
abbrev SomeStatement : Type 0
SomeStatement =
    (tokens : List Lexeme) (from end : ℕ) → ((s : Stmt) × (next : ℕ) × IsStatement tokens from s next) ⊎ ((at : ℕ) × IsSyntaxFault tokens from end at)

AreAdmissible-push : (header before ss : List Stmt) (s : Stmt) → AreAdmissible header before ss → IsAdmissible header (before ++ ss) s → AreAdmissible header before (ss ++ s ∷ [])
AreAdmissible-push header before [] s all here = (subst (λ l. IsAdmissible header l s) (append-nil before) here, tt)
AreAdmissible-push header before (x ∷ ss) s all here =
    (all.0, AreAdmissible-push header (before ++ x ∷ []) ss s all.1 (subst (λ l. IsAdmissible header l s) (sym (append_assoc before (x ∷ []) ss)) here))

module _ (some : SomeStatement) (header : List Stmt) (tokens : List Lexeme) (end : ℕ) where
  at_end : (place : ℕ) (before : List Stmt) → length tokens ≤ place → place ≤ length tokens → FallInto tokens 0 before place → AreAdmissible header [] before → GoToTheEnd header tokens
  at_end place before past within falls admissible =
      let here : place ≡ length tokens = omega (arith, past, within) in
      record { statements = before; falls = subst (FallInto tokens 0 before) here falls; admissible = admissible }

  goes_on : (left place : ℕ) (before : List Stmt) → length tokens ≤ place + left → place ≤ length tokens → FallInto tokens 0 before place → AreAdmissible header [] before → GoToTheEnd header tokens ⊎ StopsAt header tokens end
  goes_on zero place before enough within falls admissible =
      inl (at_end place before (omega (arith, enough)) within falls admissible)
  goes_on (suc left) place before enough within falls admissible =
      by_place (cases_lt place (length tokens)) (goes_on left) where
        by_judgement : place < length tokens → (s : Stmt) (next : ℕ) → IsStatement tokens place s next → IsAdmissible header before s ⊎ ((k : ScopeKind) × (at : ℕ) × IsFirstRefusal (environment header before) before s k at) → ((place : ℕ) (before : List Stmt) → length tokens ≤ place + left → place ≤ length tokens → FallInto tokens 0 before place → AreAdmissible header [] before → GoToTheEnd header tokens ⊎ StopsAt header tokens end) → GoToTheEnd header tokens ⊎ StopsAt header tokens end
        by_judgement less s next is (inl here) go =
            go next (before ++ s ∷ []) (omega (arith, enough, is.goes_on)) is.within (FallInto-push tokens 0 before s place next falls is) (AreAdmissible-push header [] before s admissible here)
        by_judgement less s next is (inr w) go =
            inr (record { before = before; place = place; falls = falls; admissible = admissible; left = less; stops = inr (s, next, w.0, w.1, is, w.2) })

        by_statement : place < length tokens → ((s : Stmt) × (next : ℕ) × IsStatement tokens place s next) ⊎ ((at : ℕ) × IsSyntaxFault tokens place end at) → ((place : ℕ) (before : List Stmt) → length tokens ≤ place + left → place ≤ length tokens → FallInto tokens 0 before place → AreAdmissible header [] before → GoToTheEnd header tokens ⊎ StopsAt header tokens end) → GoToTheEnd header tokens ⊎ StopsAt header tokens end
        by_statement less (inr fault) go =
            inr (record { before = before; place = place; falls = falls; admissible = admissible; left = less; stops = inl fault })
        by_statement less (inl w) go =
            by_judgement less w.0 w.1 w.2 (judged (environment header before) before w.0) go

        by_place : (place < length tokens) ⊎ (length tokens ≤ place) → ((place : ℕ) (before : List Stmt) → length tokens ≤ place + left → place ≤ length tokens → FallInto tokens 0 before place → AreAdmissible header [] before → GoToTheEnd header tokens ⊎ StopsAt header tokens end) → GoToTheEnd header tokens ⊎ StopsAt header tokens end
        by_place (inr past) go = inl (at_end place before past within falls admissible)
        by_place (inl less) go = by_statement less (some tokens place end) go

  pub go_or_stop : GoToTheEnd header tokens ⊎ StopsAt header tokens end
  go_or_stop = goes_on (length tokens) 0 [] (omega arith) (omega arith) refl tt
