-- Lemmas on the statements of the header, one behind the other.
use Rattle.std.proofs.Common.{◌≡◌, ℕ, suc, ◌<◌, List, [], ◌∷◌, ◌++◌, length, Ok, Err, ◌⊎◌, ⊎_elim, refl, ap, sym, subst, ◌∙◌, append_assoc, append-nil, arith}
use Rattle.std.specs.Prelude.{IsErrOf}
use Rattle.qasm_lex.specs.Cuts.{AreTokensOf}
use Rattle.qasm_lex.specs.Lexed.{Lexed}
use Rattle.qasm_lex.specs.declared.token.LexFault.{LexFault}
use Rattle.qasm_lex.specs.declared.token.LexFault.TheVariants.{Memory, At}
use Rattle.qasm_lex.specs.declared.token.Token.{Token}
use Rattle.qasm_form.specs.Statements.{IsStatement, FallInto}
use Rattle.qasm_form.specs.Symbols.{Lexeme, lexemes_of}
use Rattle.qasm_form.specs.declared.stmt.Stmt.{Stmt}
use Rattle.qasm_names.specs.Accepted.{Context, behind}
use Rattle.qasm_names.specs.Environment.{enter, enter_all, no_names}
use Rattle.qasm_names.specs.Header.{IsHeader, header_text}
use Rattle.qasm_names.specs.Names.{Environment}
use Rattle.qasm_names.specs.Refusals.{Refuses}
use Rattle.qasm_names.specs.Scopes.{AreAdmissibleInHeader, IsAdmissibleInHeader}
use Rattle.qasm_names.specs.declared.fault.ScopeKind.{ScopeKind}
use Rattle.qasm_scope.specs.HeaderReading.{IsReadHeader}

pub after-push : (e : Environment) (ss : List Stmt) (s : Stmt) → enter_all e (ss ++ s ∷ []) ≡ enter (enter_all e ss) s
after-push e [] s = refl
after-push e (x ∷ ss) s = after-push (enter e x) ss s

-- one of the header's statements is admissible behind those before it
AreAdmissibleInHeader-at : (front before : List Stmt) (s : Stmt) (ss : List Stmt) → AreAdmissibleInHeader front (before ++ s ∷ ss) → IsAdmissibleInHeader (front ++ before) s
AreAdmissibleInHeader-at front [] s ss admissible =
    let P : List Stmt → Type 0 = λ l. IsAdmissibleInHeader l s in
    subst P (sym (append-nil front)) admissible.0
AreAdmissibleInHeader-at front (x ∷ before) s ss admissible =
    let P : List Stmt → Type 0 = λ l. IsAdmissibleInHeader l s in
    subst P (append_assoc front (x ∷ []) before) (AreAdmissibleInHeader-at (front ++ x ∷ []) before s ss admissible.1)

pub length-lexemes_of : (source : List ℕ) (tokens : List Token) → length (lexemes_of source tokens) ≡ length tokens
length-lexemes_of source [] = refl
length-lexemes_of source (t ∷ ts) = ap suc (length-lexemes_of source ts)

pub FallInto-push : (tokens : List Lexeme) (from : ℕ) (ss : List Stmt) (s : Stmt) (to next : ℕ) → FallInto tokens from ss to → IsStatement tokens to s next → FallInto tokens from (ss ++ s ∷ []) next
FallInto-push tokens from [] s to next h is = let P : ℕ → Type 0 = λ n. IsStatement tokens n s next in (next, subst P h is, refl)
FallInto-push tokens from (x ∷ ss) s to next h is = (h.0, h.1, FallInto-push tokens h.0 ss s to next h.2 is)

-- one statement stands at a place
abbrev OneStatement : Type 0
OneStatement =
    (tokens : List Lexeme) (from : ℕ) (s t : Stmt) (next other : ℕ) → IsStatement tokens from s next → IsStatement tokens from t other → (s ≡ t) × (next ≡ other)

-- nothing is read at the first place
pub read_none : (tokens : List Lexeme) (now : Context) → now ≡ record { environment = no_names; before = [] } → IsReadHeader tokens 0 now
read_none tokens now is =
    let none : IsReadHeader tokens 0 (record { environment = no_names; before = [] }) = record { statements = refl; left = λ header falls. (header, refl, falls); means = refl } in
    subst (IsReadHeader tokens 0) (sym is) none

module _ (tokens : List Lexeme) (place : ℕ) (now : Context) (header : List Stmt) (read : IsReadHeader tokens place now) (falls : FallInto tokens 0 header (length tokens)) where
  -- a statement stands where tokens are left
  pub next_stands : place < length tokens → (s : Stmt) × (next : ℕ) × IsStatement tokens place s next
  next_stands more = by_rest (read.left header falls).0 (read.left header falls).2 where
    by_rest : (rest : List Stmt) → FallInto tokens place rest (length tokens) → (s : Stmt) × (next : ℕ) × IsStatement tokens place s next
    by_rest [] end = absurd (omega (arith, more, end))
    by_rest (s ∷ ss) falls = (s, falls.0, falls.1)

  -- a statement that stands there is the header's next one
  pub next_left : OneStatement → (s : Stmt) (next : ℕ) → IsStatement tokens place s next → (ss : List Stmt) × (header ≡ now.before ++ s ∷ ss) × FallInto tokens next ss (length tokens)
  next_left one s next is =
      by_rest (read.left header falls).0 (read.left header falls).1 (read.left header falls).2 where
        by_rest : (rest : List Stmt) → header ≡ now.before ++ rest → FallInto tokens place rest (length tokens) → (ss : List Stmt) × (header ≡ now.before ++ s ∷ ss) × FallInto tokens next ss (length tokens)
        by_rest [] all end = absurd (omega (arith, is.goes_on, is.within, end))
        by_rest (t ∷ ss) all left =
            let same = one tokens place t s left.0 next left.1 is in (
              ss,
              subst (λ x. header ≡ now.before ++ x ∷ ss) same.0 all,
              subst (λ n. FallInto tokens n ss (length tokens)) same.1 left.2,
            )

  -- it is not refused
  pub next_admissible : OneStatement → AreAdmissibleInHeader [] header → (s : Stmt) (next : ℕ) → IsStatement tokens place s next → (k : ScopeKind) (at : ℕ) → ¬ Refuses now.environment now.before s k at
  next_admissible one admissible s next is k at =
      let left = next_left one s next is in
      let here = AreAdmissibleInHeader-at [] now.before s left.0 (subst (AreAdmissibleInHeader []) left.1 admissible) in
      subst (λ (e : Environment). ¬ Refuses e now.before s k at) (sym read.means) (here.admissible k at)

-- one statement of the header more
pub IsReadHeader-push : OneStatement → (tokens : List Lexeme) (place next : ℕ) (now new : Context) (s : Stmt) → IsReadHeader tokens place now → IsStatement tokens place s next → new ≡ behind now s → IsReadHeader tokens next new
IsReadHeader-push one tokens place next now new s h is new_is =
    let more : IsReadHeader tokens next (behind now s) = record {
      statements = FallInto-push tokens 0 now.before s place next h.statements is;
      left = λ header falls. (let left = next_left tokens place now header h falls one s next is in (left.0, left.1 ∙ sym (append_assoc now.before (s ∷ []) left.0), left.2));
      means = ap (λ e. enter e s) h.means ∙ sym (after-push no_names now.before s);
    } in
    subst (IsReadHeader tokens next) (sym new_is) more

-- the header falls into the tokens that were cut
pub header_falls : ((source : List ℕ) (one other : Lexed) → AreTokensOf source one → AreTokensOf source other → one ≡ other) → (source : List ℕ) (lexed : Lexed) (header : List Stmt) → source ≡ header_text → AreTokensOf source lexed → IsHeader header → FallInto (lexemes_of source lexed.tokens) 0 header (length (lexemes_of source lexed.tokens))
header_falls one_list source lexed header text tokens is =
    let same = one_list header_text is.lexed lexed is.tokens (subst (λ s. AreTokensOf s lexed) text tokens) in
    let falls : FallInto (lexemes_of header_text lexed.tokens) 0 header (length lexed.tokens) = subst (λ (l : Lexed). FallInto (lexemes_of header_text l.tokens) 0 header (length l.tokens)) same is.statements in
    let count : length lexed.tokens ≡ length (lexemes_of source lexed.tokens) = sym (length-lexemes_of source lexed.tokens) in
    subst (λ n. FallInto (lexemes_of source lexed.tokens) 0 header n) count (subst (λ s. FallInto (lexemes_of s lexed.tokens) 0 header (length lexed.tokens)) (sym text) falls)

-- what is read up to the end is the header
pub read_all : (source : List ℕ) (lexed : Lexed) (now : Context) → source ≡ header_text → AreTokensOf source lexed → IsReadHeader (lexemes_of source lexed.tokens) (length lexed.tokens) now → IsHeader now.before
read_all source lexed now text tokens read = record {
  lexed = lexed;
  tokens = subst (λ s. AreTokensOf s lexed) text tokens;
  statements = subst (λ s. FallInto (lexemes_of s lexed.tokens) 0 now.before (length lexed.tokens)) text read.statements;
}

-- a source that has tokens has no fault
pub no_lex_fault : (source : List ℕ) (lexed : Lexed) (fault : LexFault) (at : ℕ) → AreTokensOf source lexed → ((l : Lexed) → AreTokensOf source l → (Err fault ≡ Ok l) ⊎ IsErrOf {T = Lexed} (Err fault) Memory) → fault ≡ At at → ⊥
no_lex_fault source lexed fault at tokens every is =
    ⊎_elim (λ (e : Err fault ≡ Ok lexed). absurd (cc)) (λ (e : Err fault ≡ Err Memory). absurd (cc)) (every lexed tokens)
