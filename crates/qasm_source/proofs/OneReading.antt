-- A source is accepted as one list of statements at most, or it is refused with one kind at one offset.
use Rattle.std.proofs.Common.{◌≡◌, ◌≢◌, ℕ, ◌<◌, ◌≤◌, ◌⊎◌, inl, inr, List, [], ◌∷◌, ◌++◌, length, refl, sym, ap, subst, arith, append_assoc}
use Rattle.std.proofs.lemmas.List.{append-nil}
use Rattle.qasm_lex.specs.Cuts.{AreTokensOf, IsLexFault}
use Rattle.qasm_lex.specs.Lexed.{Lexed}
use Rattle.qasm_form.specs.Statements.{FallInto, IsStatement, IsSyntaxFault}
use Rattle.qasm_form.specs.Symbols.{Lexeme, lexemes_of}
use Rattle.qasm_form.specs.declared.stmt.Stmt.{Stmt}
use Rattle.qasm_names.specs.Accepted.{AreAdmissible, IsAdmissible, Program}
use Rattle.qasm_names.specs.Environment.{environment}
use Rattle.qasm_names.specs.Header.{IsHeader}
use Rattle.qasm_names.specs.Refusals.{IsFirstRefusal}
use Rattle.qasm_names.specs.declared.fault.ScopeKind.{ScopeKind}
use Rattle.qasm_source.specs.Source.{IsAcceptedTo, IsAccepted, StopsWith, Stops, IsRefusedAt}
use Rattle.qasm_source.specs.declared.source_fault.Refusal.{Refusal}
use Rattle.qasm_source.specs.declared.source_fault.Refusal.TheVariants as kind

-- what is known of tokens, of statements, of the header and of judgements
pub record SourcesAreOne : Type 0 where
  pub one_list : (source : List ℕ) (one other : Lexed) → AreTokensOf source one → AreTokensOf source other → one ≡ other
  pub one_lex_fault : (source : List ℕ) (one other : ℕ) → IsLexFault source one → IsLexFault source other → one ≡ other
  pub not_lexed : (source : List ℕ) (lexed : Lexed) (at : ℕ) → AreTokensOf source lexed → IsLexFault source at → ⊥
  pub one_statement : (tokens : List Lexeme) (from : ℕ) (s t : Stmt) (next other : ℕ) → IsStatement tokens from s next → IsStatement tokens from t other → (s ≡ t) × (next ≡ other)
  pub one_fault : (tokens : List Lexeme) (from end one other : ℕ) → IsSyntaxFault tokens from end one → IsSyntaxFault tokens from end other → one ≡ other
  pub not_both : (tokens : List Lexeme) (from end : ℕ) (s : Stmt) (next at : ℕ) → IsStatement tokens from s next → IsSyntaxFault tokens from end at → ⊥
  pub one_way : (tokens : List Lexeme) (from : ℕ) (ss ts : List Stmt) (to : ℕ) → FallInto tokens from ss to → FallInto tokens from ts to → ss ≡ ts
  pub one_header : (one other : List Stmt) → IsHeader one → IsHeader other → one ≡ other
  pub one_refusal : (header before : List Stmt) (s : Stmt) (kind other : ScopeKind) (at more : ℕ) → IsFirstRefusal (environment header before) before s kind at →
      IsFirstRefusal (environment header before) before s other more → (kind ≡ other) × (at ≡ more)

-- statements go on
goes_on : (tokens : List Lexeme) (from : ℕ) (ss : List Stmt) (to : ℕ) → FallInto tokens from ss to → from ≤ to
goes_on tokens from [] to h = omega (arith, h)
goes_on tokens from (s ∷ ss) to h = omega (arith, h.1.goes_on, goes_on tokens h.0 ss to h.2)

-- a statement of which none is refused isn't behind those before it
admissible_at : (header before ts : List Stmt) (s : Stmt) (rest : List Stmt) → AreAdmissible header before (ts ++ s ∷ rest) → IsAdmissible header (before ++ ts) s
admissible_at header before [] s rest h = subst (λ b. IsAdmissible header b s) (sym (append-nil before)) h.0
admissible_at header before (t ∷ ts) s rest h =
    subst (λ b. IsAdmissible header b s) (append_assoc before (t ∷ []) ts) (admissible_at header (before ++ t ∷ []) ts s rest h.1)

-- the statement behind others into which tokens fall
pub record Next (tokens : List Lexeme) (ts : List Stmt) (ss : List Stmt) (mid : ℕ) : Type 0 where
  pub statement : Stmt
  pub rest : List Stmt
  pub next : ℕ
  pub all : ss ≡ ts ++ statement ∷ rest
  pub is : IsStatement tokens mid statement next

module _ (law : SourcesAreOne) where
  next_of : (tokens : List Lexeme) (from : ℕ) (ss ts : List Stmt) (mid to : ℕ) → FallInto tokens from ss to → FallInto tokens from ts mid → mid < to → Next tokens ts ss mid
  next_of tokens from [] ts mid to left right less =
      absurd (omega (arith, left, less, goes_on tokens from ts mid right))
  next_of tokens from (s ∷ ss) [] mid to left right less =
      let P : ℕ → Type 0 = λ n. IsStatement tokens n s left.0 in record {
        statement = s;
        rest = ss;
        next = left.0;
        all = refl;
        is = subst P (sym right) left.1;
      }
  next_of tokens from (s ∷ ss) (t ∷ ts) mid to left right less =
      let same = law.one_statement tokens from s t left.0 right.0 left.1 right.1 in
      let P : ℕ → Type 0 = λ n. FallInto tokens n ts mid in
      let found = next_of tokens left.0 ss ts mid to left.2 (subst P (sym same.1) right.2) less in record {
        statement = found.statement;
        rest = found.rest;
        next = found.next;
        all = λ i. same.0 i ∷ found.all i;
        is = found.is;
      }

  no_next : (tokens : List Lexeme) (end : ℕ) (before : Program) (from : ℕ) (k : Refusal) (at : ℕ) → StopsWith tokens from end before k at →
      (s : Stmt) (next : ℕ) → IsStatement tokens from s next → IsAdmissible before.header before.statements s → ⊥
  no_next tokens end before from kind.Lex at stops s next is admissible = absurd stops
  no_next tokens end before from kind.Syntax at stops s next is admissible = law.not_both tokens from end s next at is stops
  no_next tokens end before from (kind.Scope k) at stops s next is admissible =
      let one = law.one_statement tokens from stops.0 s stops.1 next stops.2 is in
      let first = subst (λ (x : Stmt). IsFirstRefusal (environment before.header before.statements) before.statements x k at) one.0 stops.3 in
      admissible k at first.refuses

  stop_once : (tokens : List Lexeme) (end : ℕ) (before : Program) (from : ℕ) (k l : Refusal) (a b : ℕ) → StopsWith tokens from end before k a → StopsWith tokens from end before l b → (k ≡ l) × (a ≡ b)
  stop_once tokens end before from kind.Lex l a b left right = absurd left
  stop_once tokens end before from kind.Syntax kind.Lex a b left right = absurd right
  stop_once tokens end before from (kind.Scope k) kind.Lex a b left right = absurd right
  stop_once tokens end before from kind.Syntax kind.Syntax a b left right = (refl, law.one_fault tokens from end a b left right)
  stop_once tokens end before from kind.Syntax (kind.Scope l) a b left right =
      absurd (law.not_both tokens from end right.0 right.1 a right.2 left)
  stop_once tokens end before from (kind.Scope k) kind.Syntax a b left right =
      absurd (law.not_both tokens from end left.0 left.1 b left.2 right)
  stop_once tokens end before from (kind.Scope k) (kind.Scope l) a b left right =
      let one = law.one_statement tokens from right.0 left.0 right.1 left.1 right.2 left.2 in
      let e = environment before.header before.statements in
      let same = law.one_refusal before.header before.statements left.0 k l a b left.3 (subst (λ (s : Stmt). IsFirstRefusal e before.statements s l b) one.0 right.3) in
      (ap kind.Scope same.0, same.1)

  -- two readings of a source, up to two places
  module _ (source : List ℕ) (l m : Lexed) (p q : Program) (to end : ℕ) (left : IsAcceptedTo source l p to) (right : IsAcceptedTo source m q end) where
    pub same_tokens : m ≡ l
    same_tokens = law.one_list source m l right.tokens left.tokens

    pub same_header : q.header ≡ p.header
    same_header = law.one_header q.header p.header right.header left.header

    -- the second over the tokens of the first
    pub retold : FallInto (lexemes_of source l.tokens) 0 q.statements end
    retold = subst (λ (x : Lexed). FallInto (lexemes_of source x.tokens) 0 q.statements end) same_tokens right.falls

    -- two readings up to one place are one
    pub one_reading : to ≡ end → p ≡ q
    one_reading e =
        let P : ℕ → Type 0 = λ n. FallInto (lexemes_of source l.tokens) 0 q.statements n in
        let statements = law.one_way (lexemes_of source l.tokens) 0 p.statements q.statements to left.falls (subst P (sym e) retold) in
        λ i. record { header = sym same_header i; statements = statements i }

  -- a source is accepted in one way
  pub accepted_once : (source : List ℕ) (p q : Program) → IsAccepted source p → IsAccepted source q → p ≡ q
  accepted_once source p q left right =
      let same = same_tokens source left.lexed right.lexed p q (length left.lexed.tokens) (length right.lexed.tokens) left.all right.all in
      one_reading source left.lexed right.lexed p q (length left.lexed.tokens) (length right.lexed.tokens) left.all right.all (ap (λ (x : Lexed). length x.tokens) (sym same))

  -- no reading goes on behind the place of a stop
  stop_behind : (source : List ℕ) (k : Refusal) (at : ℕ) (s : Stops source k at) (l : Lexed) (p : Program) (to : ℕ) → IsAcceptedTo source l p to → s.from < to → ⊥
  stop_behind source k at s l p to read less =
      no_next (lexemes_of source s.lexed.tokens) (length source) s.before s.from k at s.stops found.statement found.next found.is here where
        found : Next (lexemes_of source s.lexed.tokens) s.before.statements p.statements s.from
        found =
            next_of (lexemes_of source s.lexed.tokens) 0 p.statements s.before.statements s.from to
            (retold source s.lexed l s.before p s.from to s.so_far read) s.so_far.falls less

        header : p.header ≡ s.before.header
        header = same_header source s.lexed l s.before p s.from to s.so_far read

        all : AreAdmissible s.before.header [] (s.before.statements ++ found.statement ∷ found.rest)
        all =
            subst (AreAdmissible s.before.header []) found.all
            (subst (λ (h : List Stmt). AreAdmissible h [] p.statements) header read.admissible)

        here : IsAdmissible s.before.header s.before.statements found.statement
        here = admissible_at s.before.header [] s.before.statements found.statement found.rest all

  some_tokens : (tokens : List Lexeme) (ts : List Stmt) → ts ≢ [] → (to : ℕ) → FallInto tokens 0 ts to → 0 < to
  some_tokens tokens [] some to h = absurd (some refl)
  some_tokens tokens (t ∷ ts) some to h = omega (arith, h.1.goes_on, goes_on tokens h.0 ts to h.2)

  not_stopped : (source : List ℕ) (p : Program) → IsAccepted source p → (k : Refusal) (at : ℕ) → Stops source k at → ⊥
  not_stopped source p accepted k at s = stop_behind source k at s accepted.lexed p (length accepted.lexed.tokens) accepted.all less where
    same : s.lexed ≡ accepted.lexed
    same = same_tokens source accepted.lexed s.lexed p s.before (length accepted.lexed.tokens) s.from accepted.all s.so_far

    some : 0 < length accepted.lexed.tokens
    some = some_tokens (lexemes_of source accepted.lexed.tokens) p.statements accepted.some (length accepted.lexed.tokens) accepted.all.falls

    start : s.before.statements ≡ [] → s.from ≡ 0
    start none = subst (λ b. FallInto (lexemes_of source s.lexed.tokens) 0 b s.from) none s.so_far.falls

    due : (s.from < length s.lexed.tokens) ⊎ (s.before.statements ≡ []) → s.from < length accepted.lexed.tokens
    due (inl lt) = omega (arith, lt, ap (λ (x : Lexed). length x.tokens) same)
    due (inr none) = omega (arith, start none, some)

    less : s.from < length accepted.lexed.tokens
    less = due s.is_due

  -- an accepted source isn't refused
  pub accepted_or_refused : (source : List ℕ) (p : Program) → IsAccepted source p → (k : Refusal) (at : ℕ) → IsRefusedAt source k at → ⊥
  accepted_or_refused source p accepted kind.Lex at h = law.not_lexed source accepted.lexed at accepted.all.tokens h
  accepted_or_refused source p accepted kind.Syntax at h = not_stopped source p accepted kind.Syntax at h
  accepted_or_refused source p accepted (kind.Scope k) at h = not_stopped source p accepted (kind.Scope k) at h

  stops_once : (source : List ℕ) (k l : Refusal) (a b : ℕ) → Stops source k a → Stops source l b → (k ≡ l) × (a ≡ b)
  stops_once source k l a b s t = by_places (places s.from t.from) where
    places : (m n : ℕ) → (m < n) ⊎ (n < m) ⊎ (m ≡ n)
    places m n = grind arith

    by_places : (s.from < t.from) ⊎ (t.from < s.from) ⊎ (s.from ≡ t.from) → (k ≡ l) × (a ≡ b)
    by_places (inl less) = absurd (stop_behind source k a s t.lexed t.before t.from t.so_far less)
    by_places (inr (inl more)) = absurd (stop_behind source l b t s.lexed s.before s.from s.so_far more)
    by_places (inr (inr e)) =
        let tokens = same_tokens source s.lexed t.lexed s.before t.before s.from t.from s.so_far t.so_far in
        let before = one_reading source s.lexed t.lexed s.before t.before s.from t.from s.so_far t.so_far e in
        let here : StopsWith (lexemes_of source s.lexed.tokens) t.from (length source) t.before l b = subst (λ (x : Lexed). StopsWith (lexemes_of source x.tokens) t.from (length source) t.before l b) tokens t.stops in
        let moved : StopsWith (lexemes_of source s.lexed.tokens) t.from (length source) s.before l b = subst (λ (x : Program). StopsWith (lexemes_of source s.lexed.tokens) t.from (length source) x l b) (sym before) here in
        stop_once (lexemes_of source s.lexed.tokens) (length source) s.before s.from k l a b s.stops
        (subst (λ n. StopsWith (lexemes_of source s.lexed.tokens) n (length source) s.before l b) (sym e) moved)

  -- its tokens don't refuse a source that stops
  lexed_or_fault : (source : List ℕ) (k : Refusal) (at other : ℕ) → Stops source k at → IsLexFault source other → ⊥
  lexed_or_fault source k at other s h = law.not_lexed source s.lexed other s.so_far.tokens h

  -- each refusal of a source is the same
  pub refused_once : (source : List ℕ) (k l : Refusal) (a b : ℕ) → IsRefusedAt source k a → IsRefusedAt source l b → (k ≡ l) × (a ≡ b)
  refused_once source kind.Lex kind.Lex a b left right = (refl, law.one_lex_fault source a b left right)
  refused_once source kind.Lex kind.Syntax a b left right = absurd (lexed_or_fault source kind.Syntax b a right left)
  refused_once source kind.Lex (kind.Scope l) a b left right = absurd (lexed_or_fault source (kind.Scope l) b a right left)
  refused_once source kind.Syntax kind.Lex a b left right = absurd (lexed_or_fault source kind.Syntax a b left right)
  refused_once source (kind.Scope k) kind.Lex a b left right = absurd (lexed_or_fault source (kind.Scope k) a b left right)
  refused_once source kind.Syntax kind.Syntax a b left right = stops_once source kind.Syntax kind.Syntax a b left right
  refused_once source kind.Syntax (kind.Scope l) a b left right = stops_once source kind.Syntax (kind.Scope l) a b left right
  refused_once source (kind.Scope k) kind.Syntax a b left right = stops_once source (kind.Scope k) kind.Syntax a b left right
  refused_once source (kind.Scope k) (kind.Scope l) a b left right = stops_once source (kind.Scope k) (kind.Scope l) a b left right
