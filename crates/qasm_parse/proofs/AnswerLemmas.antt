-- What the answer about a statement says, in both directions.
use Rattle.std.proofs.Common.{◌≡◌, ℕ, zero, suc, ◌+◌, ◌-◌, ◌<◌, ◌≤◌, List, [], ◌∷◌, ◌++◌, length, take, drop, Result, Ok, Err, ◌⊎◌, refl, sym as flip, ◌∙◌, ap, subst, inl, inr, arith, append_assoc, length-append, length-drop, length-take-le}
use Rattle.std.specs.Prelude.{IfOk, IsErrOf}
use Rattle.std.proofs.lemmas.List.{append-nil, take_at, drop_at, drop-drop, take-append-drop, take_rest}
use Rattle.qasm_lex.specs.declared.token.Token.{Token}
use Rattle.qasm_lex.specs.Lexed.{AreInOrder}
use Rattle.qasm_form.specs.declared.stmt.Stmt.{Stmt}
use Rattle.qasm_parse.specs.declared.fault.SyntaxFault.{SyntaxFault}
use Rattle.qasm_parse.specs.declared.fault.SyntaxFault.TheVariants.{Memory, At}
use Rattle.qasm_form.specs.Symbols.{Lexeme, lexemes_of}
use Rattle.qasm_form.specs.Statements.{offset_of}
use Rattle.std.specs.Borrow.{Bor}
use Rattle.qasm_parse.specs.Gives.{Fails, Gives, seen}
use Rattle.qasm_parse.proofs.LoopLemmas.{length-lexemes_of}
use Rattle.qasm_parse.specs.Readings.{statement_at, version_at}
use Rattle.qasm_form.specs.Statements.{StatementAt, IsStatement, Begins, BeginsNone, IsSyntaxFault}
use Rattle.qasm_parse.specs.ReadAnswers.{IsAnswer, reading_at}
use Rattle.qasm_parse.proofs.DecidesLemmas.{Agrees, Stops, IsPrefixFree, Decides, meet, word_before}
use Rattle.qasm_parse.proofs.StatementLemmas.{decides_statement, decides_version}

decides_at : (from end : ℕ) → Decides (StatementAt from) end (reading_at from end)
decides_at zero end = decides_version end
decides_at (suc from) end = decides_statement end

pub free_at : (from : ℕ) → IsPrefixFree (StatementAt from)
free_at from = (decides_at from 0).free

-- a statement has a token at least
statement_some : (from : ℕ) (ts : List Lexeme) (s : Stmt) → StatementAt from ts s → 0 < length ts
statement_some zero ts s w = omega (arith, ap length w.3, length-append w.1 w.2, ap length w.4.0)
statement_some (suc from) ts s w = omega (arith, ap length w.3, length-append w.1 w.2, ap length w.4.0)

none_of_stops : (from : ℕ) (front rest : List Lexeme) → Stops (StatementAt from) front rest → BeginsNone from front rest
none_of_stops from front [] stops = tt
none_of_stops from front (x ∷ rest) stops = stops

pub answer_ok : (tokens : List Lexeme) (from end : ℕ) (s : Stmt) (left : List Lexeme) (next : ℕ) → from ≤ length tokens → reading_at from end (drop from tokens) ≡ Ok (s, left) → next + length left ≡ length tokens → IsStatement tokens from s next
answer_ok tokens from end s left next within is total =
    let h = subst (Agrees (StatementAt from) end (drop from tokens)) is ((decides_at from end).right (drop from tokens)) in
    let some = statement_some from h.0 s h.2 in
    let lengths : length tokens - from ≡ length h.0 + length left = flip (length-drop from tokens) ∙ ap length h.1 ∙ length-append h.0 left in
    let size : length h.0 ≡ next - from = omega (arith, lengths, total, within) in
    record {
      goes_on = omega (arith, size, some);
      within = omega (arith, total);
      derived = subst (λ t. StatementAt from t s) (flip (ap (take (next - from)) h.1 ∙ take_at h.0 left (next - from) size)) h.2;
    }

-- what is left behind a statement are the tokens from the next place on
pub left_at : (tokens : List Lexeme) (from end : ℕ) (s : Stmt) (left : List Lexeme) (next : ℕ) → from ≤ length tokens → reading_at from end (drop from tokens) ≡ Ok (s, left) → next + length left ≡ length tokens → drop next tokens ≡ left
left_at tokens from end s left next within is total =
    let h = subst (Agrees (StatementAt from) end (drop from tokens)) is ((decides_at from end).right (drop from tokens)) in
    let lengths : length tokens - from ≡ length h.0 + length left = flip (length-drop from tokens) ∙ ap length h.1 ∙ length-append h.0 left in
    let place : next ≡ from + length h.0 = omega (arith, lengths, total, within) in
    ap (λ n. drop n tokens) place ∙ flip (drop-drop (length h.0) from tokens) ∙ ap (drop (length h.0)) h.1 ∙ drop_at h.0 left (length h.0) refl

pub answer_err : (tokens : List Lexeme) (from end at : ℕ) → reading_at from end (drop from tokens) ≡ Err at → IsSyntaxFault tokens from end at
answer_err tokens from end at is =
    let h = subst (Agrees (StatementAt from) end (drop from tokens)) is ((decides_at from end).right (drop from tokens)) in
    (h.0, h.1, h.2, h.3, h.4, none_of_stops from h.0 h.1 h.5)

-- a statement stands at a place, or a fault does
pub some_statement_or_fault : (tokens : List Lexeme) (from end : ℕ) → ((s : Stmt) × (next : ℕ) × IsStatement tokens from s next) ⊎ ((at : ℕ) × IsSyntaxFault tokens from end at)
some_statement_or_fault tokens from end = by_answer (reading_at from end (drop from tokens)) refl where
  by_answer : (o : Result (Stmt × List Lexeme) ℕ) → reading_at from end (drop from tokens) ≡ o → ((s : Stmt) × (next : ℕ) × IsStatement tokens from s next) ⊎ ((at : ℕ) × IsSyntaxFault tokens from end at)
  by_answer (Err at) is = inr (at, answer_err tokens from end at is)
  by_answer (Ok (s, left)) is =
      let h = subst (Agrees (StatementAt from) end (drop from tokens)) is ((decides_at from end).right (drop from tokens)) in
      let some = statement_some from h.0 s h.2 in
      let lengths : length tokens - from ≡ length h.0 + length left = flip (length-drop from tokens) ∙ ap length h.1 ∙ length-append h.0 left in
      inl (s, length tokens - length left, answer_ok tokens from end s left (length tokens - length left) (omega (arith, some, lengths)) is (omega (arith, some, lengths)))

-- one statement stands at a place
pub statement_once : (tokens : List Lexeme) (from : ℕ) (s t : Stmt) (n m : ℕ) → IsStatement tokens from s n → IsStatement tokens from t m → (s ≡ t) × (n ≡ m)
statement_once tokens from s t n m left right =
    let d = drop from tokens in
    let whole : take (n - from) d ++ drop (n - from) d ≡ take (m - from) d ++ drop (m - from) d = take-append-drop (n - from) d ∙ flip (take-append-drop (m - from) d) in
    let same = free_at from (take (n - from) d) (take (m - from) d) (drop (n - from) d) (drop (m - from) d) s t left.derived right.derived whole in
    let total = length-drop from tokens in
    let first : length (take (n - from) d) ≡ n - from = length-take-le (n - from) d (omega (arith, total, left.goes_on, left.within)) in
    let second : length (take (m - from) d) ≡ m - from = length-take-le (m - from) d (omega (arith, total, right.goes_on, right.within)) in
    (same.1, omega (arith, first, second, ap length same.0, left.goes_on, right.goes_on))

-- no word goes on where none begins
blocked : (from : ℕ) (front rest : List Lexeme) → BeginsNone from front rest → (x : Lexeme) (m others : List Lexeme) (s : Stmt) → rest ≡ x ∷ others → StatementAt from (front ++ x ∷ m) s → ⊥
blocked from front [] none x m others s same word = absurd (omega (arith, ap length same))
blocked from front (y ∷ rest) none x m others s same word =
    let e : y ≡ x = cc in
    none m s (subst (λ z. StatementAt from (front ++ z ∷ m) s) (flip e) word)

pub statement_or_fault : (tokens : List Lexeme) (from end : ℕ) (s : Stmt) (n at : ℕ) → IsStatement tokens from s n → IsSyntaxFault tokens from end at → ⊥
statement_or_fault tokens from end s n at read fault =
    by_meeting (take (n - from) (drop from tokens)) (drop (n - from) (drop from tokens)) read.derived (meet (take (n - from) (drop from tokens)) fault.0 (drop (n - from) (drop from tokens)) fault.1 (take-append-drop (n - from) (drop from tokens) ∙ fault.2)) where
      by_meeting : (word left : List Lexeme) → StatementAt from word s → ((m : List Lexeme) × (word ≡ fault.0 ++ m) × (fault.1 ≡ m ++ left)) ⊎ ((x : Lexeme) × (m : List Lexeme) × (fault.0 ≡ word ++ x ∷ m) × (left ≡ x ∷ (m ++ fault.1))) → ⊥
      by_meeting word left is (inr h) =
          word_before (StatementAt from) (free_at from) fault.0 fault.4 word s is (h.0 ∷ h.1) h.2
      by_meeting word left is (inl h) = by_middle h.0 h.1 h.2 where
        by_middle : (m : List Lexeme) → word ≡ fault.0 ++ m → fault.1 ≡ m ++ left → ⊥
        by_middle [] same rest =
            word_before (StatementAt from) (free_at from) fault.0 fault.4 word s is [] (flip (append-nil fault.0) ∙ flip same ∙ flip (append-nil word))
        by_middle (x ∷ m) same rest =
            blocked from fault.0 fault.1 fault.5 x m (m ++ left) s rest (subst (λ t. StatementAt from t s) same is)

-- one fault stands at a place
pub fault_once : (tokens : List Lexeme) (from end one other : ℕ) → IsSyntaxFault tokens from end one → IsSyntaxFault tokens from end other → one ≡ other
fault_once tokens from end one other f g =
    by_meeting (meet f.0 g.0 f.1 g.1 (flip f.2 ∙ g.2)) where
      longer : (front rest : List Lexeme) → BeginsNone from front rest → (x : Lexeme) (m others : List Lexeme) → rest ≡ x ∷ others → (far : List Lexeme) → Begins from far → far ≡ front ++ x ∷ m → ⊥
      longer front rest none x m others same far begins split =
          blocked from front rest none x (m ++ begins.0 ∷ begins.1) others begins.2 same (subst (λ t. StatementAt from t begins.2) (ap (λ t. t ++ begins.0 ∷ begins.1) split ∙ append_assoc front (x ∷ m) (begins.0 ∷ begins.1)) begins.3)

      by_meeting : ((m : List Lexeme) × (f.0 ≡ g.0 ++ m) × (g.1 ≡ m ++ f.1)) ⊎ ((x : Lexeme) × (m : List Lexeme) × (g.0 ≡ f.0 ++ x ∷ m) × (f.1 ≡ x ∷ (m ++ g.1))) → one ≡ other
      by_meeting (inr h) = absurd (longer f.0 f.1 f.5 h.0 h.1 (h.1 ++ g.1) h.3 g.0 g.4 h.2)
      by_meeting (inl h) = by_middle h.0 h.1 h.2 where
        by_middle : (m : List Lexeme) → f.0 ≡ g.0 ++ m → g.1 ≡ m ++ f.1 → one ≡ other
        by_middle [] same rest = f.3 ∙ ap (offset_of end) (flip rest) ∙ flip g.3
        by_middle (x ∷ m) same rest = absurd (longer g.0 g.1 g.5 x m (m ++ f.1) rest f.0 f.4 same)

pub answer_read : (tokens : List Lexeme) (from end : ℕ) (result : Result (Stmt × ℕ) SyntaxFault) → IsAnswer tokens from end result → IfOk result (λ r. IsStatement tokens from r.0 r.1)
answer_read tokens from end (Ok r) answer = answer
answer_read tokens from end (Err e) answer = tt

pub answer_fault : (tokens : List Lexeme) (from end : ℕ) (result : Result (Stmt × ℕ) SyntaxFault) → IsAnswer tokens from end result → (at : ℕ) → IsErrOf result (At at) → IsSyntaxFault tokens from end at
answer_fault tokens from end result answer at is = subst (IsAnswer tokens from end) is answer

pub answer_every : (tokens : List Lexeme) (from end : ℕ) (result : Result (Stmt × ℕ) SyntaxFault) → IsAnswer tokens from end result → (s : Stmt) (next : ℕ) → IsStatement tokens from s next → (result ≡ Ok (s, next)) ⊎ IsErrOf result Memory
answer_every tokens from end (Ok r) answer s next read =
    let same = statement_once tokens from r.0 s r.1 next answer read in
    inl (λ i. Ok (same.0 i, same.1 i))
answer_every tokens from end (Err Memory) answer s next read = inr refl
answer_every tokens from end (Err (At at)) answer s next read = absurd (statement_or_fault tokens from end s next at read answer)

pub answer_refused : (tokens : List Lexeme) (from end : ℕ) (result : Result (Stmt × ℕ) SyntaxFault) → IsAnswer tokens from end result → (at : ℕ) → IsSyntaxFault tokens from end at → IsErrOf result (At at) ⊎ IsErrOf result Memory
answer_refused tokens from end (Ok r) answer at fault = absurd (statement_or_fault tokens from end r.0 r.1 at answer fault)
answer_refused tokens from end (Err Memory) answer at fault = inr refl
answer_refused tokens from end (Err (At found)) answer at fault =
    inl (ap (λ n. Err (At n)) (fault_once tokens from end found at answer fault))

-- places among the tokens
pub reading_at_other : (from end : ℕ) (tokens : List Lexeme) → (from ≡ 0 → ⊥) → reading_at from end tokens ≡ statement_at end tokens
reading_at_other zero end tokens other = absurd (other refl)
reading_at_other (suc from) end tokens other = refl

pub reading_at_first : (from end : ℕ) (tokens : List Lexeme) → from ≡ 0 → reading_at from end tokens ≡ version_at end tokens
reading_at_first from end tokens is = ap (λ n. reading_at n end tokens) is

pub reading_shorter : (from end : ℕ) (tokens : List Lexeme) (s : Stmt) (left : List Lexeme) → reading_at from end tokens ≡ Ok (s, left) → length left ≤ length tokens
reading_shorter from end tokens s left is =
    let h = subst (Agrees (StatementAt from) end tokens) is ((decides_at from end).right tokens) in
    omega (arith, ap length h.1, length-append h.0 left)

pub drop-lexemes_of : (source : List ℕ) (n : ℕ) (tokens : List Token) → lexemes_of source (drop n tokens) ≡ drop n (lexemes_of source tokens)
drop-lexemes_of source zero tokens = refl
drop-lexemes_of source (suc n) [] = refl
drop-lexemes_of source (suc n) (t ∷ tokens) = drop-lexemes_of source n tokens

-- the tokens from a place on, as a slice
pub slice_from : (source : List ℕ) (n : ℕ) (tokens : List Token) → lexemes_of source (take (length tokens - n) (drop n tokens)) ≡ drop n (lexemes_of source tokens)
slice_from source n tokens = ap (lexemes_of source) (take_rest tokens n) ∙ drop-lexemes_of source n tokens

-- tokens in order are no more than the bytes of their source
pub few_tokens : (low : ℕ) (tokens : List Token) (end : ℕ) → AreInOrder low tokens end → low + length tokens ≤ end
few_tokens low [] end order = omega (arith, order)
few_tokens low (t ∷ tokens) end order = omega (arith, order.0, order.1, few_tokens t.to tokens end order.2)

-- what is left is no longer than what there was
pub gives_shorter : (from end : ℕ) (source : List ℕ) (tokens : List Token) (result : Result (Stmt × Bor (List Token)) SyntaxFault) → Gives (seen source) result (reading_at from end (lexemes_of source tokens)) → IfOk result (λ x. length x.1.now ≤ length tokens)
gives_shorter from end source tokens (Ok x) gives =
    omega (arith, reading_shorter from end (lexemes_of source tokens) x.0 (lexemes_of source x.1.now) gives, length-lexemes_of source tokens, length-lexemes_of source x.1.now)
gives_shorter from end source tokens (Err e) gives = tt

pub answer_fails : (tokens : List Lexeme) (from end : ℕ) (e : SyntaxFault) → Fails e (reading_at from end (drop from tokens)) → IsAnswer tokens from end (Err e)
answer_fails tokens from end Memory fails = tt
answer_fails tokens from end (At at) fails = answer_err tokens from end at fails
