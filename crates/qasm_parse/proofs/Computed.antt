-- What is computed of a source are its statements.
use Rattle.std.proofs.Common.{◌≡◌, ℕ, zero, suc, ◌+◌, ◌-◌, ◌<◌, ◌≤◌, List, [], ◌∷◌, ◌++◌, length, take, drop, Option, Some, None, Result, Ok, Err, refl, sym as flip, ◌∙◌, ap, subst, arith, append_assoc, length-append, length-drop}
use Rattle.std.specs.Prelude.{slice_range}
use Rattle.std.specs.List.{flat_map}
use Rattle.std.proofs.lemmas.List.{append-nil, take_at, drop_at, drop-drop}
use Rattle.qasm_lex.specs.declared.token.Token.{Token}
use Rattle.qasm_lex.specs.declared.token.TokenKind.{TokenKind}
use Rattle.qasm_lex.specs.Lexed.{Lexed}
use Rattle.qasm_lex.specs.Cuts.{Piece, piece_text, token_of, tokens_of, AreTokensOf}
use Rattle.qasm_lex.specs.Cutting.{cut}
use Rattle.qasm_form.specs.declared.stmt.Stmt.{Stmt}
use Rattle.qasm_form.specs.Symbols.{Lexeme, lexeme_of, lexemes_of}
use Rattle.qasm_form.specs.Statements.{FallInto, IsStatement}
use Rattle.qasm_parse.specs.ReadAnswers.{reading_at}
use Rattle.qasm_parse.specs.Computing.{lexeme_at, lexemes_at, with_statement, read_more, statements_in, statements_of_pieces, computed_statements}
use Rattle.qasm_parse.proofs.LoopLemmas.{length-lexemes_of}
use Rattle.qasm_parse.proofs.AnswerLemmas.{answer_ok, left_at, reading_at_other, reading_shorter}

lexemes_of-append : (source : List ℕ) (a b : List Token) → lexemes_of source (a ++ b) ≡ lexemes_of source a ++ lexemes_of source b
lexemes_of-append source [] b = refl
lexemes_of-append source (t ∷ a) b = ap (λ ts. lexeme_of source t ∷ ts) (lexemes_of-append source a b)

-- a text between two others
text_between : (front text rest : List ℕ) → slice_range (front ++ (text ++ rest)) (length front) (length front + length text) ≡ text
text_between front text rest =
    let long : length text ≡ length front + length text - length front = omega arith in
    ap (take (length front + length text - length front)) (drop_at front (text ++ rest) (length front) refl) ∙ take_at text rest _ long

lexeme_between : (front text rest : List ℕ) (kind : Option TokenKind) → lexemes_of (front ++ (text ++ rest)) (token_of kind (length front) (length front + length text)) ≡ lexeme_at kind text (length front)
lexeme_between front text rest None = refl
lexeme_between front text rest (Some kind) =
    let is = text_between front text rest in
    λ i. lexeme_at (Some kind) (is i) (length front)

lexemes_between : (front : List ℕ) (pieces : List Piece) → lexemes_of (front ++ flat_map piece_text pieces) (tokens_of (length front) pieces) ≡ lexemes_at (length front) pieces
lexemes_between front [] = refl
lexemes_between front (p ∷ pieces) =
    let rest = flat_map piece_text pieces in
    let source = front ++ (p.text ++ rest) in
    let here = token_of p.kind (length front) (length front + length p.text) in
    let longer : length (front ++ p.text) ≡ length front + length p.text = length-append front p.text in
    let others : lexemes_of source (tokens_of (length front + length p.text) pieces) ≡ lexemes_at (length front + length p.text) pieces = subst (λ n. lexemes_of source (tokens_of n pieces) ≡ lexemes_at n pieces) longer (ap (λ s. lexemes_of s (tokens_of (length (front ++ p.text)) pieces)) (flip (append_assoc front p.text rest)) ∙ lexemes_between (front ++ p.text) pieces) in
    lexemes_of-append source here (tokens_of (length front + length p.text) pieces) ∙ ap (λ ts. ts ++ lexemes_of source (tokens_of (length front + length p.text) pieces)) (lexeme_between front p.text rest p.kind) ∙ ap (λ ts. lexeme_at p.kind p.text (length front) ++ ts) others

-- statements that are computed are those into which the tokens fall
falls : (n : ℕ) (tokens : List Lexeme) (from flag : ℕ) (rest : List Lexeme) (ss : List Stmt) → drop from tokens ≡ rest → from ≤ length tokens → ((ts : List Lexeme) → reading_at flag 0 ts ≡ reading_at from 0 ts) → statements_in n flag rest ≡ Some ss → FallInto tokens from ss (length tokens)
unfolding statements_in
falls zero tokens from flag [] ss at within same is =
    let none : [] ≡ ss = cc in
    let end : length tokens ≡ from = omega (arith, length-drop from tokens, ap length at, within) in
    subst (λ l. FallInto tokens from l (length tokens)) none end
falls (suc n) tokens from flag [] ss at within same is =
    let none : [] ≡ ss = cc in
    let end : length tokens ≡ from = omega (arith, length-drop from tokens, ap length at, within) in
    subst (λ l. FallInto tokens from l (length tokens)) none end
falls zero tokens from flag (x ∷ rest) ss at within same is = absurd (cc)
falls (suc n) tokens from flag (x ∷ rest) ss at within same is =
    by_reading (reading_at flag 0 (x ∷ rest)) refl (falls n) is where
      by_rest : (s : Stmt) (next : ℕ) → IsStatement tokens from s next → (r : Option (List Stmt)) → ((others : List Stmt) → r ≡ Some others → FallInto tokens next others (length tokens)) → with_statement s r ≡ Some ss → FallInto tokens from ss (length tokens)
      by_rest s next here None go is = absurd (cc)
      by_rest s next here (Some others) go is =
          let e : s ∷ others ≡ ss = cc in
          subst (λ l. FallInto tokens from l (length tokens)) e (next, here, go others refl)

      by_reading : (o : Result (Stmt × List Lexeme) ℕ) → reading_at flag 0 (x ∷ rest) ≡ o → ((tokens : List Lexeme) (from flag : ℕ) (rest : List Lexeme) (ss : List Stmt) → drop from tokens ≡ rest → from ≤ length tokens → ((ts : List Lexeme) → reading_at flag 0 ts ≡ reading_at from 0 ts) → statements_in n flag rest ≡ Some ss → FallInto tokens from ss (length tokens)) → read_more (statements_in n 1) o ≡ Some ss → FallInto tokens from ss (length tokens)
      by_reading (Err e) read go is = absurd (cc)
      by_reading (Ok (s, left)) read go is =
          let here : reading_at from 0 (drop from tokens) ≡ Ok (s, left) = ap (reading_at from 0) at ∙ flip (same (x ∷ rest)) ∙ read in
          let short = reading_shorter from 0 (drop from tokens) s left here in
          let next = length tokens - length left in
          let total : next + length left ≡ length tokens = omega (arith, short, length-drop from tokens) in
          let stands = answer_ok tokens from 0 s left next within here total in
          by_rest s next stands (statements_in n 1 left) (λ others. go tokens next 1 left others (left_at tokens from 0 s left next within here total) (omega arith) (λ ts. flip (reading_at_other next 0 ts (λ zero_is. omega (arith, zero_is, stands.goes_on))))) is

-- what the cut that computes promises
abbrev CutGives : (List ℕ → List Piece → Type 0) → Type 0
CutGives P = (n : ℕ) (source : List ℕ) (pieces : List Piece) → cut n source ≡ Some pieces → P source pieces

-- the statements that are computed of a source are those into which its tokens fall
pub computed_fall : CutGives (λ source pieces. source ≡ flat_map piece_text pieces) → CutGives (λ source pieces. AreTokensOf source (record { tokens = tokens_of 0 pieces; source_length = length source })) → (n : ℕ) (source : List ℕ) (ss : List Stmt) → computed_statements n source ≡ Some ss → (lexed : Lexed) × AreTokensOf source lexed × FallInto (lexemes_of source lexed.tokens) 0 ss (length lexed.tokens)
unfolding computed_statements
computed_fall cut_text cut_tokens n source ss is = by_pieces (cut n source) refl is where
  by_pieces : (o : Option (List Piece)) → cut n source ≡ o → statements_of_pieces n o ≡ Some ss → (lexed : Lexed) × AreTokensOf source lexed × FallInto (lexemes_of source lexed.tokens) 0 ss (length lexed.tokens)
  by_pieces None pieces_are is = absurd (cc)
  by_pieces (Some pieces) pieces_are is =
      let seen : lexemes_of source (tokens_of 0 pieces) ≡ lexemes_at 0 pieces = ap (λ s. lexemes_of s (tokens_of 0 pieces)) (cut_text n source pieces pieces_are) ∙ lexemes_between [] pieces in
      let fall = falls n (lexemes_at 0 pieces) 0 0 (lexemes_at 0 pieces) ss refl (omega arith) (λ ts. refl) is in
      let count : length (lexemes_at 0 pieces) ≡ length (tokens_of 0 pieces) = ap length (flip seen) ∙ length-lexemes_of source (tokens_of 0 pieces) in (
        record { tokens = tokens_of 0 pieces; source_length = length source },
        cut_tokens n source pieces pieces_are,
        subst (λ k. FallInto (lexemes_of source (tokens_of 0 pieces)) 0 ss k) count (subst (λ ts. FallInto ts 0 ss (length (lexemes_at 0 pieces))) (flip seen) fall),
      )
