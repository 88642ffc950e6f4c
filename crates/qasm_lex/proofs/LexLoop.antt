-- The loop of the lexer, and what its answer says.
use Rattle.std.proofs.Common.{◌≡◌, ℕ, ◌+◌, ◌<◌, ◌≤◌, List, [], ◌∷◌, ◌++◌, length, take, drop, ◌⊎◌, Option, Some, None, Result, Ok, Err, refl, sym, ◌∙◌, ap, subst, inl, inr, arith, append_assoc, length-append, length-take-le, length-drop}
use Rattle.std.specs.Prelude.{IfOk, IsErrOf}
use Rattle.std.specs.List.{flat_map}
use Rattle.std.proofs.lemmas.List.{append-nil, take-append-drop, drop-drop, drop_all}
use Rattle.qasm_lex.specs.declared.token.Token.{Token}
use Rattle.qasm_lex.specs.declared.token.TokenKind.{TokenKind}
use Rattle.qasm_lex.specs.declared.token.LexFault.{LexFault}
use Rattle.qasm_lex.specs.declared.token.LexFault.TheVariants.{Memory, At}
use Rattle.qasm_lex.specs.Lexed.{Lexed, AreInOrder}
use Rattle.qasm_lex.specs.Cuts.{Piece, IsLongest, NothingBegins, piece_text, AreLongest, token_of, tokens_of, AreTokensOf, IsLexFault, IsLongestFront, IsLexAnswer}
use Rattle.qasm_lex.proofs.CutLemmas.{tokens_once, tokens_or_fault, fault_once}

-- these items are the tokens of the source up to a place
pub record LexedTo (source : List ℕ) (items : List Token) (at : ℕ) : Type 0 where
  pub within : at ≤ length source
  pub in_order : AreInOrder 0 items at
  pub pieces : (ps : List Piece) × (source ≡ flat_map piece_text ps ++ drop at source) × AreLongest ps (drop at source) × (items ≡ tokens_of 0 ps) × (length (flat_map piece_text ps) ≡ at)

pub lexed_none : (source : List ℕ) → LexedTo source [] 0
lexed_none source = record {
  within = omega arith;
  in_order = omega arith;
  pieces = ([], refl, tt, refl, refl);
}

in_order_weaker : (low : ℕ) (items : List Token) (at end : ℕ) → AreInOrder low items at → at ≤ end → AreInOrder low items end
in_order_weaker low [] at end order le = omega (arith, order, le)
in_order_weaker low (t ∷ items) at end order le = (order.0, order.1, in_order_weaker t.to items at end order.2 le)

in_order_push : (low : ℕ) (items : List Token) (kind : TokenKind) (at end : ℕ) → AreInOrder low items at → at < end → AreInOrder low (items ++ record { kind = kind; from = at; to = end } ∷ []) end
in_order_push low [] kind at end order lt = (order, lt, omega arith)
in_order_push low (t ∷ items) kind at end order lt = (order.0, order.1, in_order_push t.to items kind at end order.2 lt)

in_order_more : (items : List Token) (kind : Option TokenKind) (at end : ℕ) → AreInOrder 0 items at → at < end → AreInOrder 0 (items ++ token_of kind at end) end
in_order_more items None at end order lt =
    subst (λ ts. AreInOrder 0 ts end) (sym (append-nil items)) (in_order_weaker 0 items at end order (omega arith))
in_order_more items (Some kind) at end order lt = in_order_push 0 items kind at end order lt

texts_push : (ps : List Piece) (p : Piece) (after : List ℕ) → flat_map piece_text (ps ++ p ∷ []) ++ after ≡ flat_map piece_text ps ++ (p.text ++ after)
texts_push [] p after = ap (λ t. t ++ after) (append-nil p.text)
texts_push (q ∷ ps) p after =
    append_assoc q.text (flat_map piece_text (ps ++ p ∷ [])) after ∙ ap (λ t. q.text ++ t) (texts_push ps p after) ∙ sym (append_assoc q.text (flat_map piece_text ps) (p.text ++ after))

longest_push : (ps : List Piece) (p : Piece) (after : List ℕ) → AreLongest ps (p.text ++ after) → IsLongest p.kind p.text after → AreLongest (ps ++ p ∷ []) after
longest_push [] p after each here = (here, tt)
longest_push (q ∷ ps) p after each here =
    (subst (IsLongest q.kind q.text) (sym (texts_push ps p after)) each.0, longest_push ps p after each.1 here)

tokens_push : (at : ℕ) (ps : List Piece) (p : Piece) → tokens_of at (ps ++ p ∷ []) ≡ tokens_of at ps ++ token_of p.kind (at + length (flat_map piece_text ps)) (at + length (flat_map piece_text ps) + length p.text)
tokens_push at [] p =
    let e : at + 0 ≡ at = omega arith in
    append-nil (token_of p.kind at (at + length p.text)) ∙ sym (ap (λ n. token_of p.kind n (n + length p.text)) e)
tokens_push at (q ∷ ps) p =
    let here = token_of q.kind at (at + length q.text) in
    let e : at + length q.text + length (flat_map piece_text ps) ≡ at + length (q.text ++ flat_map piece_text ps) = omega (arith, length-append q.text (flat_map piece_text ps)) in
    ap (λ ts. here ++ ts) (tokens_push (at + length q.text) ps p) ∙ sym (append_assoc here _ _) ∙ ap (λ n. (here ++ tokens_of (at + length q.text) ps) ++ token_of p.kind n (n + length p.text)) e

pub lexed_more : (source : List ℕ) (items new : List Token) (at : ℕ) (kind : Option TokenKind) (n : ℕ) → LexedTo source items at → IsLongestFront (drop at source) kind n → new ≡ items ++ token_of kind at (at + n) → LexedTo source new (at + n)
lexed_more source items new at kind n before front is =
    let ps = before.pieces.0 in
    let p : Piece = record { kind = kind; text = take n (drop at source) } in
    let rest : drop n (drop at source) ≡ drop (at + n) source = drop-drop n at source in
    let long : length p.text ≡ n = length-take-le n (drop at source) front.within in
    let here : IsLongest kind p.text (drop (at + n) source) = subst (IsLongest kind p.text) rest front.longest in
    let split : drop at source ≡ p.text ++ drop (at + n) source = sym (take-append-drop n (drop at source)) ∙ ap (λ t. p.text ++ t) rest in
    let total : length (flat_map piece_text (ps ++ p ∷ [])) ≡ at + n = omega (arith, ap length (texts_push ps p []), length-append (flat_map piece_text (ps ++ p ∷ [])) [], length-append (flat_map piece_text ps) (p.text ++ []), length-append p.text [], before.pieces.4, long) in
    let token : token_of kind (0 + length (flat_map piece_text ps)) (0 + length (flat_map piece_text ps) + length p.text) ≡ token_of kind at (at + n) = token_places kind _ _ at (at + n) (omega (arith, before.pieces.4)) (omega (arith, before.pieces.4, long)) in
    record {
      within = omega (arith, front.within, length-drop at source, before.within);
      in_order = subst (λ ts. AreInOrder 0 ts (at + n)) (sym is) (in_order_more items kind at (at + n) before.in_order (omega (arith, front.positive)));
      pieces = (
        ps ++ p ∷ [],
        before.pieces.1 ∙ ap (λ t. flat_map piece_text ps ++ t) split ∙ sym (texts_push ps p (drop (at + n) source)),
        longest_push ps p (drop (at + n) source) (subst (AreLongest ps) split before.pieces.2) here,
        is ∙ ap (λ ts. ts ++ token_of kind at (at + n)) before.pieces.3 ∙ ap (λ ts. tokens_of 0 ps ++ ts) (sym token) ∙ sym (tokens_push 0 ps p),
        total,
      );
    } where
      token_places : (kind : Option TokenKind) (a b c d : ℕ) → a ≡ c → b ≡ d → token_of kind a b ≡ token_of kind c d
      token_places kind a b c d left right = λ i. token_of kind (left i) (right i)

pub lexed_all : (source : List ℕ) (items : List Token) (at : ℕ) (lexed : Lexed) → LexedTo source items at → length source ≤ at → lexed.tokens ≡ items → lexed.source_length ≡ length source → AreTokensOf source lexed
lexed_all source items at lexed before end tokens total =
    let none : drop at source ≡ [] = drop_all at source end in (
      before.pieces.0,
      before.pieces.1 ∙ ap (λ t. flat_map piece_text before.pieces.0 ++ t) none ∙ append-nil (flat_map piece_text before.pieces.0),
      subst (AreLongest before.pieces.0) none before.pieces.2,
      tokens ∙ before.pieces.3,
      total,
    )

pub lexed_stop : (source : List ℕ) (items : List Token) (at : ℕ) → LexedTo source items at → at < length source → NothingBegins (drop at source) → IsLexFault source at
lexed_stop source items at before inside none = (
  before.pieces.0,
  drop at source,
  before.pieces.1,
  before.pieces.2,
  omega (arith, length-drop at source),
  none,
  sym before.pieces.4,
)

-- what an answer says
pub answer_tokens : (source : List ℕ) (result : Result Lexed LexFault) → IsLexAnswer source result → IfOk result (λ lexed. AreTokensOf source lexed)
answer_tokens source (Ok lexed) answer = answer
answer_tokens source (Err fault) answer = tt

pub answer_fault : (source : List ℕ) (result : Result Lexed LexFault) → IsLexAnswer source result → (at : ℕ) → IsErrOf result (At at) → IsLexFault source at
answer_fault source result answer at is = subst (IsLexAnswer source) is answer

pub answer_every : (source : List ℕ) (result : Result Lexed LexFault) → IsLexAnswer source result → (lexed : Lexed) → AreTokensOf source lexed → (result ≡ Ok lexed) ⊎ IsErrOf result Memory
answer_every source (Ok found) answer lexed tokens = inl (ap (λ x. Ok x) (tokens_once source found lexed answer tokens))
answer_every source (Err Memory) answer lexed tokens = inr refl
answer_every source (Err (At at)) answer lexed tokens = absurd (tokens_or_fault source lexed at tokens answer)

pub answer_refused : (source : List ℕ) (result : Result Lexed LexFault) → IsLexAnswer source result → (at : ℕ) → IsLexFault source at → IsErrOf result (At at) ⊎ IsErrOf result Memory
answer_refused source (Ok found) answer at fault = absurd (tokens_or_fault source found at answer fault)
answer_refused source (Err Memory) answer at fault = inr refl
answer_refused source (Err (At found)) answer at fault = inl (ap (λ n. Err (At n)) (fault_once source found at answer fault))
