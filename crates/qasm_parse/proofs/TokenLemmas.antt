-- The numbers among the tokens of a source are spelt as such.
use Rattle.std.proofs.Common.{◌≡◌, ℕ, ◌+◌, ◌-◌, List, [], ◌∷◌, ◌++◌, length, take, drop, Option, Some, None, Bool, true, false, cond, refl, sym as flip, ◌∙◌, ap, subst, inl, inr, arith, append_assoc, length-append}
use Rattle.std.specs.Prelude.{slice_range}
use Rattle.std.specs.List.{AllByRecursion, flat_map}
use Rattle.std.specs.Str.{bytes_eq}
use Rattle.std.proofs.lemmas.List.{take_at, drop_at}
use Rattle.qasm_lex.specs.declared.token.Token.{Token}
use Rattle.qasm_lex.specs.declared.token.TokenKind.{TokenKind}
use Rattle.qasm_lex.specs.declared.token.TokenKind.TheVariants as kinds
use Rattle.qasm_lex.specs.Forms.{IsDigits, IsWhole, IsPiece}
use Rattle.qasm_lex.specs.Lexed.{Lexed}
use Rattle.qasm_lex.specs.Cuts.{Piece, IsLongest, AreLongest, token_of, tokens_of, AreTokensOf}
use Rattle.qasm_lex.specs.Cuts as cuts
use Rattle.qasm_form.specs.declared.symbol.Symbol.{Symbol}
use Rattle.qasm_form.specs.declared.symbol.Symbol.TheVariants as sym
use Rattle.qasm_form.specs.Symbols.{symbol_in, reserved_words, capital_words, sign_words, word_symbol, capital_symbol, sign_symbol, symbol_of, lexemes_of}
use Rattle.qasm_form.specs.Numbers.{IsNumber, Spells, AreSpelt}

whole_number : (text after : List ℕ) → IsWhole text after → IsNumber text
whole_number text after (inl w) = inl (omega (arith, ap length w.2), w.4)
whole_number text after (inr w) = inl (subst IsDigits (flip w.0) (omega arith, (refl, tt)))

-- a symbol that is one or another
either : (P : Symbol → Type 0) (b : Bool) (s t : Symbol) → P s → P t → P (cond b s t)
either P true s t left right = left
either P false s t left right = right

-- what holds of each symbol of a table and of another one holds of the symbol of a text
symbol_has : (P : Symbol → Type 0) (rows : List (List ℕ × Symbol)) (text : List ℕ) (other : Symbol) → AllByRecursion (λ (row : List ℕ × Symbol). P row.1) rows → P other → P (symbol_in rows text other)
symbol_has P [] text other each rest = rest
symbol_has P (row ∷ rows) text other each rest =
    either P (bytes_eq text row.0) row.1 (symbol_in rows text other) each.0 (symbol_has P rows text other each.1 rest)

-- no word and no sign is a number
word_spelt : (text : List ℕ) → Spells (word_symbol text) text
word_spelt text =
    symbol_has (λ s. Spells s text) reserved_words text _ (tt, (tt, (tt, (tt, (tt, (tt, (tt, (tt, (tt, (tt, (tt, (tt, (tt, (tt, (tt, (tt, tt)))))))))))))))) tt

capital_spelt : (text : List ℕ) → Spells (capital_symbol text) text
capital_spelt text = symbol_has (λ s. Spells s text) capital_words text _ (tt, (tt, tt)) tt

sign_spelt : (text : List ℕ) → Spells (sign_symbol text) text
sign_spelt text =
    symbol_has (λ s. Spells s text) sign_words text _ (tt, (tt, (tt, (tt, (tt, (tt, (tt, (tt, (tt, (tt, (tt, (tt, (tt, (tt, tt)))))))))))))) tt

kind_spelt : (kind : TokenKind) (text after : List ℕ) → IsPiece (Some kind) text after → Spells (symbol_of kind text) text
kind_spelt kinds.Word text after piece = word_spelt text
kind_spelt kinds.Capital text after piece = capital_spelt text
kind_spelt kinds.Whole text after piece = whole_number text after piece
kind_spelt kinds.Real text after piece = inr piece
kind_spelt kinds.Text text after piece = tt
kind_spelt kinds.Sign text after piece = sign_spelt text

-- the bytes of a piece, where it stands
text_at : (source before text after : List ℕ) (at : ℕ) → source ≡ before ++ (text ++ after) → length before ≡ at → slice_range source at (at + length text) ≡ text
text_at source before text after at is place =
    ap (λ s. take (at + length text - at) (drop at s)) is ∙ ap (take (at + length text - at)) (drop_at before (text ++ after) at place) ∙ take_at text after (at + length text - at) (omega arith)

-- the token of a piece, before others
token_spelt : (source before text after : List ℕ) (at : ℕ) → source ≡ before ++ (text ++ after) → length before ≡ at → (kind : Option TokenKind) → IsPiece kind text (after ++ []) → (tokens : List Token) → AreSpelt (lexemes_of source tokens) → AreSpelt (lexemes_of source (token_of kind at (at + length text) ++ tokens))
token_spelt source before text after at is place None form tokens later = later
token_spelt source before text after at is place (Some kind) form tokens later =
    (subst (λ t. Spells (symbol_of kind t) t) (flip (text_at source before text after at is place)) (kind_spelt kind text (after ++ []) form), later)

pieces_spelt : (source : List ℕ) (pieces : List Piece) (before : List ℕ) (at : ℕ) → length before ≡ at → source ≡ before ++ flat_map cuts.piece_text pieces → AreLongest pieces [] → AreSpelt (lexemes_of source (tokens_of at pieces))
pieces_spelt source [] before at place is longest = tt
pieces_spelt source (piece ∷ pieces) before at place is longest =
    let after = flat_map cuts.piece_text pieces in
    let later = pieces_spelt source pieces (before ++ piece.text) (at + length piece.text) (length-append before piece.text ∙ ap (λ n. n + length piece.text) place) (is ∙ flip (append_assoc before piece.text after)) longest.1 in
    token_spelt source before piece.text after at is place piece.kind longest.0.is_piece (tokens_of (at + length piece.text) pieces) later

pub tokens_spelt : (source : List ℕ) (lexed : Lexed) → AreTokensOf source lexed → AreSpelt (lexemes_of source lexed.tokens)
tokens_spelt source lexed are =
    subst (λ ts. AreSpelt (lexemes_of source ts)) (flip are.3) (pieces_spelt source are.0 [] 0 refl are.1 are.2)
