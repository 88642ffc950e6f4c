-- The loops that read lists and bodies.
use Rattle.std.proofs.Common.{◌≡◌, ℕ, zero, suc, ◌<◌, List, [], ◌∷◌, ◌++◌, length, Option, Some, None, Result, Ok, Err, Bool, true, false, cond, refl, sym as flip, ◌∙◌, ap, subst, arith, append_assoc, length-append}
use Rattle.qasm_lex.specs.declared.token.Token.{Token}
use Rattle.qasm_form.specs.declared.symbol.Symbol.TheVariants as sym
use Rattle.qasm_form.specs.declared.stmt.Arg.{Arg}
use Rattle.qasm_form.specs.declared.stmt.BodyOp.{BodyOp}
use Rattle.qasm_form.specs.declared.stmt.Expr.{Expr}
use Rattle.qasm_form.specs.declared.stmt.Named.{Named}
use Rattle.qasm_parse.specs.declared.opening.Follow.{Follow}
use Rattle.qasm_parse.specs.declared.opening.Follow.TheVariants.{Until}
use Rattle.qasm_parse.specs.declared.opening.Place.{Place}
use Rattle.qasm_form.specs.Symbols.{Lexeme, lexemes_of}
use Rattle.qasm_form.specs.Languages.{Language}
use Rattle.qasm_parse.specs.Readers.{Reader, and_then, first, prefixed, repeat, repeated}
use Rattle.qasm_parse.specs.declared.fault.SyntaxFault.{SyntaxFault}
use Rattle.qasm_parse.specs.declared.fault.SyntaxFault.TheVariants.{Memory, At}
use Rattle.qasm_parse.specs.Bodies.{item_of}
use Rattle.qasm_parse.specs.Gives.{Fails}
use Rattle.std.proofs.lemmas.List.{append-nil}
use Rattle.qasm_form.specs.Grammar.{Expression, Name, BodyOperation}
use Rattle.qasm_parse.specs.Readings.{name_then, arg_then, expr_then, one_more, body_item}
use Rattle.qasm_parse.proofs.DecidesLemmas.{Agrees, Decides}
use Rattle.qasm_parse.proofs.SameLemmas.{ItemThen, Item}
use Rattle.qasm_parse.proofs.PartLemmas.{ArgAt, decides_name, decides_arg, decides_expr}
use Rattle.qasm_parse.proofs.StatementLemmas.{no_operator, decides_item, item_some}

-- what was read so far, and what is left to be read
abbrev pub Reading : {V : Type 0} → Reader (List V × Bool) → List Lexeme → List Lexeme → List V → Type 0
Reading item start now before =
    (n : ℕ) × (length now < n) × (prefixed before (repeat item n now) ≡ repeated item start)

prefixed_none : {V : Type 0} (r : Result (List V × List Lexeme) ℕ) → prefixed [] r ≡ r
prefixed_none (Ok x) = refl
prefixed_none (Err e) = refl

prefixed_twice : {V : Type 0} (us vs : List V) (r : Result (List V × List Lexeme) ℕ) → prefixed us (prefixed vs r) ≡ prefixed (us ++ vs) r
prefixed_twice us vs (Ok x) = ap (λ t. Ok (t, x.1)) (flip (append_assoc us vs x.0))
prefixed_twice us vs (Err e) = refl

pub reading_none : {V : Type 0} (item : Reader (List V × Bool)) (start : List Lexeme) → Reading item start start []
reading_none item start = (suc (length start), omega arith, prefixed_none (repeated item start))

pub reading_more : {V : Type 0} (item : Reader (List V × Bool)) (start now next : List Lexeme) (before us : List V) → Reading item start now before → item now ≡ Ok ((us, true), next) → length next < length now → Reading item start next (before ++ us)
reading_more {V} item start now next before us reading is shorter = by_fuel reading.0 reading.1 reading.2 where
  by_fuel : (n : ℕ) → length now < n → prefixed before (repeat item n now) ≡ repeated item start → Reading item start next (before ++ us)
  by_fuel zero lt same = absurd (omega arith)
  by_fuel (suc m) lt same =
      let step : repeat item (suc m) now ≡ prefixed us (repeat item m next) = ap (λ o. and_then o (λ x. cond x.0.1 (prefixed x.0.0 (repeat item m x.1)) (Ok (x.0.0, x.1)))) is in
      (m, omega arith, flip (prefixed_twice before us (repeat item m next)) ∙ ap (prefixed before) (flip step) ∙ same)

pub reading_last : {V : Type 0} (item : Reader (List V × Bool)) (start now next : List Lexeme) (before us : List V) → Reading item start now before → item now ≡ Ok ((us, false), next) → repeated item start ≡ Ok (before ++ us, next)
reading_last {V} item start now next before us reading is = by_fuel reading.0 reading.1 reading.2 where
  by_fuel : (n : ℕ) → length now < n → prefixed before (repeat item n now) ≡ repeated item start → repeated item start ≡ Ok (before ++ us, next)
  by_fuel zero lt same = absurd (omega arith)
  by_fuel (suc m) lt same =
      let step : repeat item (suc m) now ≡ Ok (us, next) = ap (λ o. and_then o (λ x. cond x.0.1 (prefixed x.0.0 (repeat item m x.1)) (Ok (x.0.0, x.1)))) is in
      flip same ∙ ap (prefixed before) step

pub reading_err : {V : Type 0} (item : Reader (List V × Bool)) (start now : List Lexeme) (before : List V) (at : ℕ) → Reading item start now before → item now ≡ Err at → repeated item start ≡ Err at
reading_err {V} item start now before at reading is = by_fuel reading.0 reading.1 reading.2 where
  by_fuel : (n : ℕ) → length now < n → prefixed before (repeat item n now) ≡ repeated item start → repeated item start ≡ Err at
  by_fuel zero lt same = absurd (omega arith)
  by_fuel (suc m) lt same =
      let step : repeat item (suc m) now ≡ Err at = ap (λ o. and_then o (λ x. cond x.0.1 (prefixed x.0.0 (repeat item m x.1)) (Ok (x.0.0, x.1)))) is in
      flip same ∙ ap (prefixed before) step

-- the same for an item that is a value and whether more follow
pub one_ok : {V : Type 0} (r : Reader (V × Bool)) (ts rest : List Lexeme) (v : V) (b : Bool) → r ts ≡ Ok ((v, b), rest) → one_more r ts ≡ Ok ((v ∷ [], b), rest)
one_ok r ts rest v b is = ap (λ o. and_then o (λ x. Ok ((x.0.0 ∷ [], x.0.1), x.1))) is

pub one_err : {V : Type 0} (r : Reader (V × Bool)) (ts : List Lexeme) (at : ℕ) → r ts ≡ Err at → one_more r ts ≡ Err at
one_err r ts at is = ap (λ o. and_then o (λ x. Ok ((x.0.0 ∷ [], x.0.1), x.1))) is

pub length-lexemes_of : (source : List ℕ) (tokens : List Token) → length (lexemes_of source tokens) ≡ length tokens
length-lexemes_of source [] = refl
length-lexemes_of source (t ∷ tokens) = ap suc (length-lexemes_of source tokens)

-- a reader takes a token at least
shorter_by : {V : Type 0} (L : Language V) (end : ℕ) (r : Reader V) → Decides L end r → ((ts : List Lexeme) (v : V) → L ts v → 0 < length ts) → (ts : List Lexeme) (v : V) (rest : List Lexeme) → r ts ≡ Ok (v, rest) → length rest < length ts
shorter_by L end r decides some ts v rest is =
    let h = subst (Agrees L end ts) is (decides.right ts) in
    omega (arith, ap length h.1, length-append h.0 rest, some h.0 v h.2)

item_then_some : {V : Type 0} (L : Language V) (f : Follow) (ts : List Lexeme) (v : V × Bool) → ItemThen L f ts v → 0 < length ts
item_then_some L f ts v w =
    let c = w.5 in
    omega (arith, ap length w.3, length-append w.1 w.2, ap length c.3, length-append c.1 c.2, ap length c.4.0)

pub name_shorter : (end : ℕ) (f : Follow) (ts : List Lexeme) (v : Named × Bool) (rest : List Lexeme) → name_then end f ts ≡ Ok (v, rest) → length rest < length ts
name_shorter end f = shorter_by (ItemThen Name f) end (name_then end f) (decides_name end f) (item_then_some Name f)

pub arg_shorter : (end : ℕ) (place : Place) (ts : List Lexeme) (v : Arg × Bool) (rest : List Lexeme) → arg_then end place (Until sym.Semicolon) ts ≡ Ok (v, rest) → length rest < length ts
arg_shorter end place = shorter_by (ItemThen (ArgAt place) (Until sym.Semicolon)) end (arg_then end place (Until sym.Semicolon)) (decides_arg end place (Until sym.Semicolon) refl) (item_then_some (ArgAt place) (Until sym.Semicolon))

pub expr_shorter : (end : ℕ) (ts : List Lexeme) (v : Expr × Bool) (rest : List Lexeme) → expr_then end (Until sym.CloseParen) ts ≡ Ok (v, rest) → length rest < length ts
expr_shorter end = shorter_by (ItemThen Expression (Until sym.CloseParen)) end (expr_then end (Until sym.CloseParen)) (decides_expr end (Until sym.CloseParen) no_operator) (item_then_some Expression (Until sym.CloseParen))

pub item_shorter : (end : ℕ) (ts : List Lexeme) (v : List BodyOp × Bool) (rest : List Lexeme) → body_item end ts ≡ Ok (v, rest) → length rest < length ts
item_shorter end = shorter_by (Item BodyOperation sym.CloseBrace) end (body_item end) (decides_item end) item_some

ok_same : {p q : Lexeme × List Lexeme} → ◌≡◌ {A = Result (Lexeme × List Lexeme) ℕ} (Ok p) (Ok q) → p ≡ q
ok_same e = cc

pub first_shorter : (source : List ℕ) (end : ℕ) (tokens : List Token) (x : Lexeme) (rest : List Token) → first end (lexemes_of source tokens) ≡ Ok (x, lexemes_of source rest) → length rest < length tokens
first_shorter source end [] x rest is = absurd (cc)
first_shorter source end (t ∷ tokens) x rest is =
    let same = ap (λ (p : Lexeme × List Lexeme). length p.1) (ok_same is) in
    omega (arith, same, length-lexemes_of source tokens, length-lexemes_of source rest)

-- one turn of a loop over a list
pub list_more : {V : Type 0} (r : Reader (V × Bool)) (start now rest : List Lexeme) (before : List V) (v : V) (b : Bool) (all : List V) → Reading (one_more r) start now before → r now ≡ Ok ((v, b), rest) → b ≡ true → length rest < length now → all ≡ before ++ v ∷ [] → Reading (one_more r) start rest all
list_more r start now rest before v b all reading is flag shorter all_is =
    let turn = subst (λ f. one_more r now ≡ Ok ((v ∷ [], f), rest)) flag (one_ok r now rest v b is) in
    subst (Reading (one_more r) start rest) (flip all_is) (reading_more (one_more r) start now rest before (v ∷ []) reading turn shorter)

pub list_last : {V : Type 0} (r : Reader (V × Bool)) (start now rest : List Lexeme) (before : List V) (v : V) (b : Bool) (all : List V) → Reading (one_more r) start now before → r now ≡ Ok ((v, b), rest) → b ≡ false → all ≡ before ++ v ∷ [] → repeated (one_more r) start ≡ Ok (all, rest)
list_last r start now rest before v b all reading is flag all_is =
    let turn = subst (λ f. one_more r now ≡ Ok ((v ∷ [], f), rest)) flag (one_ok r now rest v b is) in
    reading_last (one_more r) start now rest before (v ∷ []) reading turn ∙ ap (λ t. Ok (t, rest)) (flip all_is)

pub list_fails : {V : Type 0} (r : Reader (V × Bool)) (start now : List Lexeme) (before : List V) (e : SyntaxFault) → Reading (one_more r) start now before → Fails e (r now) → Fails e (repeated (one_more r) start)
list_fails r start now before Memory reading fails = tt
list_fails r start now before (At at) reading fails =
    reading_err (one_more r) start now before at reading (one_err r now at fails)

pub body_fails : (end : ℕ) (start now : List Lexeme) (before : List BodyOp) (e : SyntaxFault) → Reading (body_item end) start now before → Fails e (body_item end now) → Fails e (repeated (body_item end) start)
body_fails end start now before Memory reading fails = tt
body_fails end start now before (At at) reading fails = reading_err (body_item end) start now before at reading fails

pub body_last : (end : ℕ) (start now rest : List Lexeme) (before all : List BodyOp) (item : Option BodyOp) → Reading (body_item end) start now before → body_item end now ≡ Ok (item_of item, rest) → item ≡ None → all ≡ before → repeated (body_item end) start ≡ Ok (all, rest)
body_last end start now rest before all item reading is none all_is =
    let turn = subst (λ o. body_item end now ≡ Ok (item_of o, rest)) none is in
    reading_last (body_item end) start now rest before [] reading turn ∙ ap (λ t. Ok (t, rest)) (append-nil before ∙ flip all_is)

pub body_more : (end : ℕ) (start now rest : List Lexeme) (before all : List BodyOp) (item : Option BodyOp) (op : BodyOp) → Reading (body_item end) start now before → body_item end now ≡ Ok (item_of item, rest) → item ≡ Some op → all ≡ before ++ op ∷ [] → Reading (body_item end) start rest all
body_more end start now rest before all item op reading is some all_is =
    let turn = subst (λ o. body_item end now ≡ Ok (item_of o, rest)) some is in
    subst (Reading (body_item end) start rest) (flip all_is) (reading_more (body_item end) start now rest before (op ∷ []) reading turn (item_shorter end now (op ∷ [], true) rest turn))
