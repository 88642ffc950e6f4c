-- The readers of arguments, names, expressions and lists decide their languages.
use Rattle.std.proofs.Common.{◌≡◌, ℕ, List, [], ◌∷◌, ◌++◌, length, Option, Some, None, Bool, true, false, refl, sym as flip, ◌∙◌, ap, subst, arith, length-append}
use Rattle.std.proofs.lemmas.List.{append-nil}
use Rattle.qasm_form.specs.declared.symbol.Symbol.{Symbol}
use Rattle.qasm_form.specs.declared.symbol.Symbol.TheVariants as sym
use Rattle.qasm_form.specs.declared.stmt.Arg.{Arg}
use Rattle.qasm_form.specs.declared.stmt.Expr.{Expr}
use Rattle.qasm_form.specs.declared.part.Part.TheVariants as part
use Rattle.qasm_parse.specs.declared.opening.Follow.{Follow}
use Rattle.qasm_parse.specs.declared.opening.Follow.TheVariants.{Only, Until}
use Rattle.qasm_parse.specs.declared.opening.Place.{Place}
use Rattle.qasm_parse.specs.declared.opening.Place.TheVariants.{Top, InBody}
use Rattle.qasm_form.specs.Symbols.{Lexeme}
use Rattle.qasm_parse.specs.SameSymbols.{same_symbol}
use Rattle.qasm_parse.specs.Follows.{follows}
use Rattle.qasm_form.specs.Languages.{Language, Value, Token, OneOf, Or, Listed, ◌>>=◌}
use Rattle.qasm_parse.specs.Readers.{Reader, value, token, one_of, choose, repeated}
use Rattle.qasm_parse.specs.Readers as read
use Rattle.qasm_form.specs.Expressions.{Derives}
use Rattle.qasm_parse.specs.Running.{run}
use Rattle.qasm_form.specs.Grammar.{named, whole_arg, indexed_arg, Name, Whole, Indexed, Argument, Expression, ListedUntil, PerhapsListed}
use Rattle.qasm_parse.specs.Readings.{is, name_then, plain_then, index_then, behind_name, arg_then, expr_then, one_more, nothing}
use Rattle.qasm_parse.proofs.SymbolLemmas.{same_symbol-true, same_symbol-refl}
use Rattle.qasm_parse.proofs.DecidesLemmas.{Decides, decides_token, decides_one_of, decides_value, decides_then, decides_or, FirstPasses, first_append}
use Rattle.qasm_parse.proofs.RepeatLemmas.{decides_repeated}
use Rattle.qasm_parse.proofs.RunExpressions.{PartsThen, decides_parts}
use Rattle.qasm_parse.proofs.ExpressionLemmas.{IsOperator}
use Rattle.qasm_parse.proofs.SameLemmas.{Same, same_refl, same_flip, same_trans, same_then, same_assoc, same_map, same_or, same_or_then, same_or_factor, decides_by, ItemThen, only_accepts, until_accepts, OneMore, entry_parts, entry, same_listed}

-- what stands behind an item
pub decides_follow : (end : ℕ) (f : Follow) → Decides (OneOf (follows f)) end (one_of end (follows f))
decides_follow end (Only stop) = decides_one_of end (follows (Only stop)) stop false (only_accepts stop)
decides_follow end (Until stop) = decides_one_of end (follows (Until stop)) stop false (until_accepts stop)

decides_tail : {V : Type 0} (end : ℕ) (v : V) (f : Follow) → Decides {V = V × Bool} (OneOf (follows f) >>= λ c. Value (v, c.0)) end (read.◌>>=◌ (one_of end (follows f)) (λ c. value (v, c.0)))
decides_tail end v f =
    decides_then end (OneOf (follows f)) (λ c. Value (v, c.0)) (one_of end (follows f)) (λ c. value (v, c.0)) (decides_follow end f) (λ c. decides_value end (v, c.0))

-- a name
pub decides_name : (end : ℕ) (f : Follow) → Decides (ItemThen Name f) end (name_then end f)
unfolding name_then
decides_name end f =
    decides_by (Token sym.Identifier >>= λ x. OneOf (follows f) >>= λ c. Value (named x, c.0)) (ItemThen Name f) end _ (same_flip _ _ (same_map (Token sym.Identifier) named (λ v. OneOf (follows f) >>= λ c. Value (v, c.0)))) (decides_then end (Token sym.Identifier) (λ x. OneOf (follows f) >>= λ c. Value (named x, c.0)) (token end sym.Identifier) _ (decides_token end sym.Identifier) (λ x. decides_tail end (named x) f))

-- an argument
decides_plain : (end : ℕ) (f : Follow) (x : Lexeme) → Decides {V = Arg × Bool} (OneOf (follows f) >>= λ c. Value (whole_arg x, c.0)) end (plain_then end f x)
unfolding plain_then
decides_plain end f x = decides_tail end (whole_arg x) f

abbrev Index : Follow → Lexeme → Language (Arg × Bool)
Index f x =
    Token sym.OpenBracket >>= λ _. Token sym.Whole >>= λ n. Token sym.CloseBracket >>= λ _. OneOf (follows f) >>= λ c. Value (indexed_arg x n, c.0)

decides_index : (end : ℕ) (f : Follow) (x : Lexeme) → Decides (Index f x) end (index_then end f x)
unfolding index_then
decides_index end f x =
    decides_then end (Token sym.OpenBracket) _ (token end sym.OpenBracket) _ (decides_token end sym.OpenBracket) (λ _. decides_then end (Token sym.Whole) _ (token end sym.Whole) _ (decides_token end sym.Whole) (λ n. decides_then end (Token sym.CloseBracket) _ (token end sym.CloseBracket) _ (decides_token end sym.CloseBracket) (λ _. decides_tail end (indexed_arg x n) f)))

-- the first token of a word
pub first_token : (test : Symbol → Bool) (b : Bool) (s : Symbol) → test s ≡ b → (ts : List Lexeme) (x : Lexeme) → Token s ts x → FirstPasses test b ts
first_token test b s passes ts x word =
    subst (FirstPasses test b) (flip word.0) (subst (λ t. test t ≡ b) (flip word.1) passes)

pub first_then : {A B : Type 0} (test : Symbol → Bool) (b : Bool) (L : Language A) (F : A → Language B) → ((ts : List Lexeme) (a : A) → L ts a → FirstPasses test b ts) → (ts : List Lexeme) (v : B) → (L >>= F) ts v → FirstPasses test b ts
first_then test b L F first ts v word =
    subst (FirstPasses test b) (flip word.3) (first_append test b word.1 word.2 (first word.1 word.0 word.4))

pub first_one_of : {V : Type 0} (test : Symbol → Bool) (b : Bool) (class : Symbol → Option V) → ((s : Symbol) (v : V) → class s ≡ Some v → test s ≡ b) → (ts : List Lexeme) (v : V × Lexeme) → OneOf class ts v → FirstPasses test b ts
first_one_of test b class passes ts v word =
    subst (FirstPasses test b) (flip word.0) (passes v.1.symbol v.0 word.1)

-- a class that refuses a symbol
pub refused : {V : Type 0} (class : Symbol → Option V) (s : Symbol) → class s ≡ None → (t : Symbol) (v : V) → class t ≡ Some v → is s t ≡ false
refused class s none t v accepts = by_test (is s t) refl where
  by_test : (b : Bool) → is s t ≡ b → b ≡ false
  by_test false same = refl
  by_test true same =
      absurd (let e : None ≡ Some v = flip none ∙ ap class (flip (same_symbol-true t s same)) ∙ accepts in cc)

decides_behind : (end : ℕ) (f : Follow) → follows f sym.OpenBracket ≡ None → (x : Lexeme) → Decides {V = Arg × Bool} (Or (Index f x) (OneOf (follows f) >>= λ c. Value (whole_arg x, c.0))) end (behind_name end Top f x)
decides_behind end f apart x =
    decides_or end (is sym.OpenBracket) (Index f x) (OneOf (follows f) >>= λ c. Value (whole_arg x, c.0)) (index_then end f x) (plain_then end f x) (decides_index end f x) (decides_plain end f x) (first_then (is sym.OpenBracket) true (Token sym.OpenBracket) _ (first_token (is sym.OpenBracket) true sym.OpenBracket refl)) (first_then (is sym.OpenBracket) false (OneOf (follows f)) _ (first_one_of (is sym.OpenBracket) false (follows f) (refused (follows f) sym.OpenBracket apart)))

indexed_same : (f : Follow) → Same (ItemThen Indexed f) (Token sym.Identifier >>= λ x. Index f x)
indexed_same f =
    let K : Arg → Language (Arg × Bool) = λ v. OneOf (follows f) >>= λ c. Value (v, c.0) in
    let F : Lexeme → Language Arg = λ x. Token sym.OpenBracket >>= λ _. Token sym.Whole >>= λ n. Token sym.CloseBracket >>= λ _. Value (indexed_arg x n) in
    same_trans (ItemThen Indexed f) (Token sym.Identifier >>= λ x. F x >>= K) (Token sym.Identifier >>= λ x. Index f x) (same_assoc (Token sym.Identifier) F K) (same_then (Token sym.Identifier) (Token sym.Identifier) (λ x. F x >>= K) (λ x. Index f x) (same_refl (Token sym.Identifier)) (λ x. inner x)) where
      inner : (x : Lexeme) → Same ((Token sym.OpenBracket >>= λ _. Token sym.Whole >>= λ n. Token sym.CloseBracket >>= λ _. Value (indexed_arg x n)) >>= λ v. OneOf (follows f) >>= λ c. Value (v, c.0)) (Index f x)
      inner x =
          let K : Arg → Language (Arg × Bool) = λ v. OneOf (follows f) >>= λ c. Value (v, c.0) in
          same_trans _ (Token sym.OpenBracket >>= λ _. (Token sym.Whole >>= λ n. Token sym.CloseBracket >>= λ _. Value (indexed_arg x n)) >>= K) (Index f x) (same_assoc (Token sym.OpenBracket) (λ _. Token sym.Whole >>= λ n. Token sym.CloseBracket >>= λ _. Value (indexed_arg x n)) K) (same_then (Token sym.OpenBracket) (Token sym.OpenBracket) (λ _. (Token sym.Whole >>= λ n. Token sym.CloseBracket >>= λ _. Value (indexed_arg x n)) >>= K) (λ _. Token sym.Whole >>= λ n. Token sym.CloseBracket >>= λ _. OneOf (follows f) >>= λ c. Value (indexed_arg x n, c.0)) (same_refl (Token sym.OpenBracket)) (λ _. same_trans _ (Token sym.Whole >>= λ n. (Token sym.CloseBracket >>= λ _. Value (indexed_arg x n)) >>= K) _ (same_assoc (Token sym.Whole) (λ n. Token sym.CloseBracket >>= λ _. Value (indexed_arg x n)) K) (same_then (Token sym.Whole) (Token sym.Whole) (λ n. (Token sym.CloseBracket >>= λ _. Value (indexed_arg x n)) >>= K) (λ n. Token sym.CloseBracket >>= λ _. OneOf (follows f) >>= λ c. Value (indexed_arg x n, c.0)) (same_refl (Token sym.Whole)) (λ n. same_map (Token sym.CloseBracket) (λ _. indexed_arg x n) K))))

abbrev pub ArgAt : Place → Language Arg
ArgAt Top = Argument
ArgAt InBody = Whole

pub decides_arg : (end : ℕ) (place : Place) (f : Follow) → follows f sym.OpenBracket ≡ None → Decides (ItemThen (ArgAt place) f) end (arg_then end place f)
unfolding arg_then
decides_arg end InBody f apart =
    decides_by (Token sym.Identifier >>= λ x. OneOf (follows f) >>= λ c. Value (whole_arg x, c.0)) (ItemThen Whole f) end _ (same_flip _ _ (same_map (Token sym.Identifier) whole_arg (λ v. OneOf (follows f) >>= λ c. Value (v, c.0)))) (decides_then end (Token sym.Identifier) (λ x. OneOf (follows f) >>= λ c. Value (whole_arg x, c.0)) (token end sym.Identifier) _ (decides_token end sym.Identifier) (λ x. decides_plain end f x))
decides_arg end Top f apart =
    let K : Arg → Language (Arg × Bool) = λ v. OneOf (follows f) >>= λ c. Value (v, c.0) in
    let P : Lexeme → Language (Arg × Bool) = λ x. OneOf (follows f) >>= λ c. Value (whole_arg x, c.0) in
    let same : Same (ItemThen Argument f) (Token sym.Identifier >>= λ x. Or (Index f x) (P x)) = same_trans (ItemThen Argument f) (Or (ItemThen Indexed f) (ItemThen Whole f)) _ (same_or_then Indexed Whole K) (same_trans (Or (ItemThen Indexed f) (ItemThen Whole f)) (Or (Token sym.Identifier >>= λ x. Index f x) (Token sym.Identifier >>= P)) _ (same_or (ItemThen Indexed f) (ItemThen Whole f) (Token sym.Identifier >>= λ x. Index f x) (Token sym.Identifier >>= P) (indexed_same f) (same_map (Token sym.Identifier) whole_arg K)) (same_or_factor (Token sym.Identifier) (λ x. Index f x) P)) in
    decides_by (Token sym.Identifier >>= λ x. Or (Index f x) (P x)) (ItemThen Argument f) end _ (same_flip _ _ same) (decides_then end (Token sym.Identifier) (λ x. Or (Index f x) (P x)) (token end sym.Identifier) _ (decides_token end sym.Identifier) (λ x. decides_behind end f apart x))

-- an expression
expression_same : (f : Follow) → Same (PartsThen (follows f) (part.Expr ∷ []) [] >>= λ v. Value (v.0, v.1)) (ItemThen Expression f)
expression_same f = (
  λ ts v w. let p = w.4 in let e : Expr = w.0.0 in let nodes : w.0.0 ≡ p.0 = p.5 in (
    e,
    p.1,
    p.2 ∷ [],
    w.3 ∙ ap (λ t. w.1 ++ t) w.5.0 ∙ append-nil w.1 ∙ p.3,
    subst (λ ns. Derives (part.Expr ∷ []) p.1 ns) (flip nodes) p.4,
    ((w.0.1, p.2), p.2 ∷ [], [], refl, (refl, p.6), (refl, w.5.1)),
  ),
  λ ts v w. let c = w.5 in (
    (w.0, c.0.0),
    ts,
    [],
    flip (append-nil ts),
    (w.0, w.1, c.0.1, w.3 ∙ ap (λ t. w.1 ++ t) (c.3 ∙ ap (λ t. c.1 ++ t) c.5.0 ∙ append-nil c.1 ∙ c.4.0), w.4, refl, c.4.1),
    (refl, c.5.1),
  ),
)

accepts : (f : Follow) → (s : Symbol) × (b : Bool) × (follows f s ≡ Some b)
accepts (Only stop) = (stop, false, only_accepts stop)
accepts (Until stop) = (stop, false, until_accepts stop)

pub decides_expr : (end : ℕ) (f : Follow) → ((s : Symbol) → IsOperator s → follows f s ≡ None) → Decides (ItemThen Expression f) end (expr_then end f)
unfolding expr_then
decides_expr end f blocked =
    decides_by (PartsThen (follows f) (part.Expr ∷ []) [] >>= λ v. Value (v.0, v.1)) (ItemThen Expression f) end _ (expression_same f) (decides_then end (PartsThen (follows f) (part.Expr ∷ []) []) (λ v. Value (v.0, v.1)) (run (follows f) end (part.Expr ∷ []) []) (λ v. value (v.0, v.1)) (decides_parts (follows f) end (accepts f) blocked) (λ v. decides_value end (v.0, v.1)))

-- a list up to a sign
pub decides_listed : {V : Type 0} (end : ℕ) (item : Language V) (stop : Symbol) (r : Reader (V × Bool)) → same_symbol sym.Comma stop ≡ false → Decides (ItemThen item (Until stop)) end r → Decides (ListedUntil item stop) end (repeated (one_more r))
decides_listed end item stop r apart decides =
    let one : Decides (OneMore (ItemThen item (Until stop))) end (one_more r) = decides_then end (ItemThen item (Until stop)) (λ v. Value (v.0 ∷ [], v.1)) r (λ v. value (v.0 ∷ [], v.1)) decides (λ v. decides_value end (v.0 ∷ [], v.1)) in
    let x : Lexeme = record { symbol = stop; text = []; at = 0 } in
    let some = decides.some.2 in
    decides_by _ (ListedUntil item stop) end _ (same_listed item stop apart) (decides_repeated end (OneMore (ItemThen item (Until stop))) (one_more r) one (λ ts v word. let e = entry_parts item stop apart ts v.0 v.1 word in omega (arith, ap length e.3, length-append e.1 (e.2 ∷ []))) (some.1 ++ x ∷ [], some.0 ∷ [], entry item stop apart some.1 x some.0 false some.4 (until_accepts stop)))

pub first_listed : {V : Type 0} (test : Symbol → Bool) (b : Bool) (item : Language V) → ((ts : List Lexeme) (v : V) → item ts v → FirstPasses test b ts) → (ts : List Lexeme) (vs : List V) → Listed item ts vs → FirstPasses test b ts
first_listed test b item first ts [] word = absurd word
first_listed test b item first ts (v ∷ []) word = first ts v word
first_listed test b item first ts (v ∷ w ∷ vs) word =
    subst (FirstPasses test b) (flip word.3) (first_append test b word.0 (word.1 ∷ word.2) (first word.0 v word.4))

pub decides_perhaps : {V : Type 0} (end : ℕ) (item : Language V) (stop : Symbol) (r : Reader (List V)) → ((ts : List Lexeme) (v : V) → item ts v → FirstPasses (is stop) false ts) → Decides (ListedUntil item stop) end r → Decides (PerhapsListed item stop) end (choose end (is stop) (nothing end stop) r)
decides_perhaps end item stop r first decides =
    decides_or end (is stop) (Token stop >>= λ _. Value []) (ListedUntil item stop) (nothing end stop) r (decides_then end (Token stop) (λ _. Value []) (token end stop) (λ _. value []) (decides_token end stop) (λ _. decides_value end [])) decides (first_then (is stop) true (Token stop) _ (first_token (is stop) true stop (same_symbol-refl stop))) (first_then (is stop) false (Listed item) _ (first_listed (is stop) false item first))
