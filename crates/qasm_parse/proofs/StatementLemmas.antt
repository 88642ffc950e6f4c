-- The reader of statements decides the grammar.
use Rattle.std.proofs.Common.{◌≡◌, ℕ, ◌<◌, List, [], ◌∷◌, length, Some, None, Bool, true, false, refl, subst, inl, inr, arith}
use Rattle.qasm_form.specs.declared.symbol.Symbol.{Symbol}
use Rattle.qasm_form.specs.declared.symbol.Symbol.TheVariants as sym
use Rattle.qasm_form.specs.declared.stmt.Arg.{Arg}
use Rattle.qasm_form.specs.declared.stmt.BodyOp.{BodyOp}
use Rattle.qasm_form.specs.declared.stmt.Expr.{Expr}
use Rattle.qasm_form.specs.declared.stmt.Named.{Named}
use Rattle.qasm_form.specs.declared.stmt.Stmt.{Stmt}
use Rattle.qasm_form.specs.declared.stmt.Stmt.TheVariants as stmt
use Rattle.qasm_form.specs.declared.part.Part.TheVariants as part
use Rattle.qasm_form.specs.declared.opening.Verb.{Verb}
use Rattle.qasm_form.specs.declared.opening.Verb.TheVariants as verb
use Rattle.qasm_form.specs.declared.opening.BodyVerb.{BodyVerb}
use Rattle.qasm_form.specs.declared.opening.BodyVerb.TheVariants as body
use Rattle.qasm_form.specs.declared.opening.Opening.{Opening}
use Rattle.qasm_form.specs.declared.opening.Opening.TheVariants as opens
use Rattle.qasm_parse.specs.declared.opening.Follow.TheVariants.{Only, Until}
use Rattle.qasm_parse.specs.declared.opening.Place.{Place}
use Rattle.qasm_parse.specs.declared.opening.Place.TheVariants.{Top, InBody}
use Rattle.qasm_form.specs.Symbols.{Lexeme}
use Rattle.qasm_parse.specs.SameSymbols.{same_symbol}
use Rattle.qasm_form.specs.Openings.{verb_of, body_verb_of, opening_of, is_number}
use Rattle.qasm_parse.specs.Follows.{follows}
use Rattle.qasm_form.specs.Languages.{Language, Value, Token, OneOf, Listed, ◌>>=◌}
use Rattle.qasm_parse.specs.Readers.{Reader, value, token, one_of, choose, repeated}
use Rattle.qasm_parse.specs.Readers as read
use Rattle.qasm_form.specs.Expressions.{Derives}
use Rattle.qasm_parse.specs.Running.{advance}
use Rattle.qasm_form.specs.Grammar.{named, whole_arg, indexed_arg, operation, number_of, unquoted, Name, Argument, Expression, ListedUntil, PerhapsListed, GateU, GateCx, Arguments, Call, AfterVerb, AfterBodyVerb, BodyOperation, Body, ArgumentNames, Signature, Register, AfterOpening, Statement, Version}
use Rattle.qasm_parse.specs.Readings.{is, name_then, arg_then, expr_then, names_until, args_until, exprs_until, perhaps_names, perhaps_exprs, gate_u, gate_cx, arguments, with_angles, call, as_call, measure, reset, after_verb, after_body_verb, body_operation, last_item, next_item, body_item, body_ops, argument_names, with_params, signature, register, include, gate, opaque_gate, barrier, condition, conditional, after_opening, statement_at, version_at}
use Rattle.qasm_parse.proofs.SymbolLemmas.{same_symbol-true}
use Rattle.qasm_parse.proofs.DecidesLemmas.{Decides, decides_token, decides_one_of, decides_value, decides_then, decides_or, FirstPasses}
use Rattle.qasm_parse.proofs.RepeatLemmas.{decides_repeated}
use Rattle.qasm_parse.proofs.ExpressionLemmas.{IsOperator, inv_expr, inv_term, factor_not_empty}
use Rattle.qasm_parse.proofs.StepLemmas.{StepMeans, advance_means}
use Rattle.qasm_parse.proofs.SameLemmas.{Same, same_refl, same_trans, same_then, same_assoc, same_map, decides_by, ItemThen, same_only, Item, same_many}
use Rattle.qasm_parse.proofs.PartLemmas.{ArgAt, decides_name, decides_arg, decides_expr, decides_listed, decides_perhaps, first_token, first_then, first_one_of, first_listed}

-- a token and then what follows
after_token : {V : Type 0} (end : ℕ) (s : Symbol) (K : Lexeme → Language V) (k : Lexeme → Reader V) → ((x : Lexeme) → Decides (K x) end (k x)) → Decides (Token s >>= K) end (read.◌>>=◌ (token end s) k)
after_token end s K k next = decides_then end (Token s) K (token end s) k (decides_token end s) next

-- an item with one sign behind it, and then what follows
before_sign : {A V : Type 0} (end : ℕ) (item : Language A) (stop : Symbol) (r : Reader (A × Bool)) (K : A → Language V) (k : A → Reader V) → Decides (ItemThen item (Only stop)) end r → ((a : A) → Decides (K a) end (k a)) → Decides (item >>= λ a. Token stop >>= λ _. K a) end (read.◌>>=◌ r (λ v. k v.0))
before_sign end item stop r K k decides next =
    decides_by (ItemThen item (Only stop) >>= λ v. K v.0) (item >>= λ a. Token stop >>= λ _. K a) end _ (same_only item stop K) (decides_then end (ItemThen item (Only stop)) (λ v. K v.0) r (λ v. k v.0) decides (λ v. next v.0))

-- what arguments and expressions begin with
arg_first : (place : Place) (test : Symbol → Bool) (b : Bool) → test sym.Identifier ≡ b → (ts : List Lexeme) (v : Arg) → ArgAt place ts v → FirstPasses test b ts
arg_first InBody test b passes ts v word =
    first_then test b (Token sym.Identifier) (λ x. Value (whole_arg x)) (first_token test b sym.Identifier passes) ts v word
arg_first Top test b passes ts v (inl word) =
    first_then test b (Token sym.Identifier) (λ x. Token sym.OpenBracket >>= λ _. Token sym.Whole >>= λ n. Token sym.CloseBracket >>= λ _. Value (indexed_arg x n)) (first_token test b sym.Identifier passes) ts v word
arg_first Top test b passes ts v (inr word) =
    first_then test b (Token sym.Identifier) (λ x. Value (whole_arg x)) (first_token test b sym.Identifier passes) ts v word

name_first : (test : Symbol → Bool) (b : Bool) → test sym.Identifier ≡ b → (ts : List Lexeme) (v : Named) → Name ts v → FirstPasses test b ts
name_first test b passes ts v word =
    first_then test b (Token sym.Identifier) (λ x. Value (named x)) (first_token test b sym.Identifier passes) ts v word

expr_first : (ts : List Lexeme) (v : Expr) → Expression ts v → FirstPasses (is sym.CloseParen) false ts
expr_first [] v d = absurd (factor_not_empty (inv_term (inv_expr d)))
expr_first (x ∷ ts) v d = by_test (is sym.CloseParen x.symbol) refl where
  by_test : (b : Bool) → is sym.CloseParen x.symbol ≡ b → b ≡ false
  by_test false same = refl
  by_test true same =
      let P : Symbol → Type 0 = λ s. StepMeans (part.Expr ∷ []) (record { symbol = s; text = x.text; at = x.at }) (advance (part.Expr ∷ []) (record { symbol = s; text = x.text; at = x.at })) in
      let closing : x.symbol ≡ sym.CloseParen = same_symbol-true x.symbol sym.CloseParen same in
      let refuses = subst P closing (advance_means (part.Expr ∷ []) x (tt, tt)) in
      let d2 : Derives (part.Expr ∷ []) (record { symbol = sym.CloseParen; text = x.text; at = x.at } ∷ ts) v = subst (λ s. Derives (part.Expr ∷ []) (record { symbol = s; text = x.text; at = x.at } ∷ ts) v) closing d in
      absurd (refuses.none ts v d2)

pub no_operator : (s : Symbol) → IsOperator s → follows (Until sym.CloseParen) s ≡ None
no_operator sym.Plus h = refl
no_operator sym.Minus h = refl
no_operator sym.Times h = refl
no_operator sym.Over h = refl
no_operator sym.Power h = refl
no_operator other h = absurd h

decides_exprs : (end : ℕ) → Decides (ListedUntil Expression sym.CloseParen) end (exprs_until end sym.CloseParen)
unfolding exprs_until
decides_exprs end =
    decides_listed end Expression sym.CloseParen (expr_then end (Until sym.CloseParen)) refl (decides_expr end (Until sym.CloseParen) no_operator)

decides_perhaps_exprs : (end : ℕ) → Decides (PerhapsListed Expression sym.CloseParen) end (perhaps_exprs end sym.CloseParen)
unfolding perhaps_exprs
decides_perhaps_exprs end =
    decides_perhaps end Expression sym.CloseParen (exprs_until end sym.CloseParen) expr_first (decides_exprs end)

decides_args : (end : ℕ) (place : Place) → Decides (ListedUntil (ArgAt place) sym.Semicolon) end (args_until end place sym.Semicolon)
unfolding args_until
decides_args end place =
    decides_listed end (ArgAt place) sym.Semicolon (arg_then end place (Until sym.Semicolon)) refl (decides_arg end place (Until sym.Semicolon) refl)

decides_gate_u : (end : ℕ) (place : Place) (x : Lexeme) → Decides (GateU (ArgAt place) x) end (gate_u end place x)
unfolding gate_u
decides_gate_u end place x =
    after_token end sym.OpenParen _ _ (λ _. decides_then end (ListedUntil Expression sym.CloseParen) _ (exprs_until end sym.CloseParen) _ (decides_exprs end) (λ exprs. before_sign end (ArgAt place) sym.Semicolon (arg_then end place (Only sym.Semicolon)) (λ a. Value (operation x exprs (a ∷ []))) (λ a. value (operation x exprs (a ∷ []))) (decides_arg end place (Only sym.Semicolon) refl) (λ a. decides_value end (operation x exprs (a ∷ [])))))

decides_gate_cx : (end : ℕ) (place : Place) (x : Lexeme) → Decides (GateCx (ArgAt place) x) end (gate_cx end place x)
unfolding gate_cx
decides_gate_cx end place x =
    before_sign end (ArgAt place) sym.Comma (arg_then end place (Only sym.Comma)) (λ a. ArgAt place >>= λ b. Token sym.Semicolon >>= λ _. Value (operation x [] (a ∷ b ∷ []))) (λ a. read.◌>>=◌ (arg_then end place (Only sym.Semicolon)) (λ b. value (operation x [] (a ∷ b.0 ∷ [])))) (decides_arg end place (Only sym.Comma) refl) (λ a. before_sign end (ArgAt place) sym.Semicolon (arg_then end place (Only sym.Semicolon)) (λ b. Value (operation x [] (a ∷ b ∷ []))) (λ b. value (operation x [] (a ∷ b ∷ []))) (decides_arg end place (Only sym.Semicolon) refl) (λ b. decides_value end (operation x [] (a ∷ b ∷ []))))

decides_arguments : (end : ℕ) (place : Place) (x : Lexeme) (exprs : List Expr) → Decides (Arguments (ArgAt place) x exprs) end (arguments end place x exprs)
unfolding arguments
decides_arguments end place x exprs =
    decides_then end (ListedUntil (ArgAt place) sym.Semicolon) _ (args_until end place sym.Semicolon) _ (decides_args end place) (λ args. decides_value end (operation x exprs args))

decides_angles : (end : ℕ) (place : Place) (x : Lexeme) → Decides (Token sym.OpenParen >>= λ _. PerhapsListed Expression sym.CloseParen >>= λ exprs. Arguments (ArgAt place) x exprs) end (with_angles end place x)
unfolding with_angles
decides_angles end place x =
    after_token end sym.OpenParen _ _ (λ _. decides_then end (PerhapsListed Expression sym.CloseParen) _ (perhaps_exprs end sym.CloseParen) _ (decides_perhaps_exprs end) (λ exprs. decides_arguments end place x exprs))

decides_call : (end : ℕ) (place : Place) (x : Lexeme) → Decides (Call (ArgAt place) x) end (call end place x)
unfolding call
decides_call end place x =
    decides_or end (is sym.OpenParen) (Token sym.OpenParen >>= λ _. PerhapsListed Expression sym.CloseParen >>= λ exprs. Arguments (ArgAt place) x exprs) (Arguments (ArgAt place) x []) (with_angles end place x) (arguments end place x []) (decides_angles end place x) (decides_arguments end place x []) (first_then (is sym.OpenParen) true (Token sym.OpenParen) _ (first_token (is sym.OpenParen) true sym.OpenParen refl)) (first_then (is sym.OpenParen) false (ListedUntil (ArgAt place) sym.Semicolon) _ (first_then (is sym.OpenParen) false (Listed (ArgAt place)) _ (first_listed (is sym.OpenParen) false (ArgAt place) (arg_first place (is sym.OpenParen) false refl))))

decides_as_call : (end : ℕ) (L : Language BodyOp) (r : Reader BodyOp) → Decides L end r → Decides (L >>= λ op. Value (stmt.Call op)) end (as_call r)
decides_as_call end L r decides = decides_then end L (λ op. Value (stmt.Call op)) r _ decides (λ op. decides_value end (stmt.Call op))

decides_measure : (end : ℕ) (x : Lexeme) → Decides (AfterVerb verb.Measure x) end (measure end x)
unfolding measure
decides_measure end x =
    before_sign end Argument sym.Arrow (arg_then end Top (Only sym.Arrow)) (λ a. Argument >>= λ b. Token sym.Semicolon >>= λ _. Value (stmt.Measure a b x.at)) (λ a. read.◌>>=◌ (arg_then end Top (Only sym.Semicolon)) (λ b. value (stmt.Measure a b.0 x.at))) (decides_arg end Top (Only sym.Arrow) refl) (λ a. before_sign end Argument sym.Semicolon (arg_then end Top (Only sym.Semicolon)) (λ b. Value (stmt.Measure a b x.at)) (λ b. value (stmt.Measure a b x.at)) (decides_arg end Top (Only sym.Semicolon) refl) (λ b. decides_value end (stmt.Measure a b x.at)))

decides_reset : (end : ℕ) (x : Lexeme) → Decides (AfterVerb verb.Reset x) end (reset end x)
unfolding reset
decides_reset end x =
    before_sign end Argument sym.Semicolon (arg_then end Top (Only sym.Semicolon)) (λ a. Value (stmt.Reset a x.at)) (λ a. value (stmt.Reset a x.at)) (decides_arg end Top (Only sym.Semicolon) refl) (λ a. decides_value end (stmt.Reset a x.at))

decides_after_verb : (end : ℕ) (v : Verb) (x : Lexeme) → Decides (AfterVerb v x) end (after_verb end v x)
unfolding after_verb
decides_after_verb end verb.GateU x = decides_as_call end (GateU Argument x) (gate_u end Top x) (decides_gate_u end Top x)
decides_after_verb end verb.GateCx x = decides_as_call end (GateCx Argument x) (gate_cx end Top x) (decides_gate_cx end Top x)
decides_after_verb end verb.Call x = decides_as_call end (Call Argument x) (call end Top x) (decides_call end Top x)
decides_after_verb end verb.Measure x = decides_measure end x
decides_after_verb end verb.Reset x = decides_reset end x

decides_after_body_verb : (end : ℕ) (v : BodyVerb) (x : Lexeme) → Decides (AfterBodyVerb v x) end (after_body_verb end v x)
unfolding after_body_verb
decides_after_body_verb end body.GateU x = decides_gate_u end InBody x
decides_after_body_verb end body.GateCx x = decides_gate_cx end InBody x
decides_after_body_verb end body.Call x = decides_call end InBody x
decides_after_body_verb end body.Barrier x = decides_arguments end InBody x []

decides_body_operation : (end : ℕ) → Decides BodyOperation end (body_operation end)
unfolding body_operation
decides_body_operation end =
    decides_then end (OneOf body_verb_of) _ (one_of end body_verb_of) _ (decides_one_of end body_verb_of sym.GateU body.GateU refl) (λ v. decides_after_body_verb end v.0 v.1)

not_closing : (s : Symbol) (v : BodyVerb) → body_verb_of s ≡ Some v → is sym.CloseBrace s ≡ false
not_closing sym.GateU v e = refl
not_closing sym.GateCx v e = refl
not_closing sym.Identifier v e = refl
not_closing sym.Barrier v e = refl
not_closing other v e = absurd (cc)

operation_first : (ts : List Lexeme) (v : BodyOp) → BodyOperation ts v → FirstPasses (is sym.CloseBrace) false ts
operation_first ts v word =
    first_then (is sym.CloseBrace) false (OneOf body_verb_of) (λ v. AfterBodyVerb v.0 v.1) (first_one_of (is sym.CloseBrace) false body_verb_of not_closing) ts v word

pub decides_item : (end : ℕ) → Decides (Item BodyOperation sym.CloseBrace) end (body_item end)
unfolding body_item
decides_item end =
    decides_or end (is sym.CloseBrace) (Token sym.CloseBrace >>= λ _. Value ([], false)) (BodyOperation >>= λ op. Value (op ∷ [], true)) (last_item end) (next_item end) (after_token end sym.CloseBrace _ _ (λ _. decides_value end ([], false))) (decides_then end BodyOperation _ (body_operation end) _ (decides_body_operation end) (λ op. decides_value end (op ∷ [], true))) (first_then (is sym.CloseBrace) true (Token sym.CloseBrace) _ (first_token (is sym.CloseBrace) true sym.CloseBrace refl)) (first_then (is sym.CloseBrace) false BodyOperation _ operation_first)

pub item_some : (ts : List Lexeme) (v : List BodyOp × Bool) → Item BodyOperation sym.CloseBrace ts v → 0 < length ts
item_some [] v (inl w) = absurd (first_then (is sym.CloseBrace) true (Token sym.CloseBrace) (λ _. Value ([], false)) (first_token (is sym.CloseBrace) true sym.CloseBrace refl) [] v w)
item_some [] v (inr w) = absurd (first_then (is sym.CloseBrace) false BodyOperation (λ op. Value (op ∷ [], true)) operation_first [] v w)
item_some (x ∷ ts) v w = omega arith

decides_body : (end : ℕ) → Decides Body end (body_ops end)
unfolding body_ops
decides_body end =
    let x : Lexeme = record { symbol = sym.CloseBrace; text = []; at = 0 } in
    decides_by _ Body end _ (same_many BodyOperation sym.CloseBrace) (decides_repeated end (Item BodyOperation sym.CloseBrace) (body_item end) (decides_item end) item_some (x ∷ [], [], inl (x, x ∷ [], [], refl, (refl, refl), (refl, refl))))

-- declarations
decides_names : (end : ℕ) (stop : Symbol) → same_symbol sym.Comma stop ≡ false → Decides (ListedUntil Name stop) end (names_until end stop)
unfolding names_until
decides_names end stop apart = decides_listed end Name stop (name_then end (Until stop)) apart (decides_name end (Until stop))

decides_perhaps_names : (end : ℕ) → Decides (PerhapsListed Name sym.CloseParen) end (perhaps_names end sym.CloseParen)
unfolding perhaps_names
decides_perhaps_names end =
    decides_perhaps end Name sym.CloseParen (names_until end sym.CloseParen) (name_first (is sym.CloseParen) false refl) (decides_names end sym.CloseParen refl)

decides_argument_names : (end : ℕ) (stop : Symbol) (params : List Named) → same_symbol sym.Comma stop ≡ false → Decides (ArgumentNames stop params) end (argument_names end stop params)
unfolding argument_names
decides_argument_names end stop params apart =
    decides_then end (ListedUntil Name stop) _ (names_until end stop) _ (decides_names end stop apart) (λ args. decides_value end (params, args))

decides_params : (end : ℕ) (stop : Symbol) → same_symbol sym.Comma stop ≡ false → Decides (Token sym.OpenParen >>= λ _. PerhapsListed Name sym.CloseParen >>= λ params. ArgumentNames stop params) end (with_params end stop)
unfolding with_params
decides_params end stop apart =
    after_token end sym.OpenParen _ _ (λ _. decides_then end (PerhapsListed Name sym.CloseParen) _ (perhaps_names end sym.CloseParen) _ (decides_perhaps_names end) (λ params. decides_argument_names end stop params apart))

pub decides_signature : (end : ℕ) (stop : Symbol) → same_symbol sym.Comma stop ≡ false → Decides (Signature stop) end (signature end stop)
unfolding signature
decides_signature end stop apart =
    decides_or end (is sym.OpenParen) (Token sym.OpenParen >>= λ _. PerhapsListed Name sym.CloseParen >>= λ params. ArgumentNames stop params) (ArgumentNames stop []) (with_params end stop) (argument_names end stop []) (decides_params end stop apart) (decides_argument_names end stop [] apart) (first_then (is sym.OpenParen) true (Token sym.OpenParen) _ (first_token (is sym.OpenParen) true sym.OpenParen refl)) (first_then (is sym.OpenParen) false (ListedUntil Name stop) _ (first_then (is sym.OpenParen) false (Listed Name) _ (first_listed (is sym.OpenParen) false Name (name_first (is sym.OpenParen) false refl))))

-- a register
abbrev RegisterParts : Language (Lexeme × ℕ)
RegisterParts =
    Token sym.Identifier >>= λ x. Token sym.OpenBracket >>= λ _. Token sym.Whole >>= λ n. Token sym.CloseBracket >>= λ _. Token sym.Semicolon >>= λ _. Value (x, number_of n.text)

decides_register_parts : (end : ℕ) → Decides RegisterParts end (register end)
unfolding register
decides_register_parts end =
    after_token end sym.Identifier _ _ (λ x. after_token end sym.OpenBracket _ _ (λ _. after_token end sym.Whole _ _ (λ n. after_token end sym.CloseBracket _ _ (λ _. after_token end sym.Semicolon _ _ (λ _. decides_value end (x, number_of n.text))))))

register_same : (make : Lexeme → ℕ → Stmt) → Same (RegisterParts >>= λ r. Value (make r.0 r.1)) (Register make)
register_same make =
    let K : Lexeme × ℕ → Language Stmt = λ r. Value (make r.0 r.1) in
    same_trans (RegisterParts >>= K) _ (Register make) (same_assoc (Token sym.Identifier) _ K) (same_then (Token sym.Identifier) (Token sym.Identifier) _ _ (same_refl (Token sym.Identifier)) (λ x. same_trans _ _ _ (same_assoc (Token sym.OpenBracket) _ K) (same_then (Token sym.OpenBracket) (Token sym.OpenBracket) _ _ (same_refl (Token sym.OpenBracket)) (λ _. same_trans _ _ _ (same_assoc (Token sym.Whole) _ K) (same_then (Token sym.Whole) (Token sym.Whole) _ _ (same_refl (Token sym.Whole)) (λ n. same_trans _ _ _ (same_assoc (Token sym.CloseBracket) _ K) (same_then (Token sym.CloseBracket) (Token sym.CloseBracket) _ _ (same_refl (Token sym.CloseBracket)) (λ _. same_map (Token sym.Semicolon) (λ _. (x, number_of n.text)) K))))))))

decides_register : (end : ℕ) (make : Lexeme → ℕ → Stmt) → Decides (Register make) end (read.◌>>=◌ (register end) (λ r. value (make r.0 r.1)))
decides_register end make =
    decides_by (RegisterParts >>= λ r. Value (make r.0 r.1)) (Register make) end _ (register_same make) (decides_then end RegisterParts (λ r. Value (make r.0 r.1)) (register end) (λ r. value (make r.0 r.1)) (decides_register_parts end) (λ r. decides_value end (make r.0 r.1)))

decides_include : (end : ℕ) (x : Lexeme) → Decides (AfterOpening opens.Include x) end (include end)
unfolding include
decides_include end x =
    after_token end sym.Text _ _ (λ s. after_token end sym.Semicolon _ _ (λ _. decides_value end (stmt.Include (unquoted s.text) s.at)))

decides_gate : (end : ℕ) (x : Lexeme) → Decides (AfterOpening opens.Gate x) end (gate end)
unfolding gate
decides_gate end x =
    after_token end sym.Identifier _ _ (λ y. decides_then end (Signature sym.OpenBrace) _ (signature end sym.OpenBrace) _ (decides_signature end sym.OpenBrace refl) (λ names. decides_then end Body _ (body_ops end) _ (decides_body end) (λ ops. decides_value end (stmt.Gate y.text names.0 names.1 ops y.at))))

decides_opaque : (end : ℕ) (x : Lexeme) → Decides (AfterOpening opens.Opaque x) end (opaque_gate end)
unfolding opaque_gate
decides_opaque end x =
    after_token end sym.Identifier _ _ (λ y. decides_then end (Signature sym.Semicolon) _ (signature end sym.Semicolon) _ (decides_signature end sym.Semicolon refl) (λ names. decides_value end (stmt.Opaque y.text names.0 names.1 y.at)))

decides_barrier : (end : ℕ) (x : Lexeme) → Decides (AfterOpening opens.Barrier x) end (barrier end x)
unfolding barrier
decides_barrier end x =
    decides_then end (ListedUntil Argument sym.Semicolon) _ (args_until end Top sym.Semicolon) _ (decides_args end Top) (λ args. decides_value end (stmt.Barrier args x.at))

-- a condition, and what it is about
abbrev pub Condition : Language Lexeme
Condition =
    Token sym.OpenParen >>= λ _. Token sym.Identifier >>= λ _. Token sym.Equals >>= λ _. Token sym.Whole >>= λ _. Token sym.CloseParen

pub decides_condition : (end : ℕ) → Decides Condition end (condition end)
unfolding condition
decides_condition end =
    after_token end sym.OpenParen _ _ (λ _. after_token end sym.Identifier _ _ (λ _. after_token end sym.Equals _ _ (λ _. after_token end sym.Whole _ _ (λ _. decides_token end sym.CloseParen))))

condition_same : {V : Type 0} (K : Language V) → Same (Condition >>= λ _. K) (Token sym.OpenParen >>= λ _. Token sym.Identifier >>= λ _. Token sym.Equals >>= λ _. Token sym.Whole >>= λ _. Token sym.CloseParen >>= λ _. K)
condition_same {V} K =
    let F : Lexeme → Language V = λ _. K in
    same_trans (Condition >>= F) _ _ (same_assoc (Token sym.OpenParen) _ F) (same_then (Token sym.OpenParen) (Token sym.OpenParen) _ _ (same_refl (Token sym.OpenParen)) (λ _. same_trans _ _ _ (same_assoc (Token sym.Identifier) _ F) (same_then (Token sym.Identifier) (Token sym.Identifier) _ _ (same_refl (Token sym.Identifier)) (λ _. same_trans _ _ _ (same_assoc (Token sym.Equals) _ F) (same_then (Token sym.Equals) (Token sym.Equals) _ _ (same_refl (Token sym.Equals)) (λ _. same_assoc (Token sym.Whole) (λ _. Token sym.CloseParen) F))))))

decides_conditional : (end : ℕ) (x : Lexeme) → Decides (AfterOpening opens.If x) end (conditional end x)
unfolding conditional
decides_conditional end x =
    let K : Language Stmt = OneOf verb_of >>= λ v. AfterVerb v.0 v.1 >>= λ _. Value (stmt.If x.at) in
    decides_by (Condition >>= λ _. K) (AfterOpening opens.If x) end _ (condition_same K) (decides_then end Condition (λ _. K) (condition end) _ (decides_condition end) (λ _. decides_then end (OneOf verb_of) _ (one_of end verb_of) _ (decides_one_of end verb_of sym.GateU verb.GateU refl) (λ v. decides_then end (AfterVerb v.0 v.1) (λ _. Value (stmt.If x.at)) (after_verb end v.0 v.1) _ (decides_after_verb end v.0 v.1) (λ _. decides_value end (stmt.If x.at)))))

decides_after_opening : (end : ℕ) (o : Opening) (x : Lexeme) → Decides (AfterOpening o x) end (after_opening end o x)
unfolding after_opening
decides_after_opening end opens.Include x = decides_include end x
decides_after_opening end opens.Qreg x = decides_register end (λ y n. stmt.Qreg y.text n y.at)
decides_after_opening end opens.Creg x = decides_register end (λ y n. stmt.Creg y.text n y.at)
decides_after_opening end opens.Gate x = decides_gate end x
decides_after_opening end opens.Opaque x = decides_opaque end x
decides_after_opening end opens.Barrier x = decides_barrier end x
decides_after_opening end opens.If x = decides_conditional end x
decides_after_opening end (opens.Verb v) x = decides_after_verb end v x

pub decides_statement : (end : ℕ) → Decides Statement end (statement_at end)
unfolding statement_at
decides_statement end =
    decides_then end (OneOf opening_of) _ (one_of end opening_of) _ (decides_one_of end opening_of sym.Include opens.Include refl) (λ v. decides_after_opening end v.0 v.1)

pub decides_version : (end : ℕ) → Decides Version end (version_at end)
unfolding version_at
decides_version end =
    after_token end sym.Header _ _ (λ _. decides_then end (OneOf is_number) _ (one_of end is_number) _ (decides_one_of end is_number sym.Whole true refl) (λ n. after_token end sym.Semicolon _ _ (λ _. decides_value end (stmt.Version n.1.text n.1.at))))
