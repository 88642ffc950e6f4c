-- What the tests of the header's statements say of them.
use Rattle.std.proofs.Common.{◌≡◌, ℕ, zero, suc, ◌<◌, List, [], ◌∷◌, ◌++◌, length, get_or, map, Option, Some, None, Bool, true, false, not, ◌&&◌, ◌||◌, refl, sym, ◌∙◌, ap, subst, ⊎_elim, arith}
use Rattle.std.specs.Prelude.{slice_get, codes, ◌==◌, is_none}
use Rattle.std.specs.List.{Any, AllByRecursion, Contains, list_all}
use Rattle.std.specs.Str.{bytes_eq}
use Rattle.std.proofs.lemmas.Bool.{and_parts, false≢true, eqb-true, leb-true, or_left, or_right, not-true}
use Rattle.std.proofs.lemmas.List.Folds.{list_all-map}
use Rattle.std.proofs.lemmas.Slice.Eq.{bytes_eq-Decides}
use Rattle.qasm_form.specs.declared.stmt.Arg.{Arg}
use Rattle.qasm_form.specs.declared.stmt.BodyOp.{BodyOp}
use Rattle.qasm_form.specs.declared.stmt.Expr.{Expr}
use Rattle.qasm_form.specs.declared.stmt.Named.{Named}
use Rattle.qasm_form.specs.declared.stmt.Node.{Node}
use Rattle.qasm_form.specs.declared.stmt.Node.TheVariants as node
use Rattle.qasm_form.specs.declared.stmt.Stmt.{Stmt}
use Rattle.qasm_form.specs.declared.stmt.Stmt.TheVariants as stmt
use Rattle.qasm_names.specs.declared.fault.ScopeKind.{ScopeKind}
use Rattle.qasm_names.specs.declared.fault.ScopeKind.TheVariants as kind
use Rattle.qasm_names.specs.declared.meaning.Callee.{Callee}
use Rattle.qasm_names.specs.declared.meaning.Callee.TheVariants as calls
use Rattle.qasm_names.specs.Names.{Environment, callee, own_meaning}
use Rattle.qasm_names.specs.Environment.{enter, enter_all, no_names, words_of}
use Rattle.qasm_names.specs.Refusals.{SomeTwo, Refuses, IsDeclared, HasOtherParams, HasOtherArity, UsesOther, UsesOtherIn, calls_in}
use Rattle.qasm_names.specs.Scopes.{IsAdmissibleInHeader, AreAdmissibleInHeader, IsSoundHeader}
use Rattle.qasm_names.specs.Short.{IsShort, AreShortIn, HasShortNumbers}
use Rattle.qasm_scope.specs.FineHeader.{is_one_of, differ, takes, uses_one_of, argument_words, is_fine_call, is_new, is_fine, are_fine, is_short, has_short_numbers, is_fine_header}
use Rattle.qasm_scope.proofs.HeaderReadingLemmas.{after-push}

module _ {X : Type 0} (p : X → Bool) where
  -- an item that a look-up finds passes the test that all pass
  passes_at : (xs : List X) → list_all p xs ≡ true → (k : ℕ) (x : X) → k < length xs → get_or xs k x ≡ x → p x ≡ true
  passes_at [] all k x l is = absurd (omega arith)
  passes_at (y ∷ ys) all zero x l is = subst (λ z. p z ≡ true) is (and_parts (p y) (list_all p ys) all).0
  passes_at (y ∷ ys) all (suc k) x l is = passes_at ys (and_parts (p y) (list_all p ys) all).1 k x (omega arith) is

  -- none is so, where none that passes the test is
  none_of : (Q : X → Type 0) (xs : List X) → list_all p xs ≡ true → ((x : X) → p x ≡ true → Q x → ⊥) → Any Q xs → ⊥
  none_of Q xs all never w = never w.1 (passes_at xs all w.0 w.1 w.2 w.3) w.4

  -- each is so, where each that passes the test is
  each_of : (Q : X → Type 0) (xs : List X) → list_all p xs ≡ true → ((x : X) → p x ≡ true → Q x) → AllByRecursion Q xs
  each_of Q [] all h = tt
  each_of Q (x ∷ xs) all h =
      let parts = and_parts (p x) (list_all p xs) all in
      (h x parts.0, each_of Q xs parts.1 h)

none_from : {T : Type 0} (o : Option T) → is_none o ≡ true → o ≡ None
none_from None is = refl
none_from (Some x) is = absurd (false≢true is)

pub no_item : {X : Type 0} (Q : X → Type 0) → Any Q [] → ⊥
no_item Q w = let l : w.0 < 0 = w.2 in omega (arith, l)

-- a word that is one of the words is among them
contained : (words : List (List ℕ)) (word : List ℕ) → is_one_of words word ≡ true → Contains words word
contained [] word one = absurd (false≢true one)
contained (w ∷ words) word one = by_test (bytes_eq word w) refl (contained words word) one where
  by_test : (b : Bool) → bytes_eq word w ≡ b → (is_one_of words word ≡ true → Contains words word) → (b || is_one_of words word) ≡ true → Contains (w ∷ words) word
  by_test true same go one = (0, omega arith, sym ((bytes_eq-Decides word w).0 same))
  by_test false other go one =
      let later = go one in
      let within : later.0 < length words = later.1 in
      (suc later.0, omega (arith, within), later.2)

module _ {X : Type 0} (f : X → List ℕ) where
  in_list : (xs : List X) (j : ℕ) (y : X) (word : List ℕ) → slice_get xs j ≡ Some y → word ≡ f y → is_one_of (map f xs) word ≡ true
  in_list [] j y word is same = absurd (cc)
  in_list (x ∷ xs) zero y word is same =
      let here : x ≡ y = cc in
      or_left _ _ ((bytes_eq-Decides word (f x)).1 (same ∙ ap f (sym here)))
  in_list (x ∷ xs) (suc j) y word is same = or_right _ _ (in_list xs j y word is same)

  two_at : (xs : List X) → differ (map f xs) ≡ true → (i j : ℕ) (x y : X) → i < j → slice_get xs i ≡ Some x → slice_get xs j ≡ Some y → f x ≡ f y → ⊥
  two_at [] all i j x y l a b same = absurd (cc)
  two_at (z ∷ xs) all i zero x y l a b same = absurd (omega arith)
  two_at (z ∷ xs) all zero (suc j) x y l a b same =
      let here : z ≡ x = cc in
      let parts = and_parts (not (is_one_of (map f xs) (f z))) (differ (map f xs)) all in
      false≢true (sym (not-true _ parts.0) ∙ in_list xs j y (f z) b (ap f here ∙ same))
  two_at (z ∷ xs) all (suc i) (suc j) x y l a b same =
      two_at xs (and_parts (not (is_one_of (map f xs) (f z))) (differ (map f xs)) all).1 i j x y (omega arith) a b same

  -- no two have one word
  no_two : (R : X → X → Type 0) → ((a b : X) → R a b → f a ≡ f b) → (xs : List X) → differ (map f xs) ≡ true → SomeTwo R xs → ⊥
  no_two R words xs all w = two_at xs all w.0 w.1 w.2 w.3 w.4 w.5 w.6 (words w.2 w.3 w.7)

-- what a callee says of a call that it takes
takes_known : (c : Callee) (exprs args : ℕ) → takes c exprs args ≡ true → c ≡ calls.Unknown → ⊥
takes_known c exprs args fits is =
    false≢true (subst (λ (x : Callee). takes x exprs args ≡ true) is fits)

takes_body : (c : Callee) (exprs args : ℕ) → takes c exprs args ≡ true → c ≡ calls.Opaque → ⊥
takes_body c exprs args fits is =
    false≢true (subst (λ (x : Callee). takes x exprs args ≡ true) is fits)

takes_params : (c : Callee) (call : BodyOp) → takes c (length call.exprs) (length call.args) ≡ true → HasOtherParams c call → ⊥
takes_params (calls.Gate t params args) call fits other =
    other (eqb-true _ _ (and_parts (length call.exprs == params) (length call.args == args) fits).0)
takes_params calls.Barrier call fits other = other
takes_params calls.Unknown call fits other = other
takes_params calls.Opaque call fits other = other

takes_args : (c : Callee) (call : BodyOp) → takes c (length call.exprs) (length call.args) ≡ true → HasOtherArity c call → ⊥
takes_args (calls.Gate t params args) call fits other =
    other (eqb-true _ _ (and_parts (length call.exprs == params) (length call.args == args) fits).1)
takes_args calls.Barrier call fits other = other
takes_args calls.Unknown call fits other = other
takes_args calls.Opaque call fits other = other

-- what a call that is fine has
record IsFineCall (e : Environment) (params args : List (List ℕ)) (call : BodyOp) : Type 0 where
  takes : takes (callee e call.name) (length call.exprs) (length call.args) ≡ true
  differ : differ (argument_words call) ≡ true
  arguments : list_all (is_one_of args) (argument_words call) ≡ true
  names : list_all (λ (expr : Expr). list_all (uses_one_of params) expr) call.exprs ≡ true

fine_call : (e : Environment) (params args : List (List ℕ)) (call : BodyOp) → is_fine_call e params args call ≡ true → IsFineCall e params args call
fine_call e params args call fine =
    let t = takes (callee e call.name) (length call.exprs) (length call.args) in
    let d = differ (argument_words call) in
    let a = list_all (is_one_of args) (argument_words call) in
    let n = list_all (λ (expr : Expr). list_all (uses_one_of params) expr) call.exprs in
    let halves = and_parts (t && d) (a && n) fine in
    let first = and_parts t d halves.0 in
    let second = and_parts a n halves.1 in
    record { takes = first.0; differ = first.1; arguments = second.0; names = second.1 }

fine_node : (params : List (List ℕ)) (at : ℕ) (n : Node) → uses_one_of params n ≡ true → UsesOther params at n → ⊥
fine_node params at (node.Name name from) fine uses = uses.0 (contained params name fine)
fine_node params at (node.Number text) fine uses = uses
fine_node params at node.Pi fine uses = uses
fine_node params at node.Negate fine uses = uses
fine_node params at (node.Apply f) fine uses = uses
fine_node params at node.Plus fine uses = uses
fine_node params at node.Minus fine uses = uses
fine_node params at node.Times fine uses = uses
fine_node params at node.Over fine uses = uses
fine_node params at node.Power fine uses = uses

fine_args : (args : List (List ℕ)) (at : ℕ) (list : List Arg) → list_all (is_one_of args) (map (λ (arg : Arg). arg.word) list) ≡ true → Any (λ (arg : Arg). (¬ Contains args arg.word) × (at ≡ arg.at)) list → ⊥
fine_args args at list fine w =
    none_of (λ (arg : Arg). is_one_of args arg.word) (λ (arg : Arg). (¬ Contains args arg.word) × (at ≡ arg.at)) list (sym (list_all-map (is_one_of args) (λ (arg : Arg). arg.word) list) ∙ fine) (λ arg one other. other.0 (contained args arg.word one)) w

fine_names : (params : List (List ℕ)) (at : ℕ) (exprs : List Expr) → list_all (λ (expr : Expr). list_all (uses_one_of params) expr) exprs ≡ true → UsesOtherIn params exprs at → ⊥
fine_names params at exprs fine w =
    none_of (λ (expr : Expr). list_all (uses_one_of params) expr) (λ (expr : Expr). Any (UsesOther params at) expr) exprs fine (λ expr each. none_of (uses_one_of params) (UsesOther params at) expr each (fine_node params at)) w

module _ (e : Environment) (name : List ℕ) (params args : List Named) (body : List BodyOp) (from : ℕ) (fine : is_fine e (stmt.Gate name params args body from) ≡ true) where
  gate_head : (is_new e name && differ (words_of (params ++ args))) ≡ true
  gate_head =
      (and_parts (is_new e name && differ (words_of (params ++ args))) (list_all (is_fine_call e (words_of params) (words_of args)) body) fine).0

  gate_calls : list_all (is_fine_call e (words_of params) (words_of args)) body ≡ true
  gate_calls =
      (and_parts (is_new e name && differ (words_of (params ++ args))) (list_all (is_fine_call e (words_of params) (words_of args)) body) fine).1

  -- no call of the body is so, where none that is fine is
  no_call : (Q : BodyOp → Type 0) → ((call : BodyOp) → IsFineCall e (words_of params) (words_of args) call → Q call → ⊥) → Any Q body → ⊥
  no_call Q never w =
      none_of (is_fine_call e (words_of params) (words_of args)) Q body gate_calls (λ call fine. never call (fine_call e (words_of params) (words_of args) call fine)) w

  not_declared : IsDeclared e name → ⊥
  not_declared declared =
      let parts = and_parts (is_none (own_meaning e name)) (not e.included) (and_parts (is_new e name) (differ (words_of (params ++ args))) gate_head).0 in
      ⊎_elim (λ known. known (none_from (own_meaning e name) parts.0)) (λ included. false≢true (sym (not-true e.included parts.1) ∙ included.0)) declared

  fine_gate : (before : List Stmt) (k : ScopeKind) (at : ℕ) → Refuses e before (stmt.Gate name params args body from) k at → ⊥
  fine_gate before kind.Version at r = r
  fine_gate before kind.Control at r = r
  fine_gate before kind.Reset at r = r
  fine_gate before kind.Include at r = r
  fine_gate before kind.Redeclared at r = not_declared r.0
  fine_gate before kind.NotDeclared at r = ⊎_elim (no_item _) (no_item _) r
  fine_gate before kind.UnknownGate at r =
      no_call _ (λ call fine q. takes_known (callee e call.name) (length call.exprs) (length call.args) fine.takes q.0) r
  fine_gate before kind.Opaque at r =
      no_call _ (λ call fine q. takes_body (callee e call.name) (length call.exprs) (length call.args) fine.takes q.0) r
  fine_gate before kind.Params at r =
      no_call _ (λ call fine q. takes_params (callee e call.name) call fine.takes q.0) r
  fine_gate before kind.Arity at r =
      no_call _ (λ call fine q. takes_args (callee e call.name) call fine.takes q.0) r
  fine_gate before kind.Sizes at r = r
  fine_gate before kind.Index at r = ⊎_elim (no_item _) (no_item _) r
  fine_gate before kind.Repeated at r =
      no_call _ (λ call fine q. no_two (λ (arg : Arg). arg.word) (λ a b. a.word ≡ b.word) (λ a b same. same) call.args fine.differ q.0.1) r
  fine_gate before kind.Name at r = ⊎_elim
      (λ twice. no_two (λ (n : Named). n.word) (λ a b. (a.word ≡ b.word) × (at ≡ b.at)) (λ a b same. same.0) (params ++ args) (and_parts (is_new e name) (differ (words_of (params ++ args))) gate_head).1 twice)
      (λ uses. no_call _ (λ call fine q. ⊎_elim (fine_args (words_of args) at call.args fine.arguments) (fine_names (words_of params) at call.exprs fine.names) q) uses)
      r
  fine_gate before kind.AfterRead at r = r

fine_version : (e : Environment) (number : List ℕ) (from : ℕ) → bytes_eq number (codes "2.0") ≡ true → (before : List Stmt) (k : ScopeKind) (at : ℕ) → Refuses e before (stmt.Version number from) k at → ⊥
fine_version e number from fine before kind.Version at r = r.0 ((bytes_eq-Decides number (codes "2.0")).0 fine)
fine_version e number from fine before kind.Control at r = r
fine_version e number from fine before kind.Reset at r = r
fine_version e number from fine before kind.Include at r = r
fine_version e number from fine before kind.Redeclared at r = r
fine_version e number from fine before kind.NotDeclared at r = ⊎_elim (no_item _) (no_item _) r
fine_version e number from fine before kind.UnknownGate at r = no_item _ r
fine_version e number from fine before kind.Opaque at r = no_item _ r
fine_version e number from fine before kind.Params at r = no_item _ r
fine_version e number from fine before kind.Arity at r = no_item _ r
fine_version e number from fine before kind.Sizes at r = r
fine_version e number from fine before kind.Index at r = ⊎_elim (no_item _) (no_item _) r
fine_version e number from fine before kind.Repeated at r = r
fine_version e number from fine before kind.Name at r = r
fine_version e number from fine before kind.AfterRead at r = r

fine_admissible : (before : List Stmt) (s : Stmt) → is_fine (enter_all no_names before) s ≡ true → IsAdmissibleInHeader before s
fine_admissible before (stmt.Version number at) fine =
    record { admissible = fine_version (enter_all no_names before) number at fine before; form = tt }
fine_admissible before (stmt.Gate name params args body at) fine =
    record { admissible = fine_gate (enter_all no_names before) name params args body at fine before; form = tt }
fine_admissible before (stmt.Include name at) fine = absurd (false≢true fine)
fine_admissible before (stmt.Qreg name size at) fine = absurd (false≢true fine)
fine_admissible before (stmt.Creg name size at) fine = absurd (false≢true fine)
fine_admissible before (stmt.Opaque name params args at) fine = absurd (false≢true fine)
fine_admissible before (stmt.Call call) fine = absurd (false≢true fine)
fine_admissible before (stmt.Measure from into at) fine = absurd (false≢true fine)
fine_admissible before (stmt.Reset arg at) fine = absurd (false≢true fine)
fine_admissible before (stmt.Barrier args at) fine = absurd (false≢true fine)
fine_admissible before (stmt.If at) fine = absurd (false≢true fine)

all_admissible : (before header : List Stmt) → are_fine (enter_all no_names before) header ≡ true → AreAdmissibleInHeader before header
all_admissible before [] fine = tt
all_admissible before (s ∷ ss) fine =
    let parts = and_parts (is_fine (enter_all no_names before) s) (are_fine (enter (enter_all no_names before) s) ss) fine in (
      fine_admissible before s parts.0,
      all_admissible (before ++ s ∷ []) ss (subst (λ (e : Environment). are_fine e ss ≡ true) (sym (after-push no_names before s)) parts.1),
    )

short_node : (n : Node) → is_short n ≡ true → IsShort n
short_node (node.Number text) short = leb-true (length text) 40 short
short_node (node.Name name at) short = tt
short_node node.Pi short = tt
short_node node.Negate short = tt
short_node (node.Apply f) short = tt
short_node node.Plus short = tt
short_node node.Minus short = tt
short_node node.Times short = tt
short_node node.Over short = tt
short_node node.Power short = tt

short_statement : (s : Stmt) → has_short_numbers s ≡ true → HasShortNumbers s
short_statement s short =
    each_of (λ (call : BodyOp). list_all (λ (expr : Expr). list_all is_short expr) call.exprs) (λ (call : BodyOp). AreShortIn call.exprs) (calls_in s) short (λ call each. each_of (λ (expr : Expr). list_all is_short expr) (λ (expr : Expr). AllByRecursion IsShort expr) call.exprs each (λ expr nodes. each_of is_short IsShort expr nodes short_node))

-- a header that passes the tests is sound
pub fine_header : (o : Option (List Stmt)) → is_fine_header o ≡ true → (header : List Stmt) × (o ≡ Some header) × IsSoundHeader header
fine_header None fine = absurd (false≢true fine)
fine_header (Some header) fine =
    let fine_all = are_fine no_names header in
    let short = list_all has_short_numbers header in
    let undeclared = is_none (own_meaning (enter_all no_names header) (codes "cz")) in
    let halves = and_parts (fine_all && short) undeclared fine in
    let parts = and_parts fine_all short halves.0 in (
      header,
      refl,
      record {
        admissible = all_admissible [] header parts.0;
        short = each_of has_short_numbers HasShortNumbers header parts.1 short_statement;
        undeclared = none_from (own_meaning (enter_all no_names header) (codes "cz")) halves.1;
      },
    )
