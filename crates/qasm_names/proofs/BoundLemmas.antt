-- The calls in the bodies of gates are well bound.
use Rattle.std.proofs.Common.{◌≡◌, ◌≢◌, ℕ, zero, suc, ◌+◌, ◌<◌, ◌⊎◌, inl, inr, Bool, true, false, cond, not, if◌then◌else◌, List, [], ◌∷◌, ◌++◌, map, length, get_or, slice_get, Option, Some, None, codes, refl, ap, sym, subst, ◌∙◌, append_assoc, append-nil, arith}
use Rattle.std.proofs.lemmas.Bool.{cases_eq, false≢true}
use Rattle.std.proofs.lemmas.List.{length-map}
use Rattle.std.proofs.lemmas.Option.{slice_get_within, slice_get-get_or}
use Rattle.std.proofs.lemmas.List.Folds.{Any-from_list_any, list_any-from_Any}
use Rattle.std.specs.Cmp.Lexicographic.{bytes_decides}
use Rattle.std.specs.List.{All, AllPairs, Any, Contains, list_any, position_or_len}
use Rattle.std.specs.Map.{lookup}
use Rattle.std.specs.Str.{bytes_eq}
use Rattle.qasm_form.specs.declared.stmt.Arg.{Arg}
use Rattle.qasm_form.specs.declared.stmt.BodyOp.{BodyOp}
use Rattle.qasm_form.specs.declared.stmt.Expr.{Expr}
use Rattle.qasm_form.specs.declared.stmt.Named.{Named}
use Rattle.qasm_form.specs.declared.stmt.Node.{Node}
use Rattle.qasm_form.specs.declared.stmt.Node.TheVariants as node
use Rattle.qasm_names.specs.Bound.{NamesOneOf, TargetTakes, AreDistinctFor, IsWellBoundCall, IsWellBound}
use Rattle.std.specs.Option.{option_or}
use Rattle.qasm_form.specs.declared.stmt.Stmt.{Stmt}
use Rattle.qasm_form.specs.declared.stmt.Stmt.TheVariants as stmt
use Rattle.qasm_names.specs.Environment.{words_of, bound_call, bound_gate, with_gate, with_name, enter, enter_all, no_names, opening_names, environment}
use Rattle.qasm_names.specs.Names.{Environment, meaning, own_meaning, callee, callee_of, target_of, value_or}
use Rattle.qasm_names.specs.Refusals.{HasOtherParams, HasOtherArity, RepeatsWord, UsesOther, UsesUndeclared}
use Rattle.qasm_names.specs.Scopes.{AreAdmissibleInHeader}
use Rattle.qasm_names.specs.Accepted.{AreAdmissible}
use Rattle.qasm_names.specs.declared.fault.ScopeKind.TheVariants as kind
use Rattle.qasm_names.specs.declared.gate.Bound.{Bound}
use Rattle.qasm_names.specs.declared.meaning.Callee.{Callee}
use Rattle.qasm_names.specs.declared.meaning.Callee.TheVariants as calls
use Rattle.qasm_names.specs.declared.gate.GateDef.{GateDef}
use Rattle.qasm_names.specs.declared.gate.Target.{Target}
use Rattle.qasm_names.specs.declared.gate.Target.TheVariants as target
use Rattle.qasm_names.specs.declared.meaning.Meaning.{Meaning}
use Rattle.qasm_names.specs.declared.meaning.Meaning.TheVariants as means
use Rattle.qasm_names.proofs.ScopesLemmas.{get_or-at, HasNoRefusal, after-push}

none_is_some : {X : Type 0} {x : X} → None ≡ Some x → ⊥
none_is_some h = cc

some_same : {X : Type 0} {x y : X} → Some x ≡ Some y → x ≡ y
some_same h = cc

-- what holds of each element that a look-up finds holds of all
pub All-from_get : {X : Type 0} (P : X → Type 0) (xs : List X) → ((i : ℕ) (x : X) → slice_get xs i ≡ Some x → P x) → All P xs
All-from_get P xs h k d within = h k (get_or xs k d) (slice_get-get_or xs k d within)

-- an element that a look-up finds, with a fact
pub Any-at : {X : Type 0} (P : X → Type 0) (xs : List X) (i : ℕ) (x : X) → slice_get xs i ≡ Some x → P x → Any P xs
Any-at P xs i x at fact = (i, x, slice_get_within xs i x at, get_or-at xs i x x at, fact)

-- an element of a mapped list
pub slice_get-mapped : {X Y : Type 0} (f : X → Y) (xs : List X) (i : ℕ) (y : Y) → slice_get (map f xs) i ≡ Some y → (x : X) × (slice_get xs i ≡ Some x) × (y ≡ f x)
slice_get-mapped f [] i y h = absurd (none_is_some h)
slice_get-mapped f (x ∷ xs) zero y h = (x, refl, sym (some_same h))
slice_get-mapped f (x ∷ xs) (suc i) y h = slice_get-mapped f xs i y h

-- an element stays where more stand behind it
pub slice_get-front : {X : Type 0} (xs ys : List X) (i : ℕ) (x : X) → slice_get xs i ≡ Some x → slice_get (xs ++ ys) i ≡ Some x
slice_get-front [] ys i x h = absurd (none_is_some h)
slice_get-front (y ∷ xs) ys zero x h = h
slice_get-front (y ∷ xs) ys (suc i) x h = slice_get-front xs ys i x h

-- an element of a list with one more
pub slice_get-pushed : {X : Type 0} (xs : List X) (y : X) (i : ℕ) (x : X) → slice_get (xs ++ y ∷ []) i ≡ Some x → (slice_get xs i ≡ Some x) ⊎ ((i ≡ length xs) × (x ≡ y))
slice_get-pushed [] y zero x h = inr (refl, sym (some_same h))
slice_get-pushed [] y (suc i) x h = absurd (none_is_some h)
slice_get-pushed (z ∷ xs) y zero x h = inl h
slice_get-pushed (z ∷ xs) y (suc i) x h =
    elim (slice_get-pushed xs y i x h) [ inl front ↦ inl front | inr last ↦ inr (ap suc last.0, last.1) ]

pub slice_get-last : {X : Type 0} (xs : List X) (y : X) → slice_get (xs ++ y ∷ []) (length xs) ≡ Some y
slice_get-last [] y = refl
slice_get-last (x ∷ xs) y = slice_get-last xs y

-- a name with one more entry
pub lookup-pushed : {X : Type 0} (test : List ℕ → Bool) (es : List (List ℕ × X)) (k : List ℕ) (v m : X) → lookup test (es ++ (k, v) ∷ []) ≡ Some m → (lookup test es ≡ Some m) ⊎ (m ≡ v)
lookup-pushed test [] k v m h = by (test k) h
  where
    by : (b : Bool) → cond b (Some v) None ≡ Some m → (None ≡ Some m) ⊎ (m ≡ v)
    by true p = inr (sym (some_same p))
    by false p = inl p
lookup-pushed test (e ∷ es) k v m h = by (lookup-pushed test es k v m) (test e.0) h
  where
    by : (lookup test (es ++ (k, v) ∷ []) ≡ Some m → (lookup test es ≡ Some m) ⊎ (m ≡ v)) → (b : Bool) → cond b (Some e.1) (lookup test (es ++ (k, v) ∷ [])) ≡ Some m → (cond b (Some e.1) (lookup test es) ≡ Some m) ⊎ (m ≡ v)
    by rest true p = inl p
    by rest false p = rest p

-- a list has a word, or it hasn't
pub has_word : (ws : List (List ℕ)) (w : List ℕ) → ((¬ Contains ws w) → ⊥) → Contains ws w
has_word ws w h = by (list_any (bytes_eq w) ws) refl
  where
    by : (b : Bool) → list_any (bytes_eq w) ws ≡ b → Contains ws w
    by true p = let a = Any-from_list_any (bytes_eq w) ws p in
        let same : w ≡ a.1 = (bytes_decides w a.1).0 a.4 in
        let P : List ℕ → Type 0 = λ x. get_or ws a.0 x ≡ x in
        (a.0, a.2, subst P (sym same) a.3)
    by false p = absurd (h (λ c. false≢true (sym p ∙ list_any-from_Any (bytes_eq w) ws (c.0, w, c.1, c.2, (bytes_decides w w).1 refl))))

one_more : (n : ℕ) → 1 + n ≡ suc n
one_more n = omega arith

-- a word stands at its first place
pub position-found : (ws : List (List ℕ)) (w : List ℕ) → Contains ws w → slice_get ws (position_or_len (bytes_eq w) ws) ≡ Some w
position-found [] w c = absurd (omega (arith, c.1))
position-found (x ∷ ws) w c = by (λ p. position-found ws w (later p c.0 c.1 c.2)) (bytes_eq w x) refl
  where
    later : bytes_eq w x ≡ false → (k : ℕ) → k < length (x ∷ ws) → get_or (x ∷ ws) k w ≡ w → Contains ws w
    later p zero below at = absurd (false≢true (sym p ∙ (bytes_decides w x).1 (sym at)))
    later p (suc k) below at = (k, omega (arith, below), at)

    by : (bytes_eq w x ≡ false → slice_get ws (position_or_len (bytes_eq w) ws) ≡ Some w) → (b : Bool) → bytes_eq w x ≡ b → slice_get (x ∷ ws) (cond (not b) (1 + position_or_len (bytes_eq w) ws) 0) ≡ Some w
    by rest true p = ap Some (sym ((bytes_decides w x).0 p))
    by rest false p = ap (λ n. slice_get (x ∷ ws) n) (one_more (position_or_len (bytes_eq w) ws)) ∙ rest p

abbrev pub IsSoundMeaning : List GateDef → Meaning → Type 0
IsSoundMeaning gates (means.Gate place params args) = (g : GateDef) × (slice_get gates place ≡ Some g) × (length g.params ≡ params) × (g.args ≡ args)
IsSoundMeaning gates other = Unit {0}

-- each name of a gate stands for one that is there, with its numbers of parameters and arguments; each gate is well bound
pub record IsSound (e : Environment) : Type 0 where
  pub header : (name : List ℕ) (m : Meaning) → lookup (bytes_eq name) e.header ≡ Some m → IsSoundMeaning e.gates m
  pub own : (name : List ℕ) (m : Meaning) → lookup (bytes_eq name) e.own ≡ Some m → IsSoundMeaning e.gates m
  pub bound : (place : ℕ) → IsWellBound e.gates place

-- with more gates a meaning stays sound
sound-front : (gates more : List GateDef) (m : Meaning) → IsSoundMeaning gates m → IsSoundMeaning (gates ++ more) m
sound-front gates more (means.Gate place params args) h = (h.0, slice_get-front gates more place h.0 h.1, h.2, h.3)
sound-front gates more other h = h

-- and a target takes what it took
takes-front : (gates more : List GateDef) (place exprs args : ℕ) (t : Target) → TargetTakes gates place exprs args t → TargetTakes (gates ++ more) place exprs args t
takes-front gates more place exprs args (target.Gate p) h = (h.0, h.1, slice_get-front gates more p h.1 h.2, h.3, h.4)
takes-front gates more place exprs args target.U h = h
takes-front gates more place exprs args target.Cx h = h
takes-front gates more place exprs args target.Cz h = h
takes-front gates more place exprs args target.Barrier h = h

-- the meaning of a sound environment's name is sound
sound_meaning : (e : Environment) → IsSound e → (name : List ℕ) (m : Meaning) → meaning e name ≡ Some m → IsSoundMeaning e.gates m
sound_meaning e h name m is = by (own_meaning e name) refl is
  where
    from_header : (b : Bool) → (if b then lookup (bytes_eq name) e.header else None) ≡ Some m → IsSoundMeaning e.gates m
    from_header true p = h.header name m p
    from_header false p = absurd (none_is_some p)

    by : (o : Option Meaning) → own_meaning e name ≡ o → option_or o (if e.included then lookup (bytes_eq name) e.header else None) ≡ Some m → IsSoundMeaning e.gates m
    by None p q = from_header e.included q
    by (Some x) p q = h.own name m (p ∙ q)

-- what a callee's target takes
abbrev TakesCallee : Environment → Callee → Type 0
TakesCallee e (calls.Gate t params args) = (exprs count : ℕ) → exprs ≡ params → count ≡ args → TargetTakes e.gates (length e.gates) exprs count t
TakesCallee e other = Unit {0}

takes_of : (e : Environment) (o : Option Meaning) → ((m : Meaning) → o ≡ Some m → IsSoundMeaning e.gates m) → TakesCallee e (callee_of o)
takes_of e None h = tt
takes_of e (Some (means.Qubits size)) h = tt
takes_of e (Some (means.Bits size)) h = tt
takes_of e (Some means.Native) h = λ exprs count x y. (x, y)
takes_of e (Some (means.Gate place params args)) h =
    let g = h (means.Gate place params args) refl in
    λ exprs count x y. (slice_get_within e.gates place g.0 g.1, g.0, g.1, x ∙ sym g.2, y ∙ sym g.3)
takes_of e (Some means.Opaque) h = tt

takes_callee : (e : Environment) → IsSound e → (name : List ℕ) → TakesCallee e (callee e name)
takes_callee e h name = u (bytes_eq name (codes "U")) (bytes_eq name (codes "CX")) (bytes_eq name (codes "barrier"))
  where
    u : (a b c : Bool) → TakesCallee e (if a then calls.Gate target.U 3 1 else (if b then calls.Gate target.Cx 0 2 else (if c then calls.Barrier else callee_of (meaning e name))))
    u true b c = λ exprs count x y. (x, y)
    u false true c = λ exprs count x y. (x, y)
    u false false true = tt
    u false false false = takes_of e (meaning e name) (sound_meaning e h name)

-- a number that isn't other
same_number : (a b : ℕ) → (a ≢ b → ⊥) → a ≡ b
same_number a b h = elim (cases_eq a b) [ inl same ↦ same | inr other ↦ absurd (h other) ]

module _ (e : Environment) (before : List Stmt) (name : List ℕ) (params args : List Named) (body : List BodyOp) (from : ℕ) (sound : IsSound e) (admissible : HasNoRefusal e before (stmt.Gate name params args body from)) where
  module _ (i : ℕ) (op : BodyOp) (at : slice_get body i ≡ Some op) where
    -- it takes what its target takes
    op_takes : TargetTakes e.gates (length e.gates) (length op.exprs) (length op.args) (value_or (target_of (callee e op.name)) target.Barrier)
    op_takes = by (callee e op.name) refl (takes_callee e sound op.name)
      where
        by : (c : Callee) → callee e op.name ≡ c → TakesCallee e c → TargetTakes e.gates (length e.gates) (length op.exprs) (length op.args) (value_or (target_of c) target.Barrier)
        by calls.Unknown p t = tt
        by calls.Opaque p t = tt
        by calls.Barrier p t = tt
        by (calls.Gate g n m) p t =
            let other_params : length op.exprs ≢ n → ⊥ = λ ne. admissible kind.Params op.at (Any-at (λ call. HasOtherParams (callee e call.name) call × (op.at ≡ call.at)) body i op at (let P : Callee → Type 0 = λ c. HasOtherParams c op in subst P (sym p) ne, refl)) in
            let other_arity : length op.args ≢ m → ⊥ = λ ne. admissible kind.Arity op.at (Any-at (λ call. HasOtherArity (callee e call.name) call × (op.at ≡ call.at)) body i op at (let P : Callee → Type 0 = λ c. HasOtherArity c op in subst P (sym p) ne, refl)) in
            t (length op.exprs) (length op.args) (same_number (length op.exprs) n other_params) (same_number (length op.args) m other_arity)

    -- each argument is one of the gate's
    op_contains : (j : ℕ) (arg : Arg) → slice_get op.args j ≡ Some arg → Contains (words_of args) arg.word
    op_contains j arg there = has_word (words_of args) arg.word (λ no.
        admissible kind.Name arg.at (inr (Any-at (UsesUndeclared (words_of params) (words_of args) arg.at) body i op at
        (inl (Any-at (λ other. (¬ Contains (words_of args) other.word) × (arg.at ≡ other.at)) op.args j arg there (no, refl))))))

    -- each name of an expression is one of its parameters
    op_names : (j : ℕ) (expr : Expr) → slice_get op.exprs j ≡ Some expr → (k : ℕ) (n : Node) → slice_get expr k ≡ Some n → NamesOneOf (words_of params) n
    op_names j expr there k (node.Name word offset) here = has_word (words_of params) word (λ no.
        admissible kind.Name offset (inr (Any-at (UsesUndeclared (words_of params) (words_of args) offset) body i op at
        (inr (Any-at (λ (x : Expr). Any (UsesOther (words_of params) offset) x) op.exprs j expr there
        (Any-at (UsesOther (words_of params) offset) expr k (node.Name word offset) here (no, refl)))))))
    op_names j expr there k other here = tt

    -- two arguments of a call that is no barrier differ
    op_apart : op.name ≢ codes "barrier" → (j k : ℕ) (a b : Arg) → j < k → slice_get op.args j ≡ Some a → slice_get op.args k ≡ Some b → a.word ≢ b.word
    op_apart unlike j k a b below x y same =
        admissible kind.Repeated op.at (Any-at (λ other. RepeatsWord other × (op.at ≡ other.at)) body i op at ((unlike, (j, k, a, b, below, x, y, same)), refl))

-- the place of a word among these
abbrev pub place_in : List (List ℕ) → Arg → ℕ
place_in ws arg = position_or_len (bytes_eq arg.word) ws

apart_from : (xs : List ℕ) (t : Target) → AllPairs (λ a b. a ≢ b) xs → AreDistinctFor xs t
apart_from xs target.Barrier h = tt
apart_from xs target.U h = h
apart_from xs target.Cx h = h
apart_from xs target.Cz h = h
apart_from xs (target.Gate p) h = h

-- places of words that differ do so too
places_apart : (ws : List (List ℕ)) (xs : List Arg) → ((j : ℕ) (arg : Arg) → slice_get xs j ≡ Some arg → Contains ws arg.word)
    → ((j k : ℕ) (a b : Arg) → j < k → slice_get xs j ≡ Some a → slice_get xs k ≡ Some b → a.word ≢ b.word) → AllPairs (λ a b. a ≢ b) (map (place_in ws) xs)
places_apart ws xs contains differ j k d below within same =
    let list = map (place_in ws) xs in
    let first = slice_get-mapped (place_in ws) xs j (get_or list j d) (slice_get-get_or list j d (omega (arith, below, within))) in
    let second = slice_get-mapped (place_in ws) xs k (get_or list k d) (slice_get-get_or list k d within) in
    let x = position-found ws first.0.word (contains j first.0 first.1) in
    let y = position-found ws second.0.word (contains k second.0 second.1) in
    let one : place_in ws first.0 ≡ place_in ws second.0 = sym first.2 ∙ same ∙ second.2 in
    differ j k first.0 second.0 below first.1 second.1 (some_same (sym x ∙ ap (λ n. slice_get ws n) one ∙ y))

module _ (e : Environment) (before : List Stmt) (name : List ℕ) (params args : List Named) (body : List BodyOp) (from : ℕ) (sound : IsSound e) (admissible : HasNoRefusal e before (stmt.Gate name params args body from)) where
  abbrev new_gate : GateDef
  new_gate = bound_gate e params args body

  op_separate : (i : ℕ) (op : BodyOp) → slice_get body i ≡ Some op → AreDistinctFor (map (place_in (words_of args)) op.args) (value_or (target_of (callee e op.name)) target.Barrier)
  op_separate i op at = by (bytes_eq op.name (codes "barrier")) refl
    where
      by : (b : Bool) → bytes_eq op.name (codes "barrier") ≡ b → AreDistinctFor (map (place_in (words_of args)) op.args) (value_or (target_of (callee e op.name)) target.Barrier)
      by true p = let P : List ℕ → Type 0 = λ n. AreDistinctFor (map (place_in (words_of args)) op.args) (value_or (target_of (callee e n)) target.Barrier) in
          subst P (sym ((bytes_decides op.name (codes "barrier")).0 p)) tt
      by false p = apart_from (map (place_in (words_of args)) op.args) (value_or (target_of (callee e op.name)) target.Barrier)
          (places_apart (words_of args) op.args (op_contains e before name params args body from sound admissible i op at)
          (op_apart e before name params args body from sound admissible i op at (λ same. false≢true (sym p ∙ (bytes_decides op.name (codes "barrier")).1 same))))

  -- a call of the new gate
  new_call : (i : ℕ) (call : Bound) → slice_get new_gate.body i ≡ Some call → IsWellBoundCall (e.gates ++ new_gate ∷ []) (length e.gates) new_gate call
  new_call i call h =
      let found = slice_get-mapped (bound_call e (words_of args)) body i call h in
      let op = found.0 in
      let ws = words_of args in
      let bound = bound_call e ws op in
      let Q : ℕ → Type 0 = λ n. TargetTakes e.gates (length e.gates) (length op.exprs) n bound.target in
      let takes = subst Q (sym (length-map op.args (place_in ws))) (op_takes e before name params args body from sound admissible i op found.1) in
      let P : Bound → Type 0 = λ c. IsWellBoundCall (e.gates ++ new_gate ∷ []) (length e.gates) new_gate c in
      subst P (sym found.2) (record {
        takes = takes-front e.gates (new_gate ∷ []) (length e.gates) (length op.exprs) (length bound.args) bound.target takes;
        within = All-from_get (λ k. k < length args) bound.args (λ j k there.
            let arg = slice_get-mapped (place_in ws) op.args j k there in
            let below : place_in ws arg.0 < length ws = slice_get_within ws (place_in ws arg.0) arg.0.word (position-found ws arg.0.word (op_contains e before name params args body from sound admissible i op found.1 j arg.0 arg.1)) in
            omega (arith, below, arg.2, length-map args (λ (n : Named). n.word)));
        apart = op_separate i op found.1;
        names = All-from_get (λ (expr : Expr). All (NamesOneOf (words_of params)) expr) op.exprs (λ j expr there. All-from_get (NamesOneOf (words_of params)) expr (op_names e before name params args body from sound admissible i op found.1 j expr there));
      })

  IsSound-with_gate : IsSound (with_gate e name params args body)
  IsSound-with_gate = record {
    header = λ n m is. sound-front e.gates (new_gate ∷ []) m (sound.header n m is);
    own = λ n m is. elim (lookup-pushed (bytes_eq n) e.own name (means.Gate (length e.gates) (length params) (length args)) m is) [
      | inl old ↦ sound-front e.gates (new_gate ∷ []) m (sound.own n m old)
      | inr new ↦ let P : Meaning → Type 0 = λ x. IsSoundMeaning (e.gates ++ new_gate ∷ []) x in
          subst P (sym new) (new_gate, slice_get-last e.gates new_gate, length-map params (λ (n : Named). n.word), refl)
    ];
    bound = λ place gate there. elim (slice_get-pushed e.gates new_gate place gate there) [
      | inl old ↦ λ k d within. more place gate (get_or gate.body k d) (sound.bound place gate old k d within)
      | inr last ↦
          let P : ℕ → Type 0 = λ p. All (IsWellBoundCall (e.gates ++ new_gate ∷ []) p gate) gate.body in
          let Q : GateDef → Type 0 = λ g. All (IsWellBoundCall (e.gates ++ new_gate ∷ []) (length e.gates) g) g.body in
          subst P (sym last.0) (subst Q (sym last.1) (All-from_get (IsWellBoundCall (e.gates ++ new_gate ∷ []) (length e.gates) new_gate) new_gate.body new_call))
    ];
  }
    where
      more : (place : ℕ) (gate : GateDef) (call : Bound) → IsWellBoundCall e.gates place gate call → IsWellBoundCall (e.gates ++ new_gate ∷ []) place gate call
      more place gate call h = record {
        takes = takes-front e.gates (new_gate ∷ []) place (length call.exprs) (length call.args) call.target h.takes;
        within = h.within;
        apart = h.apart;
        names = h.names;
      }

IsSound-with_name : (e : Environment) (name : List ℕ) (m : Meaning) → IsSoundMeaning e.gates m → IsSound e → IsSound (with_name e name m)
IsSound-with_name e name m fits sound = record {
  header = sound.header;
  own = λ n x is. elim (lookup-pushed (bytes_eq n) e.own name m x is) [
    | inl old ↦ sound.own n x old
    | inr new ↦ let P : Meaning → Type 0 = λ y. IsSoundMeaning e.gates y in subst P (sym new) fits
  ];
  bound = sound.bound;
}

IsSound-enter : (e : Environment) (before : List Stmt) (s : Stmt) → IsSound e → HasNoRefusal e before s → IsSound (enter e s)
IsSound-enter e before (stmt.Include name at) sound admissible = record { header = sound.header; own = sound.own; bound = sound.bound }
IsSound-enter e before (stmt.Qreg name size at) sound admissible = IsSound-with_name e name (means.Qubits size) tt sound
IsSound-enter e before (stmt.Creg name size at) sound admissible = IsSound-with_name e name (means.Bits size) tt sound
IsSound-enter e before (stmt.Gate name params args body at) sound admissible = IsSound-with_gate e before name params args body at sound admissible
IsSound-enter e before (stmt.Opaque name params args at) sound admissible = IsSound-with_name e name means.Opaque tt sound
IsSound-enter e before other sound admissible = sound

IsSound-nothing : IsSound no_names
IsSound-nothing = record {
  header = λ n m is. absurd (none_is_some is);
  own = λ n m is. absurd (none_is_some is);
  bound = λ place gate there. absurd (none_is_some there);
}

IsSound-in_header : (before ss : List Stmt) → IsSound (enter_all no_names before) → AreAdmissibleInHeader before ss → IsSound (enter_all no_names (before ++ ss))
IsSound-in_header before [] sound admissible = let P : List Stmt → Type 0 = λ l. IsSound (enter_all no_names l) in subst P (sym (append-nil before)) sound
IsSound-in_header before (s ∷ ss) sound admissible =
    let P : List Stmt → Type 0 = λ l. IsSound (enter_all no_names l) in
    let Q : Environment → Type 0 = λ e. IsSound e in
    let next = subst Q (sym (after-push no_names before s)) (IsSound-enter (enter_all no_names before) before s sound admissible.0.admissible) in
    subst P (append_assoc before (s ∷ []) ss) (IsSound-in_header (before ++ s ∷ []) ss next admissible.1)

IsSound-opening : (header : List Stmt) → AreAdmissibleInHeader [] header → IsSound (opening_names header)
IsSound-opening header admissible =
    let sound = IsSound-in_header [] header IsSound-nothing admissible in
    record {
      header = λ n m is. elim (lookup-pushed (bytes_eq n) (enter_all no_names header).own (codes "cz") means.Native m is) [
        | inl old ↦ sound.own n m old
        | inr new ↦ let P : Meaning → Type 0 = λ y. IsSoundMeaning (enter_all no_names header).gates y in subst P (sym new) tt
      ];
      own = λ n m is. absurd (none_is_some is);
      bound = sound.bound;
    }

IsSound-environment : (header before ss : List Stmt) → IsSound (environment header before) → AreAdmissible header before ss → IsSound (environment header (before ++ ss))
IsSound-environment header before [] sound admissible = let P : List Stmt → Type 0 = λ l. IsSound (environment header l) in subst P (sym (append-nil before)) sound
IsSound-environment header before (s ∷ ss) sound admissible =
    let P : List Stmt → Type 0 = λ l. IsSound (environment header l) in
    let Q : Environment → Type 0 = λ e. IsSound e in
    let next = subst Q (sym (after-push (opening_names header) before s)) (IsSound-enter (environment header before) before s sound admissible.0) in
    subst P (append_assoc before (s ∷ []) ss) (IsSound-environment header (before ++ s ∷ []) ss next admissible.1)

-- behind a header and statements that are admissible each gate is well bound
pub IsWellBound-admissible : (header ss : List Stmt) → AreAdmissibleInHeader [] header → AreAdmissible header [] ss → (place : ℕ) → IsWellBound (environment header ss).gates place
IsWellBound-admissible header ss admissible all = (IsSound-environment header [] ss (IsSound-opening header admissible) all).bound

-- a statement's gates stand behind those before it
enter_gates : (e : Environment) (s : Stmt) → (rest : List GateDef) × ((enter e s).gates ≡ e.gates ++ rest)
enter_gates e (stmt.Gate name params args body at) = (bound_gate e params args body ∷ [], refl)
enter_gates e (stmt.Include name at) = ([], sym (append-nil e.gates))
enter_gates e (stmt.Qreg name size at) = ([], sym (append-nil e.gates))
enter_gates e (stmt.Creg name size at) = ([], sym (append-nil e.gates))
enter_gates e (stmt.Opaque name params args at) = ([], sym (append-nil e.gates))
enter_gates e other = ([], sym (append-nil e.gates))

after_gates : (e : Environment) (ss : List Stmt) → (rest : List GateDef) × ((enter_all e ss).gates ≡ e.gates ++ rest)
after_gates e [] = ([], sym (append-nil e.gates))
after_gates e (s ∷ ss) =
    let first = enter_gates e s in
    let more = after_gates (enter e s) ss in
    (first.0 ++ more.0, more.1 ∙ ap (λ l. l ++ more.0) first.1 ∙ append_assoc e.gates first.0 more.0)

after-append : (e : Environment) (xs ys : List Stmt) → enter_all e (xs ++ ys) ≡ enter_all (enter_all e xs) ys
after-append e [] ys = refl
after-append e (x ∷ xs) ys = after-append (enter e x) xs ys

pub gates_grow : (header before more : List Stmt) → (rest : List GateDef) × ((environment header (before ++ more)).gates ≡ (environment header before).gates ++ rest)
gates_grow header before more =
    let grown = after_gates (environment header before) more in
    (grown.0, ap (λ (e : Environment). e.gates) (after-append (opening_names header) before more) ∙ grown.1)
