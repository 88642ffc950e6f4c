-- Lemmas on statements behind one another.
use Rattle.std.proofs.Common.{get_or, ◌≡◌, ◌≢◌, ℕ, zero, suc, inl, List, [], ◌∷◌, ◌++◌, take, slice_get, Option, Some, None, refl, ap, sym, subst, ◌∙◌, append_assoc, append-nil, lit<}
use Rattle.qasm_form.specs.declared.stmt.BodyOp.{BodyOp}
use Rattle.qasm_form.specs.declared.stmt.Stmt.{Stmt}
use Rattle.qasm_form.specs.declared.stmt.Stmt.TheVariants as stmt
use Rattle.qasm_names.specs.declared.fault.ScopeKind.{ScopeKind}
use Rattle.qasm_names.specs.declared.fault.ScopeKind.TheVariants as kind
use Rattle.qasm_names.specs.declared.gate.Target.{Target}
use Rattle.qasm_names.specs.declared.gate.Target.TheVariants as target
use Rattle.qasm_names.specs.declared.meaning.Callee.{Callee}
use Rattle.qasm_names.specs.declared.meaning.Callee.TheVariants as calls
use Rattle.qasm_names.specs.Accepted.{AreAdmissible, IsAdmissible, Context, behind}
use Rattle.qasm_names.specs.Entering.{DeclaresNew}
use Rattle.qasm_names.specs.Environment.{enter, enter_all, opening_names, environment}
use Rattle.qasm_names.specs.Names.{Environment, own_meaning, callee, target_of, value_or}
use Rattle.qasm_names.specs.Refusals.{Refuses}
use Rattle.qasm_names.specs.Scopes.{IsScope, bound_target, bound_targets}

-- no refusal of a statement
abbrev pub HasNoRefusal : Environment → List Stmt → Stmt → Type 0
HasNoRefusal e before s = (k : ScopeKind) (at : ℕ) → ¬ Refuses e before s k at

pub after-push : (e : Environment) (ss : List Stmt) (s : Stmt) → enter_all e (ss ++ s ∷ []) ≡ enter (enter_all e ss) s
after-push e [] s = refl
after-push e (x ∷ ss) s = after-push (enter e x) ss s

pub AreAdmissible-push : (header before ss : List Stmt) (s : Stmt) → AreAdmissible header before ss → IsAdmissible header (before ++ ss) s → AreAdmissible header before (ss ++ s ∷ [])
AreAdmissible-push header before [] s admissible here = let P : List Stmt → Type 0 = λ l. IsAdmissible header l s in (subst P (append-nil before) here, tt)
AreAdmissible-push header before (x ∷ ss) s admissible here =
    let P : List Stmt → Type 0 = λ l. IsAdmissible header l s in
    (admissible.0, AreAdmissible-push header (before ++ x ∷ []) ss s admissible.1 (subst P (sym (append_assoc before (x ∷ []) ss)) here))

pub bound_targets-push : (e : Environment) (ss : List Stmt) (s : Stmt) → bound_targets e (ss ++ s ∷ []) ≡ bound_targets e ss ++ bound_target (enter_all e ss) s ∷ []
bound_targets-push e [] s = refl
bound_targets-push e (x ∷ ss) s = ap (λ l. bound_target e x ∷ l) (bound_targets-push (enter e x) ss s)

pub bound_targets-at : (e : Environment) (ss : List Stmt) (i : ℕ) (s : Stmt) → slice_get ss i ≡ Some s → slice_get (bound_targets e ss) i ≡ Some (bound_target (enter_all e (take i ss)) s)
bound_targets-at e [] i s h = absurd (none_is_some h)
  where
    none_is_some : None ≡ Some s → ⊥
    none_is_some p = cc
bound_targets-at e (x ∷ ss) zero s h = ap Some (ap (λ y. bound_target e y) (same h))
  where
    same : Some x ≡ Some s → x ≡ s
    same p = cc
bound_targets-at e (x ∷ ss) (suc i) s h = bound_targets-at (enter e x) ss i s h

pub AreAdmissible-at : (header before ss : List Stmt) (i : ℕ) (s : Stmt) → AreAdmissible header before ss → slice_get ss i ≡ Some s → IsAdmissible header (before ++ take i ss) s
AreAdmissible-at header before [] i s admissible h = absurd (none_is_some h)
  where
    none_is_some : None ≡ Some s → ⊥
    none_is_some p = cc
AreAdmissible-at header before (x ∷ ss) zero s admissible h =
    let P : Stmt → Type 0 = λ y. IsAdmissible header (before ++ []) y in
    let Q : List Stmt → Type 0 = λ l. IsAdmissible header l x in
    subst P (same h) (subst Q (sym (append-nil before)) admissible.0)
  where
    same : Some x ≡ Some s → x ≡ s
    same p = cc
AreAdmissible-at header before (x ∷ ss) (suc i) s admissible h =
    let P : List Stmt → Type 0 = λ l. IsAdmissible header l s in
    subst P (append_assoc before (x ∷ []) (take i ss)) (AreAdmissible-at header (before ++ x ∷ []) ss i s admissible.1 h)

none_unless : {X : Type 0} (o : Option X) → (o ≢ None → ⊥) → o ≡ None
none_unless None h = refl
none_unless (Some x) h = absurd (h (λ p. apart p))
  where
    apart : Some x ≡ None → ⊥
    apart p = cc

some_same : {X : Type 0} {x y : X} → Some x ≡ Some y → x ≡ y
some_same h = cc

none_is_some : {X : Type 0} {x : X} → None ≡ Some x → ⊥
none_is_some h = cc

new_name : (e : Environment) (name x : List ℕ) → (own_meaning e name ≢ None → ⊥) → Some name ≡ Some x → own_meaning e x ≡ None
new_name e name x h p = let P : List ℕ → Type 0 = λ n. own_meaning e n ≡ None in subst P (some_same p) (none_unless (own_meaning e name) h)

-- a statement with no refusal declares no name that the file has declared
pub DeclaresNew-admissible : (e : Environment) (before : List Stmt) (s : Stmt) → HasNoRefusal e before s → DeclaresNew e s
DeclaresNew-admissible e before (stmt.Qreg name size at) admissible = λ x p. new_name e name x (λ d. admissible kind.Redeclared at (inl d, refl)) p
DeclaresNew-admissible e before (stmt.Creg name size at) admissible = λ x p. new_name e name x (λ d. admissible kind.Redeclared at (inl d, refl)) p
DeclaresNew-admissible e before (stmt.Gate name params args body at) admissible = λ x p. new_name e name x (λ d. admissible kind.Redeclared at (inl d, refl)) p
DeclaresNew-admissible e before (stmt.Opaque name params args at) admissible = λ x p. new_name e name x (λ d. admissible kind.Redeclared at (inl d, refl)) p
DeclaresNew-admissible e before other admissible = λ x p. absurd (none_is_some p)

-- a call with no refusal is bound to what it names
pub target-admissible : (e : Environment) (before : List Stmt) (call : BodyOp) → HasNoRefusal e before (stmt.Call call) → Some (bound_target e (stmt.Call call)) ≡ target_of (callee e call.name)
target-admissible e before call admissible = by (callee e call.name) refl
  where
    by : (c : Callee) → callee e call.name ≡ c → Some (value_or (target_of c) target.Barrier) ≡ target_of c
    by calls.Unknown p = absurd (admissible kind.UnknownGate call.at (0, call, lit< tt, refl, (p, refl)))
    by calls.Opaque p = absurd (admissible kind.Opaque call.at (0, call, lit< tt, refl, (p, refl)))
    by calls.Barrier p = refl
    by (calls.Gate t params args) p = refl

-- the judgement, where the context has another name
pub IsAdmissible-from : (header now_header before now : List Stmt) (e : Environment) (s : Stmt) → e ≡ environment header before → header ≡ now_header → before ≡ now → HasNoRefusal e before s → IsAdmissible now_header now s
IsAdmissible-from header now_header before now e s means h b admissible = λ k at refuses.
    let P : Environment → Type 0 = λ x. Refuses x before s k at in
    let Q : List Stmt → Type 0 = λ l. Refuses (environment now_header l) l s k at in
    let R : List Stmt → Type 0 = λ l. Refuses (environment l before) before s k at in
    admissible k at (subst P (sym means) (subst R (sym h) (subst Q (sym b) refuses)))

pub IsAdmissible-to : (header now_header before now : List Stmt) (e : Environment) (s : Stmt) → e ≡ environment header before → header ≡ now_header → before ≡ now → IsAdmissible now_header now s → HasNoRefusal e before s
IsAdmissible-to header now_header before now e s means h b admissible = λ k at refuses.
    let P : Environment → Type 0 = λ x. Refuses x before s k at in
    let Q : List Stmt → Type 0 = λ l. Refuses (environment now_header l) l s k at in
    let R : List Stmt → Type 0 = λ l. Refuses (environment l before) before s k at in
    admissible k at (subst Q b (subst R h (subst P means refuses)))

-- one statement more
pub IsScope-push : (header : List Stmt) (now : Context) (targets : List Target) (s : Stmt) → IsScope header now targets → IsAdmissible header now.before s → IsScope header (behind now s) (targets ++ bound_target now.environment s ∷ [])
IsScope-push header now targets s h admissible = record {
  means = ap (λ e. enter e s) h.means ∙ sym (after-push (opening_names header) now.before s);
  is_header = h.is_header;
  sound = h.sound;
  admissible = AreAdmissible-push header [] now.before s h.admissible admissible;
  bound = ap (λ l. l ++ bound_target now.environment s ∷ []) h.bound ∙ ap (λ e. bound_targets (opening_names header) now.before ++ bound_target e s ∷ []) h.means ∙ sym (bound_targets-push (opening_names header) now.before s);
}

-- the element that a look-up finds
pub get_or-at : {X : Type 0} (xs : List X) (i : ℕ) (x d : X) → slice_get xs i ≡ Some x → get_or xs i d ≡ x
get_or-at [] i x d h = absurd (none_is_some h)
get_or-at (y ∷ ys) zero x d h = some_same h
get_or-at (y ∷ ys) (suc i) x d h = get_or-at ys i x d h
