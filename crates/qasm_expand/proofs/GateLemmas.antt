-- A call that isn't refused has as many angles and arguments as its gate asks for.
use Rattle.std.proofs.Common.{◌≡◌, ℕ, zero, suc, Bool, true, false, cond, List, [], ◌∷◌, ◌++◌, length, Option, Some, None, refl, sym, subst, codes, arith, length-append}
use Rattle.std.specs.List.{AllByRecursion, slice_get}
use Rattle.std.specs.Map.{lookup}
use Rattle.std.specs.Option.{option_or}
use Rattle.std.specs.Str.{bytes_eq}
use Rattle.std.proofs.lemmas.List.{length-map}
use Rattle.qasm_form.specs.declared.stmt.BodyOp.{BodyOp}
use Rattle.qasm_form.specs.declared.stmt.Named.{Named}
use Rattle.qasm_form.specs.declared.stmt.Stmt.{Stmt}
use Rattle.qasm_form.specs.declared.stmt.Stmt.TheVariants as stmt
use Rattle.qasm_names.specs.declared.gate.GateDef.{GateDef}
use Rattle.qasm_names.specs.declared.gate.Target.{Target}
use Rattle.qasm_names.specs.declared.gate.Target.TheVariants as target
use Rattle.qasm_names.specs.declared.meaning.Callee.{Callee}
use Rattle.qasm_names.specs.declared.meaning.Callee.TheVariants as calls
use Rattle.qasm_names.specs.declared.meaning.Meaning.{Meaning}
use Rattle.qasm_names.specs.declared.meaning.Meaning.TheVariants as means
use Rattle.qasm_names.specs.Names.{Environment, Declarations, meaning, callee, callee_of, target_of, value_or}
use Rattle.qasm_names.specs.Environment.{bound_gate, enter, enter_all, opening_names, no_names, environment}
use Rattle.qasm_names.specs.Refusals.{HasOtherParams, HasOtherArity}
use Rattle.qasm_expand.specs.Fit.{Suits}
use Rattle.qasm_expand.proofs.EnvironmentLemmas.{after-append}
use Rattle.qasm_expand.proofs.AdmissibleLemmas.{same_number}
use Rattle.qasm_expand.proofs.SoundItems.{all_join, all_mapped}

-- the gate at this place has so many parameters and arguments
abbrev pub HasGate : List GateDef → ℕ → ℕ → ℕ → Type 0
HasGate gates place params args = Suits gates (target.Gate place) params args

-- a name that stands for a gate with a body has it
abbrev pub IsKnown : List GateDef → Meaning → Type 0
IsKnown gates (means.Gate place params args) = HasGate gates place params args
IsKnown gates other = Unit {0}

pub record AreKnown (e : Environment) : Type 0 where
  pub own : AllByRecursion (λ d. IsKnown e.gates d.1) e.own
  pub header : AllByRecursion (λ d. IsKnown e.gates d.1) e.header

pub get_append : {X : Type 0} (xs ys : List X) (i : ℕ) (x : X) → slice_get xs i ≡ Some x → slice_get (xs ++ ys) i ≡ Some x
get_append [] ys i x h = cc
get_append (y ∷ xs) ys zero x h = h
get_append (y ∷ xs) ys (suc i) x h = get_append xs ys i x h

pub get_last : {X : Type 0} (xs : List X) (x : X) → slice_get (xs ++ x ∷ []) (length xs) ≡ Some x
get_last [] x = refl
get_last (y ∷ xs) x = get_last xs x

pub gate_stays : (gates more : List GateDef) (place params args : ℕ) → HasGate gates place params args → HasGate (gates ++ more) place params args
gate_stays gates more place params args (less, g, at, p, a) = (omega (arith, less, length-append gates more), g, get_append gates more place g at, p, a)

known_stays : (gates more : List GateDef) (m : Meaning) → IsKnown gates m → IsKnown (gates ++ more) m
known_stays gates more (means.Gate place params args) h = gate_stays gates more place params args h
known_stays gates more other h = tt

all_stay : (gates more : List GateDef) (ds : Declarations) → AllByRecursion (λ d. IsKnown gates d.1) ds → AllByRecursion (λ d. IsKnown (gates ++ more) d.1) ds
all_stay gates more ds h = all_mapped (λ d. IsKnown gates d.1) (λ d. IsKnown (gates ++ more) d.1) (λ d k. known_stays gates more d.1 k) ds h

new_gate : (e : Environment) (params args : List Named) (body : List BodyOp) → HasGate (e.gates ++ bound_gate e params args body ∷ []) (length e.gates) (length params) (length args)
new_gate e params args body =
    let g = bound_gate e params args body in
    (omega (arith, length-append e.gates (g ∷ [])), g, get_last e.gates g, sym (length-map params (λ (n : Named). n.word)), refl)

enter_known : (e : Environment) (s : Stmt) → AreKnown e → AreKnown (enter e s)
enter_known e (stmt.Qreg name size at) h = record { own = all_join (λ d. IsKnown e.gates d.1) e.own _ h.own (tt, tt); header = h.header }
enter_known e (stmt.Creg name size at) h = record { own = all_join (λ d. IsKnown e.gates d.1) e.own _ h.own (tt, tt); header = h.header }
enter_known e (stmt.Gate name params args body at) h =
    let more = bound_gate e params args body ∷ [] in
    record {
      own = all_join (λ d. IsKnown (e.gates ++ more) d.1) e.own _ (all_stay e.gates more e.own h.own) (new_gate e params args body, tt);
      header = all_stay e.gates more e.header h.header;
    }
enter_known e (stmt.Opaque name params args at) h = record { own = all_join (λ d. IsKnown e.gates d.1) e.own _ h.own (tt, tt); header = h.header }
enter_known e (stmt.Include name at) h = record { own = h.own; header = h.header }
enter_known e other h = h

after_known : (e : Environment) (ss : List Stmt) → AreKnown e → AreKnown (enter_all e ss)
after_known e [] h = h
after_known e (s ∷ ss) h = after_known (enter e s) ss (enter_known e s h)

pub environment_known : (header ss : List Stmt) → AreKnown (environment header ss)
environment_known header ss =
    let made = after_known no_names header (record { own = tt; header = tt }) in
    after_known (opening_names header) ss (record { own = tt; header = all_join (λ d. IsKnown (enter_all no_names header).gates d.1) (enter_all no_names header).own _ made.own (tt, tt) })

-- a gate stays
gate_enter : (e : Environment) (s : Stmt) (place params args : ℕ) → HasGate e.gates place params args → HasGate (enter e s).gates place params args
gate_enter e (stmt.Gate name ps qs body at) place params args h = gate_stays e.gates (bound_gate e ps qs body ∷ []) place params args h
gate_enter e other place params args h = h

gate_after : (e : Environment) (ss : List Stmt) (place params args : ℕ) → HasGate e.gates place params args → HasGate (enter_all e ss).gates place params args
gate_after e [] place params args h = h
gate_after e (s ∷ ss) place params args h = gate_after (enter e s) ss place params args (gate_enter e s place params args h)

suits_after : (e : Environment) (ss : List Stmt) (t : Target) (params args : ℕ) → Suits e.gates t params args → Suits (enter_all e ss).gates t params args
suits_after e ss (target.Gate place) params args h = gate_after e ss place params args h
suits_after e ss other params args h = h

-- what a name stands for is known
cond_known : (gates : List GateDef) (b : Bool) (m : Meaning) (o : Option Meaning) → IsKnown gates m → ((x : Meaning) → o ≡ Some x → IsKnown gates x) → (x : Meaning) → cond b (Some m) o ≡ Some x → IsKnown gates x
cond_known gates true m o h rest x e = let same : m ≡ x = cc in subst (IsKnown gates) same h
cond_known gates false m o h rest x e = rest x e

lookup_known : (gates : List GateDef) (test : List ℕ → Bool) (ds : Declarations) → AllByRecursion (λ d. IsKnown gates d.1) ds → (x : Meaning) → lookup test ds ≡ Some x → IsKnown gates x
lookup_known gates test [] h x e = cc
lookup_known gates test (d ∷ ds) h x e = cond_known gates (test d.0) d.1 (lookup test ds) h.0 (lookup_known gates test ds h.1) x e

or_known : (gates : List GateDef) (b : Bool) (own header : Option Meaning) → ((x : Meaning) → own ≡ Some x → IsKnown gates x) → ((x : Meaning) → header ≡ Some x → IsKnown gates x) → (x : Meaning) → option_or own (cond b header None) ≡ Some x → IsKnown gates x
or_known gates b (Some m) header h k x e = h x e
or_known gates true None header h k x e = k x e
or_known gates false None header h k x e = cc

meaning_known : (e : Environment) (name : List ℕ) → AreKnown e → (x : Meaning) → meaning e name ≡ Some x → IsKnown e.gates x
meaning_known e name h = or_known e.gates e.included (lookup (bytes_eq name) e.own) (lookup (bytes_eq name) e.header) (lookup_known e.gates (bytes_eq name) e.own h.own) (lookup_known e.gates (bytes_eq name) e.header h.header)

-- a callee that is a gate with a body has it
abbrev pub IsCallable : List GateDef → Callee → Type 0
IsCallable gates (calls.Gate t params args) = Suits gates t params args
IsCallable gates other = Unit {0}

callee_known : (gates : List GateDef) (o : Option Meaning) → ((x : Meaning) → o ≡ Some x → IsKnown gates x) → IsCallable gates (callee_of o)
callee_known gates None h = tt
callee_known gates (Some (means.Gate place params args)) h = h (means.Gate place params args) refl
callee_known gates (Some means.Native) h = (refl, refl)
callee_known gates (Some other) h = tt

cond_callable : (gates : List GateDef) (b : Bool) (x y : Callee) → IsCallable gates x → IsCallable gates y → IsCallable gates (cond b x y)
cond_callable gates true x y h k = h
cond_callable gates false x y h k = k

callee_callable : (e : Environment) (name : List ℕ) → AreKnown e → IsCallable e.gates (callee e name)
callee_callable e name h =
    let last = callee_known e.gates (meaning e name) (meaning_known e name h) in
    let third = cond_callable e.gates (bytes_eq name (codes "barrier")) calls.Barrier (callee_of (meaning e name)) tt last in
    let second = cond_callable e.gates (bytes_eq name (codes "CX")) (calls.Gate target.Cx 0 2) _ (refl, refl) third in
    cond_callable e.gates (bytes_eq name (codes "U")) (calls.Gate target.U 3 1) _ (refl, refl) second

-- the call of a callee that isn't refused
suits_callee : (gates : List GateDef) (c : Callee) (call : BodyOp) → IsCallable gates c → (HasOtherParams c call → ⊥) → (HasOtherArity c call → ⊥) → Suits gates (value_or (target_of c) target.Barrier) (length call.exprs) (length call.args)
suits_callee gates (calls.Gate t params args) call h p a =
    let same_params : length call.exprs ≡ params = same_number (length call.exprs) params p in
    let same_args : length call.args ≡ args = same_number (length call.args) args a in
    subst (λ n. Suits gates t n (length call.args)) (sym same_params) (subst (λ n. Suits gates t params n) (sym same_args) h)
suits_callee gates calls.Unknown call h p a = tt
suits_callee gates calls.Opaque call h p a = tt
suits_callee gates calls.Barrier call h p a = tt

-- the target of a call behind some statements, among the gates of the program
abbrev pub target_in : Environment → BodyOp → Target
target_in e call = value_or (target_of (callee e call.name)) target.Barrier

pub call_suits : (header pre suf : List Stmt) (call : BodyOp) → (HasOtherParams (callee (environment header pre) call.name) call → ⊥) → (HasOtherArity (callee (environment header pre) call.name) call → ⊥) → Suits (environment header (pre ++ suf)).gates (target_in (environment header pre) call) (length call.exprs) (length call.args)
call_suits header pre suf call p a =
    let e = environment header pre in
    let here = suits_callee e.gates (callee e call.name) call (callee_callable e call.name (environment_known header pre)) p a in
    let there = suits_after e suf (target_in e call) (length call.exprs) (length call.args) here in
    subst (λ (x : Environment). Suits x.gates (target_in e call) (length call.exprs) (length call.args)) (sym (after-append (opening_names header) pre suf)) there
