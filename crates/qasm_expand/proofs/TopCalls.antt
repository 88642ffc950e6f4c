-- The applications of a call at the top, one behind the other.
use Rattle.std.proofs.Common.{◌≡◌, ℕ, zero, suc, ◌+◌, ◌-◌, ◌<◌, List, [], ◌∷◌, ◌++◌, map, refl, ap, sym, ◌∙◌, subst, arith}
use Rattle.std.specs.List.{range_with_len}
use Rattle.std.proofs.lemmas.List.{map-append}
use Rattle.std.proofs.lemmas.List.FromFn.{map-range_with_len_more}
use Rattle.qasm_form.specs.declared.stmt.Arg.{Arg}
use Rattle.qasm_form.specs.declared.stmt.BodyOp.{BodyOp}
use Rattle.qasm_form.specs.declared.stmt.Node.{Node}
use Rattle.qasm_form.specs.declared.stmt.Stmt.{Stmt}
use Rattle.qasm_names.specs.Applications.{applied}
use Rattle.qasm_names.specs.declared.gate.GateDef.{GateDef}
use Rattle.qasm_names.specs.declared.gate.Target.{Target}
use Rattle.qasm_expand.specs.declared.walk.Walk.{Walk}
use Rattle.qasm_expand.specs.declared.fault.ExpandFault.{ExpandFault}
use Rattle.qasm_expand.specs.declared.fault.ExpandFault.TheVariants as fault
use Rattle.qasm_expand.specs.Calls.{Visit, at_depth, none}
use Rattle.qasm_expand.specs.Faults.{IsFault}
use Rattle.qasm_expand.specs.Items.{Item, application, measurement, qubit_number, bit_number}
use Rattle.qasm_expand.specs.Items.Item.{Applied, Measured}
use Rattle.qasm_expand.specs.Limits.{passed_by_calls}
use Rattle.qasm_expand.specs.Walks.{Walks, Passes, VisitsCall}
use Rattle.qasm_expand.proofs.FaultsLemmas.{fault_memory}
use Rattle.qasm_expand.proofs.WalksLemmas.{walks_append, walks_plain, passes_first, passes_second, passes_plain}

pub ranges_same : (a b n m : ℕ) → a ≡ b → n ≡ m → range_with_len a n ≡ range_with_len b m
ranges_same a b n m e f = ap (λ k. range_with_len k n) e ∙ ap (λ k. range_with_len b k) f

-- a range in two parts
pub range_split : (a n m : ℕ) → range_with_len a (n + m) ≡ range_with_len a n ++ range_with_len (a + n) m
range_split a zero m = ranges_same a (a + 0) (0 + m) m (omega arith) (omega arith)
range_split a (suc n) m =
    let more : range_with_len a (suc n + m) ≡ range_with_len a (suc (n + m)) = ranges_same a a (suc n + m) (suc (n + m)) refl (omega arith) in
    let last : range_with_len (a + 1 + n) m ≡ range_with_len (a + suc n) m = ranges_same (a + 1 + n) (a + suc n) m m (omega arith) refl in
    more ∙ ap (λ xs. a ∷ xs) (range_split (a + 1) n m ∙ ap (λ xs. range_with_len (a + 1) n ++ xs) last)

-- the visits of the applications below k
abbrev pub first_visits : (ℕ → Item) → ℕ → List Visit
first_visits f k = at_depth 1 (map f (range_with_len 0 k))

pub first_split : (f : ℕ → Item) (k m : ℕ) → first_visits f (k + suc m) ≡ first_visits f k ++ (at_depth 1 (f k ∷ []) ++ at_depth 1 (map f (range_with_len (k + 1) m)))
first_split f k m =
    let start : range_with_len (0 + k) (suc m) ≡ range_with_len k (suc m) = ranges_same (0 + k) k (suc m) (suc m) (omega arith) refl in
    ap (λ xs. at_depth 1 (map f xs)) (range_split 0 k (suc m) ∙ ap (λ xs. range_with_len 0 k ++ xs) start) ∙ ap (at_depth 1) (map-append f (range_with_len 0 k) (k ∷ range_with_len (k + 1) m)) ∙ map-append _ (map f (range_with_len 0 k)) (f k ∷ map f (range_with_len (k + 1) m))

pub first_more : (f : ℕ → Item) (k : ℕ) → first_visits f (k + 1) ≡ first_visits f k ++ at_depth 1 (f k ∷ [])
first_more f k =
    ap (at_depth 1) (map-range_with_len_more f 0 k k (omega arith)) ∙ map-append _ (map f (range_with_len 0 k)) (f k ∷ [])

-- one more was visited
pub walks_more : (gates : List GateDef) (start old new : Walk) (f : ℕ → Item) (k : ℕ) → Walks gates start old (first_visits f k) → Walks gates old new (at_depth 1 (f k ∷ [])) → Walks gates start new (first_visits f (k + 1))
walks_more gates start old new f k h w =
    subst (Walks gates start new) (sym (first_more f k)) (walks_append gates start old new (first_visits f k) (at_depth 1 (f k ∷ [])) h w)

split_at : (k n : ℕ) → k < n → k + suc (n - suc k) ≡ n
split_at k n h = omega arith

-- one passes a limit
pub walks_fails : (gates : List GateDef) (start old : Walk) (f : ℕ → Item) (k n : ℕ) (e : ExpandFault) → k < n → Walks gates start old (first_visits f k) → Passes gates old (at_depth 1 (f k ∷ [])) e → Passes gates start (first_visits f n) e
walks_fails gates start old f k n e less h p =
    let rest = at_depth 1 (map f (range_with_len (k + 1) (n - suc k))) in
    let all = passes_second gates start old (first_visits f k) (at_depth 1 (f k ∷ []) ++ rest) e h (passes_first gates old (at_depth 1 (f k ∷ [])) rest e p) in
    let is : first_visits f n ≡ first_visits f k ++ (at_depth 1 (f k ∷ []) ++ rest) = ap (first_visits f) (sym (split_at k n less)) ∙ first_split f k (n - suc k) in
    subst (λ xs. Passes gates start xs e) (sym is) all

-- there was no memory
pub memory_passes : (gates : List GateDef) (old : Walk) (xs : List Visit) (e : ExpandFault) → e ≡ fault.Memory → Passes gates old xs e
memory_passes gates old xs e is = record { visited = []; left = xs; some = none; first = fault_memory (passed_by_calls old.calls old.nodes []) e is }

-- a call in one application
pub application_is : (all : List Stmt) (t : Target) (call : BodyOp) (k : ℕ) (angles : List (List Node)) (qubits : List ℕ) (args : List Arg) → angles ≡ call.exprs → args ≡ call.args → qubits ≡ map (λ (arg : Arg). qubit_number all (applied arg k)) args → Applied t angles qubits ≡ application all t call k
application_is all t call k angles qubits args same_angles same_args is =
    ap (λ a. Applied t a qubits) same_angles ∙ ap (λ q. Applied t call.exprs q) (is ∙ ap (λ (xs : List Arg). map (λ (arg : Arg). qubit_number all (applied arg k)) xs) same_args)

pub reading_is : (all : List Stmt) (from into : Arg) (k q b : ℕ) → q ≡ qubit_number all (applied from k) → b ≡ bit_number all (applied into k) → Measured q b ≡ measurement all from into k
reading_is all from into k q b e h = ap (λ x. Measured x b) e ∙ ap (λ x. Measured (qubit_number all (applied from k)) x) h

-- a measurement in one application
pub measure_walks : (gates : List GateDef) (old new : Walk) (i : Item) (q b : ℕ) → Measured q b ≡ i → VisitsCall old new (record { depth = 1; item = Measured q b }) → Walks gates old new (at_depth 1 (i ∷ []))
measure_walks gates old new i q b same h =
    subst (λ (x : Item). Walks gates old new (at_depth 1 (x ∷ []))) same (walks_plain gates old new (record { depth = 1; item = Measured q b }) tt refl h)

pub measure_passes : (gates : List GateDef) (old : Walk) (i : Item) (q b : ℕ) (e : ExpandFault) → Measured q b ≡ i → IsFault (passed_by_calls old.calls old.nodes (record { depth = 1; item = Measured q b } ∷ [])) e → Passes gates old (at_depth 1 (i ∷ [])) e
measure_passes gates old i q b e same h =
    subst (λ (x : Item). Passes gates old (at_depth 1 (x ∷ [])) e) same (passes_plain gates old (record { depth = 1; item = Measured q b }) e h)
