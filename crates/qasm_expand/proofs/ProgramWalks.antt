-- The visits of all statements, one behind the other, are those of the program.
use Rattle.std.proofs.Common.{◌≡◌, ℕ, suc, ◌+◌, ◌-◌, ◌<◌, List, [], ◌∷◌, ◌++◌, length, take, Some, refl, ap, sym, ◌∙◌, subst, append_assoc, arith}
use Rattle.std.specs.List.{flat_map, slice_get, range_with_len}
use Rattle.std.proofs.lemmas.List.{append-nil, map-append, take_at, length-append}
use Rattle.std.proofs.lemmas.List.Concat.{flat_map-append}
use Rattle.qasm_form.specs.declared.stmt.Stmt.{Stmt}
use Rattle.qasm_names.specs.Names.{Environment}
use Rattle.qasm_names.specs.declared.gate.GateDef.{GateDef}
use Rattle.qasm_names.specs.Accepted.{Program}
use Rattle.qasm_names.specs.Environment.{enter, environment, opening_names}
use Rattle.qasm_expand.specs.Calls.{at_depth}
use Rattle.qasm_expand.specs.Expansion.{top_calls}
use Rattle.qasm_expand.specs.Items.{items_of, items_behind}
use Rattle.qasm_expand.specs.Top.{visits_in, visits_at, visits_below}
use Rattle.qasm_expand.specs.Walks.{Walks, Passes}
use Rattle.qasm_expand.specs.declared.fault.ExpandFault.{ExpandFault}
use Rattle.qasm_expand.specs.declared.walk.Walk.{Walk}
use Rattle.qasm_expand.proofs.EnvironmentLemmas.{after-append}
use Rattle.qasm_expand.proofs.TopCalls.{ranges_same, range_split}
use Rattle.qasm_expand.proofs.WalksLemmas.{walks_append, passes_first, passes_second}

below_split : (p : Program) (i m : ℕ) → visits_below p (i + suc m) ≡ visits_below p i ++ (visits_at p i ++ flat_map (visits_at p) (range_with_len (i + 1) m))
below_split p i m =
    let start : range_with_len (0 + i) (suc m) ≡ range_with_len i (suc m) = ranges_same (0 + i) i (suc m) (suc m) (omega arith) refl in
    ap (flat_map (visits_at p)) (range_split 0 i (suc m) ∙ ap (λ xs. range_with_len 0 i ++ xs) start) ∙ flat_map-append (visits_at p) (range_with_len 0 i) (range_with_len i (suc m))

pub below_more : (p : Program) (i : ℕ) → visits_below p (i + 1) ≡ visits_below p i ++ visits_at p i
below_more p i =
    below_split p i 0 ∙ ap (λ xs. visits_below p i ++ xs) (append-nil (visits_at p i))

split_at : (i n : ℕ) → i < n → i + suc (n - suc i) ≡ n
split_at i n h = omega arith

pub below_fails : (p : Program) (gates : List GateDef) (start old : Walk) (i n : ℕ) (e : ExpandFault) → i < n → Walks gates start old (visits_below p i) → Passes gates old (visits_at p i) e → Passes gates start (visits_below p n) e
below_fails p gates start old i n e less h k =
    let rest = flat_map (visits_at p) (range_with_len (i + 1) (n - suc i)) in
    let all = passes_second gates start old (visits_below p i) (visits_at p i ++ rest) e h (passes_first gates old (visits_at p i) rest e k) in
    let is : visits_below p n ≡ visits_below p i ++ (visits_at p i ++ rest) = ap (visits_below p) (sym (split_at i n less)) ∙ below_split p i (n - suc i) in
    subst (λ xs. Passes gates start xs e) (sym is) all

pub walks_below_more : (p : Program) (gates : List GateDef) (start old new : Walk) (i : ℕ) → Walks gates start old (visits_below p i) → Walks gates old new (visits_at p i) → Walks gates start new (visits_below p (i + 1))
walks_below_more p gates start old new i h w =
    subst (Walks gates start new) (sym (below_more p i)) (walks_append gates start old new (visits_below p i) (visits_at p i) h w)

-- the statement behind these
get_behind : (pre suf : List Stmt) (s : Stmt) → slice_get (pre ++ s ∷ suf) (length pre) ≡ Some s
get_behind [] suf s = refl
get_behind (x ∷ pre) suf s = get_behind pre suf s

at_behind : (header pre suf all : List Stmt) (s : Stmt) → all ≡ pre ++ s ∷ suf → visits_at (record { header = header; statements = all }) (length pre) ≡ at_depth 1 (items_of (environment header pre) all s)
at_behind header pre suf all s is =
    let p : Program = record { header = header; statements = all } in
    let got : slice_get all (length pre) ≡ Some s = ap (λ xs. slice_get xs (length pre)) is ∙ get_behind pre suf s in
    let front : take (length pre) all ≡ pre = ap (take (length pre)) is ∙ take_at pre (s ∷ suf) (length pre) refl in
    ap (visits_in p (length pre)) got ∙ ap (λ xs. at_depth 1 (items_of (environment header xs) all s)) front

behind_visits : (header pre suf all : List Stmt) → all ≡ pre ++ suf → at_depth 1 (items_behind (environment header pre) all suf) ≡ flat_map (visits_at (record { header = header; statements = all })) (range_with_len (length pre) (length suf))
behind_visits header pre [] all is = refl
behind_visits header pre (s ∷ suf) all is =
    let e = environment header pre in
    let p : Program = record { header = header; statements = all } in
    let more = behind_visits header (pre ++ s ∷ []) suf all (is ∙ sym (append_assoc pre (s ∷ []) suf)) in
    let count : length (pre ++ s ∷ []) ≡ length pre + 1 = length-append pre (s ∷ []) in
    let rest : at_depth 1 (items_behind (enter e s) all suf) ≡ flat_map (visits_at p) (range_with_len (length pre + 1) (length suf)) = ap (λ (x : Environment). at_depth 1 (items_behind x all suf)) (sym (after-append (opening_names header) pre (s ∷ []))) ∙ more ∙ ap (λ n. flat_map (visits_at p) (range_with_len n (length suf))) count in
    map-append _ (items_of e all s) (items_behind (enter e s) all suf) ∙ ap (λ xs. xs ++ at_depth 1 (items_behind (enter e s) all suf)) (sym (at_behind header pre suf all s is)) ∙ ap (λ xs. visits_at p (length pre) ++ xs) rest

pub all_visits : (p : Program) → visits_below p (length p.statements) ≡ top_calls p
all_visits p = sym (behind_visits p.header [] p.statements p.statements refl)
