-- The visits of the statement at a place.
use Rattle.std.proofs.Common.{◌≡◌, ℕ, zero, suc, ◌<◌, List, [], ◌∷◌, length, take, get_or, Some, refl, ap, sym, ◌∙◌, arith}
use Rattle.std.specs.List.{slice_get}
use Rattle.qasm_form.specs.declared.stmt.Arg.{Arg}
use Rattle.qasm_form.specs.declared.stmt.BodyOp.{BodyOp}
use Rattle.qasm_form.specs.declared.stmt.Stmt.{Stmt}
use Rattle.qasm_form.specs.declared.stmt.Stmt.TheVariants as stmt
use Rattle.qasm_names.specs.declared.gate.Target.{Target}
use Rattle.qasm_names.specs.declared.gate.Target.TheVariants as target
use Rattle.qasm_names.specs.Accepted.{Program}
use Rattle.qasm_names.specs.Environment.{environment}
use Rattle.qasm_names.specs.Names.{callee, target_of, value_or}
use Rattle.qasm_expand.specs.Calls.{at_depth}
use Rattle.qasm_expand.specs.Items.{items_of}
use Rattle.qasm_expand.specs.Top.{visits_of, readings_of, visits_in, visits_at}
use Rattle.qasm_expand.proofs.GateLemmas.{target_in}

get_read : {X : Type 0} (xs : List X) (i : ℕ) (x : X) → i < length xs → x ≡ get_or xs i x → slice_get xs i ≡ Some x
get_read [] i x less is = absurd (omega arith)
get_read (y ∷ xs) zero x less is = ap (λ z. Some z) (sym is)
get_read (y ∷ xs) (suc i) x less is = get_read xs i x (omega arith) is

-- the statement that was read at a place
pub stmt_at : (xs own : List Stmt) (i : ℕ) (x y : Stmt) → xs ≡ own → i < length own → x ≡ get_or xs i x → x ≡ y → slice_get own i ≡ Some y
stmt_at xs own i x y same less is read =
    get_read own i x less (is ∙ ap (λ zs. get_or zs i x) same) ∙ ap (λ z. Some z) read

-- its target
pub target_read : (p : Program) (i : ℕ) (call : BodyOp) (t : Target) → Some t ≡ target_of (callee (environment p.header (take i p.statements)) call.name) → t ≡ target_in (environment p.header (take i p.statements)) call
target_read p i call t is = ap (λ o. value_or o target.Barrier) is

-- its visits
pub call_visits : (p : Program) (i : ℕ) (call : BodyOp) (own : List Stmt) (t : Target) → own ≡ p.statements → t ≡ target_in (environment p.header (take i p.statements)) call → visits_of p.statements (target_in (environment p.header (take i p.statements)) call) call ≡ at_depth 1 (items_of (environment p.header (take i p.statements)) p.statements (stmt.Call call)) → slice_get p.statements i ≡ Some (stmt.Call call) → visits_of own t call ≡ visits_at p i
call_visits p i call own t same is visits at =
    ap (λ all. visits_of all t call) same ∙ ap (λ x. visits_of p.statements x call) is ∙ visits ∙ ap (visits_in p i) (sym at)

pub reading_visits : (p : Program) (i : ℕ) (from into : Arg) (start : ℕ) (own : List Stmt) → own ≡ p.statements → readings_of p.statements from into ≡ at_depth 1 (items_of (environment p.header (take i p.statements)) p.statements (stmt.Measure from into start)) → slice_get p.statements i ≡ Some (stmt.Measure from into start) → readings_of own from into ≡ visits_at p i
reading_visits p i from into start own same visits at =
    ap (λ all. readings_of all from into) same ∙ visits ∙ ap (visits_in p i) (sym at)

pub other_visits : (p : Program) (i : ℕ) (s : Stmt) → slice_get p.statements i ≡ Some s → ((call : BodyOp) → s ≡ stmt.Call call → ⊥) → ((from into : Arg) (at : ℕ) → s ≡ stmt.Measure from into at → ⊥) → ((args : List Arg) (at : ℕ) → s ≡ stmt.Barrier args at → ⊥) → [] ≡ visits_at p i
other_visits p i (stmt.Call call) at no_call no_measure no_barrier = absurd (no_call call refl)
other_visits p i (stmt.Measure from into start) at no_call no_measure no_barrier = absurd (no_measure from into start refl)
other_visits p i (stmt.Barrier args start) at no_call no_measure no_barrier = absurd (no_barrier args start refl)
other_visits p i other at no_call no_measure no_barrier = ap (visits_in p i) (sym at)
