-- What the calls of a statement that isn't refused bring to the walk.
use Rattle.std.proofs.Common.{◌≡◌, ℕ, zero, suc, ◌+◌, ◌<◌, List, [], ◌∷◌, ◌++◌, length, take, drop, map, Option, Some, None, refl, ap, sym, ◌∙◌, subst, append_assoc, arith}
use Rattle.std.proofs.lemmas.List.{append-nil}
use Rattle.std.specs.Option.{option_or}
use Rattle.std.specs.List.{AllByRecursion, Any, Contains, slice_get, flat_map}
use Rattle.qasm_form.specs.declared.stmt.Arg.{Arg}
use Rattle.qasm_form.specs.declared.stmt.BodyOp.{BodyOp}
use Rattle.qasm_form.specs.declared.stmt.Expr.{Expr}
use Rattle.qasm_form.specs.declared.stmt.Node.{Node}
use Rattle.qasm_form.specs.declared.stmt.Node.TheVariants as node
use Rattle.qasm_form.specs.declared.stmt.Stmt.{Stmt}
use Rattle.qasm_form.specs.declared.stmt.Stmt.TheVariants as stmt
use Rattle.qasm_names.specs.declared.fault.ScopeKind.TheVariants as kind
use Rattle.qasm_names.specs.declared.gate.GateDef.{GateDef}
use Rattle.qasm_names.specs.Names.{Environment, qubit_size, value_or}
use Rattle.qasm_names.specs.Environment.{bound_call, bound_gate, enter, enter_all, environment, no_names, opening_names, words_of}
use Rattle.qasm_names.specs.Applications.{applications, times_by}
use Rattle.qasm_names.specs.Accepted.{IsAdmissible, AreAdmissible}
use Rattle.qasm_names.specs.Refusals.{UsesOther, UsesOtherIn}
use Rattle.qasm_names.specs.Scopes.{AreAdmissibleInHeader, IsVersionOrGate}
use Rattle.qasm_expand.specs.declared.kind.RegisterKind.{RegisterKind}
use Rattle.qasm_expand.specs.declared.kind.RegisterKind.TheVariants as register
use Rattle.qasm_expand.specs.declared.fault.LimitKind.TheVariants as limit
use Rattle.qasm_expand.specs.AngleNodes.{IsOver, HasNoNames}
use Rattle.qasm_expand.specs.Limits.{beyond, literal_of, literals_in, statement_literals, passed_by_literals, passed_by_sizes, qubit_sizes, bit_sizes, passed_before_calls}
use Rattle.qasm_expand.specs.RegisterKinds.{registers_in, registers_of}
use Rattle.qasm_expand.specs.Sized.{sized}
use Rattle.qasm_names.specs.Short.{IsShort, AreShortIn, HasShortNumbers}
use Rattle.qasm_expand.specs.Top.{AreShortBodies, HaveShortNumbers}
use Rattle.qasm_expand.proofs.BeforeLemmas.{both_none, not_beyond}
use Rattle.qasm_expand.proofs.EnvironmentLemmas.{IsBare, size_declared}
use Rattle.qasm_expand.proofs.AdmissibleLemmas.{IsAdmissibleArg, any_head, any_tail}
use Rattle.qasm_expand.proofs.LiteralsLemmas.{passed_by_literals-append}
use Rattle.qasm_expand.proofs.SizedLemmas.{qubit_size-sized}

-- the header declares no registers
none_of_gate : (kind : RegisterKind) (s : Stmt) → IsVersionOrGate s → registers_in kind s ≡ []
none_of_gate register.Qubit (stmt.Version number at) h = refl
none_of_gate register.Bit (stmt.Version number at) h = refl
none_of_gate register.Qubit (stmt.Gate name params args body at) h = refl
none_of_gate register.Bit (stmt.Gate name params args body at) h = refl
none_of_gate kind other h = absurd h

none_of_header : (before header : List Stmt) (kind : RegisterKind) → AreAdmissibleInHeader before header → registers_of kind header ≡ []
none_of_header before [] kind h = refl
none_of_header before (s ∷ header) kind h =
    ap (λ r. r ++ registers_of kind header) (none_of_gate kind s h.0.form) ∙ none_of_header (before ++ s ∷ []) header kind h.1

pub header_bare : (header : List Stmt) → AreAdmissibleInHeader [] header → IsBare header
header_bare header h kind = none_of_header [] header kind h

-- the statement at a place isn't refused behind those before it
pub record StandsAt (header ss : List Stmt) (i : ℕ) (s : Stmt) : Type 0 where
  pub admissible : IsAdmissible header (take i ss) s
  pub whole : ss ≡ take i ss ++ s ∷ drop (suc i) ss

stands_behind : (header before ss : List Stmt) (i : ℕ) (s : Stmt) → AreAdmissible header before ss → slice_get ss i ≡ Some s → IsAdmissible header (before ++ take i ss) s
stands_behind header before [] i s h at = cc
stands_behind header before (x ∷ ss) zero s h at =
    let same : x ≡ s = cc in subst (IsAdmissible header (before ++ [])) same (subst (λ b. IsAdmissible header b x) (sym (append-nil before)) h.0)
stands_behind header before (x ∷ ss) (suc i) s h at =
    subst (λ b. IsAdmissible header b s) (append_assoc before (x ∷ []) (take i ss)) (stands_behind header (before ++ x ∷ []) ss i s h.1 at)

whole_at : (ss : List Stmt) (i : ℕ) (s : Stmt) → slice_get ss i ≡ Some s → ss ≡ take i ss ++ s ∷ drop (suc i) ss
whole_at [] i s at = cc
whole_at (x ∷ ss) zero s at = let same : x ≡ s = cc in ap (λ y. y ∷ ss) same
whole_at (x ∷ ss) (suc i) s at = ap (λ ys. x ∷ ys) (whole_at ss i s at)

pub stands_at : (header ss : List Stmt) (i : ℕ) (s : Stmt) → AreAdmissible header [] ss → slice_get ss i ≡ Some s → StandsAt header ss i s
stands_at header ss i s h at = record { admissible = stands_behind header [] ss i s h at; whole = whole_at ss i s at }

-- short numbers
pub short_node : (n : Node) → passed_by_literals (literal_of n) ≡ None → IsShort n
short_node (node.Number text) h = not_beyond limit.Literal 40 (length text) (both_none (beyond limit.Literal 40 (length text)) None h).first
short_node other h = tt

short_nodes : (ns : List Node) → passed_by_literals (flat_map literal_of ns) ≡ None → AllByRecursion IsShort ns
short_nodes [] h = tt
short_nodes (n ∷ ns) h =
    let parts = both_none (passed_by_literals (literal_of n)) (passed_by_literals (flat_map literal_of ns)) (sym (passed_by_literals-append (literal_of n) (flat_map literal_of ns)) ∙ h) in
    (short_node n parts.first, short_nodes ns parts.second)

pub short_exprs : (exprs : List Expr) → passed_by_literals (literals_in exprs) ≡ None → AreShortIn exprs
short_exprs [] h = tt
short_exprs (expr ∷ exprs) h =
    let parts = both_none (passed_by_literals (flat_map literal_of expr)) (passed_by_literals (literals_in exprs)) (sym (passed_by_literals-append (flat_map literal_of expr) (literals_in exprs)) ∙ h) in
    (short_nodes expr parts.first, short_exprs exprs parts.second)

short_statement : (ss : List Stmt) (i : ℕ) (s : Stmt) → passed_by_literals (flat_map statement_literals ss) ≡ None → slice_get ss i ≡ Some s → passed_by_literals (statement_literals s) ≡ None
short_statement [] i s h at = cc
short_statement (x ∷ ss) zero s h at =
    let same : x ≡ s = cc in
    let parts = both_none (passed_by_literals (statement_literals x)) (passed_by_literals (flat_map statement_literals ss)) (sym (passed_by_literals-append (statement_literals x) (flat_map statement_literals ss)) ∙ h) in
    ap (λ y. passed_by_literals (statement_literals y)) (sym same) ∙ parts.first
short_statement (x ∷ ss) (suc i) s h at =
    let parts = both_none (passed_by_literals (statement_literals x)) (passed_by_literals (flat_map statement_literals ss)) (sym (passed_by_literals-append (statement_literals x) (flat_map statement_literals ss)) ∙ h) in
    short_statement ss i s parts.second at

-- angles of a call at the top have no names
contains_none : (name : List ℕ) → Contains [] name → ⊥
contains_none name (k, less, is) = omega (arith, less)

closed_node : (n : Node) → IsShort n → ((at : ℕ) → UsesOther [] at n → ⊥) → IsOver [] n
closed_node (node.Number text) short not = short
closed_node (node.Name name at) short not = absurd (not at (contains_none name, refl))
closed_node other short not = tt

closed_nodes : (ns : List Node) → AllByRecursion IsShort ns → ((at : ℕ) → Any (UsesOther [] at) ns → ⊥) → HasNoNames ns
closed_nodes [] short not = tt
closed_nodes (n ∷ ns) short not =
    (closed_node n short.0 (λ at h. not at (any_head (UsesOther [] at) n ns h)), closed_nodes ns short.1 (λ at h. not at (any_tail (UsesOther [] at) n ns h)))

closed_exprs : (exprs : List Expr) → AreShortIn exprs → ((at : ℕ) → UsesOtherIn [] exprs at → ⊥) → AllByRecursion HasNoNames exprs
closed_exprs [] short not = tt
closed_exprs (expr ∷ exprs) short not =
    (closed_nodes expr short.0 (λ at h. not at (any_head (λ (x : Expr). Any (UsesOther [] at) x) expr exprs h)), closed_exprs exprs short.1 (λ at h. not at (any_tail (λ (x : Expr). Any (UsesOther [] at) x) expr exprs h)))

pub call_closed : (header ss : List Stmt) (i : ℕ) (call : BodyOp) → IsAdmissible header (take i ss) (stmt.Call call) → passed_by_literals (flat_map statement_literals ss) ≡ None → slice_get ss i ≡ Some (stmt.Call call) → AllByRecursion HasNoNames call.exprs
call_closed header ss i call admissible short at =
    closed_exprs call.exprs (short_exprs call.exprs (short_statement ss i (stmt.Call call) short at)) (λ at h. admissible kind.Name at h)

-- a call is applied as often as by the program's registers
times_same : (e : Environment) (ss : List Stmt) (arg : Arg) (index : Option ℕ) (n m : ℕ) → n ≡ m → qubit_size e arg.word ≡ qubit_size (sized ss) arg.word → times_by e arg index n ≡ times_by (sized ss) arg index m
times_same e ss arg None n m same size = ap (λ o. value_or o 0) size
times_same e ss arg (Some i) n m same size = same

pub applications_same : (header pre suf : List Stmt) (args : List Arg) → IsBare header → AllByRecursion (IsAdmissibleArg register.Qubit (environment header pre)) args → applications (environment header pre) args ≡ applications (sized (pre ++ suf)) args
applications_same header pre suf [] bare admissible = refl
applications_same header pre suf (arg ∷ args) bare admissible =
    let e = environment header pre in
    let ss = pre ++ suf in
    let size : qubit_size e arg.word ≡ qubit_size (sized ss) arg.word = admissible.0.is ∙ sym (size_declared register.Qubit header pre suf arg.word admissible.0.size bare admissible.0.is) ∙ sym (qubit_size-sized ss arg.word) in
    times_same e ss arg arg.index (applications e args) (applications (sized ss) args) (applications_same header pre suf args bare admissible.1) size

-- numbers of statements that are short are short in the gates that these declare
short_list : (ops : List BodyOp) → passed_by_literals (flat_map (λ (op : BodyOp). literals_in op.exprs) ops) ≡ None → AllByRecursion (λ (op : BodyOp). AreShortIn op.exprs) ops
short_list [] h = tt
short_list (op ∷ ops) h =
    let others = flat_map (λ (o : BodyOp). literals_in o.exprs) ops in
    let parts = both_none (passed_by_literals (literals_in op.exprs)) (passed_by_literals others) (sym (passed_by_literals-append (literals_in op.exprs) others) ∙ h) in
    (short_exprs op.exprs parts.first, short_list ops parts.second)

short_in : (s : Stmt) → passed_by_literals (statement_literals s) ≡ None → HasShortNumbers s
short_in (stmt.Call call) h = (short_exprs call.exprs h, tt)
short_in (stmt.Gate name params args body at) h = short_list body h
short_in other h = tt

short_all : (ss : List Stmt) → passed_by_literals (flat_map statement_literals ss) ≡ None → AllByRecursion HasShortNumbers ss
short_all [] h = tt
short_all (s ∷ ss) h =
    let parts = both_none (passed_by_literals (statement_literals s)) (passed_by_literals (flat_map statement_literals ss)) (sym (passed_by_literals-append (statement_literals s) (flat_map statement_literals ss)) ∙ h) in
    (short_in s parts.first, short_all ss parts.second)

short_body : (e : Environment) (args : List (List ℕ)) (body : List BodyOp) → AllByRecursion (λ (op : BodyOp). AreShortIn op.exprs) body → AreShortBodies (map (bound_call e args) body)
short_body e args [] h = tt
short_body e args (op ∷ body) h = (h.0, short_body e args body h.1)

short_push : (gates : List GateDef) (g : GateDef) → HaveShortNumbers gates → AreShortBodies g.body → HaveShortNumbers (gates ++ g ∷ [])
short_push [] g h here = (here, tt)
short_push (x ∷ gates) g h here = (h.0, short_push gates g h.1 here)

short_enter : (e : Environment) (s : Stmt) → HaveShortNumbers e.gates → HasShortNumbers s → HaveShortNumbers (enter e s).gates
short_enter e (stmt.Gate name params args body at) gates short =
    short_push e.gates (bound_gate e params args body) gates (short_body e (words_of args) body short)
short_enter e (stmt.Include name at) gates short = gates
short_enter e (stmt.Qreg name size at) gates short = gates
short_enter e (stmt.Creg name size at) gates short = gates
short_enter e (stmt.Opaque name params args at) gates short = gates
short_enter e (stmt.Version number at) gates short = gates
short_enter e (stmt.Call call) gates short = gates
short_enter e (stmt.Measure from into at) gates short = gates
short_enter e (stmt.Reset arg at) gates short = gates
short_enter e (stmt.Barrier args at) gates short = gates
short_enter e (stmt.If at) gates short = gates

short_enter_all : (e : Environment) (ss : List Stmt) → HaveShortNumbers e.gates → AllByRecursion HasShortNumbers ss → HaveShortNumbers (enter_all e ss).gates
short_enter_all e [] gates short = gates
short_enter_all e (s ∷ ss) gates short = short_enter_all (enter e s) ss (short_enter e s gates short.0) short.1

-- no limit is passed before the calls, so the numbers of all gates are short
pub short_gates : (header ss : List Stmt) → AllByRecursion HasShortNumbers header → passed_before_calls ss ≡ None → HaveShortNumbers (environment header ss).gates
short_gates header ss short before =
    let literals = passed_by_literals (flat_map statement_literals ss) in
    let parts = both_none literals (option_or (passed_by_sizes limit.Qubits 4096 0 (flat_map qubit_sizes ss)) (passed_by_sizes limit.Bits 65536 0 (flat_map bit_sizes ss))) before in
    short_enter_all (opening_names header) ss (short_enter_all no_names header tt short) (short_all ss parts.first)
