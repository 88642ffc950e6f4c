-- Where the bodies of all gates are well bound, all calls expand: a body calls earlier gates alone.
use Rattle.std.proofs.Common.{◌≡◌, ℕ, zero, suc, ◌<◌, List, [], ◌∷◌, ◌++◌, length, map, refl, subst, sym, ◌∙◌, append_assoc, arith}
use Rattle.std.specs.List.{AllByRecursion, range_with_len}
use Rattle.std.proofs.lemmas.List.{append-nil}
use Rattle.std.proofs.lemmas.List.Elements.{recursion_from_All}
use Rattle.zac_gates.specs.Ops.{NativeCircuit}
use Rattle.qasm_form.specs.declared.stmt.BodyOp.{BodyOp}
use Rattle.qasm_form.specs.declared.stmt.Arg.{Arg}
use Rattle.qasm_form.specs.declared.stmt.Node.{Node}
use Rattle.qasm_form.specs.declared.stmt.Stmt.{Stmt}
use Rattle.qasm_form.specs.declared.stmt.Stmt.TheVariants as stmt
use Rattle.qasm_names.specs.declared.fault.ScopeKind.TheVariants as kind
use Rattle.qasm_names.specs.declared.gate.Bound.{Bound}
use Rattle.qasm_names.specs.declared.gate.GateDef.{GateDef}
use Rattle.qasm_names.specs.declared.gate.Target.{Target}
use Rattle.qasm_names.specs.declared.gate.Target.TheVariants as target
use Rattle.qasm_names.specs.Names.{Environment}
use Rattle.qasm_names.specs.Environment.{enter, environment, opening_names}
use Rattle.qasm_names.specs.Applications.{applications}
use Rattle.qasm_names.specs.Accepted.{Program, IsAdmissible, AreAdmissible}
use Rattle.qasm_names.specs.Bound.{TargetTakes, IsWellBoundCall, IsWellBound}
use Rattle.qasm_expand.specs.Expansion.{IsExpansion}
use Rattle.qasm_expand.specs.Items.{Item, application, measurement, items_of, items_behind, program_items}
use Rattle.qasm_expand.specs.Items.Item.{Applied, Barrier, Measured}
use Rattle.qasm_expand.specs.Native.{native_circuit}
use Rattle.qasm_expand.specs.Replacing.{CallsOneOf, Expands, plain, replaces, IsPlain, inner, body_call, body_of}
use Rattle.qasm_expand.specs.Fit.{Suits}
use Rattle.qasm_expand.proofs.EnvironmentLemmas.{after-append}
use Rattle.qasm_expand.proofs.ExpandsLemmas.{expands_append}
use Rattle.qasm_expand.proofs.GateLemmas.{target_in, call_suits}
use Rattle.qasm_expand.proofs.SoundItems.{all_join}
use Rattle.qasm_expand.proofs.CallsLemmas.{gate_there}

-- calls, and what they expand to
pub record Expanded (gates : List GateDef) (items : List Item) : Type 0 where
  pub left : List Item
  pub expands : Expands gates items left

expanded_append : (gates : List GateDef) (xs ys : List Item) → Expanded gates xs → Expanded gates ys → Expanded gates (xs ++ ys)
expanded_append gates xs ys h k = record { left = h.left ++ k.left; expands = expands_append h.expands k.expands }

expanded_each : (gates : List GateDef) (items : List Item) → AllByRecursion (λ item. Expanded gates (item ∷ [])) items → Expanded gates items
expanded_each gates [] h = record { left = []; expands = plain tt }
expanded_each gates (item ∷ items) h = expanded_append gates (item ∷ []) items h.0 (expanded_each gates items h.1)

expanded_plain : (gates : List GateDef) (item : Item) → IsPlain item → Expanded gates (item ∷ [])
expanded_plain gates item h = record { left = item ∷ []; expands = plain (h, tt) }

-- the calls of the gate at this place
abbrev GateExpands : List GateDef → ℕ → Type 0
GateExpands gates place = (angles : List (List Node)) (qubits : List ℕ) → Expanded gates (Applied (target.Gate place) angles qubits ∷ [])

module _ (gates : List GateDef) (bound : (place : ℕ) → IsWellBound gates place) where
  expanded_inner : (n place exprs args : ℕ) (t : Target) (angles : List (List Node)) (qubits : List ℕ) → ((p : ℕ) → p < n → p < length gates → GateExpands gates p) → place < suc n → place < length gates → TargetTakes gates place exprs args t → Expanded gates (inner t angles qubits ∷ [])
  expanded_inner n place exprs args (target.Gate p) angles qubits below less there takes =
      below p (omega (arith, takes.0, less)) (omega (arith, takes.0, there)) angles qubits
  expanded_inner n place exprs args target.U angles qubits below less there takes = expanded_plain gates _ refl
  expanded_inner n place exprs args target.Cx angles qubits below less there takes = expanded_plain gates _ refl
  expanded_inner n place exprs args target.Cz angles qubits below less there takes = expanded_plain gates _ refl
  expanded_inner n place exprs args target.Barrier angles qubits below less there takes = expanded_plain gates _ refl

  expanded_body : (n place : ℕ) (g : GateDef) (put : List (List ℕ × List Node)) (qubits : List ℕ) (body : List Bound) → ((p : ℕ) → p < n → p < length gates → GateExpands gates p) → place < suc n → place < length gates → AllByRecursion (IsWellBoundCall gates place g) body → AllByRecursion (λ item. Expanded gates (item ∷ [])) (map (body_call put qubits) body)
  expanded_body n place g put qubits [] below less there h = tt
  expanded_body n place g put qubits (b ∷ body) below less there h =
      (expanded_inner n place (length b.exprs) (length b.args) b.target _ _ below less there h.0.takes, expanded_body n place g put qubits body below less there h.1)

  gates_expand : (n place : ℕ) → place < n → place < length gates → GateExpands gates place
  gates_expand zero place less there angles qubits = absurd (omega (arith, less))
  gates_expand (suc n) place less there angles qubits =
      let g = gate_there gates place there in
      let body = body_of g.0 angles qubits in
      let calls = recursion_from_All (IsWellBoundCall gates place g.0) g.0.body (bound place g.0 g.1) in
      let inside : Expanded gates body = expanded_each gates body (expanded_body n place g.0 _ qubits g.0.body (gates_expand n) less there calls) in
      let expands : Expands gates (body ++ []) inside.left = subst (λ xs. Expands gates xs inside.left) (sym (append-nil body)) inside.expands in
      record {
        left = inside.left;
        expands = replaces (record { front = []; place = place; angles = angles; qubits = qubits; rest = []; gate = g.0; plain = tt; is = refl; declared_at = g.1; becomes = refl }) expands;
      }

  item_expands : (item : Item) → CallsOneOf gates item → Expanded gates (item ∷ [])
  item_expands (Applied (target.Gate place) angles qubits) c = gates_expand (length gates) place c c angles qubits
  item_expands (Applied target.U angles qubits) c = expanded_plain gates _ refl
  item_expands (Applied target.Cx angles qubits) c = expanded_plain gates _ refl
  item_expands (Applied target.Cz angles qubits) c = expanded_plain gates _ refl
  item_expands (Applied target.Barrier angles qubits) c = expanded_plain gates _ refl
  item_expands Barrier c = expanded_plain gates _ refl
  item_expands (Measured qubit bit) c = expanded_plain gates _ refl

  pub items_expand : (items : List Item) → AllByRecursion (CallsOneOf gates) items → Expanded gates items
  items_expand [] h = record { left = []; expands = plain tt }
  items_expand (item ∷ items) h = expanded_append gates (item ∷ []) items (item_expands item h.0) (items_expand items h.1)

-- the calls of a program whose statements aren't refused name gates that are there
suited : (gates : List GateDef) (t : Target) (params args : ℕ) (angles : List (List Node)) (qubits : List ℕ) → Suits gates t params args → CallsOneOf gates (Applied t angles qubits)
suited gates (target.Gate place) params args angles qubits h = h.0
suited gates target.U params args angles qubits h = tt
suited gates target.Cx params args angles qubits h = tt
suited gates target.Cz params args angles qubits h = tt
suited gates target.Barrier params args angles qubits h = tt

calls_there : (gates : List GateDef) (all : List Stmt) (t : Target) (call : BodyOp) (ks : List ℕ) → Suits gates t (length call.exprs) (length call.args) → AllByRecursion (CallsOneOf gates) (map (application all t call) ks)
calls_there gates all t call [] h = tt
calls_there gates all t call (k ∷ ks) h =
    (suited gates t (length call.exprs) (length call.args) _ _ h, calls_there gates all t call ks h)

readings_there : (gates : List GateDef) (all : List Stmt) (from into : Arg) (ks : List ℕ) → AllByRecursion (CallsOneOf gates) (map (measurement all from into) ks)
readings_there gates all from into [] = tt
readings_there gates all from into (k ∷ ks) = (tt, readings_there gates all from into ks)

statement_there : (header pre suf : List Stmt) (s : Stmt) → IsAdmissible header pre s → AllByRecursion (CallsOneOf (environment header (pre ++ suf)).gates) (items_of (environment header pre) (pre ++ suf) s)
statement_there header pre suf (stmt.Call call) good =
    let e = environment header pre in
    let all = pre ++ suf in
    calls_there (environment header all).gates all (target_in e call) call (range_with_len 0 (applications e call.args)) (call_suits header pre suf call (λ h. good kind.Params call.at (0, call, omega arith, refl, (h, refl))) (λ h. good kind.Arity call.at (0, call, omega arith, refl, (h, refl))))
statement_there header pre suf (stmt.Measure from into at) good =
    let all = pre ++ suf in
    readings_there (environment header all).gates all from into (range_with_len 0 (applications (environment header pre) (from ∷ [])))
statement_there header pre suf (stmt.Barrier args at) good = (tt, tt)
statement_there header pre suf other good = tt

pub behind_there : (header pre suf all : List Stmt) → all ≡ pre ++ suf → AreAdmissible header pre suf → AllByRecursion (CallsOneOf (environment header all).gates) (items_behind (environment header pre) all suf)
behind_there header pre [] all is good = tt
behind_there header pre (s ∷ suf) all is good =
    let e = environment header pre in
    let there = CallsOneOf (environment header all).gates in
    let here : AllByRecursion there (items_of e all s) = subst (λ ss. AllByRecursion (CallsOneOf (environment header ss).gates) (items_of e ss s)) (sym is) (statement_there header pre (s ∷ suf) s good.0) in
    let later = behind_there header (pre ++ s ∷ []) suf all (is ∙ sym (append_assoc pre (s ∷ []) suf)) good.1 in
    let rest : AllByRecursion there (items_behind (enter e s) all suf) = subst (λ (x : Environment). AllByRecursion there (items_behind x all suf)) (after-append (opening_names header) pre (s ∷ [])) later in
    all_join there (items_of e all s) (items_behind (enter e s) all suf) here rest

-- such a program has a native list
pub program_expands : (p : Program) → AreAdmissible p.header [] p.statements → ((place : ℕ) → IsWellBound (environment p.header p.statements).gates place) → (c : NativeCircuit) × IsExpansion p c
program_expands p good bound =
    let e = items_expand (environment p.header p.statements).gates bound (program_items p.header p.statements) (behind_there p.header [] p.statements p.statements refl good) in
    (native_circuit p.statements e.left, record { items = e.left; expands = e.expands; is = refl })
