-- The kinds of refusals, one by one and in their order.
use Rattle.std.proofs.Common.{◌≡◌, ℕ, ◌+◌, ◌<◌, ◌≤◌, ◌⊎◌, inl, inr, List, [], ◌++◌, get_or, Option, Some, None, refl, sym, ◌∙◌, ap, subst, lit<, zero-add, arith}
use Rattle.std.specs.List.{Any}
use Rattle.std.proofs.lemmas.List.{get_or-map}
use Rattle.std.proofs.lemmas.List.FromFn.{get_or-range_with_len}
use Rattle.qasm_form.specs.declared.stmt.BodyOp.{BodyOp}
use Rattle.qasm_form.specs.declared.stmt.Expr.{Expr}
use Rattle.qasm_form.specs.declared.stmt.Named.{Named}
use Rattle.qasm_form.specs.declared.stmt.Stmt.{Stmt}
use Rattle.qasm_form.specs.declared.stmt.Stmt.TheVariants as stmt
use Rattle.qasm_scope.specs.declared.calls.CallFault.TheVariants as call_fault
use Rattle.qasm_names.specs.declared.fault.ScopeKind.{ScopeKind}
use Rattle.qasm_names.specs.declared.fault.ScopeKind.TheVariants as kind
use Rattle.qasm_names.specs.Names.{Environment}
use Rattle.qasm_names.specs.Environment.{words_of}
use Rattle.qasm_scope.specs.Judged.{HasCallFaultAt, kinds_in_order}
use Rattle.qasm_scope.specs.Least.{IsLeastOffset, earlier}
use Rattle.qasm_names.specs.Refusals.{Refuses, IsFirstRefusal, rank, HasName, HasRepeated, ComesTwice, UsesUndeclared, UsesOtherIn}
use Rattle.qasm_scope.proofs.TestLemmas.{below_or_here}
use Rattle.qasm_scope.proofs.LeastLemmas.{either_least}

pub repeated_gate : (e : Environment) {s : Stmt} {name : List ℕ} {params args : List Named} {body calls : List BodyOp} {at : ℕ} {o : Option ℕ} → s ≡ stmt.Gate name params args body at → calls ≡ body → IsLeastOffset (HasCallFaultAt e call_fault.Repeated calls) o → IsLeastOffset (HasRepeated e s) o
repeated_gate e {o} is same h =
    subst (λ (x : Stmt). IsLeastOffset (HasRepeated e x) o) (sym is) (subst (λ (xs : List BodyOp). IsLeastOffset (HasCallFaultAt e call_fault.Repeated xs) o) same h)

twice_same : {ps params qs args : List Named} {o : Option ℕ} → ps ≡ params → qs ≡ args → IsLeastOffset (ComesTwice (ps ++ qs)) o → IsLeastOffset (ComesTwice (params ++ args)) o
twice_same {params} {qs} {o} p q h =
    subst (λ (xs : List Named). IsLeastOffset (ComesTwice (params ++ xs)) o) q (subst (λ (xs : List Named). IsLeastOffset (ComesTwice (xs ++ qs)) o) p h)

undeclared_same : {ps params qs args : List Named} {calls body : List BodyOp} {o : Option ℕ} → ps ≡ params → qs ≡ args → calls ≡ body → IsLeastOffset (λ n. Any (UsesUndeclared (words_of ps) (words_of qs) n) calls) o → IsLeastOffset (λ n. Any (UsesUndeclared (words_of params) (words_of args) n) body) o
undeclared_same {ps} {params} {qs} {args} {calls} {body} {o} p q b h =
    subst (λ (xs : List BodyOp). IsLeastOffset (λ n. Any (UsesUndeclared (words_of params) (words_of args) n) xs) o) b (subst (λ (xs : List Named). IsLeastOffset (λ n. Any (UsesUndeclared (words_of params) (words_of xs) n) calls) o) q (subst (λ (xs : List Named). IsLeastOffset (λ n. Any (UsesUndeclared (words_of xs) (words_of qs) n) calls) o) p h))

pub name_gate : {s : Stmt} {name : List ℕ} {params args : List Named} {body : List BodyOp} {at : ℕ} {ps qs : List Named} {calls : List BodyOp} {t u next : Option ℕ} → s ≡ stmt.Gate name params args body at → ps ≡ params → qs ≡ args → calls ≡ body → IsLeastOffset (ComesTwice (ps ++ qs)) t → IsLeastOffset (λ n. Any (UsesUndeclared (words_of ps) (words_of qs) n) calls) u → next ≡ earlier t u → IsLeastOffset (HasName s) next
name_gate {next} is p q b h g e =
    subst (λ (x : Stmt). IsLeastOffset (HasName x) next) (sym is) (either_least (twice_same p q h) (undeclared_same p q b g) e)

pub name_opaque : {s : Stmt} {name : List ℕ} {params args : List Named} {at : ℕ} {ps qs : List Named} {o : Option ℕ} → s ≡ stmt.Opaque name params args at → ps ≡ params → qs ≡ args → IsLeastOffset (ComesTwice (ps ++ qs)) o → IsLeastOffset (HasName s) o
name_opaque {o} is p q h = subst (λ (x : Stmt). IsLeastOffset (HasName x) o) (sym is) (twice_same p q h)

pub name_call : {s : Stmt} {call : BodyOp} {exprs : List Expr} {o : Option ℕ} → s ≡ stmt.Call call → exprs ≡ call.exprs → IsLeastOffset (UsesOtherIn [] exprs) o → IsLeastOffset (HasName s) o
name_call {o} is same h =
    subst (λ (x : Stmt). IsLeastOffset (HasName x) o) (sym is) (subst (λ (xs : List Expr). IsLeastOffset (UsesOtherIn [] xs) o) same h)

pub of_kind : {d e : Environment} (before : List Stmt) (s : Stmt) {k l : ScopeKind} {o : Option ℕ} → d ≡ e → k ≡ l → IsLeastOffset (Refuses d before s l) o → IsLeastOffset (Refuses e before s k) o
of_kind {d} before s {k} {o} known same h =
    subst (λ (x : Environment). IsLeastOffset (Refuses x before s k) o) known (subst (λ (x : ScopeKind). IsLeastOffset (Refuses d before s x) o) (sym same) h)

-- none of the first kinds has a refusal
abbrev pub NoneOfFirst : Environment → List Stmt → Stmt → ℕ → Type 0
NoneOfFirst e before s i = (k : ScopeKind) (at : ℕ) → rank k < i → ¬ Refuses e before s k at

rank-below : (k : ScopeKind) → rank k < 15
rank-below kind.Version = lit< tt
rank-below kind.Control = lit< tt
rank-below kind.Reset = lit< tt
rank-below kind.Include = lit< tt
rank-below kind.Redeclared = lit< tt
rank-below kind.NotDeclared = lit< tt
rank-below kind.UnknownGate = lit< tt
rank-below kind.Opaque = lit< tt
rank-below kind.Params = lit< tt
rank-below kind.Arity = lit< tt
rank-below kind.Sizes = lit< tt
rank-below kind.Index = lit< tt
rank-below kind.Repeated = lit< tt
rank-below kind.Name = lit< tt
rank-below kind.AfterRead = lit< tt

-- each kind stands at its rank
at_rank : (k d : ScopeKind) → get_or kinds_in_order (rank k) d ≡ k
at_rank kind.Version d = refl
at_rank kind.Control d = refl
at_rank kind.Reset d = refl
at_rank kind.Include d = refl
at_rank kind.Redeclared d = refl
at_rank kind.NotDeclared d = refl
at_rank kind.UnknownGate d = refl
at_rank kind.Opaque d = refl
at_rank kind.Params d = refl
at_rank kind.Arity d = refl
at_rank kind.Sizes d = refl
at_rank kind.Index d = refl
at_rank kind.Repeated d = refl
at_rank kind.Name d = refl
at_rank kind.AfterRead d = refl

rank-at : (i : ℕ) (d : ScopeKind) → i < 15 → rank (get_or kinds_in_order i d) ≡ i
rank-at i d l = sym (get_or-map rank kinds_in_order i d 0 l) ∙ get_or-range_with_len 0 15 i 0 l ∙ zero-add i

pub none_first : (e : Environment) (before : List Stmt) (s : Stmt) → NoneOfFirst e before s 0
none_first e before s k at l r = absurd (omega arith)

module _ (e : Environment) (before : List Stmt) (s : Stmt) (i : ℕ) (d : ScopeKind) (l : i < 15) (none : NoneOfFirst e before s i) where
  pub none_more : {o : Option ℕ} → IsLeastOffset (Refuses e before s (get_or kinds_in_order i d)) o → o ≡ None → NoneOfFirst e before s (i + 1)
  none_more h off k at below r = elim (below_or_here (rank k) i below) [
    | inl b ↦ none k at b r
    | inr same ↦
        let here : get_or kinds_in_order i d ≡ k = ap (λ n. get_or kinds_in_order n d) (sym same) ∙ at_rank k d in
        let g = subst (IsLeastOffset (Refuses e before s (get_or kinds_in_order i d))) off h in
        g.is at (subst (λ (x : ScopeKind). Refuses e before s x at) (sym here) r)
  ]

  pub first_refusal : {o : Option ℕ} {at : ℕ} → IsLeastOffset (Refuses e before s (get_or kinds_in_order i d)) o → o ≡ Some at → IsFirstRefusal e before s (get_or kinds_in_order i d) at
  first_refusal {o} {at} h on = record { refuses = g.is.0; first = first } where
    this : ScopeKind
    this = get_or kinds_in_order i d

    g : IsLeastOffset (Refuses e before s (get_or kinds_in_order i d)) (Some at)
    g = subst (IsLeastOffset (Refuses e before s (get_or kinds_in_order i d))) on h

    first : (other : ScopeKind) (offset : ℕ) → Refuses e before s other offset → (rank (get_or kinds_in_order i d) < rank other) ⊎ ((other ≡ get_or kinds_in_order i d) × (at ≤ offset))
    first other offset r = by_rank (in_order (rank other) i) where
      in_order : (m n : ℕ) → (m < n) ⊎ (m ≡ n) ⊎ (n < m)
      in_order m n = grind arith

      by_rank : (rank other < i) ⊎ (rank other ≡ i) ⊎ (i < rank other) → (rank (get_or kinds_in_order i d) < rank other) ⊎ ((other ≡ get_or kinds_in_order i d) × (at ≤ offset))
      by_rank (inl b) = absurd (none other offset b r)
      by_rank (inr (inl same)) =
          let here : other ≡ get_or kinds_in_order i d = sym (at_rank other d) ∙ ap (λ n. get_or kinds_in_order n d) same in
          inr (here, g.is.1 offset (subst (λ (x : ScopeKind). Refuses e before s x offset) here r))
      by_rank (inr (inr b)) = inl (subst (λ n. n < rank other) (sym (rank-at i d l)) b)

pub no_refusal : (e : Environment) (before : List Stmt) (s : Stmt) (i : ℕ) → 15 ≤ i → NoneOfFirst e before s i → (k : ScopeKind) (at : ℕ) → ¬ Refuses e before s k at
no_refusal e before s i l none k at r = none k at (let b : rank k < 15 = rank-below k in omega arith) r
