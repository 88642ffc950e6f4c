-- Each statement is admissible behind others, or has one first refusal.
use Rattle.std.proofs.Common.{◌≡◌, ◌≢◌, ℕ, zero, suc, ◌+◌, ◌<◌, ◌≤◌, ◌⊎◌, inl, inr, List, [], ◌∷◌, ◌++◌, get_or, Option, Some, None, true, false, refl, sym, ◌∙◌, ap, subst, append_assoc, append-nil, arith}
use Rattle.std.specs.Prelude.{slice_get, codes}
use Rattle.std.specs.List.{Any, Contains}
use Rattle.qasm_form.specs.declared.stmt.Arg.{Arg}
use Rattle.qasm_form.specs.declared.stmt.BodyOp.{BodyOp}
use Rattle.qasm_form.specs.declared.stmt.Expr.{Expr}
use Rattle.qasm_form.specs.declared.stmt.Named.{Named}
use Rattle.qasm_form.specs.declared.stmt.Node.{Node}
use Rattle.qasm_form.specs.declared.stmt.Node.TheVariants as node
use Rattle.qasm_form.specs.declared.stmt.Stmt.{Stmt}
use Rattle.qasm_form.specs.declared.stmt.Stmt.TheVariants as stmt
use Rattle.qasm_names.specs.declared.fault.ScopeKind.{ScopeKind}
use Rattle.qasm_names.specs.declared.fault.ScopeKind.TheVariants as kind
use Rattle.qasm_names.specs.declared.meaning.Callee.{Callee}
use Rattle.qasm_names.specs.declared.meaning.Callee.TheVariants as calls
use Rattle.qasm_names.specs.Accepted.{IsAdmissible, AreAdmissible}
use Rattle.qasm_names.specs.Applications.{Place, applications, applied, WasRead}
use Rattle.qasm_names.specs.Environment.{environment, words_of}
use Rattle.qasm_names.specs.Header.{fixed_names}
use Rattle.qasm_names.specs.Names.{Environment, own_meaning, callee, qubit_size, bit_size}
use Rattle.qasm_names.specs.Refusals.{qubit_args, bit_args, calls_in, IsDeclared, ClashesWithHeader, IsRedeclared, HasOtherParams, HasOtherArity, DifferInSize, ReadsUnevenly, HasUnevenSizes, IsPast, RepeatsQubit, RepeatsWord, HasRepeated, UsesOther, UsesOtherIn, ComesTwice, UsesUndeclared, HasName, TouchesRead, IsAfterRead, IsOtherVersion, IsControl, IsReset, IsOtherInclude, Refuses, rank, IsFirstRefusal}
use Rattle.qasm_scope.specs.Judged.{kinds_in_order}
use Rattle.qasm_scope.specs.Least.{IsLeastOffset}
use Rattle.qasm_scope.specs.Refused.{HasRefused}
use Rattle.qasm_scope.proofs.Deciding.{Decided, decided_not, decided_both, decided_three, decided_either, decided_number, decided_order, decided_bytes, decided_bool, decided_none, decided_option, decided_place, decided_any, decided_two, decided_below, decided_contains, HasLeast, least_never, least_this, least_at, least_either, least_any, least_two}
use Rattle.qasm_scope.proofs.JudgedLemmas.{NoneOfFirst, none_first, none_more, first_refusal, no_refusal}

decided_unknown : (c : Callee) → Decided (c ≡ calls.Unknown)
decided_unknown calls.Unknown = inl refl
decided_unknown calls.Opaque = inr (λ e. absurd (cc))
decided_unknown calls.Barrier = inr (λ e. absurd (cc))
decided_unknown (calls.Gate t params args) = inr (λ e. absurd (cc))

decided_opaque : (c : Callee) → Decided (c ≡ calls.Opaque)
decided_opaque calls.Opaque = inl refl
decided_opaque calls.Unknown = inr (λ e. absurd (cc))
decided_opaque calls.Barrier = inr (λ e. absurd (cc))
decided_opaque (calls.Gate t params args) = inr (λ e. absurd (cc))

decided_params : (c : Callee) (call : BodyOp) → Decided (HasOtherParams c call)
decided_params (calls.Gate t params args) call = decided_not (decided_number _ _)
decided_params calls.Unknown call = inr (λ h. h)
decided_params calls.Opaque call = inr (λ h. h)
decided_params calls.Barrier call = inr (λ h. h)

decided_arity : (c : Callee) (call : BodyOp) → Decided (HasOtherArity c call)
decided_arity (calls.Gate t params args) call = decided_not (decided_number _ _)
decided_arity calls.Unknown call = inr (λ h. h)
decided_arity calls.Opaque call = inr (λ h. h)
decided_arity calls.Barrier call = inr (λ h. h)

decided_past : (size index : Option ℕ) → Decided (IsPast size index)
decided_past (Some size) (Some index) = decided_order size index
decided_past None index = inr (λ h. h)
decided_past (Some size) None = inr (λ h. h)

decided_same_word : (a b : Arg) → Decided (a.word ≡ b.word)
decided_same_word a b = decided_bytes a.word b.word

least_other : (params : List (List ℕ)) (n : Node) → HasLeast (λ at. UsesOther params at n)
least_other params (node.Name name from) =
    least_at (¬ Contains params name) from (decided_not (decided_contains params name))
least_other params (node.Number text) = least_never (λ at. ⊥) (λ at h. h)
least_other params node.Pi = least_never (λ at. ⊥) (λ at h. h)
least_other params node.Negate = least_never (λ at. ⊥) (λ at h. h)
least_other params (node.Apply f) = least_never (λ at. ⊥) (λ at h. h)
least_other params node.Plus = least_never (λ at. ⊥) (λ at h. h)
least_other params node.Minus = least_never (λ at. ⊥) (λ at h. h)
least_other params node.Times = least_never (λ at. ⊥) (λ at h. h)
least_other params node.Over = least_never (λ at. ⊥) (λ at h. h)
least_other params node.Power = least_never (λ at. ⊥) (λ at h. h)

least_other_in : (params : List (List ℕ)) (exprs : List Expr) → HasLeast (UsesOtherIn params exprs)
least_other_in params exprs =
    least_any (λ (expr : Expr) at. Any (UsesOther params at) expr) (λ (expr : Expr). least_any (λ n at. UsesOther params at n) (least_other params) expr) exprs

least_twice : (names : List Named) → HasLeast (ComesTwice names)
least_twice names =
    least_two (λ (a b : Named) at. (a.word ≡ b.word) × (at ≡ b.at)) (λ a b. least_at (a.word ≡ b.word) b.at (decided_bytes a.word b.word)) names

least_undeclared : (params args : List (List ℕ)) (body : List BodyOp) → HasLeast (λ at. Any (UsesUndeclared params args at) body)
least_undeclared params args body =
    least_any (λ (op : BodyOp) at. UsesUndeclared params args at op) (λ op. least_either (λ at. Any (λ arg. (¬ Contains args arg.word) × (at ≡ arg.at)) op.args) (UsesOtherIn params op.exprs) (least_any (λ (arg : Arg) at. (¬ Contains args arg.word) × (at ≡ arg.at)) (λ arg. least_at (¬ Contains args arg.word) arg.at (decided_not (decided_contains args arg.word))) op.args) (least_other_in params op.exprs)) body

least_version : (s : Stmt) → HasLeast (IsOtherVersion s)
least_version (stmt.Version number from) = least_at (number ≢ codes "2.0") from (decided_not (decided_bytes number (codes "2.0")))
least_version other = least_never (IsOtherVersion other) (λ at h. h)

least_control : (s : Stmt) → HasLeast (IsControl s)
least_control (stmt.If from) = least_this from
least_control other = least_never (IsControl other) (λ at h. h)

least_reset : (s : Stmt) → HasLeast (IsReset s)
least_reset (stmt.Reset arg from) = least_this from
least_reset other = least_never (IsReset other) (λ at h. h)

least_include : (s : Stmt) → HasLeast (IsOtherInclude s)
least_include (stmt.Include name from) = least_at (name ≢ codes "qelib1.inc") from (decided_not (decided_bytes name (codes "qelib1.inc")))
least_include other = least_never (IsOtherInclude other) (λ at h. h)

least_name : (s : Stmt) → HasLeast (HasName s)
least_name (stmt.Gate name params args body from) =
    least_either (ComesTwice (params ++ args)) (λ at. Any (UsesUndeclared (words_of params) (words_of args) at) body) (least_twice (params ++ args)) (least_undeclared (words_of params) (words_of args) body)
least_name (stmt.Opaque name params args from) = least_twice (params ++ args)
least_name (stmt.Call call) = least_other_in [] call.exprs
least_name other = least_never (HasName other) (λ at h. h)

module _ (e : Environment) where
  decided_declared : (name : List ℕ) → Decided (IsDeclared e name)
  decided_declared name =
      decided_either (decided_not (decided_none (own_meaning e name))) (decided_both (decided_bool e.included true) (decided_contains fixed_names name))

  decided_clash : Decided (ClashesWithHeader e)
  decided_clash =
      decided_both (decided_bool e.included false) (decided_any (λ name. own_meaning e name ≢ None) (λ name. decided_not (decided_none (own_meaning e name))) fixed_names)

  least_redeclared : (s : Stmt) → HasLeast (IsRedeclared e s)
  least_redeclared (stmt.Qreg name size from) = least_at (IsDeclared e name) from (decided_declared name)
  least_redeclared (stmt.Creg name size from) = least_at (IsDeclared e name) from (decided_declared name)
  least_redeclared (stmt.Gate name params args body from) = least_at (IsDeclared e name) from (decided_declared name)
  least_redeclared (stmt.Opaque name params args from) = least_at (IsDeclared e name) from (decided_declared name)
  least_redeclared (stmt.Include name from) = least_at (ClashesWithHeader e) from decided_clash
  least_redeclared other = least_never (IsRedeclared e other) (λ at h. h)

  decided_differ : (a b : Arg) → Decided (DifferInSize e a b)
  decided_differ a b =
      decided_three (decided_none a.index) (decided_none b.index) (decided_not (decided_option (qubit_size e a.word) (qubit_size e b.word)))

  decided_uneven : (from into : Arg) (i j : Option ℕ) → Decided (ReadsUnevenly e from into i j)
  decided_uneven from into None None = decided_not (decided_option (qubit_size e from.word) (bit_size e into.word))
  decided_uneven from into (Some i) None = inl tt
  decided_uneven from into None (Some j) = inl tt
  decided_uneven from into (Some i) (Some j) = inr (λ h. h)

  least_sizes : (s : Stmt) → HasLeast (HasUnevenSizes e s)
  least_sizes (stmt.Call call) = least_at _ call.at (decided_two (DifferInSize e) decided_differ call.args)
  least_sizes (stmt.Measure from into start) =
      least_at (ReadsUnevenly e from into from.index into.index) start (decided_uneven from into from.index into.index)
  least_sizes other = least_never (HasUnevenSizes e other) (λ at h. h)

  decided_repeats : (args : List Arg) → Decided (RepeatsQubit e args)
  decided_repeats args =
      decided_below _ (λ k. decided_two (λ (a b : Arg). applied a k ≡ applied b k) (λ a b. decided_place (applied a k) (applied b k)) args) (applications e args)

  least_repeated : (s : Stmt) → HasLeast (HasRepeated e s)
  least_repeated (stmt.Call call) = least_at (RepeatsQubit e call.args) call.at (decided_repeats call.args)
  least_repeated (stmt.Gate name params args body from) =
      least_any (λ (op : BodyOp) at. RepeatsWord op × (at ≡ op.at)) (λ op. least_at (RepeatsWord op) op.at (decided_both (decided_not (decided_bytes op.name (codes "barrier"))) (decided_two (λ (a b : Arg). a.word ≡ b.word) decided_same_word op.args))) body
  least_repeated other = least_never (HasRepeated e other) (λ at h. h)

  -- this statement reads the qubit
  abbrev Reads : Stmt → Place → Type 0
  Reads s q =
      (from : Arg) × (into : Arg) × (at : ℕ) × (k : ℕ) × (s ≡ stmt.Measure from into at) × (k < applications e (from ∷ [])) × (q ≡ applied from k)

  decided_reads : (q : Place) (s : Stmt) → Decided (Reads s q)
  decided_reads q (stmt.Measure from into at) =
      by_below (decided_below (λ k. q ≡ applied from k) (λ k. decided_place q (applied from k)) (applications e (from ∷ []))) where
        other : ¬ ((k : ℕ) × (k < applications e (from ∷ [])) × (q ≡ applied from k)) → (f : Arg) (k : ℕ) → from ≡ f → k < applications e (f ∷ []) → q ≡ applied f k → ⊥
        other none f k same l is =
            none (k, subst (λ (x : Arg). k < applications e (x ∷ [])) (sym same) l, subst (λ (x : Arg). q ≡ applied x k) (sym same) is)

        by_below : Decided ((k : ℕ) × (k < applications e (from ∷ [])) × (q ≡ applied from k)) → Decided (Reads (stmt.Measure from into at) q)
        by_below (inl w) = inl (from, into, at, w.0, refl, w.1, w.2)
        by_below (inr none) = inr (λ w. let is : stmt.Measure from into at ≡ stmt.Measure w.0 w.1 w.2 = w.4 in let same : from ≡ w.0 = cc in other none w.0 w.3 same w.5 w.6)
  decided_reads q (stmt.Version number at) = inr (λ w. let is : stmt.Version number at ≡ stmt.Measure w.0 w.1 w.2 = w.4 in absurd (cc))
  decided_reads q (stmt.Include name at) = inr (λ w. let is : stmt.Include name at ≡ stmt.Measure w.0 w.1 w.2 = w.4 in absurd (cc))
  decided_reads q (stmt.Qreg name size at) = inr (λ w. let is : stmt.Qreg name size at ≡ stmt.Measure w.0 w.1 w.2 = w.4 in absurd (cc))
  decided_reads q (stmt.Creg name size at) = inr (λ w. let is : stmt.Creg name size at ≡ stmt.Measure w.0 w.1 w.2 = w.4 in absurd (cc))
  decided_reads q (stmt.Gate name params args body at) = inr (λ w. let is : stmt.Gate name params args body at ≡ stmt.Measure w.0 w.1 w.2 = w.4 in absurd (cc))
  decided_reads q (stmt.Opaque name params args at) = inr (λ w. let is : stmt.Opaque name params args at ≡ stmt.Measure w.0 w.1 w.2 = w.4 in absurd (cc))
  decided_reads q (stmt.Call call) = inr (λ w. let is : stmt.Call call ≡ stmt.Measure w.0 w.1 w.2 = w.4 in absurd (cc))
  decided_reads q (stmt.Reset arg at) = inr (λ w. let is : stmt.Reset arg at ≡ stmt.Measure w.0 w.1 w.2 = w.4 in absurd (cc))
  decided_reads q (stmt.Barrier args at) = inr (λ w. let is : stmt.Barrier args at ≡ stmt.Measure w.0 w.1 w.2 = w.4 in absurd (cc))
  decided_reads q (stmt.If at) = inr (λ w. let is : stmt.If at ≡ stmt.Measure w.0 w.1 w.2 = w.4 in absurd (cc))

  reads_here : (s : Stmt) (before : List Stmt) (q : Place) → Reads s q → WasRead e (s ∷ before) q
  reads_here s before q w =
      record { i = 0; k = w.3; from = w.0; into = w.1; at = w.2; measured = ap Some w.4; applies = w.5; is = w.6 }

  reads_later : (s : Stmt) (before : List Stmt) (q : Place) → WasRead e before q → WasRead e (s ∷ before) q
  reads_later s before q w =
      record { i = suc w.i; k = w.k; from = w.from; into = w.into; at = w.at; measured = w.measured; applies = w.applies; is = w.is }

  read_none : (q : Place) → WasRead e [] q → ⊥
  read_none q w = none (stmt.Measure w.from w.into w.at) w.measured where
    none : (s : Stmt) → slice_get [] w.i ≡ Some s → ⊥
    none s is = absurd (cc)

  read_cases : (s : Stmt) (before : List Stmt) (q : Place) → WasRead e (s ∷ before) q → Reads s q ⊎ WasRead e before q
  read_cases s before q w = by_place w.i w.measured where
    by_place : (i : ℕ) → slice_get (s ∷ before) i ≡ Some (stmt.Measure w.from w.into w.at) → Reads s q ⊎ WasRead e before q
    by_place zero is = let same : s ≡ stmt.Measure w.from w.into w.at = cc in inl (w.from, w.into, w.at, w.k, same, w.applies, w.is)
    by_place (suc i) is =
        inr (record { i = i; k = w.k; from = w.from; into = w.into; at = w.at; measured = is; applies = w.applies; is = w.is })

  decided_read : (q : Place) (before : List Stmt) → Decided (WasRead e before q)
  decided_read q [] = inr (read_none q)
  decided_read q (s ∷ before) = by_parts (decided_reads q s) (decided_read q before) where
    neither : ¬ Reads s q → ¬ WasRead e before q → Reads s q ⊎ WasRead e before q → ⊥
    neither refuted none (inl w) = refuted w
    neither refuted none (inr w) = none w

    by_parts : Decided (Reads s q) → Decided (WasRead e before q) → Decided (WasRead e (s ∷ before) q)
    by_parts (inl w) later = inl (reads_here s before q w)
    by_parts (inr refuted) (inl w) = inl (reads_later s before q w)
    by_parts (inr refuted) (inr none) = inr (λ w. neither refuted none (read_cases s before q w))

  module _ (before : List Stmt) where
    decided_touches : (args : List Arg) → Decided (TouchesRead e before args)
    decided_touches args =
        decided_below _ (λ k. decided_any (λ (arg : Arg). WasRead e before (applied arg k)) (λ arg. decided_read (applied arg k) before) args) (applications e args)

    least_after_read : (s : Stmt) → HasLeast (IsAfterRead e before s)
    least_after_read (stmt.Call call) = least_at (TouchesRead e before call.args) call.at (decided_touches call.args)
    least_after_read (stmt.Measure from into start) =
        least_at (TouchesRead e before (from ∷ [])) start (decided_touches (from ∷ []))
    least_after_read other = least_never (IsAfterRead e before other) (λ at h. h)

    -- of each kind there is a least offset, or none at all
    least_of : (s : Stmt) (k : ScopeKind) → HasLeast (Refuses e before s k)
    least_of s kind.Version = least_version s
    least_of s kind.Control = least_control s
    least_of s kind.Reset = least_reset s
    least_of s kind.Include = least_include s
    least_of s kind.Redeclared = least_redeclared s
    least_of s kind.NotDeclared = least_either _ _
        (least_any (λ (arg : Arg) at. (qubit_size e arg.word ≡ None) × (at ≡ arg.at)) (λ arg. least_at _ arg.at (decided_none (qubit_size e arg.word))) (qubit_args s))
        (least_any (λ (arg : Arg) at. (bit_size e arg.word ≡ None) × (at ≡ arg.at)) (λ arg. least_at _ arg.at (decided_none (bit_size e arg.word))) (bit_args s))
    least_of s kind.UnknownGate =
        least_any (λ (call : BodyOp) at. (callee e call.name ≡ calls.Unknown) × (at ≡ call.at)) (λ call. least_at _ call.at (decided_unknown (callee e call.name))) (calls_in s)
    least_of s kind.Opaque =
        least_any (λ (call : BodyOp) at. (callee e call.name ≡ calls.Opaque) × (at ≡ call.at)) (λ call. least_at _ call.at (decided_opaque (callee e call.name))) (calls_in s)
    least_of s kind.Params =
        least_any (λ (call : BodyOp) at. HasOtherParams (callee e call.name) call × (at ≡ call.at)) (λ call. least_at _ call.at (decided_params (callee e call.name) call)) (calls_in s)
    least_of s kind.Arity =
        least_any (λ (call : BodyOp) at. HasOtherArity (callee e call.name) call × (at ≡ call.at)) (λ call. least_at _ call.at (decided_arity (callee e call.name) call)) (calls_in s)
    least_of s kind.Sizes = least_sizes s
    least_of s kind.Index = least_either _ _
        (least_any (λ (arg : Arg) at. IsPast (qubit_size e arg.word) arg.index × (at ≡ arg.at)) (λ arg. least_at _ arg.at (decided_past (qubit_size e arg.word) arg.index)) (qubit_args s))
        (least_any (λ (arg : Arg) at. IsPast (bit_size e arg.word) arg.index × (at ≡ arg.at)) (λ arg. least_at _ arg.at (decided_past (bit_size e arg.word) arg.index)) (bit_args s))
    least_of s kind.Repeated = least_repeated s
    least_of s kind.Name = least_name s
    least_of s kind.AfterRead = least_after_read s

    -- no refusal, or a first one
    abbrev Judgement : Stmt → Type 0
    Judgement s =
        ((k : ScopeKind) (at : ℕ) → ¬ Refuses e before s k at) ⊎ ((k : ScopeKind) × (at : ℕ) × IsFirstRefusal e before s k at)

    judged_from : (s : Stmt) (left i : ℕ) → i + left ≡ 15 → NoneOfFirst e before s i → Judgement s
    judged_from s zero i end none = inl (no_refusal e before s i (omega (arith, end)) none)
    judged_from s (suc left) i end none =
        by_least (least_of s (get_or kinds_in_order i kind.Version)) (judged_from s left (i + 1) (omega (arith, end))) where
          by_least : HasLeast (Refuses e before s (get_or kinds_in_order i kind.Version)) → (NoneOfFirst e before s (i + 1) → Judgement s) → Judgement s
          by_least (None, least) go = go (none_more e before s i kind.Version (omega (arith, end)) none least refl)
          by_least (Some at, least) go =
              inr (get_or kinds_in_order i kind.Version, at, first_refusal e before s i kind.Version (omega (arith, end)) none least refl)

    pub judged : (s : Stmt) → Judgement s
    judged s = judged_from s 15 0 refl (none_first e before s)

-- a statement has one first refusal at most
pub first_once : (e : Environment) (before : List Stmt) (s : Stmt) (k l : ScopeKind) (at other : ℕ) → IsFirstRefusal e before s k at → IsFirstRefusal e before s l other → (k ≡ l) × (at ≡ other)
first_once e before s k l at other p q = by_order (p.first l other q.refuses) (q.first k at p.refuses) where
  by_order : (rank k < rank l) ⊎ ((l ≡ k) × (at ≤ other)) → (rank l < rank k) ⊎ ((k ≡ l) × (other ≤ at)) → (k ≡ l) × (at ≡ other)
  by_order (inl less) (inl more) = absurd (omega (arith, less, more))
  by_order (inl less) (inr same) = absurd (omega (arith, less, ap rank same.0))
  by_order (inr same) (inl less) = absurd (omega (arith, less, ap rank same.0))
  by_order (inr same) (inr other_way) = (other_way.0, omega (arith, same.1, other_way.1))

-- a statement that has a first refusal isn't admissible
pub not_admissible : (header before : List Stmt) (s : Stmt) (k : ScopeKind) (at : ℕ) → IsAdmissible header before s → ¬ IsFirstRefusal (environment header before) before s k at
not_admissible header before s k at admissible first = admissible k at first.refuses

-- a statement among others that is refused behind these, and none before it is
record RefusedBehind (header before statements : List Stmt) : Type 0 where
  front : List Stmt
  statement : Stmt
  rest : List Stmt
  is : statements ≡ front ++ statement ∷ rest
  admissible : AreAdmissible header before front
  refused : ¬ IsAdmissible header (before ++ front) statement

refused_or_not : (header before statements : List Stmt) → AreAdmissible header before statements ⊎ RefusedBehind header before statements
refused_or_not header before [] = inl tt
refused_or_not header before (s ∷ ss) =
    by_parts (judged (environment header before) before s) (refused_or_not header (before ++ s ∷ []) ss) where
      later : IsAdmissible header before s → RefusedBehind header (before ++ s ∷ []) ss → RefusedBehind header before (s ∷ ss)
      later here w = record {
        front = s ∷ w.front;
        statement = w.statement;
        rest = w.rest;
        is = ap (λ l. s ∷ l) w.is;
        admissible = (here, w.admissible);
        refused = subst (λ l. ¬ IsAdmissible header l w.statement) (append_assoc before (s ∷ []) w.front) w.refused;
      }

      by_parts : IsAdmissible header before s ⊎ ((k : ScopeKind) × (at : ℕ) × IsFirstRefusal (environment header before) before s k at) → AreAdmissible header (before ++ s ∷ []) ss ⊎ RefusedBehind header (before ++ s ∷ []) ss → AreAdmissible header before (s ∷ ss) ⊎ RefusedBehind header before (s ∷ ss)
      by_parts (inr w) others =
          let refused : ¬ IsAdmissible header before s = λ admissible. not_admissible header before s w.0 w.1 admissible w.2 in
          inr (record { front = []; statement = s; rest = ss; is = refl; admissible = tt; refused = subst (λ l. ¬ IsAdmissible header l s) (sym (append-nil before)) refused })
      by_parts (inl here) (inl others) = inl (here, others)
      by_parts (inl here) (inr w) = inr (later here w)

-- none of some statements is refused, or one is
pub accepted_or_refused : (header statements : List Stmt) → AreAdmissible header [] statements ⊎ HasRefused header statements
accepted_or_refused header statements = by_parts (refused_or_not header [] statements) where
  by_parts : AreAdmissible header [] statements ⊎ RefusedBehind header [] statements → AreAdmissible header [] statements ⊎ HasRefused header statements
  by_parts (inl admissible) = inl admissible
  by_parts (inr w) =
      inr (record { front = w.front; statement = w.statement; rest = w.rest; is = w.is; admissible = w.admissible; refused = w.refused })

admissible_at : (header before front : List Stmt) (s : Stmt) (rest : List Stmt) → AreAdmissible header before (front ++ s ∷ rest) → IsAdmissible header (before ++ front) s
admissible_at header before [] s rest all = subst (λ l. IsAdmissible header l s) (sym (append-nil before)) all.0
admissible_at header before (x ∷ front) s rest all =
    subst (λ l. IsAdmissible header l s) (append_assoc before (x ∷ []) front) (admissible_at header (before ++ x ∷ []) front s rest all.1)

pub not_accepted_and_refused : (header statements : List Stmt) → AreAdmissible header [] statements → ¬ HasRefused header statements
not_accepted_and_refused header statements all w =
    w.refused (admissible_at header [] w.front w.statement w.rest (subst (AreAdmissible header []) w.is all))
