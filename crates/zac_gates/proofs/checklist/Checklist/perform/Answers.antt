use Rattle.std.proofs.Common.{◌≡◌, List, take, ◌++◌, ◌∷◌, [], refl, sym, ap, ◌∙◌, subst, arith}
use Rattle.std.proofs.lemmas.Option.{slice_get_within}
use Rattle.zac_gates.specs.declared.circuit.Op.{Op}
use Rattle.zac_gates.specs.Ops.{NativeCircuit}
use Rattle.zac_gates.specs.Log.{Entry}
use Rattle.zac_gates.specs.Checklist.{Checking, CanPerform, IsListedAs, IsPerformed, IsAwaited}
use Rattle.zac_gates.specs.Waiting.{IsReady, IsClosed, IsProgress, IsLeastUnmarked, log_of}
use Rattle.zac_gates.proofs.CheckingFacts.{entry, ops_same, no_mark, in_range_of, closed_by_marks, not_performed, awaited, order_has_room, can_be, checking_after, log_more}
use Rattle.zac_gates.proofs.checklist.Checklist.perform.Goals as goal

circuit_of : Checking → NativeCircuit
circuit_of v = v.circuit

pub awaited-requires-clause-in_range : goal.awaited-requires-clause-in_range
awaited-requires-clause-in_range c =
    in_range_of c.ops-ops.result.now c.args.circuit.now c.self.inside.circuit.now c.args.self.now _ c.ops-ops.ensures.valid c.ops-ops.ensures.value c.requires (ap (λ (v : Checking). v.circuit) c.self.view_is) (omega (arith, c.self.invariant.qubits_are))

pub perform-requires-clause-in_range : goal.perform-requires-clause-in_range
perform-requires-clause-in_range c =
    in_range_of c.ops-ops.result.now c.args.circuit.now c.self.inside.circuit.now c.args.self.now _ c.ops-ops.ensures.valid c.ops-ops.ensures.value c.requires (ap (λ (v : Checking). v.circuit) c.self.view_is) (omega (arith, c.self.invariant.qubits_are))

pub returns-in-Some-clause-err : goal.returns-in-Some-clause-err
returns-in-Some-clause-err c =
    let ops = c.ops-ops.result.now in
    let own = c.self.inside.circuit.now.ops in
    let n = c.args.op in
    let same : ops ≡ own = ops_same ops c.args.circuit.now c.self.inside.circuit.now c.args.self.now c.ops-ops.ensures.value c.requires (ap (λ (v : Checking). v.circuit) c.self.view_is) in
    let marks = c.self.inside.progress.marks.items in
    let log = log_of own (take c.self.inside.count c.self.inside.order.items) in
    let listed : IsListedAs own n c.args.what.now = subst (λ (l : List Op). IsListedAs l n c.args.what.now) same (c.is_listed_as.ensures.0 c.if-not-is_listed_as.false) in
    let least : IsLeastUnmarked own marks n c.in-Some.waits = subst (λ (l : List Op). IsLeastUnmarked l marks n c.in-Some.waits) same c.in-Some.ensures in
    let unmarked = no_mark marks n c.index.result.now c.index.ensures c.if-index.false in
    let said : IsListedAs own n c.args.what.now × (¬ IsPerformed log n) × IsAwaited own log n c.in-Some.waits =
    (listed, not_performed own marks log n c.self.invariant.marks_are unmarked, awaited own marks log n c.in-Some.waits c.self.invariant.marks_are least) in
    let here : IsListedAs c.args.self.now.circuit.ops n c.args.what.now × (¬ IsPerformed c.args.self.now.log n) × IsAwaited c.args.self.now.circuit.ops c.args.self.now.log n c.in-Some.waits =
    subst (λ (v : Checking). IsListedAs v.circuit.ops n c.args.what.now × (¬ IsPerformed v.log n) × IsAwaited v.circuit.ops v.log n c.in-Some.waits) c.self.view_is said in
    ((refl, here.0, here.1, here.2), refl)

pub perform-requires-clause-op_in : goal.perform-requires-clause-op_in
perform-requires-clause-op_in c =
    let listed = c.is_listed_as.ensures.0 c.if-not-is_listed_as.false in
    slice_get_within c.ops-ops.result.now c.args.op c.args.what.now listed.0

pub perform-requires-clause-closed : goal.perform-requires-clause-closed
perform-requires-clause-closed c =
    let ops = c.ops-ops.result.now in
    let own = c.self.inside.circuit.now.ops in
    let same : ops ≡ own = ops_same ops c.args.circuit.now c.self.inside.circuit.now c.args.self.now c.ops-ops.ensures.value c.requires (ap (λ (v : Checking). v.circuit) c.self.view_is) in
    subst (λ (l : List Op). IsClosed l c.self.inside.progress.marks.items) (sym same)
    (closed_by_marks own c.self.inside.progress.marks.items _ c.self.invariant.marks_are)

pub index_mut-requires : goal.index_mut-requires
index_mut-requires c =
    let ops = c.ops-ops.result.now in
    let own = c.self.inside.circuit.now in
    let n = c.args.op in
    let same : ops ≡ own.ops = ops_same ops c.args.circuit.now own c.args.self.now c.ops-ops.ensures.value c.requires (ap (λ (v : Checking). v.circuit) c.self.view_is) in
    let listed : IsListedAs own.ops n c.args.what.now = subst (λ (l : List Op). IsListedAs l n c.args.what.now) same (c.is_listed_as.ensures.0 c.if-not-is_listed_as.false) in
    let unmarked = no_mark c.self.inside.progress.marks.items n c.index.result.now c.index.ensures c.if-index.false in
    omega (arith, order_has_room own c.self.inside.order.items c.self.inside.count c.self.inside.links c.self.inside.progress c.self.invariant n c.args.what.now listed unmarked)

pub invariant_of-self : goal.invariant_of-self
invariant_of-self c =
    let ops = c.ops-ops.result.now in
    let own = c.self.inside.circuit.now in
    let n = c.args.op in
    let same : ops ≡ own.ops = ops_same ops c.args.circuit.now own c.args.self.now c.ops-ops.ensures.value c.requires (ap (λ (v : Checking). v.circuit) c.self.view_is) in
    let marks = c.self.inside.progress.marks.items in
    let listed : IsListedAs own.ops n c.args.what.now = subst (λ (l : List Op). IsListedAs l n c.args.what.now) same (c.is_listed_as.ensures.0 c.if-not-is_listed_as.false) in
    let unmarked = no_mark marks n c.index.result.now c.index.ensures c.if-index.false in
    let ready : IsReady own.ops marks n = subst (λ (l : List Op). IsReady l marks n) same c.in_default.ensures in
    let progress : IsProgress own.ops c.perform.new.self = subst (λ (l : List Op). IsProgress l c.perform.new.self) same c.perform.ensures.progress in
    checking_after own c.self.inside.order.items c.self.inside.count c.self.inside.links c.self.inside.progress c.self.invariant n c.args.what.now c.perform.new.self listed unmarked ready progress c.perform.ensures.marks (omega (arith, c.perform.ensures.qubits))

pub returns-clause-ok : goal.returns-clause-ok
returns-clause-ok c =
    let ops = c.ops-ops.result.now in
    let own = c.self.inside.circuit.now in
    let n = c.args.op in
    let what = c.args.what.now in
    let same : ops ≡ own.ops = ops_same ops c.args.circuit.now own c.args.self.now c.ops-ops.ensures.value c.requires (ap (λ (v : Checking). v.circuit) c.self.view_is) in
    let marks = c.self.inside.progress.marks.items in
    let log = log_of own.ops (take c.self.inside.count c.self.inside.order.items) in
    let listed : IsListedAs own.ops n what = subst (λ (l : List Op). IsListedAs l n what) same (c.is_listed_as.ensures.0 c.if-not-is_listed_as.false) in
    let unmarked = no_mark marks n c.index.result.now c.index.ensures c.if-index.false in
    let ready : IsReady own.ops marks n = subst (λ (l : List Op). IsReady l marks n) same c.in_default.ensures in
    let can : CanPerform own.ops log n what = can_be own c.self.inside.order.items c.self.inside.count c.self.inside.links c.self.inside.progress c.self.invariant n what listed unmarked ready in
    let room = order_has_room own c.self.inside.order.items c.self.inside.count c.self.inside.links c.self.inside.progress c.self.invariant n what listed unmarked in
    let later : Checking = record { circuit = own; log = log ++ entry n what ∷ [] } in (
      subst (λ (v : Checking). CanPerform v.circuit.ops v.log n what) c.self.view_is can,
      ap (λ (l : List Entry). let v : Checking = record { circuit = own; log = l } in v) (log_more own.ops c.self.inside.order.items c.self.inside.count n what room listed.0)
          ∙ ap (λ (v : Checking). let w : Checking = record { circuit = v.circuit; log = v.log ++ entry n what ∷ [] } in w) c.self.view_is,
    )
