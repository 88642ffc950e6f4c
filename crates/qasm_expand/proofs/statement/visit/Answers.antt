use Rattle.std.proofs.Common.{◌≡◌, ℕ, ◌<◌, List, [], ◌∷◌, length, refl, ap, subst, sym, ◌∙◌}
use Rattle.std.specs.List.{AllByRecursion, slice_get}
use Rattle.qasm_form.specs.declared.stmt.Arg.{Arg}
use Rattle.qasm_form.specs.declared.stmt.Stmt.{Stmt}
use Rattle.qasm_form.specs.declared.stmt.Stmt.TheVariants as stmt
use Rattle.qasm_names.specs.declared.gate.GateDef.{GateDef}
use Rattle.qasm_names.specs.declared.gate.Target.{Target}
use Rattle.qasm_names.specs.Applications.{applications, applied}
use Rattle.qasm_names.specs.Environment.{environment}
use Rattle.qasm_expand.specs.Calls.{Visit}
use Rattle.qasm_expand.specs.Items.Item.{Barrier}
use Rattle.qasm_expand.specs.RegisterKinds.{IsPlaceIn}
use Rattle.qasm_expand.specs.Sized.{sized}
use Rattle.qasm_expand.specs.Top.{HaveShortNumbers, visits_of, readings_of, visits_in, visits_at}
use Rattle.qasm_expand.specs.Walks.{Walks, Passes}
use Rattle.qasm_expand.specs.Fit.{Suits}
use Rattle.qasm_expand.specs.declared.kind.RegisterKind.TheVariants as register
use Rattle.qasm_expand.proofs.ReadyCalls.{ready_call, ready_reading}
use Rattle.qasm_expand.proofs.CallLemmas.{on_ok_map}
use Rattle.qasm_expand.proofs.PlaceLemmas.{stmt_at, target_read, call_visits, reading_visits, other_visits}
use Rattle.qasm_expand.proofs.ReadyLemmas.{header_bare}
use Rattle.qasm_expand.proofs.TopCalls.{memory_passes}
use Rattle.qasm_expand.proofs.TopLemmas.{if_err_map}
use Rattle.qasm_expand.proofs.WalksLemmas.{walks_none, walks_plain, passes_plain}
use Rattle.qasm_expand.proofs.statement.visit.Goals as goal

pub visit_call-requires-clause-at : goal.visit_call-requires-clause-at
visit_call-requires-clause-at c =
    stmt_at c.statements-statements.result.now c.args.program.now.statements c.args.place c.index-statements-place.result (stmt.Call c.in-Call.call) c.statements-statements.ensures.list c.requires.place c.index-statements-place.is c.in-Call.is

pub measure_all-requires-clause-qubits : goal.measure_all-requires-clause-qubits
measure_all-requires-clause-qubits c =
    let p = c.args.program.now in
    let i = c.args.place in
    let from = c.in-Measure.from in
    let into = c.in-Measure.into in
    let at = stmt_at c.statements-statements.result.now p.statements i c.index-statements-place.result (stmt.Measure from into c.in-Measure.at) c.statements-statements.ensures.list c.requires.place c.index-statements-place.is c.in-Measure.is in
    let ready = ready_reading p.header p.statements i from into c.in-Measure.at (header_bare p.header c.statements-statements.ensures.sound.admissible) c.statements-statements.ensures.admissible at in
    subst (λ (all : List Stmt). (k : ℕ) → k < applications (sized all) (from ∷ []) → IsPlaceIn register.Qubit all (applied from k)) (sym c.requires.registers) ready.qubits

pub measure_all-requires-clause-bits : goal.measure_all-requires-clause-bits
measure_all-requires-clause-bits c =
    let p = c.args.program.now in
    let i = c.args.place in
    let from = c.in-Measure.from in
    let into = c.in-Measure.into in
    let at = stmt_at c.statements-statements.result.now p.statements i c.index-statements-place.result (stmt.Measure from into c.in-Measure.at) c.statements-statements.ensures.list c.requires.place c.index-statements-place.is c.in-Measure.is in
    let ready = ready_reading p.header p.statements i from into c.in-Measure.at (header_bare p.header c.statements-statements.ensures.sound.admissible) c.statements-statements.ensures.admissible at in
    subst (λ (all : List Stmt). (k : ℕ) → k < applications (sized all) (from ∷ []) → IsPlaceIn register.Bit all (applied into k)) (sym c.requires.registers) ready.bits

pub returns-in-Measure-clause-ok : goal.returns-in-Measure-clause-ok
returns-in-Measure-clause-ok c =
    let p = c.args.program.now in
    let i = c.args.place in
    let from = c.in-Measure.from in
    let into = c.in-Measure.into in
    let at = stmt_at c.statements-statements.result.now p.statements i c.index-statements-place.result (stmt.Measure from into c.in-Measure.at) c.statements-statements.ensures.list c.requires.place c.index-statements-place.is c.in-Measure.is in
    let ready = ready_reading p.header p.statements i from into c.in-Measure.at (header_bare p.header c.statements-statements.ensures.sound.admissible) c.statements-statements.ensures.admissible at in
    let visits : readings_of c.args.registers.now from into ≡ visits_at p i = reading_visits p i from into c.in-Measure.at c.args.registers.now c.requires.registers ready.visits at in
    let gates = (environment p.header p.statements).gates in
    on_ok_map c.measure_all.result (λ w. subst (Walks gates c.args.walk.now c.measure_all.new.walk) visits (w gates)) c.measure_all.ensures.ok

pub returns-in-Measure-clause-err : goal.returns-in-Measure-clause-err
returns-in-Measure-clause-err c =
    let p = c.args.program.now in
    let i = c.args.place in
    let from = c.in-Measure.from in
    let into = c.in-Measure.into in
    let at = stmt_at c.statements-statements.result.now p.statements i c.index-statements-place.result (stmt.Measure from into c.in-Measure.at) c.statements-statements.ensures.list c.requires.place c.index-statements-place.is c.in-Measure.is in
    let ready = ready_reading p.header p.statements i from into c.in-Measure.at (header_bare p.header c.statements-statements.ensures.sound.admissible) c.statements-statements.ensures.admissible at in
    let visits : readings_of c.args.registers.now from into ≡ visits_at p i = reading_visits p i from into c.in-Measure.at c.args.registers.now c.requires.registers ready.visits at in
    let gates = (environment p.header p.statements).gates in
    if_err_map c.measure_all.result (λ e w. subst (λ vs. Passes gates c.args.walk.now vs e) visits (w gates)) c.measure_all.ensures.err

pub returns-in-Barrier-clause-ok : goal.returns-in-Barrier-clause-ok
returns-in-Barrier-clause-ok c =
    let p = c.args.program.now in
    let i = c.args.place in
    let at = stmt_at c.statements-statements.result.now p.statements i c.index-statements-place.result (stmt.Barrier c.in-Barrier.args c.in-Barrier.at) c.statements-statements.ensures.list c.requires.place c.index-statements-place.is c.in-Barrier.is in
    let v : Visit = record { depth = 1; item = Barrier } in
    let visits : v ∷ [] ≡ visits_at p i = ap (visits_in p i) (sym at) in
    let gates = (environment p.header p.statements).gates in
    on_ok_map c.fence.result (λ h. subst (Walks gates c.args.walk.now c.fence.new.self) visits (walks_plain gates c.args.walk.now c.fence.new.self v tt refl h)) c.fence.ensures.ok

pub returns-in-Barrier-clause-err : goal.returns-in-Barrier-clause-err
returns-in-Barrier-clause-err c =
    let p = c.args.program.now in
    let i = c.args.place in
    let at = stmt_at c.statements-statements.result.now p.statements i c.index-statements-place.result (stmt.Barrier c.in-Barrier.args c.in-Barrier.at) c.statements-statements.ensures.list c.requires.place c.index-statements-place.is c.in-Barrier.is in
    let v : Visit = record { depth = 1; item = Barrier } in
    let visits : v ∷ [] ≡ visits_at p i = ap (visits_in p i) (sym at) in
    let gates = (environment p.header p.statements).gates in
    if_err_map c.fence.result (λ e h. subst (λ vs. Passes gates c.args.walk.now vs e) visits (passes_plain gates c.args.walk.now v e h)) c.fence.ensures.err

pub returns-in_default : goal.returns-in_default
returns-in_default c =
    let p = c.args.program.now in
    let i = c.args.place in
    let at = stmt_at c.statements-statements.result.now p.statements i c.index-statements-place.result c.index-statements-place.result c.statements-statements.ensures.list c.requires.place c.index-statements-place.is refl in
    let gates = (environment p.header p.statements).gates in
    let visits = other_visits p i c.index-statements-place.result at c.in_default.not-Call c.in_default.not-Measure c.in_default.not-Barrier in
    record { ok = subst (Walks gates c.args.walk.now c.args.walk.now) visits (walks_none gates c.args.walk.now); err = tt }
