use Rattle.std.proofs.Common.{◌≡◌, ℕ, ◌<◌, List, [], ◌∷◌, length, refl, ap, subst, sym, ◌∙◌}
use Rattle.std.specs.List.{AllByRecursion, slice_get}
use Rattle.qasm_form.specs.declared.stmt.Arg.{Arg}
use Rattle.qasm_form.specs.declared.stmt.Stmt.{Stmt}
use Rattle.qasm_names.specs.declared.gate.GateDef.{GateDef}
use Rattle.qasm_names.specs.declared.gate.Target.{Target}
use Rattle.qasm_names.specs.Applications.{applications, applied}
use Rattle.qasm_names.specs.Environment.{environment}
use Rattle.qasm_expand.specs.RegisterKinds.{IsPlaceIn}
use Rattle.qasm_expand.specs.Sized.{sized}
use Rattle.qasm_expand.specs.Top.{HaveShortNumbers, visits_of, visits_at}
use Rattle.qasm_expand.specs.Walks.{Walks, Passes}
use Rattle.qasm_expand.specs.Fit.{Suits}
use Rattle.qasm_expand.specs.declared.kind.RegisterKind.TheVariants as register
use Rattle.qasm_expand.proofs.ReadyCalls.{ready_call}
use Rattle.qasm_expand.proofs.CallLemmas.{on_ok_map}
use Rattle.qasm_expand.proofs.PlaceLemmas.{target_read, call_visits}
use Rattle.qasm_expand.proofs.ReadyLemmas.{header_bare}
use Rattle.qasm_expand.proofs.TopCalls.{memory_passes}
use Rattle.qasm_expand.proofs.TopLemmas.{if_err_map}
use Rattle.qasm_expand.proofs.statement.visit_call.Goals as goal

pub target-requires : goal.target-requires
target-requires c = (c.args.call.now, c.requires.at)

pub apply_all-requires-clause-short : goal.apply_all-requires-clause-short
apply_all-requires-clause-short c = subst HaveShortNumbers (sym c.gates-gates.ensures.list) c.requires.short

pub apply_all-requires-clause-closed : goal.apply_all-requires-clause-closed
apply_all-requires-clause-closed c =
    let p = c.args.program.now in
    (ready_call p.header p.statements c.args.place c.args.call.now (header_bare p.header c.requires.header) c.requires.admissible c.requires.before c.requires.at).closed

pub apply_all-requires-clause-suits : goal.apply_all-requires-clause-suits
apply_all-requires-clause-suits c =
    let p = c.args.program.now in
    let call = c.args.call.now in
    let ready = ready_call p.header p.statements c.args.place call (header_bare p.header c.requires.header) c.requires.admissible c.requires.before c.requires.at in
    let target = target_read p c.args.place call c.target.result (c.target.ensures call c.requires.at) in
    subst (λ (gates : List GateDef). Suits gates c.target.result (length call.exprs) (length call.args)) (sym c.gates-gates.ensures.list) (subst (λ (t : Target). Suits (environment p.header p.statements).gates t (length call.exprs) (length call.args)) (sym target) ready.suits)

pub apply_all-requires-clause-places : goal.apply_all-requires-clause-places
apply_all-requires-clause-places c =
    let p = c.args.program.now in
    let call = c.args.call.now in
    let ready = ready_call p.header p.statements c.args.place call (header_bare p.header c.requires.header) c.requires.admissible c.requires.before c.requires.at in
    subst (λ (all : List Stmt). (k : ℕ) → k < applications (sized all) call.args → AllByRecursion (λ (arg : Arg). IsPlaceIn register.Qubit all (applied arg k)) call.args) (sym c.requires.registers) ready.places

pub returns-clause-ok : goal.returns-clause-ok
returns-clause-ok c =
    let p = c.args.program.now in
    let call = c.args.call.now in
    let ready = ready_call p.header p.statements c.args.place call (header_bare p.header c.requires.header) c.requires.admissible c.requires.before c.requires.at in
    let target = target_read p c.args.place call c.target.result (c.target.ensures call c.requires.at) in
    let visits : visits_of c.args.registers.now c.target.result call ≡ visits_at p c.args.place = call_visits p c.args.place call c.args.registers.now c.target.result c.requires.registers target ready.visits c.requires.at in
    on_ok_map c.apply_all.result (λ w. subst (λ (gates : List GateDef). Walks gates c.args.walk.now c.apply_all.new.walk (visits_at p c.args.place)) c.gates-gates.ensures.list (subst (Walks c.gates-gates.result.now c.args.walk.now c.apply_all.new.walk) visits w)) c.apply_all.ensures.ok

pub returns-clause-err : goal.returns-clause-err
returns-clause-err c =
    let p = c.args.program.now in
    let call = c.args.call.now in
    let ready = ready_call p.header p.statements c.args.place call (header_bare p.header c.requires.header) c.requires.admissible c.requires.before c.requires.at in
    let target = target_read p c.args.place call c.target.result (c.target.ensures call c.requires.at) in
    let visits : visits_of c.args.registers.now c.target.result call ≡ visits_at p c.args.place = call_visits p c.args.place call c.args.registers.now c.target.result c.requires.registers target ready.visits c.requires.at in
    if_err_map c.apply_all.result (λ e w. subst (λ (gates : List GateDef). Passes gates c.args.walk.now (visits_at p c.args.place) e) c.gates-gates.ensures.list (subst (λ vs. Passes c.gates-gates.result.now c.args.walk.now vs e) visits w)) c.apply_all.ensures.err
