use Rattle.std.proofs.Common.{◌≡◌, ◌∙◌, Some, refl, sym, subst, rules}
use Rattle.zac_flow.specs.Answers.{MayShow, RisesAt}
use Rattle.zac_fault.specs.Statuses.{status_of}
use Rattle.zac_flow.specs.Faults.{Means}
use Rattle.zac_flow.specs.Requests.{named}
use Rattle.zac_fault.specs.declared.status.Fault.TheVariants.{Usage}
use Rattle.zac_fault.specs.declared.status.Status.{Status}
use Rattle.zac_fault.specs.declared.status.Status.TheVariants.{ReadFault, WriteFault}
use Rattle.zac_flow.proofs.Carrying.{no_strays}
use Rattle.zac_flow.proofs.Ending.{FaultsAreOne, done_exact, refused_exact, none_exact}
use Rattle.zac_flow.proofs.flow.answer.Goals as goal

pub returns-in-None-clause-refused : goal.returns-in-None-clause-refused
returns-in-None-clause-refused g c =
    let at = c.refuse.ensures in
    rw c.in-None.is (λ other. record { fault = Usage; status_is = at.status; means = refl; leaves = refl; told = at.told })

pub returns-in-None-clause-exact : goal.returns-in-None-clause-exact
returns-in-None-clause-exact g c = rw c.in-None.is (λ calm_shelf calm_sink. none_exact (g.S.Shelf.files c.args.shelf.now) c.refuse.result)

pub returns-in-None-clause-strays : goal.returns-in-None-clause-strays
returns-in-None-clause-strays g c = rw c.in-None.is (no_strays (g.S.Shelf.files c.args.shelf.now) (g.S.Shelf.strays c.args.shelf.now))

pub returns-in-Ok-clause-exact : goal.returns-in-Ok-clause-exact
returns-in-Ok-clause-exact g c =
    let law : FaultsAreOne = record { one = c.one_status.ensures.one_status; none = c.one_status.ensures.not_both } in
    let files = g.S.Shelf.files c.args.shelf.now in
    rw c.in-Some.is (λ calm_shelf calm_sink. done_exact law files (named c.in-Some.request) _ _ _ _ c.in-Ok.ensures.done)

pub returns-in-Err-clause-exact : goal.returns-in-Err-clause-exact
returns-in-Err-clause-exact g c =
    let law : FaultsAreOne = record { one = c.one_status.ensures.one_status; none = c.one_status.ensures.not_both } in
    let files = g.S.Shelf.files c.args.shelf.now in
    let fault = c.in-Err.fault in
    let same : c.refuse-in-Err.result ≡ status_of fault = search rules in
    let means : Means files (Some (named c.in-Some.request)) fault = search rules in
    let reads : RisesAt ReadFault (status_of fault) (g.S.Shelf.faults c.args.shelf.now) (g.S.Shelf.faults c.carry_out.new.shelf) = search rules in
    let writes : RisesAt WriteFault (status_of fault) (g.K.Sink.faults c.args.out.now) (g.K.Sink.faults c.carry_out.new.out) = search rules in
    rw c.in-Some.is (λ calm_shelf calm_sink. refused_exact law files (named c.in-Some.request) fault c.refuse-in-Err.result same means
    (λ e. calm_shelf (reads.rises (sym same ∙ e)))
    (λ e. calm_sink (writes.rises (sym same ∙ e))))

pub returns-in-Err-clause-untouched : goal.returns-in-Err-clause-untouched
returns-in-Err-clause-untouched g c =
    let same : c.refuse-in-Err.result ≡ status_of c.in-Err.fault = search rules in
    rw c.in-Some.is (λ not. c.in-Err.ensures.untouched (λ shown. not (subst (λ (s : Status). MayShow (Some (named c.in-Some.request)) s) (sym same) shown)))
