use Rattle.std.proofs.Common.{List, get_or, sym, subst}
use Rattle.qasm_names.specs.declared.fault.ScopeKind.{ScopeKind}
use Rattle.qasm_names.specs.declared.fault.ScopeKind.TheVariants as kind
use Rattle.qasm_scope.specs.Least.{IsLeastOffset}
use Rattle.qasm_names.specs.Refusals.{Refuses, IsFirstRefusal}
use Rattle.qasm_scope.proofs.JudgedLemmas.{none_first, none_more, first_refusal, no_refusal}
use Rattle.qasm_scope.proofs.judge.refusal_of.Goals as goal

pub loop-kind-init : goal.loop-kind-init
loop-kind-init c = none_first c.args.names.now.environment c.args.names.now.before c.args.stmt.now

pub loop-kind-preserved : goal.loop-kind-preserved
loop-kind-preserved c =
    let least = subst (λ (kinds : List ScopeKind). IsLeastOffset (Refuses c.args.names.now.environment c.args.names.now.before c.args.stmt.now (get_or kinds c.loop-kind.kind-index kind.Version)) c.least_offset.result) c.kinds_in_order-kind-items.ensures c.least_offset.ensures in
    none_more c.args.names.now.environment c.args.names.now.before c.args.stmt.now c.loop-kind.kind-index kind.Version c.loop-kind-test.true c.loop-kind.invariant least c.in_default.is

pub returns-in-Some : goal.returns-in-Some
returns-in-Some c =
    let least = subst (λ (kinds : List ScopeKind). IsLeastOffset (Refuses c.args.names.now.environment c.args.names.now.before c.args.stmt.now (get_or kinds c.loop-kind.kind-index kind.Version)) c.least_offset.result) c.kinds_in_order-kind-items.ensures c.least_offset.ensures in
    let first = first_refusal c.args.names.now.environment c.args.names.now.before c.args.stmt.now c.loop-kind.kind-index kind.Version c.loop-kind-test.true c.loop-kind.invariant least c.in-Some.is in
    subst (λ (kinds : List ScopeKind). IsFirstRefusal c.args.names.now.environment c.args.names.now.before c.args.stmt.now (get_or kinds c.loop-kind.kind-index kind.Version) c.in-Some.at) (sym c.kinds_in_order-kind-items.ensures) first

pub returns : goal.returns
returns c =
    no_refusal c.args.names.now.environment c.args.names.now.before c.args.stmt.now c.loop-kind.kind-index c.loop-kind-test.false c.loop-kind.invariant
