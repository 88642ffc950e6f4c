use Rattle.std.proofs.Common.{inl, inr, Err, List, ℕ, refl, sym, ap, subst}
use Rattle.std.proofs.lemmas.Result.{err_from_is_err_and}
use Rattle.zac_arch.specs.Architecture.{Architecture}
use Rattle.qasm_names.specs.Accepted.{Program}
use Rattle.qasm_expand.specs.Expansion.{PassesFirst}
use Rattle.qasm_source.specs.Refusals.{IsRefusalOrWant}
use Rattle.qasm_source.specs.Source.{IsAccepted}
use Rattle.qasm_source.specs.declared.source_fault.SourceFault.{SourceFault}
use Rattle.qasm_source.specs.declared.source_fault.SourceFault.TheVariants as source
use Rattle.zac_fault.specs.Statuses.{source_fault_of}
use Rattle.zac_fault.specs.declared.status.Fault.{Fault}
use Rattle.zac_flow.specs.Faults.{IsFaultOrWant}
use Rattle.zac_flow.specs.Inputs.{AreShort, IsCardOf}
use Rattle.zac_flow.specs.declared.inputs.Inputs.{Inputs}
use Rattle.zac_flow.proofs.stages.circuit_from.Goals as goal

-- what is told of a source
told : (i : Inputs) (a : Architecture) (f : SourceFault) → AreShort i → IsCardOf i.card a → IsRefusalOrWant i.source f → IsFaultOrWant i (source_fault_of f)
told i a source.Memory short card h = inl refl
told i a (source.Refused k at) short card (inl e) = absurd (cc)
told i a (source.Refused k at) short card (inr h) = inr (short, (a, card), h)

pub returns-in_err-scope-clause-fault : goal.returns-in_err-scope-clause-fault
returns-in_err-scope-clause-fault c =
    let p = err_from_is_err_and c.from_residual.result c.from_residual.ensures.1 in
    let why : IsRefusalOrWant c.args.inputs.now.source c.in_err-scope.field-0.0 =
    subst (λ (l : List ℕ). IsRefusalOrWant l c.in_err-scope.field-0.0) c.as_slice.ensures c.in_err-scope.ensures.fault in
    rw p.1 (subst (λ (f : Fault). IsFaultOrWant c.args.inputs.now f) (sym p.2) (told c.args.inputs.now c.args.card.now c.in_err-scope.field-0.0 c.requires.short c.requires.card why))

pub returns-in-Err-Limit-clause-fault : goal.returns-in-Err-Limit-clause-fault
returns-in-Err-Limit-clause-fault c =
    let at = c.in-Err-Limit in
    inr (
      c.args.card.now,
      c.in_ok-scope.scope,
      record {
        short = c.requires.short;
        card = c.requires.card;
        accepted = subst (λ (l : List ℕ). IsAccepted l c.in_ok-scope.scope) c.as_slice.ensures c.in_ok-scope.ensures.ok;
      },
      subst (λ (p : Program). PassesFirst p at.kind at.count) c.program.ensures (at.ensures.limit at.kind at.count (ap Err at.field-0-is)),
    )
