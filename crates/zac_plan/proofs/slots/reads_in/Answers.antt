use Rattle.std.proofs.Common.{◌≡◌, ◌++◌, [], ◌∷◌, Some, refl, ap, ◌∙◌, sym, subst, arith}
use Rattle.std.specs.List.{AllByRecursion}
use Rattle.std.proofs.lemmas.Option.{slice_get_read}
use Rattle.zair_form.specs.Ranges.{ReadFits}
use Rattle.zair_form.specs.declared.step.ReadOf.{ReadOf}
use Rattle.zac_plan.specs.Plan.{read_of}
use Rattle.zac_plan.proofs.Lists.{all-append}
use Rattle.zac_plan.proofs.Taking.{no_read, read_none, read_one}
use Rattle.zac_plan.proofs.slots.reads_in.Goals as goal
use Rattle.zac_plan.proofs.slots.reads_in.Goals.{in-Read+in_ok-push, in_default}

pub loop-number-preserved : goal.loop-number-preserved
loop-number-preserved c =
    let ops = c.args.ops.now in
    let n = c.loop-number.number in
    let op = c.index-ops-number.result in
    let there = slice_get_read ops _ n op refl (omega arith) c.index-ops-number.is in
    elim c.match-op.branch [
      | in-Read+in_ok-push w ↦
          let read : ReadOf = record { op = n; q = w.in-Read.q; bit = w.in-Read.bit } in
          let gives : read_of n op ≡ Some read = ap (read_of n) w.in-Read.is in
          let pushed : c.match-op.reads.items ≡ c.loop-number.reads.items ++ read ∷ [] = ap (λ v. v.items) w.reads-is ∙ w.in_ok-push.ensures.items in
          record {
            reads = read_one ReadOf read_of ops n op c.loop-number.reads.items c.match-op.reads.items there c.loop-number.invariant.reads read gives pushed;
            fit = subst (AllByRecursion ReadFits) (sym pushed) (all-append ReadFits c.loop-number.reads.items (read ∷ []) c.loop-number.invariant.fit ((omega arith, omega arith, omega arith), tt));
          }
      | in_default w ↦
          let same : c.match-op.reads.items ≡ c.loop-number.reads.items = ap (λ v. v.items) w.reads-is in
          record {
            reads = read_none ReadOf read_of ops n op c.loop-number.reads.items c.match-op.reads.items there c.loop-number.invariant.reads (no_read n op w.in_default.not-Read) same;
            fit = subst (AllByRecursion ReadFits) (sym same) c.loop-number.invariant.fit;
          }
    ]
