use Rattle.std.proofs.Common.{◌≡◌, ◌++◌, [], ◌∷◌, Some, get_or, refl, ap, ◌∙◌, sym, subst, arith}
use Rattle.std.specs.List.{AllByRecursion}
use Rattle.std.specs.Vec.{vec_len}
use Rattle.std.proofs.lemmas.Option.{slice_get_read}
use Rattle.zac_gates.specs.declared.angle.Angles.{Angles}
use Rattle.zair_form.specs.Ranges.{AnglesFit, GateFits}
use Rattle.zair_form.specs.declared.step.OneGate.{OneGate}
use Rattle.zac_plan.specs.Plan.{gate_of}
use Rattle.zac_plan.proofs.Lists.{all-append}
use Rattle.zac_plan.proofs.Taking.{no_gate, took_none, took_one}
use Rattle.zac_plan.proofs.slots.gates_at.Goals as goal
use Rattle.zac_plan.proofs.slots.gates_at.Goals.{in-One+in_ok-angles+in_ok-push, in_default}

pub loop-number-preserved : goal.loop-number-preserved
loop-number-preserved c =
    let ops = c.args.ops.now in
    let numbers = c.args.numbers.now in
    let k = c.loop-number.number-index in
    let n = get_or numbers k 0 in
    let there = slice_get_read ops _ n c.index-ops-number.result refl (omega arith) c.index-ops-number.is in
    elim c.match-ops-number.branch [
      | in-One+in_ok-angles+in_ok-push w ↦
          let gate : OneGate = record { op = n; q = w.in-One.q; angles = w.in_ok-angles.angles } in
          let gives : gate_of n c.index-ops-number.result ≡ Some gate =
          ap (gate_of n) w.in-One.is ∙ ap (λ (x : Angles). Some (record { op = n; q = w.in-One.q; angles = x })) (sym w.in_ok-angles.ensures) in
          let pushed : c.match-ops-number.ones.items ≡ c.loop-number.ones.items ++ gate ∷ [] = ap (λ v. v.items) w.ones-is ∙ w.in_ok-push.ensures.items in
          let texts : AnglesFit w.in_ok-angles.angles = subst AnglesFit (sym w.in_ok-angles.ensures) w.are_angles.ensures in
          record {
            gates = took_one OneGate gate_of ops numbers k c.index-ops-number.result c.loop-number.ones.items c.match-ops-number.ones.items c.loop-number-test.true there c.loop-number.invariant.gates gate gives pushed;
            fit = subst (AllByRecursion GateFits) (sym pushed) (all-append GateFits c.loop-number.ones.items (gate ∷ []) c.loop-number.invariant.fit ((omega arith, omega arith, texts), tt));
            most = omega (arith, ap (λ v. vec_len v) w.ones-is, w.in_ok-push.ensures.len, c.loop-number.invariant.most);
          }
      | in_default w ↦
          let same : c.match-ops-number.ones.items ≡ c.loop-number.ones.items = ap (λ v. v.items) w.ones-is in
          record {
            gates = took_none OneGate gate_of ops numbers k c.index-ops-number.result c.loop-number.ones.items c.match-ops-number.ones.items c.loop-number-test.true there c.loop-number.invariant.gates (no_gate n c.index-ops-number.result w.in_default.not-One) same;
            fit = subst (AllByRecursion GateFits) (sym same) c.loop-number.invariant.fit;
            most = omega (arith, ap (λ v. vec_len v) w.ones-is, c.loop-number.invariant.most);
          }
    ]
