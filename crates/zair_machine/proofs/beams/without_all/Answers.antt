use Rattle.std.proofs.Common.{sym, ap, ◌∙◌, subst, arith, length, get_or, List, ◌++◌, ◌∷◌, [], refl, ◌≡◌, true, false, IsTrue}
use Rattle.arrayvec.specs.ArrayVec.{ArrayVec}
use Rattle.zair_form.specs.declared.step.Beam.{Beam}
use Rattle.zair_machine.proofs.Applying.{one_stays, one_goes, fewer_stay}
use Rattle.zair_machine.proofs.beams.without_all.Goals.{then-not-is_listed, else-not-is_listed}
use Rattle.zair_machine.proofs.beams.without_all.Goals as goal

pub push-requires : goal.push-requires
push-requires c = omega (arith, ap length c.loop-b.invariant, fewer_stay c.args.ids.now c.args.active.now c.loop-b.b-index, c.loop-b-test.true, c.requires)

pub loop-b-preserved : goal.loop-b-preserved
loop-b-preserved c =
    let none : Beam = record { id = 0; at = 0 } in
    elim c.if-not-is_listed.branch [
      | then-not-is_listed w ↦
          ap (λ (v : ArrayVec Beam). v.items) w.beams-is ∙ w.push.ensures.items ∙ ap (λ (l : List Beam). l ++ get_or c.args.active.now c.loop-b.b-index none ∷ []) c.loop-b.invariant
          ∙ sym (one_stays c.args.ids.now c.args.active.now c.loop-b.b-index none c.loop-b-test.true (λ h. let t : false ≡ true = subst IsTrue w.if-not-is_listed.true (c.is_listed.ensures.1 h) in absurd (cc)))
      | else-not-is_listed w ↦
          ap (λ (v : ArrayVec Beam). v.items) w.beams-is ∙ c.loop-b.invariant
          ∙ sym (one_goes c.args.ids.now c.args.active.now c.loop-b.b-index none c.loop-b-test.true (c.is_listed.ensures.0 (subst IsTrue (sym w.if-not-is_listed.false) refl)))
    ]
