use Rattle.std.proofs.Common.{◌≡◌, ◌⊎◌, ℕ, not, IsTrue, subst}
use Rattle.std.specs.List.{Any}
use Rattle.zair_form.specs.declared.step.Caught.{Caught}
use Rattle.zair_state.specs.Faults.{named_beam}
use Rattle.zair_state.specs.State.{HasId}
use Rattle.zair_state.proofs.Minima.{Same, least_start, least_more, least_whole, any_with, either_id}
use Rattle.zair_machine.proofs.beams.least_named_in_neither.Goals as goal

pub loop-c-init : goal.loop-c-init
loop-c-init c = least_start (named_beam c.args.axis) (λ (x : Caught). ¬ (HasId c.args.beams.now (named_beam c.args.axis x) ⊎ HasId c.args.others.now (named_beam c.args.axis x)))

pub loop-c-preserved : goal.loop-c-preserved
loop-c-preserved c =
    rw (c.lesser_id_if-least.ensures, c.named-id.ensures) (least_more (named_beam c.args.axis) (λ (x : Caught). ¬ (HasId c.args.beams.now (named_beam c.args.axis x) ⊎ HasId c.args.others.now (named_beam c.args.axis x))) c.args.atoms.now c.loop-c.c-index _ _ c.loop-c.least c.loop-c-test.true (let told = either_id c.args.beams.now c.args.others.now _ _ c.has_id_in_either.ensures in subst (λ (n : ℕ). Same (IsTrue (not c.has_id_in_either.result)) (¬ (HasId c.args.beams.now n ⊎ HasId c.args.others.now n))) c.named-id.ensures told) c.loop-c.invariant)

pub returns : goal.returns
returns c =
    least_whole (named_beam c.args.axis) (λ (x : Caught). ¬ (HasId c.args.beams.now (named_beam c.args.axis x) ⊎ HasId c.args.others.now (named_beam c.args.axis x))) (λ id. Any (λ (x : Caught). named_beam c.args.axis x ≡ id) c.args.atoms.now × ¬ (HasId c.args.beams.now id ⊎ HasId c.args.others.now id)) c.args.atoms.now c.loop-c.c-index c.loop-c.least c.loop-c-test.false (any_with (named_beam c.args.axis) (λ id. ¬ (HasId c.args.beams.now id ⊎ HasId c.args.others.now id)) c.args.atoms.now) c.loop-c.invariant
