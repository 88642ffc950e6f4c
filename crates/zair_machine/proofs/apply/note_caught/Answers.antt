use Rattle.std.proofs.Common.{◌<◌, ◌∙◌, arith, length-set, take_all, subst, List}
use Rattle.std.specs.List.{All}
use Rattle.std.proofs.lemmas.Grind.{common_steps}
use Rattle.std.proofs.lemmas.List.Elements.{All-more}
use Rattle.zair_form.specs.declared.step.Caught.{Caught}
use Rattle.zair_machine.proofs.apply.note_caught.Goals as goal

pub loop-c-preserved : goal.loop-c-preserved
loop-c-preserved c = (
  length-set c.loop-c.index _ _ ∙ c.loop-c.invariant.0,
  grind (arith, common_steps),
  All-more (λ (x : Caught). (x.row < 256) × (x.column < 256)) c.args.atoms.now c.loop-c.c-index (record { q = 0; row = 0; column = 0 }) c.loop-c-test.true c.loop-c.invariant.2 c.crossing_number.ensures.ids,
)

pub returns-clause-ids : goal.returns-clause-ids
returns-clause-ids c = subst (λ (l : List Caught). All (λ (x : Caught). (x.row < 256) × (x.column < 256)) l) (take_all c.loop-c.c-index c.args.atoms.now c.loop-c-test.false) c.loop-c.invariant.2
