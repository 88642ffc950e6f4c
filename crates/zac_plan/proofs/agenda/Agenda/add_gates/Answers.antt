use Rattle.std.proofs.Common.{[], ◌∷◌, ◌++◌, ◌<◌, List, length, ap, ◌∙◌, arith}
use Rattle.std.proofs.lemmas.Bool.Decides.{nat_tests}
use Rattle.zac_plan.proofs.Growing.{gates_are, goes_on_by, goes_on_same}
use Rattle.zac_plan.specs.Plan.{gates_todo}
use Rattle.zac_sched.specs.declared.todo.Todo.TheVariants.{Gates}
use Rattle.zair_form.specs.declared.step.OneGate.{OneGate}
use Rattle.zac_plan.proofs.agenda.Agenda.add_gates.Goals as goal

pub returns : goal.returns
returns c =
    let ones = c.args.ones.items in
    let some : 0 < length ones = grind (arith, nat_tests) in
    record {
      ok =
          goes_on_same c.args.self.now (record { todo = c.push.new.self }) (Gates ones ∷ []) (gates_todo ones) (gates_are ones some)
          (goes_on_by c.args.self.now (record { todo = c.push.new.self }) (Gates ones) (λ aod id. c.requires.fits)
          (c.in_ok-push.ensures.items ∙ ap (λ (l : List OneGate). c.args.self.now.todo.items ++ Gates l ∷ []) c.of-ones.ensures));
    }
