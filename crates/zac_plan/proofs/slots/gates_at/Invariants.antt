use Rattle.std.proofs.Common.{◌≡◌, ◌≤◌, take}
use Rattle.std.specs.List.{AllByRecursion}
use Rattle.std.specs.Vec.{vec_len}
use Rattle.zac_plan.specs.Plan.{gates_at}
use Rattle.zair_form.specs.Ranges.{GateFits}
use Rattle.zac_plan.proofs.slots.gates_at.Given as goal

abbrev pub invariant-loop-number : goal.invariant-loop-number
invariant-loop-number l = record {
  gates : l.ones.items ≡ gates_at l.ops (take l.number-index l.numbers);
  fit : AllByRecursion GateFits l.ones.items;
  most : vec_len l.ones ≤ l.number-index;
}
