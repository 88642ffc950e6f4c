use Rattle.std.proofs.Common.{map, take}
use Rattle.zair_text.specs.Added.{AreLaterAdded}
use Rattle.zair_text.proofs.value.add_later.Given as goal

abbrev pub invariant-loop-item : goal.invariant-loop-item
invariant-loop-item g l = AreLaterAdded (map g.T.AddJson.value_of (take l.item-index l.items)) l.initial.out.items l.out.items
