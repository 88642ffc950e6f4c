use Rattle.zac_group.specs.Made.{AreMadeOf}
use Rattle.zac_group.proofs.grouping.groups_of.Given as goal

abbrev pub invariant-loop-members : goal.invariant-loop-members
invariant-loop-members l = AreMadeOf l.card l.fitted l.members-index l.groups.items
