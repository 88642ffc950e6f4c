use Rattle.std.proofs.Common.{take}
use Rattle.std.specs.List.{All}
use Rattle.zair_form.specs.Times.{HasLength}
use Rattle.zac_watch.proofs.lengths.first_wrong_length.Given as goal

abbrev pub invariant-loop-number : goal.invariant-loop-number
invariant-loop-number l = All (HasLength l.card.figures) (take l.number l.instrs)
