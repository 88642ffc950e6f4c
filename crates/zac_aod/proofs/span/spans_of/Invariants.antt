use Rattle.std.proofs.Common.{take}
use Rattle.zac_aod.specs.Layout.{AreCovered}
use Rattle.zac_aod.proofs.span.spans_of.Given as goal

abbrev pub invariant-loop-atom : goal.invariant-loop-atom
invariant-loop-atom l = AreCovered (take l.atom-index l.atoms) l.columns l.spans.items
