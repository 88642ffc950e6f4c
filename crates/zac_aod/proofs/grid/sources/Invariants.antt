use Rattle.std.proofs.Common.{◌≡◌, map, take}
use Rattle.zac_aod.specs.declared.line.Line.{Line}
use Rattle.zac_aod.proofs.grid.sources.Given as goal

abbrev pub invariant-loop-line : goal.invariant-loop-line
invariant-loop-line l = l.places.items ≡ map (λ (m : Line). m.from) (take l.line-index l.lines)
