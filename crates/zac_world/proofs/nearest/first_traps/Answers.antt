use Rattle.std.proofs.Common.{map, ap, ◌∙◌, arith, List}
use Rattle.zac_world.specs.declared.walk.Candidate.{Candidate}
use Rattle.zac_world.proofs.ListFacts.{take-min}
use Rattle.zac_world.proofs.nearest.first_traps.Goals as goal

pub returns : goal.returns
returns c =
    c.of.ensures ∙ c.in_ok-traps_of.ensures
    ∙ ap (λ (l : List Candidate). map (λ (d : Candidate). d.trap) l) (take-min c.args.count _ c.args.found.now (omega arith))
