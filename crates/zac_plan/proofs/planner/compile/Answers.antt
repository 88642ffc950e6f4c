use Rattle.std.proofs.Common.{◌≤◌, ◌∙◌, arith}
use Rattle.zac_arch.proofs.Geometry.{site_count_least}
use Rattle.zac_plan.specs.Growth.{IsStagingOf}
use Rattle.zac_plan.proofs.Planned.{staging_of}
use Rattle.zac_plan.proofs.planner.compile.Goals as goal
use Rattle.zac_plan.proofs.planner.compile.Goals.{After-pulses_are_filled}

pub stage-requires : goal.stage-requires
stage-requires c = omega (arith, c.sites.ensures, site_count_least c.args.card.now c.figures-figures.ensures.rules)

staged : (c : After-pulses_are_filled) → IsStagingOf c.args.card.now c.args.circuit.now c.in_ok-stages.stages
staged c =
    let s = c.in_ok-stages.stages in
    let is = c.in_ok-stages.ensures in
    let some : 1 ≤ s.sites = omega (arith, is.2, c.sites.ensures, site_count_least c.args.card.now c.figures-figures.ensures.rules) in
    staging_of c.args.card.now c.args.circuit.now s is.0 is.1 (is.2 ∙ c.sites.ensures) (c.numbers_follow.ensures s.circuit.ops s.sites s.numbers is.0.numbered)
    (λ t numbers at. c.pulses_are_filled.ensures s t numbers some is.0 at)

pub scheduled-requires-clause-stages : goal.scheduled-requires-clause-stages
scheduled-requires-clause-stages c = staged (goal.at.scheduled-requires-clause-stages c).After-pulses_are_filled

pub returns-clause-performs : goal.returns-clause-performs
returns-clause-performs c = c.tidy_programs_perform.ensures.performs c.args.circuit.now c.in_ok-program.program c.in_ok-program.ensures.tidy

pub returns-clause-agree : goal.returns-clause-agree
returns-clause-agree c = c.tidy_programs_perform.ensures.agree c.args.circuit.now c.in_ok-program.program c.in_ok-program.ensures.tidy
