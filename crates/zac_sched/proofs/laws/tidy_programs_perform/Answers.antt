use Rattle.std.proofs.Common.{subst}
use Rattle.zac_arch.specs.Rules.{HasFigureRanges}
use Rattle.zac_sched.proofs.TidyPrograms.{orders_agree, tidy_performs}
use Rattle.zac_sched.proofs.laws.tidy_programs_perform.Goals as goal

pub returns-clause-performs : goal.returns-clause-performs
returns-clause-performs c circuit program tidy =
    tidy_performs c.args.card.now c.steps_change_places.ensures c.pulses_find_their_pairs.ensures circuit program tidy
    (subst HasFigureRanges c.figures-rules.ensures.figures c.figures-rules.ensures.ranges)

pub returns-clause-agree : goal.returns-clause-agree
returns-clause-agree c circuit program tidy order allowed =
    orders_agree c.args.card.now c.steps_change_places.ensures circuit program tidy order allowed
