use Rattle.zac_arch.proofs.Ranges.{figure_ranges}
use Rattle.zac_arch.proofs.card.Card.figures.Goals as goal

pub returns-clause-ranges : goal.returns-clause-ranges
returns-clause-ranges c = figure_ranges _ c.self.invariant
