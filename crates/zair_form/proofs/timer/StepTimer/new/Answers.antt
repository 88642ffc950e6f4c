use Rattle.zair_form.proofs.TimerFacts.{none_yet}
use Rattle.zair_form.proofs.timer.StepTimer.new.Goals as goal

pub returns : goal.returns
returns c = record {
  rows = none_yet c.no_positions.result c.no_positions.ensures;
  columns = none_yet c.no_positions-2.result c.no_positions-2.ensures;
}
