use Rattle.std.proofs.Common.{arith}
use Rattle.zair_form.proofs.TimerFacts.{noted}
use Rattle.zair_form.proofs.timer.note_one.Goals as goal

pub returns : goal.returns
returns c = λ given h. noted c.args.last.now given (record { id = c.args.id; at = c.args.at }) (omega (arith, c.ranges.id.fits)) h
