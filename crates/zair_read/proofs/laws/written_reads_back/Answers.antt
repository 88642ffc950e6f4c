use Rattle.zair_read.proofs.Written.{written_back}
use Rattle.zair_read.proofs.laws.written_reads_back.Goals as goal

pub returns : goal.returns
returns c = written_back
