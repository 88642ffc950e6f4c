use Rattle.std.proofs.Common.{arith}
use Rattle.zac_flags.proofs.WordFacts.{lowest_is}
use Rattle.zac_flags.proofs.bits.lowest.Goals as goal

pub returns : goal.returns
returns c = lowest_is c.args.word (omega (arith, c.if-word-eq0.false)) c.ranges.word.fits
