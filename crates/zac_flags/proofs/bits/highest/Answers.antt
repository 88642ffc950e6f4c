use Rattle.std.proofs.Common.{arith}
use Rattle.zac_flags.proofs.WordFacts.{highest_is}
use Rattle.zac_flags.proofs.bits.highest.Goals as goal

pub returns : goal.returns
returns c = highest_is c.args.word (omega (arith, c.if-word-eq0.false)) c.ranges.word.fits
