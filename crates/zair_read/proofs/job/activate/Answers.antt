use Rattle.std.proofs.Common.{arith, eq-eqb, refl}
use Rattle.zair_read.proofs.CompactLines.{activate_text}
use Rattle.zair_read.proofs.job.activate.Goals as goal

pub returns : goal.returns
returns c = (
  activate_text c.in_ok-columns.rows c.in_ok-columns.columns c.in_ok-atoms.atoms c.args.bytes.now c.in_ok-atoms.rest.now c.in_ok-columns.rest.now c.in_ok-rest.rest.now
      c.in_ok-atoms.ensures.0 c.in_ok-columns.ensures.0 c.in_ok-rest.ensures,
  ((omega arith, c.in_ok-columns.ensures.2, c.in_ok-columns.ensures.1, c.in_ok-atoms.ensures.1), eq-eqb c.args.aod c.args.aod refl),
)
