use Rattle.std.proofs.Common.{refl}
use Rattle.zac_flow.proofs.stages.compiled_from.Goals as goal

pub returns-clause-ok : goal.returns-clause-ok
returns-clause-ok c = (
  record {
    card = c.in_ok-card.card;
    circuit = c.in_ok-circuit.circuit;
    is = c.in_ok-circuit.ensures.ok;
    fits = c.in_ok-program.ensures.fits;
    performs = c.in_ok-program.ensures.ok;
    agree = c.in_ok-program.ensures.agree;
    planned = c.in_ok-program.ensures.planned;
    ranges = c.in_ok-program.ensures.ranges;
  },
  refl,
)
