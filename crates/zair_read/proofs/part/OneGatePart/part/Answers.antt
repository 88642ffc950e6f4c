use Rattle.std.proofs.Common.{arith}
use Rattle.zair_read.proofs.CompactLines.{gate_text}
use Rattle.zair_read.proofs.part.OneGatePart.part.Goals as goal

pub returns : goal.returns
returns c = (
  gate_text
      (record { op = c.in_ok-op.op; q = c.in_ok-q.q; angles = record { theta = c.in_ok-theta.theta; phi = c.in_ok-phi.phi; lambda = c.in_ok-lambda.lambda } })
      c.args.bytes.now c.in_ok-rest.rest.now c.in_ok-op.rest.now c.in_ok-rest-2.rest.now c.in_ok-q.rest.now c.in_ok-rest-3.rest.now
      c.in_ok-theta.rest.now c.in_ok-rest-4.rest.now c.in_ok-phi.rest.now c.in_ok-rest-5.rest.now c.in_ok-lambda.rest.now c.in_ok-rest-6.rest.now
      c.in_ok-rest.ensures c.in_ok-op.ensures.0 c.in_ok-rest-2.ensures c.in_ok-q.ensures.0 c.in_ok-rest-3.ensures
      c.in_ok-theta.ensures.0 c.in_ok-rest-4.ensures c.in_ok-phi.ensures.0 c.in_ok-rest-5.ensures c.in_ok-lambda.ensures.0 c.in_ok-rest-6.ensures,
  (omega (arith, c.in_ok-op.ensures.1), omega (arith, c.in_ok-q.ensures.1), (c.in_ok-theta.ensures.1, c.in_ok-phi.ensures.1, c.in_ok-lambda.ensures.1)),
)
