use Rattle.std.proofs.Common.{arith}
use Rattle.zair_machine.proofs.AfterBeams.{placed_at, placed_last, none_greater_more}
use Rattle.zair_machine.proofs.beams.place_for.Goals as goal

pub loop-k-init : goal.loop-k-init
loop-k-init c = λ i d before within. absurd (omega arith)

pub loop-k-preserved : goal.loop-k-preserved
loop-k-preserved c =
    none_greater_more c.args.b.id c.args.beams.now c.loop-k.k (record { id = 0; at = 0 }) c.loop-k.invariant (λ h. absurd (omega (arith, h, c.if-b-c.false))) c.loop-k-test.true

pub returns-then-b-c-clause-place : goal.returns-then-b-c-clause-place
returns-then-b-c-clause-place c =
    placed_at c.args.b c.args.beams.now c.loop-k.k _ c.loop-k-test.true c.loop-k.invariant c.if-b-c.true

pub returns-clause-place : goal.returns-clause-place
returns-clause-place c = placed_last c.args.b c.args.beams.now c.loop-k.k c.loop-k-test.false c.loop-k.invariant
