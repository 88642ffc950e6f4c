use Rattle.std.proofs.Common.{refl, sym, ◌∙◌, arith}
use Rattle.std.proofs.lemmas.Bool.{false≢true}
use Rattle.zair_machine.proofs.Reaching.{far_next, all_far, one_far}
use Rattle.zair_machine.proofs.machine.Machine.is_free.Goals as goal

pub returns-then-not-is_out_of_reach : goal.returns-then-not-is_out_of_reach
returns-then-not-is_out_of_reach c = (
  λ e. absurd (false≢true e),
  λ free. absurd (false≢true (sym c.if-not-is_out_of_reach.true ∙ c.is_out_of_reach.ensures.1 (λ ne. one_far c.reach-reach.result c.args.self.now.card c.args.self.now.state c.args.aod c.args.p c.loop-k.k c.reach-reach.ensures ne free))),
)

pub loop-k-preserved : goal.loop-k-preserved
loop-k-preserved c =
    far_next c.reach-reach.result c.args.self.now.state c.args.aod c.args.p c.loop-k.k c.loop-k.invariant (c.is_out_of_reach.ensures.0 c.if-not-is_out_of_reach.false)

pub returns : goal.returns
returns c =
    (λ _. all_far c.reach-reach.result c.args.self.now.card c.args.self.now.state c.args.aod c.args.p c.loop-k.k c.reach-reach.ensures (omega (arith, c.aods-k-end.ensures, c.loop-k-test.false)) c.loop-k.invariant, λ _. refl)
