use Rattle.std.proofs.Common.{◌≡◌, ℕ, subst, arith}
use Rattle.zac_gates.specs.Waiting.{AreNextFrom}
use Rattle.zac_gates.proofs.waiting.next_gates.Goals as goal

pub returns-clause-linked : goal.returns-clause-linked
returns-clause-linked c =
    let done : c.loop-k.k ≡ 0 = omega arith in
    subst (λ (k : ℕ). AreNextFrom c.args.ops.now c.loop-k.next.items c.loop-k.first.items k) done c.loop-k.invariant.linked
