use Rattle.std.proofs.Common.{arith}
use Rattle.zac_gates.proofs.waiting.Links.of.Goals as goal

pub returns-clause-links : goal.returns-clause-links
returns-clause-links c =
    let linked = c.in_ok-next.ensures.linked in
    record {
      next_len = linked.len;
      fences_len = c.in_ok-fences.ensures.len;
      next = λ k op p is has. linked.nexts k op p (omega arith) is has;
      fences = c.in_ok-fences.ensures.fenced;
    }
