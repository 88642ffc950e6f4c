use Rattle.std.proofs.Common.{◌≡◌, ◌+◌, ◌-◌, ◌*◌, ◌^◌, min, take, fold}
use Rattle.qasm_parse.proofs.item.number_of.Given as goal

abbrev pub invariant-loop-b : goal.invariant-loop-b
invariant-loop-b l = l.n ≡ min (fold (λ n b. 10 * n + (b - 48)) 0 (take l.b-index l.digits)) (2 ^ 64 - 1)
