use Rattle.std.proofs.Common.{◌≡◌, ◌<◌, ◌++◌, decimal, length}
use Rattle.zair_read.proofs.compact.further_digits.Given as goal

abbrev pub invariant-digits : goal.invariant-digits
invariant-digits l = (0 < l.value) × (decimal l.fn.first ++ l.fn.bytes ≡ decimal l.value ++ l.rest)

abbrev pub decreases-digits : goal.decreases-digits
decreases-digits l = length l.rest
