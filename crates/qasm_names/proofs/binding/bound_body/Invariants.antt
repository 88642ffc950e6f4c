use Rattle.std.proofs.Common.{◌≡◌, take, map}
use Rattle.qasm_names.specs.Environment.{bound_call}
use Rattle.qasm_names.proofs.binding.bound_body.Given as goal

abbrev pub invariant-loop-call : goal.invariant-loop-call
invariant-loop-call l = l.bound.items ≡ map (bound_call l.known l.places) (take l.call-index l.body)
