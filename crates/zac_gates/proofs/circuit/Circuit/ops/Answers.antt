use Rattle.std.proofs.Common.{subst}
use Rattle.zac_gates.specs.Ops.{NativeCircuit, IsCircuit}
use Rattle.zac_gates.proofs.circuit.Circuit.ops.Goals as goal
use Rattle.zac_gates.proofs.circuit.Circuit.ops.Goals.{After-as_slice}

circuit : (c : After-as_slice) → IsCircuit c.args.self.now
circuit c = subst (λ (v : NativeCircuit). IsCircuit v) c.self.view_is c.self.invariant

pub returns-clause-valid : goal.returns-clause-valid
returns-clause-valid c = (circuit c).valid

pub returns-clause-few : goal.returns-clause-few
returns-clause-few c = (circuit c).few
