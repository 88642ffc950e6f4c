use Rattle.std.proofs.Common.{arith}
use Rattle.qasm_expand.proofs.BeforeLemmas.{small_before_calls}
use Rattle.qasm_expand.proofs.registers.Registers.new.Goals as goal

pub new-requires : goal.new-requires
new-requires c = omega (arith, (small_before_calls c.args.statements.now c.requires).qubits)

pub new-requires-2 : goal.new-requires-2
new-requires-2 c = (small_before_calls c.args.statements.now c.requires).bits
