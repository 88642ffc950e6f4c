use Rattle.std.proofs.Common.{◌≡◌, ◌+◌, drop}
use Rattle.qasm_expand.specs.RegisterKinds.{place_count}
use Rattle.qasm_expand.proofs.numbering.Numbering.count.Given as goal

abbrev pub invariant-loop-stmt : goal.invariant-loop-stmt
invariant-loop-stmt l = l.count + place_count l.self.kind (drop l.stmt-index l.self.statements.now) ≡ place_count l.self.kind l.self.statements.now
