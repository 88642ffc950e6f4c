use Rattle.std.proofs.Common.{◌≡◌, map, take}
use Rattle.qasm_names.specs.Applications.{applied}
use Rattle.qasm_expand.specs.RegisterKinds.{place_number}
use Rattle.qasm_expand.proofs.numbering.Numbering.all_applied.Given as goal

abbrev pub invariant-loop-arg : goal.invariant-loop-arg
invariant-loop-arg l = l.numbers.items ≡ map (λ arg. place_number l.self.kind l.self.statements.now (applied arg l.k)) (take l.arg-index l.args)
