use Rattle.std.proofs.Common.{◌≡◌, ◌++◌, take, drop}
use Rattle.std.specs.List.{zip}
use Rattle.qasm_expand.specs.Angles.{substitute}
use Rattle.qasm_expand.proofs.SubstitutionLemmas.{AllStand}
use Rattle.qasm_expand.proofs.substitution.substitute.Given as goal

abbrev pub invariant-loop-node : goal.invariant-loop-node
invariant-loop-node l = record {
  made : l.nodes.items ++ substitute (zip l.params l.angles) (drop l.node-index l.node-items) ≡ substitute (zip l.params l.angles) l.expr;
  stand : AllStand (zip l.params l.angles) (take l.node-index l.node-items);
}
