use Rattle.std.proofs.Common.{◌≡◌, ℕ, ◌+◌, ◌≤◌, List, drop}
use Rattle.std.specs.Map.{lookup}
use Rattle.std.specs.Option.{option_or}
use Rattle.std.specs.Str.{bytes_eq}
use Rattle.qasm_expand.specs.Numbering.{extent_in, extent_of, extents_from}
use Rattle.qasm_expand.specs.RegisterKinds.{registers_of, place_count}
use Rattle.qasm_expand.proofs.extent.extents_of.Given as goal

abbrev pub invariant-loop-stmt : goal.invariant-loop-stmt
invariant-loop-stmt l = record {
  few : l.start + place_count l.kind (drop l.stmt-index l.statements) ≤ 65536;
  rest : (name : List ℕ) → option_or (extent_in l.extents name) (lookup (bytes_eq name) (extents_from l.start (registers_of l.kind (drop l.stmt-index l.statements)))) ≡ extent_of l.kind l.statements name;
}
