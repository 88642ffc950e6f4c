use Rattle.std.proofs.Common.{◌≡◌, take, map}
use Rattle.std.specs.List.{position_or_len}
use Rattle.std.specs.Str.{bytes_eq}
use Rattle.qasm_form.specs.declared.stmt.Arg.{Arg}
use Rattle.qasm_names.proofs.places.Places.all.Given as goal

abbrev pub invariant-loop-arg : goal.invariant-loop-arg
invariant-loop-arg l = l.places.items ≡ map (λ (arg : Arg). position_or_len (bytes_eq arg.word) l.self) (take l.arg-index l.args)
