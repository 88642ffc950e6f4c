-- Inside: the numbers in a gate's body.
use Rattle.std.specs.Prelude.{ℕ, List}
use Rattle.std.specs.List.{flat_map}
use Rattle.qasm_form.specs.declared.stmt.BodyOp.{BodyOp}
use Rattle.qasm_expand.specs.Limits.{literals_in}

-- The texts of the numbers in a body.
abbrev pub body_literals : List BodyOp → List (List ℕ)
body_literals body = flat_map (λ (op : BodyOp). literals_in op.exprs) body
