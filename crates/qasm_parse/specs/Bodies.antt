-- Inside: the items of a body: an operation, or the end.
use Rattle.std.specs.Prelude.{List, [], ◌∷◌, Bool, true, false, Option, Some, None}
use Rattle.qasm_form.specs.declared.stmt.BodyOp.{BodyOp}

abbrev pub item_of : Option BodyOp → List BodyOp × Bool
item_of None = ([], false)
item_of (Some op) = (op ∷ [], true)
