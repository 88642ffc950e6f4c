-- What a statement declares.
use Rattle.std.specs.Prelude.{◌≡◌, ℕ, List, Option, Some, None}
use Rattle.std.specs.Option.{ForSome}
use Rattle.qasm_form.specs.declared.stmt.Stmt.{Stmt}
use Rattle.qasm_form.specs.declared.stmt.Stmt.TheVariants as stmt
use Rattle.qasm_names.specs.Names.{Environment, own_meaning}

-- The name that a statement declares, if it declares one.
abbrev pub declared_name : Stmt → Option (List ℕ)
declared_name (stmt.Qreg name size at) = Some name
declared_name (stmt.Creg name size at) = Some name
declared_name (stmt.Gate name params args body at) = Some name
declared_name (stmt.Opaque name params args at) = Some name
declared_name other = None

-- The file has not declared that name before.
abbrev pub DeclaresNew : Environment → Stmt → Type 0
DeclaresNew e s = ForSome (declared_name s) (λ name. own_meaning e name ≡ None)
