-- Numbers of at most 40 bytes.
use Rattle.std.specs.Prelude.{◌≤◌, List, length}
use Rattle.std.specs.List.{AllByRecursion}
use Rattle.qasm_form.specs.declared.stmt.BodyOp.{BodyOp}
use Rattle.qasm_form.specs.declared.stmt.Expr.{Expr}
use Rattle.qasm_form.specs.declared.stmt.Node.{Node}
use Rattle.qasm_form.specs.declared.stmt.Node.TheVariants as node
use Rattle.qasm_form.specs.declared.stmt.Stmt.{Stmt}
use Rattle.qasm_names.specs.Refusals.{calls_in}

-- A number has at most 40 bytes.
abbrev pub IsShort : Node → Type 0
IsShort (node.Number text) = length text ≤ 40
IsShort other = Unit {0}

-- So has each number in these expressions.
abbrev pub AreShortIn : List Expr → Type 0
AreShortIn exprs = AllByRecursion (λ (expr : Expr). AllByRecursion IsShort expr) exprs

-- So has each number in a statement: in its call, or in the calls of the body that it declares.
abbrev pub HasShortNumbers : Stmt → Type 0
HasShortNumbers s = AllByRecursion (λ (call : BodyOp). AreShortIn call.exprs) (calls_in s)
