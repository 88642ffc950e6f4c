-- Inside: tests of the header's statements that a proof can compute.
use Rattle.std.specs.Prelude.{ℕ, List, [], ◌∷◌, ◌++◌, length, map, codes, Bool, true, false, not, ◌&&◌, ◌==◌, nat_le, Option, Some, None, is_none}
use Rattle.std.specs.List.{list_all, list_any}
use Rattle.std.specs.Str.{bytes_eq}
use Rattle.qasm_form.specs.declared.stmt.Arg.{Arg}
use Rattle.qasm_form.specs.declared.stmt.BodyOp.{BodyOp}
use Rattle.qasm_form.specs.declared.stmt.Expr.{Expr}
use Rattle.qasm_form.specs.declared.stmt.Node.{Node}
use Rattle.qasm_form.specs.declared.stmt.Node.TheVariants as node
use Rattle.qasm_form.specs.declared.stmt.Stmt.{Stmt}
use Rattle.qasm_form.specs.declared.stmt.Stmt.TheVariants as stmt
use Rattle.qasm_names.specs.declared.meaning.Callee.{Callee}
use Rattle.qasm_names.specs.declared.meaning.Callee.TheVariants as calls
use Rattle.qasm_names.specs.Names.{Environment, callee, own_meaning}
use Rattle.qasm_names.specs.Environment.{enter, enter_all, no_names, words_of}
use Rattle.qasm_names.specs.Refusals.{calls_in}

-- the word is one of these
abbrev pub is_one_of : List (List ℕ) → List ℕ → Bool
is_one_of words word = list_any (bytes_eq word) words

-- no word comes twice
abbrev pub differ : List (List ℕ) → Bool
differ [] = true
differ (word ∷ words) = not (is_one_of words word) && differ words

-- the callee is a gate of so many angles and arguments, or a barrier
abbrev pub takes : Callee → ℕ → ℕ → Bool
takes (calls.Gate t params args) exprs count = (exprs == params) && (count == args)
takes calls.Barrier exprs count = true
takes calls.Unknown exprs count = false
takes calls.Opaque exprs count = false

-- a node uses one of these names, or none
abbrev pub uses_one_of : List (List ℕ) → Node → Bool
uses_one_of params (node.Name name at) = is_one_of params name
uses_one_of params other = true

-- the words of a call's arguments
abbrev pub argument_words : BodyOp → List (List ℕ)
argument_words call = map (λ (arg : Arg). arg.word) call.args

-- a call in a body is of a gate that takes it, its arguments differ, and they and the names in its angles are the gate's
abbrev pub is_fine_call : Environment → List (List ℕ) → List (List ℕ) → BodyOp → Bool
is_fine_call e params args call =
    (takes (callee e call.name) (length call.exprs) (length call.args) && differ (argument_words call)) && (list_all (is_one_of args) (argument_words call) && list_all (λ (expr : Expr). list_all (uses_one_of params) expr) call.exprs)

-- a name that isn't declared, behind no include
abbrev pub is_new : Environment → List ℕ → Bool
is_new e name = is_none (own_meaning e name) && not e.included

-- the statement is the version 2.0, or a gate with a body that isn't refused there
abbrev pub is_fine : Environment → Stmt → Bool
is_fine e (stmt.Version number at) = bytes_eq number (codes "2.0")
is_fine e (stmt.Gate name params args body at) =
    (is_new e name && differ (words_of (params ++ args))) && list_all (is_fine_call e (words_of params) (words_of args)) body
is_fine e other = false

-- each statement is so behind those before it
abbrev pub are_fine : Environment → List Stmt → Bool
are_fine e [] = true
are_fine e (s ∷ ss) = is_fine e s && are_fine (enter e s) ss

-- a number has at most 40 bytes
abbrev pub is_short : Node → Bool
is_short (node.Number text) = nat_le (length text) 40
is_short other = true

-- so has each number in a statement
abbrev pub has_short_numbers : Stmt → Bool
has_short_numbers s =
    list_all (λ (call : BodyOp). list_all (λ (expr : Expr). list_all is_short expr) call.exprs) (calls_in s)

-- the statements are there, each is fine behind those before it and has short numbers, and none declares `cz`
abbrev pub is_fine_header : Option (List Stmt) → Bool
is_fine_header None = false
is_fine_header (Some header) =
    (are_fine no_names header && list_all has_short_numbers header) && is_none (own_meaning (enter_all no_names header) (codes "cz"))
