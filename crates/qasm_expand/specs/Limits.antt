-- The limits, and the first that a program passes.
use Rattle.std.specs.Prelude.{ℕ, ◌+◌, ◌-◌, ◌^◌, min, suc, List, [], ◌∷◌, if◌then◌else◌, nat_lt, Option, Some, None, length}
use Rattle.std.specs.List.{flat_map}
use Rattle.std.specs.Option.{option_or}
use Rattle.qasm_form.specs.declared.stmt.BodyOp.{BodyOp}
use Rattle.qasm_form.specs.declared.stmt.Expr.{Expr}
use Rattle.qasm_form.specs.declared.stmt.Node.{Node}
use Rattle.qasm_form.specs.declared.stmt.Node.TheVariants as node
use Rattle.qasm_form.specs.declared.stmt.Stmt.{Stmt}
use Rattle.qasm_form.specs.declared.stmt.Stmt.TheVariants as stmt
use Rattle.qasm_expand.specs.declared.fault.LimitKind.{LimitKind}
use Rattle.qasm_expand.specs.declared.fault.LimitKind.TheVariants as limit
use Rattle.qasm_expand.specs.Angles.{depth_of}
use Rattle.qasm_expand.specs.Items.{Item}
use Rattle.qasm_expand.specs.Items.Item.{Applied, Barrier, Measured}
use Rattle.qasm_expand.specs.Calls.{Visit}

-- A limit that is passed, with the count that passed it.
abbrev pub Passed : Type 0
Passed = LimitKind × ℕ

-- The limit is passed where the count is more than the most; a count past 2⁶⁴ − 1 stands as 2⁶⁴ − 1.
abbrev pub beyond : LimitKind → ℕ → ℕ → Option Passed
beyond kind most count = if nat_lt most count then Some (kind, min count (2 ^ 64 - 1)) else None

-- the numbers in expressions, in the order of the source
abbrev pub literal_of : Node → List (List ℕ)
literal_of (node.Number text) = text ∷ []
literal_of other = []

-- The texts of the numbers of a node, of expressions, and of a statement's calls, at the top or in a body, in the
-- order of the source.
abbrev pub literals_in : List Expr → List (List ℕ)
literals_in exprs = flat_map (λ (expr : Expr). flat_map literal_of expr) exprs

-- The texts of the numbers of a node, of expressions, and of a statement's calls, at the top or in a body, in the
-- order of the source.
abbrev pub statement_literals : Stmt → List (List ℕ)
statement_literals (stmt.Call call) = literals_in call.exprs
statement_literals (stmt.Gate name params args body at) = flat_map (λ (op : BodyOp). literals_in op.exprs) body
statement_literals other = []

-- The first of these texts that has more than 40 bytes.
abbrev pub passed_by_literals : List (List ℕ) → Option Passed
passed_by_literals [] = None
passed_by_literals (text ∷ texts) = option_or (beyond limit.Literal 40 (length text)) (passed_by_literals texts)

-- The first running sum of sizes that is more than the most.
abbrev pub passed_by_sizes : LimitKind → ℕ → ℕ → List ℕ → Option Passed
passed_by_sizes kind most sum [] = None
passed_by_sizes kind most sum (size ∷ sizes) =
    option_or (beyond kind most (sum + size)) (passed_by_sizes kind most (sum + size) sizes)

-- The size of the register of qubits that a statement declares, and of bits.
abbrev pub qubit_sizes : Stmt → List ℕ
qubit_sizes (stmt.Qreg name size at) = size ∷ []
qubit_sizes other = []

-- The size of the register of qubits that a statement declares, and of bits.
abbrev pub bit_sizes : Stmt → List ℕ
bit_sizes (stmt.Creg name size at) = size ∷ []
bit_sizes other = []

-- The first limit that a call's angles pass, one after another, where all angles before have so many nodes: 256 nodes
-- of one angle, its depth of 64, and 4,194,304 nodes of all.
abbrev pub passed_by_angles : ℕ → List (List Node) → Option Passed
passed_by_angles before [] = None
passed_by_angles before (angle ∷ angles) =
    option_or (beyond limit.AngleNodes 256 (length angle))
    (option_or (beyond limit.AngleDepth 64 (depth_of angle))
    (option_or (beyond limit.AngleTotal 4194304 (before + length angle))
    (passed_by_angles (before + length angle) angles)))

-- The angles of an item.
abbrev pub angles_of : Item → List (List Node)
angles_of (Applied to angles qubits) = angles
angles_of Barrier = []
angles_of (Measured qubit bit) = []

-- The nodes of these angles together.
abbrev pub nodes_in : List (List Node) → ℕ
nodes_in [] = 0
nodes_in (angle ∷ angles) = length angle + nodes_in angles

-- The first limit that calls pass, one after another, behind so many calls and nodes: 262,144 calls, a depth of 64,
-- and those of their angles.
abbrev pub passed_by_calls : ℕ → ℕ → List Visit → Option Passed
passed_by_calls calls nodes [] = None
passed_by_calls calls nodes (v ∷ vs) =
    option_or (beyond limit.Calls 262144 (suc calls))
    (option_or (beyond limit.Depth 64 v.depth)
    (option_or (passed_by_angles nodes (angles_of v.item))
    (passed_by_calls (suc calls) (nodes + nodes_in (angles_of v.item)) vs)))

-- The first limit that is passed before the calls: the length of a number, 4,096 qubits, or 65,536 bits.
abbrev pub passed_before_calls : List Stmt → Option Passed
passed_before_calls statements =
    option_or (passed_by_literals (flat_map statement_literals statements))
    (option_or (passed_by_sizes limit.Qubits 4096 0 (flat_map qubit_sizes statements))
    (passed_by_sizes limit.Bits 65536 0 (flat_map bit_sizes statements)))
