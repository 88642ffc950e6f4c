-- What expanding a program answers.
use Rattle.std.specs.Prelude.{◌≡◌, ◌⊎◌, ℕ, List, [], Some, None}
use Rattle.zac_gates.specs.Ops.{NativeCircuit}
use Rattle.qasm_names.specs.Environment.{environment}
use Rattle.qasm_names.specs.Accepted.{Program}
use Rattle.qasm_expand.specs.declared.fault.LimitKind.{LimitKind}
use Rattle.qasm_expand.specs.Items.{Item, program_items}
use Rattle.qasm_expand.specs.Replacing.{Expands}
use Rattle.qasm_expand.specs.Native.{native_circuit}
use Rattle.qasm_expand.specs.Calls.{Visit, VisitsInOrder, at_depth}
use Rattle.qasm_expand.specs.Limits.{passed_before_calls, passed_by_calls}

-- The calls of a program's statements, each with depth 1.
abbrev pub top_calls : Program → List Visit
top_calls p = at_depth 1 (program_items p.header p.statements)

-- No limit is passed before the calls, nor by the calls once all of them are visited.
pub record IsWithinLimits (p : Program) : Type 0 where
  pub before : passed_before_calls p.statements ≡ None
  pub visited : List Visit
  pub all : VisitsInOrder (environment p.header p.statements).gates (top_calls p) visited []
  pub calls : passed_by_calls 0 0 visited ≡ None

-- This limit is passed first, with this count: before the calls, or, where none is passed there, by one of some calls
-- that come first.
pub record PassesFirst (p : Program) (kind : LimitKind) (count : ℕ) : Type 0 where
  pub visited : List Visit
  pub left : List Visit
  pub calls : VisitsInOrder (environment p.header p.statements).gates (top_calls p) visited left
  pub first : (passed_before_calls p.statements ≡ Some (kind, count)) ⊎ ((passed_before_calls p.statements ≡ None) × (passed_by_calls 0 0 visited ≡ Some (kind, count)))

-- The circuit is the native circuit of the program's calls, expanded until no gate with a body is left.
pub record IsExpansion (p : Program) (c : NativeCircuit) : Type 0 where
  pub items : List Item
  pub expands : Expands (environment p.header p.statements).gates (program_items p.header p.statements) items
  pub is : c ≡ native_circuit p.statements items
