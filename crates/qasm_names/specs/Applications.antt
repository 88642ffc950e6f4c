-- A call with whole registers is applied index by index.
use Rattle.std.specs.Prelude.{◌≡◌, ℕ, ◌<◌, List, [], ◌∷◌, Option, Some, None, slice_get}
use Rattle.qasm_form.specs.declared.stmt.Arg.{Arg}
use Rattle.qasm_form.specs.declared.stmt.Stmt.{Stmt}
use Rattle.qasm_form.specs.declared.stmt.Stmt.TheVariants as stmt
use Rattle.qasm_names.specs.Names.{Environment, qubit_size, value_or}

-- A qubit or a bit: its register's name, and its index there.
abbrev pub Place : Type 0
Place = List ℕ × ℕ

-- How often a call is applied by this argument: where it is a whole register, as often as the register is large; where
-- it has an index, as often as by the other arguments.
abbrev pub times_by : Environment → Arg → Option ℕ → ℕ → ℕ
times_by e arg None others = value_or (qubit_size e arg.word) 0
times_by e arg (Some index) others = others

-- How often a call on these arguments is applied: as often as its first whole register is large, or once where all
-- have an index.
abbrev pub applications : Environment → List Arg → ℕ
applications e [] = 1
applications e (arg ∷ args) = times_by e arg arg.index (applications e args)

-- What an argument is in application k: its place, or place k of its register.
abbrev pub applied : Arg → ℕ → Place
applied arg k = (arg.word, value_or arg.index k)

-- a measurement among these statements has read the qubit
pub record WasRead (e : Environment) (before : List Stmt) (q : Place) : Type 0 where
  pub i : ℕ
  pub k : ℕ
  pub from : Arg
  pub into : Arg
  pub at : ℕ
  pub measured : slice_get before i ≡ Some (stmt.Measure from into at)
  pub applies : k < applications e (from ∷ [])
  pub is : q ≡ applied from k
