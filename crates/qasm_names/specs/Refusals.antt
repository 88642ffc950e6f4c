-- The refusals of a statement, by what the statements before it declare and read.
use Rattle.std.specs.Prelude.{◌≡◌, ◌≢◌, ℕ, ◌<◌, ◌≤◌, ◌⊎◌, List, [], ◌∷◌, ◌++◌, true, false, Option, Some, None, length, codes, slice_get}
use Rattle.std.specs.List.{Any, Contains}
use Rattle.qasm_form.specs.declared.stmt.Arg.{Arg}
use Rattle.qasm_form.specs.declared.stmt.BodyOp.{BodyOp}
use Rattle.qasm_form.specs.declared.stmt.Expr.{Expr}
use Rattle.qasm_form.specs.declared.stmt.Named.{Named}
use Rattle.qasm_form.specs.declared.stmt.Node.{Node}
use Rattle.qasm_form.specs.declared.stmt.Node.TheVariants as node
use Rattle.qasm_form.specs.declared.stmt.Stmt.{Stmt}
use Rattle.qasm_form.specs.declared.stmt.Stmt.TheVariants as stmt
use Rattle.qasm_names.specs.declared.fault.ScopeKind.{ScopeKind}
use Rattle.qasm_names.specs.declared.fault.ScopeKind.TheVariants as kind
use Rattle.qasm_names.specs.declared.meaning.Callee.{Callee}
use Rattle.qasm_names.specs.declared.meaning.Callee.TheVariants as calls
use Rattle.qasm_names.specs.Names.{Environment, own_meaning, callee, qubit_size, bit_size}
use Rattle.qasm_names.specs.Environment.{words_of}
use Rattle.qasm_names.specs.Header.{fixed_names}
use Rattle.qasm_names.specs.Applications.{applications, applied, WasRead}

-- Of two members of the list, the earlier is so to the later.
abbrev pub SomeTwo : {X : Type 0} → (X → X → Type 0) → List X → Type 0
SomeTwo {X} R xs = (i j : ℕ) × (x y : X) × (i < j) × (slice_get xs i ≡ Some x) × (slice_get xs j ≡ Some y) × R x y

-- The arguments of a statement at the top that are qubits: those of a call or a barrier, and the left one of a
-- measurement.
abbrev pub qubit_args : Stmt → List Arg
qubit_args (stmt.Call call) = call.args
qubit_args (stmt.Barrier args at) = args
qubit_args (stmt.Measure from into at) = from ∷ []
qubit_args other = []

-- The right argument of a measurement.
abbrev pub bit_args : Stmt → List Arg
bit_args (stmt.Measure from into at) = into ∷ []
bit_args other = []

-- The calls of a statement: itself, where it is one, or those of the body that it declares.
abbrev pub calls_in : Stmt → List BodyOp
calls_in (stmt.Call call) = call ∷ []
calls_in (stmt.Gate name params args body at) = body
calls_in other = []

-- The name is declared by the file, or is one of the fixed names of a header that is included.
abbrev pub IsDeclared : Environment → List ℕ → Type 0
IsDeclared e name = (own_meaning e name ≢ None) ⊎ ((e.included ≡ true) × Contains fixed_names name)

-- The header isn't included yet, and the file has declared one of its fixed names.
abbrev pub ClashesWithHeader : Environment → Type 0
ClashesWithHeader e = (e.included ≡ false) × Any (λ name. own_meaning e name ≢ None) fixed_names

-- The statement is a register, a gate or an opaque gate whose name is declared; or an include where the file clashes
-- with the header.
abbrev pub IsRedeclared : Environment → Stmt → ℕ → Type 0
IsRedeclared e (stmt.Qreg name size from) at = IsDeclared e name × (at ≡ from)
IsRedeclared e (stmt.Creg name size from) at = IsDeclared e name × (at ≡ from)
IsRedeclared e (stmt.Gate name params args body from) at = IsDeclared e name × (at ≡ from)
IsRedeclared e (stmt.Opaque name params args from) at = IsDeclared e name × (at ≡ from)
IsRedeclared e (stmt.Include name from) at = ClashesWithHeader e × (at ≡ from)
IsRedeclared e other at = ⊥

-- The callee is a gate, and the call has another number of angles.
abbrev pub HasOtherParams : Callee → BodyOp → Type 0
HasOtherParams (calls.Gate t params args) call = length call.exprs ≢ params
HasOtherParams other call = ⊥

-- The callee is a gate, and the call has another number of arguments.
abbrev pub HasOtherArity : Callee → BodyOp → Type 0
HasOtherArity (calls.Gate t params args) call = length call.args ≢ args
HasOtherArity other call = ⊥

-- whole registers of different size, or a measurement between a register and one place
abbrev pub DifferInSize : Environment → Arg → Arg → Type 0
DifferInSize e a b = (a.index ≡ None) × (b.index ≡ None) × (qubit_size e a.word ≢ qubit_size e b.word)

-- A measurement is between two registers of different size, or between a whole register and one place.
abbrev pub ReadsUnevenly : Environment → Arg → Arg → Option ℕ → Option ℕ → Type 0
ReadsUnevenly e from into None None = qubit_size e from.word ≢ bit_size e into.word
ReadsUnevenly e from into (Some i) None = Unit {0}
ReadsUnevenly e from into None (Some j) = Unit {0}
ReadsUnevenly e from into (Some i) (Some j) = ⊥

-- Two arguments of a call differ so, or a measurement reads so.
abbrev pub HasUnevenSizes : Environment → Stmt → ℕ → Type 0
HasUnevenSizes e (stmt.Call call) at = SomeTwo (DifferInSize e) call.args × (at ≡ call.at)
HasUnevenSizes e (stmt.Measure from into start) at = ReadsUnevenly e from into from.index into.index × (at ≡ start)
HasUnevenSizes e other at = ⊥

-- There is a size and an index, and the index isn't less.
abbrev pub IsPast : Option ℕ → Option ℕ → Type 0
IsPast (Some size) (Some index) = size ≤ index
IsPast size index = ⊥

-- In some application two arguments are one place.
abbrev pub RepeatsQubit : Environment → List Arg → Type 0
RepeatsQubit e args = (k : ℕ) × (k < applications e args) × SomeTwo (λ a b. applied a k ≡ applied b k) args

-- A call in a body has an argument twice; a barrier may.
abbrev pub RepeatsWord : BodyOp → Type 0
RepeatsWord op = (op.name ≢ codes "barrier") × SomeTwo (λ a b. a.word ≡ b.word) op.args

-- A call at the top repeats a qubit, or a call in a body a word.
abbrev pub HasRepeated : Environment → Stmt → ℕ → Type 0
HasRepeated e (stmt.Call call) at = RepeatsQubit e call.args × (at ≡ call.at)
HasRepeated e (stmt.Gate name params args body from) at = Any (λ op. RepeatsWord op × (at ≡ op.at)) body
HasRepeated e other at = ⊥

-- a name in an expression that isn't one of these, at its offset
abbrev pub UsesOther : List (List ℕ) → ℕ → Node → Type 0
UsesOther params at (node.Name name from) = (¬ Contains params name) × (at ≡ from)
UsesOther params at other = ⊥

-- So is a node of one of these expressions.
abbrev pub UsesOtherIn : List (List ℕ) → List Expr → ℕ → Type 0
UsesOtherIn params exprs at = Any (λ (expr : Expr). Any (UsesOther params at) expr) exprs

-- A name stands earlier among these names.
abbrev pub ComesTwice : List Named → ℕ → Type 0
ComesTwice names at = SomeTwo (λ a b. (a.word ≡ b.word) × (at ≡ b.at)) names

-- A call in a body has an argument, or a name in an angle, that isn't its gate's.
abbrev pub UsesUndeclared : List (List ℕ) → List (List ℕ) → ℕ → BodyOp → Type 0
UsesUndeclared params args at op =
    Any (λ arg. (¬ Contains args arg.word) × (at ≡ arg.at)) op.args ⊎ UsesOtherIn params op.exprs at

-- A declaration has a name twice among its parameters and arguments; or a body uses one that isn't its gate's; or an
-- angle at the top uses a name.
abbrev pub HasName : Stmt → ℕ → Type 0
HasName (stmt.Gate name params args body from) at =
    ComesTwice (params ++ args) at ⊎ Any (UsesUndeclared (words_of params) (words_of args) at) body
HasName (stmt.Opaque name params args from) at = ComesTwice (params ++ args) at
HasName (stmt.Call call) at = UsesOtherIn [] call.exprs at
HasName other at = ⊥

-- Some application is on a qubit that was read.
abbrev pub TouchesRead : Environment → List Stmt → List Arg → Type 0
TouchesRead e before args = (k : ℕ) × (k < applications e args) × Any (λ arg. WasRead e before (applied arg k)) args

-- A call or a measurement touches a qubit that was read.
abbrev pub IsAfterRead : Environment → List Stmt → Stmt → ℕ → Type 0
IsAfterRead e before (stmt.Call call) at = TouchesRead e before call.args × (at ≡ call.at)
IsAfterRead e before (stmt.Measure from into start) at = TouchesRead e before (from ∷ []) × (at ≡ start)
IsAfterRead e before other at = ⊥

-- The statement is a version, and its number isn't `2.0`.
abbrev pub IsOtherVersion : Stmt → ℕ → Type 0
IsOtherVersion (stmt.Version number from) at = (number ≢ codes "2.0") × (at ≡ from)
IsOtherVersion other at = ⊥

-- The statement stands under a condition.
abbrev pub IsControl : Stmt → ℕ → Type 0
IsControl (stmt.If from) at = at ≡ from
IsControl other at = ⊥

-- The statement is a reset.
abbrev pub IsReset : Stmt → ℕ → Type 0
IsReset (stmt.Reset arg from) at = at ≡ from
IsReset other at = ⊥

-- The statement is an include of another name than `qelib1.inc`.
abbrev pub IsOtherInclude : Stmt → ℕ → Type 0
IsOtherInclude (stmt.Include name from) at = (name ≢ codes "qelib1.inc") × (at ≡ from)
IsOtherInclude other at = ⊥

-- The statement has a refusal of this kind at this offset, behind these statements and in this environment.
abbrev pub Refuses : Environment → List Stmt → Stmt → ScopeKind → ℕ → Type 0
Refuses e before s kind.Version at = IsOtherVersion s at
Refuses e before s kind.Control at = IsControl s at
Refuses e before s kind.Reset at = IsReset s at
Refuses e before s kind.Include at = IsOtherInclude s at
Refuses e before s kind.Redeclared at = IsRedeclared e s at
Refuses e before s kind.NotDeclared at =
    Any (λ arg. (qubit_size e arg.word ≡ None) × (at ≡ arg.at)) (qubit_args s) ⊎ Any (λ arg. (bit_size e arg.word ≡ None) × (at ≡ arg.at)) (bit_args s)
Refuses e before s kind.UnknownGate at = Any (λ call. (callee e call.name ≡ calls.Unknown) × (at ≡ call.at)) (calls_in s)
Refuses e before s kind.Opaque at = Any (λ call. (callee e call.name ≡ calls.Opaque) × (at ≡ call.at)) (calls_in s)
Refuses e before s kind.Params at = Any (λ call. HasOtherParams (callee e call.name) call × (at ≡ call.at)) (calls_in s)
Refuses e before s kind.Arity at = Any (λ call. HasOtherArity (callee e call.name) call × (at ≡ call.at)) (calls_in s)
Refuses e before s kind.Sizes at = HasUnevenSizes e s at
Refuses e before s kind.Index at =
    Any (λ arg. IsPast (qubit_size e arg.word) arg.index × (at ≡ arg.at)) (qubit_args s) ⊎ Any (λ arg. IsPast (bit_size e arg.word) arg.index × (at ≡ arg.at)) (bit_args s)
Refuses e before s kind.Repeated at = HasRepeated e s at
Refuses e before s kind.Name at = HasName s at
Refuses e before s kind.AfterRead at = IsAfterRead e before s at

-- The place of a kind among the fifteen.
abbrev pub rank : ScopeKind → ℕ
rank kind.Version = 0
rank kind.Control = 1
rank kind.Reset = 2
rank kind.Include = 3
rank kind.Redeclared = 4
rank kind.NotDeclared = 5
rank kind.UnknownGate = 6
rank kind.Opaque = 7
rank kind.Params = 8
rank kind.Arity = 9
rank kind.Sizes = 10
rank kind.Index = 11
rank kind.Repeated = 12
rank kind.Name = 13
rank kind.AfterRead = 14

-- The statement has this refusal, and each that it has is of a later kind, or of this kind at this offset or a greater
-- one.
pub record IsFirstRefusal (e : Environment) (before : List Stmt) (s : Stmt) (k : ScopeKind) (at : ℕ) : Type 0 where
  pub refuses : Refuses e before s k at
  pub first : (other : ScopeKind) (offset : ℕ) → Refuses e before s other offset → (rank k < rank other) ⊎ ((other ≡ k) × (at ≤ offset))
