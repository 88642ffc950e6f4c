-- Inside: the parts of a judgement: what is asked of one call, one argument, two arguments.
use Rattle.std.specs.Prelude.{◌≡◌, ℕ, ◌<◌, List, [], ◌∷◌, ◌++◌, Option, Some, None, slice_get, take}
use Rattle.std.specs.List.{Any, Contains}
use Rattle.qasm_form.specs.declared.stmt.Arg.{Arg}
use Rattle.qasm_form.specs.declared.stmt.BodyOp.{BodyOp}
use Rattle.qasm_form.specs.declared.stmt.Named.{Named}
use Rattle.qasm_scope.specs.declared.arguments.ArgFault.{ArgFault}
use Rattle.qasm_scope.specs.declared.arguments.ArgFault.TheVariants as arg_fault
use Rattle.qasm_scope.specs.declared.arguments.Register.{Register}
use Rattle.qasm_scope.specs.declared.arguments.Register.TheVariants as register
use Rattle.qasm_scope.specs.declared.calls.CallFault.{CallFault}
use Rattle.qasm_scope.specs.declared.calls.CallFault.TheVariants as call_fault
use Rattle.qasm_names.specs.declared.fault.ScopeKind.{ScopeKind}
use Rattle.qasm_names.specs.declared.fault.ScopeKind.TheVariants as kind
use Rattle.qasm_names.specs.declared.meaning.Callee.TheVariants as calls
use Rattle.qasm_scope.specs.declared.pairs.PairFault.{PairFault}
use Rattle.qasm_scope.specs.declared.pairs.PairFault.TheVariants as pair_fault
use Rattle.qasm_names.specs.Names.{Environment, callee, qubit_size, bit_size, value_or}
use Rattle.qasm_names.specs.Environment.{words_of}
use Rattle.qasm_names.specs.Applications.{applied, WasRead}
use Rattle.qasm_names.specs.Refusals.{DifferInSize, HasOtherParams, HasOtherArity, IsPast, RepeatsWord}
use Rattle.qasm_form.specs.declared.stmt.Stmt.{Stmt}

-- The size of a register of one kind, of qubits or of bits.
abbrev pub size_of : Environment → Register → List ℕ → Option ℕ
size_of e register.Qubits name = qubit_size e name
size_of e register.Bits name = bit_size e name

-- What is wrong with an argument: it names no register of this kind, or its index is past its register.
abbrev pub HasArgFault : Environment → Register → ArgFault → Arg → Type 0
HasArgFault e r arg_fault.NotDeclared arg = size_of e r arg.word ≡ None
HasArgFault e r arg_fault.Index arg = IsPast (size_of e r arg.word) arg.index

-- This is wrong with the argument at this offset.
abbrev pub HasArgFaultAt : Environment → Register → ArgFault → List Arg → ℕ → Type 0
HasArgFaultAt e r fault args at = Any (λ arg. HasArgFault e r fault arg × (at ≡ arg.at)) args

-- What is wrong with a call: it is unknown, opaque, has another number of angles or of arguments, or repeats a word.
abbrev pub HasCallFault : Environment → CallFault → BodyOp → Type 0
HasCallFault e call_fault.Unknown call = callee e call.name ≡ calls.Unknown
HasCallFault e call_fault.Opaque call = callee e call.name ≡ calls.Opaque
HasCallFault e call_fault.Params call = HasOtherParams (callee e call.name) call
HasCallFault e call_fault.Arity call = HasOtherArity (callee e call.name) call
HasCallFault e call_fault.Repeated call = RepeatsWord call

-- This is wrong with the call at this offset.
abbrev pub HasCallFaultAt : Environment → CallFault → List BodyOp → ℕ → Type 0
HasCallFaultAt e fault calls at = Any (λ call. HasCallFault e fault call × (at ≡ call.at)) calls

-- In one of so many applications both indices are one.
abbrev pub IndicesMeet : ℕ → Option ℕ → Option ℕ → Type 0
IndicesMeet times a b = (k : ℕ) × (k < times) × (value_or a k ≡ value_or b k)

-- In one of so many applications both arguments are one place.
abbrev pub MeetWithin : ℕ → Arg → Arg → Type 0
MeetWithin times a b = (k : ℕ) × (k < times) × (applied a k ≡ applied b k)

-- What is wrong with two arguments: they differ in size, they meet in one of so many applications, or they have one
-- word.
abbrev pub HasPairFault : Environment → PairFault → Arg → Arg → Type 0
HasPairFault e pair_fault.Sizes a b = DifferInSize e a b
HasPairFault e (pair_fault.Repeated times) a b = MeetWithin times a b
HasPairFault e pair_fault.Words a b = a.word ≡ b.word

-- The argument at this offset isn't one of these words.
abbrev pub IsForeignAt : List (List ℕ) → List Arg → ℕ → Type 0
IsForeignAt words args at = Any (λ arg. (¬ Contains words arg.word) × (at ≡ arg.at)) args

-- In one of so many applications the argument is a qubit that was read.
abbrev pub TouchesReadBy : Environment → List Stmt → ℕ → Arg → Type 0
TouchesReadBy e before times arg = (k : ℕ) × (k < times) × WasRead e before (applied arg k)

-- The name at this offset stands earlier in its list, or in the list before.
abbrev pub ComesAgain : List Named → List Named → ℕ → Type 0
ComesAgain before names at =
    (j : ℕ) × (name : Named) × (slice_get names j ≡ Some name) × Contains (words_of (before ++ take j names)) name.word × (at ≡ name.at)

-- The fifteen kinds in their order.
abbrev pub kinds_in_order : List ScopeKind
kinds_in_order =
    kind.Version ∷ kind.Control ∷ kind.Reset ∷ kind.Include ∷ kind.Redeclared ∷ kind.NotDeclared ∷ kind.UnknownGate ∷ kind.Opaque ∷ kind.Params ∷ kind.Arity ∷ kind.Sizes ∷ kind.Index ∷ kind.Repeated ∷ kind.Name ∷ kind.AfterRead ∷ []
