-- The names of the kinds of refusals, as they are told.
use Rattle.std.specs.Prelude.{ℕ, List, codes}
use Rattle.qasm_names.specs.declared.fault.ScopeKind.{ScopeKind}
use Rattle.qasm_names.specs.declared.fault.ScopeKind.TheVariants as scope
use Rattle.qasm_source.specs.declared.source_fault.Refusal.{Refusal}
use Rattle.qasm_source.specs.declared.source_fault.Refusal.TheVariants.{Lex, Syntax, Scope}

-- The name of each kind of a statement's refusal, from `Version` to `AfterRead`.
abbrev pub scope_name : ScopeKind → List ℕ
scope_name scope.Version = codes "Version"
scope_name scope.Control = codes "Control"
scope_name scope.Reset = codes "Reset"
scope_name scope.Include = codes "Include"
scope_name scope.Redeclared = codes "Redeclared"
scope_name scope.NotDeclared = codes "NotDeclared"
scope_name scope.UnknownGate = codes "UnknownGate"
scope_name scope.Opaque = codes "Opaque"
scope_name scope.Params = codes "Params"
scope_name scope.Arity = codes "Arity"
scope_name scope.Sizes = codes "Sizes"
scope_name scope.Index = codes "Index"
scope_name scope.Repeated = codes "Repeated"
scope_name scope.Name = codes "Name"
scope_name scope.AfterRead = codes "AfterRead"

-- The name of each kind of a source's refusal: `Lex`, `Syntax`, or that of a statement's refusal.
abbrev pub name_of : Refusal → List ℕ
name_of Lex = codes "Lex"
name_of Syntax = codes "Syntax"
name_of (Scope k) = scope_name k
