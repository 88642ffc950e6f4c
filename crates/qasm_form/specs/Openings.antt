-- What a symbol begins.
use Rattle.std.specs.Prelude.{Bool, true, Option, Some, None}
use Rattle.qasm_form.specs.declared.symbol.Symbol.{Symbol}
use Rattle.qasm_form.specs.declared.symbol.Symbol.TheVariants as sym
use Rattle.qasm_form.specs.declared.opening.Verb.{Verb}
use Rattle.qasm_form.specs.declared.opening.Verb.TheVariants as verb
use Rattle.qasm_form.specs.declared.opening.BodyVerb.{BodyVerb}
use Rattle.qasm_form.specs.declared.opening.BodyVerb.TheVariants as body
use Rattle.qasm_form.specs.declared.opening.Opening.{Opening}
use Rattle.qasm_form.specs.declared.opening.Opening.TheVariants as opens

-- Which symbols begin an operation at the top: `U`, `CX`, a name, `measure`, `reset`.
abbrev pub verb_of : Symbol → Option Verb
verb_of sym.GateU = Some verb.GateU
verb_of sym.GateCx = Some verb.GateCx
verb_of sym.Identifier = Some verb.Call
verb_of sym.Measure = Some verb.Measure
verb_of sym.Reset = Some verb.Reset
verb_of other = None

-- Which symbols begin an operation in a gate's body: `U`, `CX`, a name, `barrier`.
abbrev pub body_verb_of : Symbol → Option BodyVerb
body_verb_of sym.GateU = Some body.GateU
body_verb_of sym.GateCx = Some body.GateCx
body_verb_of sym.Identifier = Some body.Call
body_verb_of sym.Barrier = Some body.Barrier
body_verb_of other = None

-- Which symbols begin a statement behind the version.
abbrev pub opening_of : Symbol → Option Opening
opening_of sym.Include = Some opens.Include
opening_of sym.Qreg = Some opens.Qreg
opening_of sym.Creg = Some opens.Creg
opening_of sym.Gate = Some opens.Gate
opening_of sym.Opaque = Some opens.Opaque
opening_of sym.Barrier = Some opens.Barrier
opening_of sym.If = Some opens.If
opening_of sym.GateU = Some (opens.Verb verb.GateU)
opening_of sym.GateCx = Some (opens.Verb verb.GateCx)
opening_of sym.Identifier = Some (opens.Verb verb.Call)
opening_of sym.Measure = Some (opens.Verb verb.Measure)
opening_of sym.Reset = Some (opens.Verb verb.Reset)
opening_of other = None

-- Whole numbers and reals.
abbrev pub is_number : Symbol → Option Bool
is_number sym.Whole = Some true
is_number sym.Real = Some true
is_number other = None
