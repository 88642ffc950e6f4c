-- The statements of OpenQASM 2.0 (Cross et al. 2017), by their productions: which tokens stand for which statement.
use Rattle.std.specs.Prelude.{ℕ, ◌+◌, ◌-◌, ◌*◌, ◌^◌, min, List, [], ◌∷◌, length, take, drop, fold, Some, None}
use Rattle.qasm_form.specs.declared.symbol.Symbol.{Symbol}
use Rattle.qasm_form.specs.declared.symbol.Symbol.TheVariants as sym
use Rattle.qasm_form.specs.declared.stmt.Arg.{Arg}
use Rattle.qasm_form.specs.declared.stmt.BodyOp.{BodyOp}
use Rattle.qasm_form.specs.declared.stmt.Expr.{Expr}
use Rattle.qasm_form.specs.declared.stmt.Named.{Named}
use Rattle.qasm_form.specs.declared.stmt.Stmt.{Stmt}
use Rattle.qasm_form.specs.declared.stmt.Stmt.TheVariants as stmt
use Rattle.qasm_form.specs.declared.part.Part.TheVariants as part
use Rattle.qasm_form.specs.declared.opening.Verb.{Verb}
use Rattle.qasm_form.specs.declared.opening.Verb.TheVariants as verb
use Rattle.qasm_form.specs.declared.opening.BodyVerb.{BodyVerb}
use Rattle.qasm_form.specs.declared.opening.BodyVerb.TheVariants as body
use Rattle.qasm_form.specs.declared.opening.Opening.{Opening}
use Rattle.qasm_form.specs.declared.opening.Opening.TheVariants as opens
use Rattle.qasm_form.specs.Symbols.{Lexeme}
use Rattle.qasm_form.specs.Languages.{Language, Value, Token, OneOf, Or, Listed, Many, ◌>>=◌}
use Rattle.qasm_form.specs.Expressions.{Derives}
use Rattle.qasm_form.specs.Openings.{verb_of, body_verb_of, opening_of, is_number}

-- Digits as a number; one past 2⁶⁴ − 1 stands as 2⁶⁴ − 1.
abbrev pub number_of : List ℕ → ℕ
number_of text = min (fold (λ n b. 10 * n + (b - 48)) 0 text) (2 ^ 64 - 1)

-- A string without its quotation marks.
abbrev pub unquoted : List ℕ → List ℕ
unquoted text = take (length text - 2) (drop 1 text)

-- The values of a name, of an argument without and with an index, and of an operation, with the offset of the name.
abbrev pub named : Lexeme → Named
named x = record { word = x.text; at = x.at }

-- The values of a name, of an argument without and with an index, and of an operation, with the offset of the name.
abbrev pub whole_arg : Lexeme → Arg
whole_arg x = record { word = x.text; index = None; at = x.at }

-- The values of a name, of an argument without and with an index, and of an operation, with the offset of the name.
abbrev pub indexed_arg : Lexeme → Lexeme → Arg
indexed_arg x n = record { word = x.text; index = Some (number_of n.text); at = x.at }

-- The values of a name, of an argument without and with an index, and of an operation, with the offset of the name.
abbrev pub operation : Lexeme → List Expr → List Arg → BodyOp
operation x exprs args = record { name = x.text; at = x.at; exprs = exprs; args = args }

-- A name; an argument without an index; one with an index; either.
abbrev pub Name : Language Named
Name = do
  x ← Token sym.Identifier
  Value (named x)

-- an argument in a body: a name
abbrev pub Whole : Language Arg
Whole = do
  x ← Token sym.Identifier
  Value (whole_arg x)

-- A name; an argument without an index; one with an index; either.
abbrev pub Indexed : Language Arg
Indexed = do
  x ← Token sym.Identifier
  _ ← Token sym.OpenBracket
  n ← Token sym.Whole
  _ ← Token sym.CloseBracket
  Value (indexed_arg x n)

-- an argument at the top: a name, perhaps with an index
abbrev pub Argument : Language Arg
Argument = Or Indexed Whole

-- An expression, as its nodes in postfix order.
abbrev pub Expression : Language Expr
Expression tokens v = Derives (part.Expr ∷ []) tokens v

-- items with commas between them, and a sign behind the last
abbrev pub ListedUntil : {V : Type 0} → Language V → Symbol → Language (List V)
ListedUntil item stop = do
  vs ← Listed item
  _ ← Token stop
  Value vs

-- a list that may be empty, and the sign behind it
abbrev pub PerhapsListed : {V : Type 0} → Language V → Symbol → Language (List V)
PerhapsListed item stop = Or (Token stop >>= λ _. Value []) (ListedUntil item stop)

-- the gate of one qubit, with its angles
abbrev pub GateU : Language Arg → Lexeme → Language BodyOp
GateU arg x = do
  _ ← Token sym.OpenParen
  exprs ← ListedUntil Expression sym.CloseParen
  a ← arg
  _ ← Token sym.Semicolon
  Value (operation x exprs (a ∷ []))

-- the gate of two qubits
abbrev pub GateCx : Language Arg → Lexeme → Language BodyOp
GateCx arg x = do
  a ← arg
  _ ← Token sym.Comma
  b ← arg
  _ ← Token sym.Semicolon
  Value (operation x [] (a ∷ b ∷ []))

-- arguments, and nothing in parentheses
abbrev pub Arguments : Language Arg → Lexeme → List Expr → Language BodyOp
Arguments arg x exprs = do
  args ← ListedUntil arg sym.Semicolon
  Value (operation x exprs args)

-- a gate by its name, perhaps with angles
abbrev pub Call : Language Arg → Lexeme → Language BodyOp
Call arg x =
    Or (do
      _ ← Token sym.OpenParen
      exprs ← PerhapsListed Expression sym.CloseParen
      Arguments arg x exprs)
    (Arguments arg x [])

-- what is done to qubits at the top
abbrev pub AfterVerb : Verb → Lexeme → Language Stmt
AfterVerb verb.GateU x = do
  op ← GateU Argument x
  Value (stmt.Call op)
AfterVerb verb.GateCx x = do
  op ← GateCx Argument x
  Value (stmt.Call op)
AfterVerb verb.Call x = do
  op ← Call Argument x
  Value (stmt.Call op)
AfterVerb verb.Measure x = do
  a ← Argument
  _ ← Token sym.Arrow
  b ← Argument
  _ ← Token sym.Semicolon
  Value (stmt.Measure a b x.at)
AfterVerb verb.Reset x = do
  a ← Argument
  _ ← Token sym.Semicolon
  Value (stmt.Reset a x.at)

-- what is done to qubits in a body
abbrev pub AfterBodyVerb : BodyVerb → Lexeme → Language BodyOp
AfterBodyVerb body.GateU x = GateU Whole x
AfterBodyVerb body.GateCx x = GateCx Whole x
AfterBodyVerb body.Call x = Call Whole x
AfterBodyVerb body.Barrier x = Arguments Whole x []

-- An operation of a body; a body up to its closing brace.
abbrev pub BodyOperation : Language BodyOp
BodyOperation = do
  v ← OneOf body_verb_of
  AfterBodyVerb v.0 v.1

-- An operation of a body; a body up to its closing brace.
abbrev pub Body : Language (List BodyOp)
Body = do
  ops ← Many BodyOperation
  _ ← Token sym.CloseBrace
  Value ops

-- the names of a declaration: parameters perhaps, and arguments up to a sign
abbrev pub ArgumentNames : Symbol → List Named → Language (List Named × List Named)
ArgumentNames stop params = do
  args ← ListedUntil Name stop
  Value (params, args)

-- The names of a declaration: parameters, perhaps, and arguments.
abbrev pub Signature : Symbol → Language (List Named × List Named)
Signature stop =
    Or (do
      _ ← Token sym.OpenParen
      params ← PerhapsListed Name sym.CloseParen
      ArgumentNames stop params)
    (ArgumentNames stop [])

-- A register's name and size.
abbrev pub Register : (Lexeme → ℕ → Stmt) → Language Stmt
Register make = do
  x ← Token sym.Identifier
  _ ← Token sym.OpenBracket
  n ← Token sym.Whole
  _ ← Token sym.CloseBracket
  _ ← Token sym.Semicolon
  Value (make x (number_of n.text))

-- What follows the first token of a statement.
abbrev pub AfterOpening : Opening → Lexeme → Language Stmt
AfterOpening opens.Include x = do
  s ← Token sym.Text
  _ ← Token sym.Semicolon
  Value (stmt.Include (unquoted s.text) s.at)
AfterOpening opens.Qreg x = Register (λ y n. stmt.Qreg y.text n y.at)
AfterOpening opens.Creg x = Register (λ y n. stmt.Creg y.text n y.at)
AfterOpening opens.Gate x = do
  y ← Token sym.Identifier
  names ← Signature sym.OpenBrace
  ops ← Body
  Value (stmt.Gate y.text names.0 names.1 ops y.at)
AfterOpening opens.Opaque x = do
  y ← Token sym.Identifier
  names ← Signature sym.Semicolon
  Value (stmt.Opaque y.text names.0 names.1 y.at)
AfterOpening opens.Barrier x = do
  args ← ListedUntil Argument sym.Semicolon
  Value (stmt.Barrier args x.at)
AfterOpening opens.If x = do
  _ ← Token sym.OpenParen
  _ ← Token sym.Identifier
  _ ← Token sym.Equals
  _ ← Token sym.Whole
  _ ← Token sym.CloseParen
  v ← OneOf verb_of
  _ ← AfterVerb v.0 v.1
  Value (stmt.If x.at)
AfterOpening (opens.Verb v) x = AfterVerb v x

-- A statement behind the version.
abbrev pub Statement : Language Stmt
Statement = do
  v ← OneOf opening_of
  AfterOpening v.0 v.1

-- The version, which opens a source.
abbrev pub Version : Language Stmt
Version = do
  _ ← Token sym.Header
  n ← OneOf is_number
  _ ← Token sym.Semicolon
  Value (stmt.Version n.1.text n.1.at)
