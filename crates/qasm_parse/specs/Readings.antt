-- Inside: how each part of the grammar is read, as a function on lists of tokens.
use Rattle.std.specs.Prelude.{ℕ, List, [], ◌∷◌, Bool, true, false}
use Rattle.qasm_form.specs.declared.symbol.Symbol.{Symbol}
use Rattle.qasm_form.specs.declared.symbol.Symbol.TheVariants as sym
use Rattle.qasm_form.specs.declared.stmt.Arg.{Arg}
use Rattle.qasm_form.specs.declared.stmt.BodyOp.{BodyOp}
use Rattle.qasm_form.specs.declared.stmt.Expr.{Expr}
use Rattle.qasm_form.specs.declared.stmt.Named.{Named}
use Rattle.qasm_form.specs.declared.stmt.Stmt.{Stmt}
use Rattle.qasm_form.specs.declared.stmt.Stmt.TheVariants as stmt
use Rattle.qasm_form.specs.declared.part.Part.TheVariants as part
use Rattle.qasm_form.specs.declared.opening.Verb.{Verb}
use Rattle.qasm_form.specs.declared.opening.Verb.TheVariants as verb
use Rattle.qasm_form.specs.declared.opening.BodyVerb.{BodyVerb}
use Rattle.qasm_form.specs.declared.opening.BodyVerb.TheVariants as body
use Rattle.qasm_form.specs.declared.opening.Opening.{Opening}
use Rattle.qasm_form.specs.declared.opening.Opening.TheVariants as opens
use Rattle.qasm_parse.specs.declared.opening.Follow.{Follow}
use Rattle.qasm_parse.specs.declared.opening.Follow.TheVariants.{Only, Until}
use Rattle.qasm_parse.specs.declared.opening.Place.{Place}
use Rattle.qasm_parse.specs.declared.opening.Place.TheVariants.{Top, InBody}
use Rattle.qasm_form.specs.Symbols.{Lexeme}
use Rattle.qasm_parse.specs.SameSymbols.{same_symbol}
use Rattle.qasm_parse.specs.Readers.{Reader, value, token, one_of, choose, repeated, ◌>>=◌}
use Rattle.qasm_parse.specs.Running.{run}
use Rattle.qasm_form.specs.Openings.{verb_of, body_verb_of, opening_of, is_number}
use Rattle.qasm_parse.specs.Follows.{follows}
use Rattle.qasm_form.specs.Grammar.{number_of, unquoted, named, whole_arg, indexed_arg, operation}

abbrev pub is : Symbol → Symbol → Bool
is expected symbol = same_symbol symbol expected

-- an item and what stands behind it: the item, and whether a further one follows
unfoldable pub name_then : ℕ → Follow → Reader (Named × Bool)
name_then end follow = do
  x ← token end sym.Identifier
  c ← one_of end (follows follow)
  value (named x, c.0)

unfoldable pub plain_then : ℕ → Follow → Lexeme → Reader (Arg × Bool)
plain_then end follow x = do
  c ← one_of end (follows follow)
  value (whole_arg x, c.0)

unfoldable pub index_then : ℕ → Follow → Lexeme → Reader (Arg × Bool)
index_then end follow x = do
  _ ← token end sym.OpenBracket
  n ← token end sym.Whole
  _ ← token end sym.CloseBracket
  c ← one_of end (follows follow)
  value (indexed_arg x n, c.0)

abbrev pub behind_name : ℕ → Place → Follow → Lexeme → Reader (Arg × Bool)
behind_name end Top follow x = choose end (is sym.OpenBracket) (index_then end follow x) (plain_then end follow x)
behind_name end InBody follow x = plain_then end follow x

unfoldable pub arg_then : ℕ → Place → Follow → Reader (Arg × Bool)
arg_then end place follow = do
  x ← token end sym.Identifier
  behind_name end place follow x

unfoldable pub expr_then : ℕ → Follow → Reader (Expr × Bool)
expr_then end follow = do
  v ← run (follows follow) end (part.Expr ∷ []) []
  value (v.0, v.1)

abbrev pub one_more : {V : Type 0} → Reader (V × Bool) → Reader (List V × Bool)
one_more item = do
  v ← item
  value (v.0 ∷ [], v.1)

unfoldable pub names_until : ℕ → Symbol → Reader (List Named)
names_until end stop = repeated (one_more (name_then end (Until stop)))

unfoldable pub args_until : ℕ → Place → Symbol → Reader (List Arg)
args_until end place stop = repeated (one_more (arg_then end place (Until stop)))

unfoldable pub exprs_until : ℕ → Symbol → Reader (List Expr)
exprs_until end stop = repeated (one_more (expr_then end (Until stop)))

abbrev pub nothing : {V : Type 0} → ℕ → Symbol → Reader (List V)
nothing end stop = do
  _ ← token end stop
  value []

unfoldable pub perhaps_names : ℕ → Symbol → Reader (List Named)
perhaps_names end stop = choose end (is stop) (nothing end stop) (names_until end stop)

unfoldable pub perhaps_exprs : ℕ → Symbol → Reader (List Expr)
perhaps_exprs end stop = choose end (is stop) (nothing end stop) (exprs_until end stop)

unfoldable pub gate_u : ℕ → Place → Lexeme → Reader BodyOp
gate_u end place x = do
  _ ← token end sym.OpenParen
  exprs ← exprs_until end sym.CloseParen
  a ← arg_then end place (Only sym.Semicolon)
  value (operation x exprs (a.0 ∷ []))

unfoldable pub gate_cx : ℕ → Place → Lexeme → Reader BodyOp
gate_cx end place x = do
  a ← arg_then end place (Only sym.Comma)
  b ← arg_then end place (Only sym.Semicolon)
  value (operation x [] (a.0 ∷ b.0 ∷ []))

unfoldable pub arguments : ℕ → Place → Lexeme → List Expr → Reader BodyOp
arguments end place x exprs = do
  args ← args_until end place sym.Semicolon
  value (operation x exprs args)

unfoldable pub with_angles : ℕ → Place → Lexeme → Reader BodyOp
with_angles end place x = do
  _ ← token end sym.OpenParen
  exprs ← perhaps_exprs end sym.CloseParen
  arguments end place x exprs

unfoldable pub call : ℕ → Place → Lexeme → Reader BodyOp
call end place x = choose end (is sym.OpenParen) (with_angles end place x) (arguments end place x [])

abbrev pub as_call : Reader BodyOp → Reader Stmt
as_call read = do
  op ← read
  value (stmt.Call op)

unfoldable pub measure : ℕ → Lexeme → Reader Stmt
measure end x = do
  a ← arg_then end Top (Only sym.Arrow)
  b ← arg_then end Top (Only sym.Semicolon)
  value (stmt.Measure a.0 b.0 x.at)

unfoldable pub reset : ℕ → Lexeme → Reader Stmt
reset end x = do
  a ← arg_then end Top (Only sym.Semicolon)
  value (stmt.Reset a.0 x.at)

unfoldable pub after_verb : ℕ → Verb → Lexeme → Reader Stmt
after_verb end verb.GateU x = as_call (gate_u end Top x)
after_verb end verb.GateCx x = as_call (gate_cx end Top x)
after_verb end verb.Call x = as_call (call end Top x)
after_verb end verb.Measure x = measure end x
after_verb end verb.Reset x = reset end x

unfoldable pub after_body_verb : ℕ → BodyVerb → Lexeme → Reader BodyOp
after_body_verb end body.GateU x = gate_u end InBody x
after_body_verb end body.GateCx x = gate_cx end InBody x
after_body_verb end body.Call x = call end InBody x
after_body_verb end body.Barrier x = arguments end InBody x []

unfoldable pub body_operation : ℕ → Reader BodyOp
body_operation end = do
  v ← one_of end body_verb_of
  after_body_verb end v.0 v.1

abbrev pub last_item : ℕ → Reader (List BodyOp × Bool)
last_item end = do
  _ ← token end sym.CloseBrace
  value ([], false)

abbrev pub next_item : ℕ → Reader (List BodyOp × Bool)
next_item end = do
  op ← body_operation end
  value (op ∷ [], true)

unfoldable pub body_item : ℕ → Reader (List BodyOp × Bool)
body_item end = choose end (is sym.CloseBrace) (last_item end) (next_item end)

unfoldable pub body_ops : ℕ → Reader (List BodyOp)
body_ops end = repeated (body_item end)

unfoldable pub argument_names : ℕ → Symbol → List Named → Reader (List Named × List Named)
argument_names end stop params = do
  args ← names_until end stop
  value (params, args)

unfoldable pub with_params : ℕ → Symbol → Reader (List Named × List Named)
with_params end stop = do
  _ ← token end sym.OpenParen
  params ← perhaps_names end sym.CloseParen
  argument_names end stop params

unfoldable pub signature : ℕ → Symbol → Reader (List Named × List Named)
signature end stop = choose end (is sym.OpenParen) (with_params end stop) (argument_names end stop [])

-- a register: its name and its size
unfoldable pub register : ℕ → Reader (Lexeme × ℕ)
register end = do
  x ← token end sym.Identifier
  _ ← token end sym.OpenBracket
  n ← token end sym.Whole
  _ ← token end sym.CloseBracket
  _ ← token end sym.Semicolon
  value (x, number_of n.text)

unfoldable pub include : ℕ → Reader Stmt
include end = do
  s ← token end sym.Text
  _ ← token end sym.Semicolon
  value (stmt.Include (unquoted s.text) s.at)

unfoldable pub gate : ℕ → Reader Stmt
gate end = do
  y ← token end sym.Identifier
  names ← signature end sym.OpenBrace
  ops ← body_ops end
  value (stmt.Gate y.text names.0 names.1 ops y.at)

unfoldable pub opaque_gate : ℕ → Reader Stmt
opaque_gate end = do
  y ← token end sym.Identifier
  names ← signature end sym.Semicolon
  value (stmt.Opaque y.text names.0 names.1 y.at)

unfoldable pub barrier : ℕ → Lexeme → Reader Stmt
barrier end x = do
  args ← args_until end Top sym.Semicolon
  value (stmt.Barrier args x.at)

unfoldable pub condition : ℕ → Reader Lexeme
condition end = do
  _ ← token end sym.OpenParen
  _ ← token end sym.Identifier
  _ ← token end sym.Equals
  _ ← token end sym.Whole
  token end sym.CloseParen

unfoldable pub conditional : ℕ → Lexeme → Reader Stmt
conditional end x = do
  _ ← condition end
  v ← one_of end verb_of
  _ ← after_verb end v.0 v.1
  value (stmt.If x.at)

unfoldable pub after_opening : ℕ → Opening → Lexeme → Reader Stmt
after_opening end opens.Include x = include end
after_opening end opens.Qreg x = do
  r ← register end
  value (stmt.Qreg r.0.text r.1 r.0.at)
after_opening end opens.Creg x = do
  r ← register end
  value (stmt.Creg r.0.text r.1 r.0.at)
after_opening end opens.Gate x = gate end
after_opening end opens.Opaque x = opaque_gate end
after_opening end opens.Barrier x = barrier end x
after_opening end opens.If x = conditional end x
after_opening end (opens.Verb v) x = after_verb end v x

unfoldable pub statement_at : ℕ → Reader Stmt
statement_at end = do
  v ← one_of end opening_of
  after_opening end v.0 v.1

unfoldable pub version_at : ℕ → Reader Stmt
version_at end = do
  _ ← token end sym.Header
  n ← one_of end is_number
  _ ← token end sym.Semicolon
  value (stmt.Version n.1.text n.1.at)
