-- Inside: what a token does to an expression that is being read.
use Rattle.std.specs.Prelude.{◌≡◌, List, [], ◌∷◌, ◌++◌, reverse, Option, Some, None, true, false}
use Rattle.qasm_form.specs.declared.stmt.Node.{Node}
use Rattle.qasm_form.specs.declared.part.Part.{Part}
use Rattle.qasm_parse.specs.declared.expr.Move.{Move}
use Rattle.qasm_parse.specs.declared.expr.Move.TheVariants as move
use Rattle.qasm_form.specs.declared.part.Part.TheVariants.{Factor, Write}
use Rattle.qasm_form.specs.declared.part.Operator.{Operator}
use Rattle.qasm_form.specs.declared.part.Operator.TheVariants as op
use Rattle.qasm_form.specs.declared.symbol.Symbol.{Symbol}
use Rattle.qasm_form.specs.declared.symbol.Symbol.TheVariants as sym
use Rattle.qasm_parse.specs.SameSymbols.{same_symbol}
use Rattle.qasm_form.specs.Symbols.{Lexeme}
use Rattle.qasm_parse.specs.Running.{Step, Taken, Refused, Passed, wrote, advance}

-- a move is this step: it leaves these parts, and adds the nodes to those that were there
abbrev pub Moves : Move → List Part → List Node → List Node → Step → Type 0
Moves move.Taken parts old new step = (more : List Node) × (step ≡ Taken (reverse parts) more) × (new ≡ old ++ more)
Moves move.Refused parts old new step = step ≡ Refused
Moves move.Passed parts old new step = (more : List Node) × (step ≡ Passed more) × (new ≡ old ++ more)

abbrev pub wrote_all : List Node → Step → Step
wrote_all [] step = step
wrote_all (n ∷ ns) step = wrote n (wrote_all ns step)

-- a move, or an empty part that is passed over
abbrev pub Goes : Option Move → List Part → List Part → List Node → List Node → Lexeme → Step → Type 0
Goes (Some m) before parts old new x step = Moves m parts old new step
Goes None before parts old new x step =
    (more : List Node) × (reverse parts ≡ reverse before) × (new ≡ old ++ more) × (step ≡ wrote_all more (advance (reverse before) x))

-- parts with a sign, its operand and further signs before them, where there is a sign
abbrev pub IsSigned : Option Move → Option Operator → Part → Part → List Part → List Part → Type 0
IsSigned (Some m) (Some o) operand signs before after =
    (m ≡ move.Taken) × (after ≡ operand ∷ Write o ∷ signs ∷ before)
IsSigned None None operand signs before after = after ≡ before
IsSigned m o operand signs before after = ⊥

-- parts with a factor and its power before them, where the symbol is the sign of a power
abbrev pub IsRaised : Option Move → Symbol → List Part → List Part → Type 0
IsRaised (Some m) symbol before after =
    (same_symbol symbol sym.Power ≡ true) × (m ≡ move.Taken) × (after ≡ Factor ∷ Write op.Power ∷ before)
IsRaised None symbol before after = (same_symbol symbol sym.Power ≡ false) × (after ≡ before)
