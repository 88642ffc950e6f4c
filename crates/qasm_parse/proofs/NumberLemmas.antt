-- The numbers of an expression have the texts of their tokens.
use Rattle.std.proofs.Common.{◌≡◌, ℕ, List, [], ◌∷◌, Some, Ok, Bool, Option, subst}
use Rattle.std.specs.List.{AllByRecursion}
use Rattle.qasm_form.specs.declared.stmt.Node.{Node}
use Rattle.qasm_form.specs.declared.symbol.Symbol.{Symbol}
use Rattle.qasm_form.specs.declared.symbol.Symbol.TheVariants as sym
use Rattle.qasm_form.specs.declared.part.Operator.{Operator}
use Rattle.qasm_form.specs.declared.part.Operator.TheVariants as op
use Rattle.qasm_form.specs.declared.part.Part.{Part}
use Rattle.qasm_form.specs.declared.part.Part.TheVariants as part
use Rattle.qasm_form.specs.Symbols.{Lexeme}
use Rattle.qasm_form.specs.Numbers.{HasNumber, IsExpression, Spells, AreSpelt}
use Rattle.qasm_form.specs.Expressions.{leaf_node, node_of, Derives, done, expands, takes, reads, writes}
use Rattle.qasm_parse.specs.Running.{run}
use Rattle.qasm_parse.proofs.PostfixLemmas.{some_same, run_derived, run_postfix}
use Rattle.qasm_parse.proofs.SpeltLemmas.{spelt_front}

leaf_number : (s : Symbol) (text : List ℕ) (at : ℕ) (found : Node) → leaf_node s text at ≡ Some found → Spells s text → HasNumber found
leaf_number sym.Whole text at found is spelt = subst HasNumber (some_same is) spelt
leaf_number sym.Real text at found is spelt = subst HasNumber (some_same is) spelt
leaf_number sym.Pi text at found is spelt = subst HasNumber (some_same is) tt
leaf_number sym.Identifier text at found is spelt = subst HasNumber (some_same is) tt
leaf_number other text at found is spelt = absurd (cc)

operator_number : (o : Operator) → HasNumber (node_of o)
operator_number op.Negate = tt
operator_number (op.Apply f) = tt
operator_number op.Plus = tt
operator_number op.Minus = tt
operator_number op.Times = tt
operator_number op.Over = tt
operator_number op.Power = tt

numbers_of : {parts : List Part} {ts : List Lexeme} {ns : List Node} → Derives parts ts ns → AreSpelt ts → AllByRecursion HasNumber ns
numbers_of done spelt = tt
numbers_of (expands parts p d) spelt = numbers_of d spelt
numbers_of (takes e d) spelt = numbers_of d spelt.1
numbers_of (reads {n = found} {x = x} e d) spelt =
    (leaf_number x.symbol x.text x.at found e spelt.0, numbers_of d spelt.1)
numbers_of (writes {o = o} d) spelt = (operator_number o, numbers_of d spelt)

-- what the reader answers is an expression
pub run_expression : (class : Symbol → Option Bool) (end : ℕ) (ts : List Lexeme) (v : List Node × Bool) (rest : List Lexeme) → run class end (part.Expr ∷ []) [] ts ≡ Ok (v, rest) → AreSpelt ts → IsExpression v.0
run_expression class end ts v rest is spelt =
    let r = run_derived class end ts v rest is in
    record {
      postfix = run_postfix class end ts v rest is;
      numbers = numbers_of r.3 (spelt_front r.0 r.1 (subst AreSpelt r.2 spelt));
    }
