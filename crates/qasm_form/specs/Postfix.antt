-- Nodes in postfix order: an operator has its operands before it.
use Rattle.std.specs.Prelude.{◌≡◌, ℕ, zero, suc, List, [], ◌∷◌, Option, Some, None}
use Rattle.qasm_form.specs.declared.stmt.Node.{Node}
use Rattle.qasm_form.specs.declared.stmt.Node.TheVariants as node

-- an operator that takes one operand, or two, and leaves one: there have to be so many
abbrev pub with_one : ℕ → (ℕ → Option ℕ) → Option ℕ
with_one zero go = None
with_one (suc n) go = go (suc n)

-- An operator finds one operand, or two, and leaves one.
abbrev pub with_two : ℕ → (ℕ → Option ℕ) → Option ℕ
with_two zero go = None
with_two (suc zero) go = None
with_two (suc (suc n)) go = go (suc n)

-- how many operands are left after nodes, of those before them and their own
abbrev pub operands : List Node → ℕ → Option ℕ
operands [] n = Some n
operands (node.Number text ∷ nodes) n = operands nodes (suc n)
operands (node.Pi ∷ nodes) n = operands nodes (suc n)
operands (node.Name name at ∷ nodes) n = operands nodes (suc n)
operands (node.Negate ∷ nodes) n = with_one n (operands nodes)
operands (node.Apply f ∷ nodes) n = with_one n (operands nodes)
operands (node.Plus ∷ nodes) n = with_two n (operands nodes)
operands (node.Minus ∷ nodes) n = with_two n (operands nodes)
operands (node.Times ∷ nodes) n = with_two n (operands nodes)
operands (node.Over ∷ nodes) n = with_two n (operands nodes)
operands (node.Power ∷ nodes) n = with_two n (operands nodes)

-- The nodes are one expression: each operator finds its operands, and one is left.
abbrev pub IsPostfix : List Node → Type 0
IsPostfix nodes = operands nodes 0 ≡ Some 1
