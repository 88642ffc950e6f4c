-- Depths of operands grow by one with each node.
use Rattle.std.proofs.Common.{ℕ, suc, ◌+◌, ◌<◌, ◌≤◌, ◌^◌, max, List, [], ◌∷◌, arith}
use Rattle.std.specs.List.{AllByRecursion}
use Rattle.qasm_form.specs.declared.stmt.Node.{Node}
use Rattle.qasm_form.specs.declared.stmt.Node.TheVariants as node
use Rattle.qasm_expand.specs.StackReadings.{on_one, on_two, read_node}
use Rattle.qasm_expand.specs.AngleReadings.{depths}

abbrev pub AtMost : ℕ → List ℕ → Type 0
AtMost most ds = AllByRecursion (λ d. d ≤ most) ds

at_most_more : (n : ℕ) (ds : List ℕ) → AtMost n ds → AtMost (suc n) ds
at_most_more n [] h = tt
at_most_more n (d ∷ ds) h = (omega (arith, h.0), at_most_more n ds h.1)

leaf_at_most : (n : ℕ) (ds : List ℕ) → AtMost n ds → AtMost (suc n) (1 ∷ ds)
leaf_at_most n ds h = (omega arith, at_most_more n ds h)

one_at_most : (n : ℕ) (ds : List ℕ) → AtMost n ds → AtMost (suc n) (on_one (λ d. suc d) ds)
one_at_most n [] h = tt
one_at_most n (d ∷ ds) h = (omega (arith, h.0), at_most_more n ds h.1)

two_at_most : (n : ℕ) (ds : List ℕ) → AtMost n ds → AtMost (suc n) (on_two (λ d e. suc (max d e)) ds)
two_at_most n [] h = tt
two_at_most n (d ∷ []) h = (omega (arith, h.0), tt)
two_at_most n (d ∷ e ∷ ds) h = (omega (arith, h.0, h.1.0), at_most_more n ds h.1.1)

pub read_at_most : (x : Node) (n : ℕ) (ds : List ℕ) → AtMost n ds → AtMost (suc n) (read_node depths x ds)
read_at_most (node.Number text) n ds h = leaf_at_most n ds h
read_at_most node.Pi n ds h = leaf_at_most n ds h
read_at_most (node.Name name at) n ds h = leaf_at_most n ds h
read_at_most node.Negate n ds h = one_at_most n ds h
read_at_most (node.Apply f) n ds h = one_at_most n ds h
read_at_most node.Plus n ds h = two_at_most n ds h
read_at_most node.Minus n ds h = two_at_most n ds h
read_at_most node.Times n ds h = two_at_most n ds h
read_at_most node.Over n ds h = two_at_most n ds h
read_at_most node.Power n ds h = two_at_most n ds h

pub at_most_fits : (n : ℕ) (ds : List ℕ) → n + 1 < 2 ^ 64 → AtMost n ds → AllByRecursion (λ d. d + 1 < 2 ^ 64) ds
at_most_fits n [] fits h = tt
at_most_fits n (d ∷ ds) fits h = (omega (arith, h.0), at_most_fits n ds fits h.1)
