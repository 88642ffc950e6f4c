-- What expressions write is in postfix order.
use Rattle.std.proofs.Common.{◌≡◌, ℕ, zero, suc, ◌++◌, List, [], ◌∷◌, Option, Some, None, Result, Ok, Bool, refl, sym as flip, ◌∙◌, ap, subst, append_assoc}
use Rattle.qasm_form.specs.declared.stmt.Node.{Node}
use Rattle.qasm_form.specs.declared.symbol.Symbol.{Symbol}
use Rattle.qasm_form.specs.declared.symbol.Symbol.TheVariants as sym
use Rattle.qasm_form.specs.declared.part.Operator.{Operator}
use Rattle.qasm_form.specs.declared.part.Operator.TheVariants as op
use Rattle.qasm_form.specs.declared.part.Part.{Part}
use Rattle.qasm_form.specs.declared.part.Part.TheVariants as part
use Rattle.qasm_form.specs.Symbols.{Lexeme}
use Rattle.qasm_form.specs.Postfix.{with_one, with_two, operands, IsPostfix}
use Rattle.qasm_form.specs.Expressions.{Produces, expr, plus, minus, no_terms, term, times, over, no_factors, negation, factor, power, exponent, no_exponent, leaf, paren, call, leaf_node, node_of, Derives, done, expands, takes, reads, writes}
use Rattle.qasm_parse.specs.Running.{Step, Taken, Refused, Passed, advance, closed, stepped, run}
use Rattle.qasm_parse.proofs.ExpressionLemmas.{InOrder}
use Rattle.qasm_parse.proofs.StepLemmas.{StepMeans, advance_means}

-- how many operands are left after parts
abbrev written : Operator → ℕ → (ℕ → Option ℕ) → Option ℕ
written op.Negate n go = with_one n go
written (op.Apply f) n go = with_one n go
written op.Plus n go = with_two n go
written op.Minus n go = with_two n go
written op.Times n go = with_two n go
written op.Over n go = with_two n go
written op.Power n go = with_two n go

abbrev after_parts : List Part → ℕ → Option ℕ
after_parts [] n = Some n
after_parts (part.Expr ∷ parts) n = after_parts parts (suc n)
after_parts (part.Terms ∷ parts) n = with_one n (after_parts parts)
after_parts (part.Term ∷ parts) n = after_parts parts (suc n)
after_parts (part.Factors ∷ parts) n = with_one n (after_parts parts)
after_parts (part.Factor ∷ parts) n = after_parts parts (suc n)
after_parts (part.Power ∷ parts) n = after_parts parts (suc n)
after_parts (part.Exponent ∷ parts) n = with_one n (after_parts parts)
after_parts (part.Atom ∷ parts) n = after_parts parts (suc n)
after_parts (part.Leaf ∷ parts) n = after_parts parts (suc n)
after_parts (part.Token s ∷ parts) n = after_parts parts n
after_parts (part.Write o ∷ parts) n = written o n (after_parts parts)

-- a production keeps the number
produced : {p : Part} (parts rest : List Part) (n m : ℕ) → Produces p parts → after_parts (p ∷ rest) n ≡ Some m → after_parts (parts ++ rest) n ≡ Some m
produced parts rest n m expr h = h
produced parts rest zero m plus h = absurd (cc)
produced parts rest (suc n) m plus h = h
produced parts rest zero m minus h = absurd (cc)
produced parts rest (suc n) m minus h = h
produced parts rest zero m no_terms h = absurd (cc)
produced parts rest (suc n) m no_terms h = h
produced parts rest n m term h = h
produced parts rest zero m times h = absurd (cc)
produced parts rest (suc n) m times h = h
produced parts rest zero m over h = absurd (cc)
produced parts rest (suc n) m over h = h
produced parts rest zero m no_factors h = absurd (cc)
produced parts rest (suc n) m no_factors h = h
produced parts rest n m negation h = h
produced parts rest n m factor h = h
produced parts rest n m power h = h
produced parts rest zero m exponent h = absurd (cc)
produced parts rest (suc n) m exponent h = h
produced parts rest zero m no_exponent h = absurd (cc)
produced parts rest (suc n) m no_exponent h = h
produced parts rest n m leaf h = h
produced parts rest n m paren h = h
produced parts rest n m (call f) h = h

one_map : (n m : ℕ) (f g : ℕ → Option ℕ) → ((k : ℕ) → f k ≡ Some m → g k ≡ Some m) → with_one n f ≡ Some m → with_one n g ≡ Some m
one_map zero m f g to h = absurd (cc)
one_map (suc n) m f g to h = to (suc n) h

two_map : (n m : ℕ) (f g : ℕ → Option ℕ) → ((k : ℕ) → f k ≡ Some m → g k ≡ Some m) → with_two n f ≡ Some m → with_two n g ≡ Some m
two_map zero m f g to h = absurd (cc)
two_map (suc zero) m f g to h = absurd (cc)
two_map (suc (suc n)) m f g to h = to (suc n) h

operator_map : (o : Operator) (rest : List Part) (nodes : List Node) (n m : ℕ) → ((k : ℕ) → after_parts rest k ≡ Some m → operands nodes k ≡ Some m) → written o n (after_parts rest) ≡ Some m → operands (node_of o ∷ nodes) n ≡ Some m
operator_map op.Negate rest nodes n m to h = one_map n m (after_parts rest) (operands nodes) to h
operator_map (op.Apply f) rest nodes n m to h = one_map n m (after_parts rest) (operands nodes) to h
operator_map op.Plus rest nodes n m to h = two_map n m (after_parts rest) (operands nodes) to h
operator_map op.Minus rest nodes n m to h = two_map n m (after_parts rest) (operands nodes) to h
operator_map op.Times rest nodes n m to h = two_map n m (after_parts rest) (operands nodes) to h
operator_map op.Over rest nodes n m to h = two_map n m (after_parts rest) (operands nodes) to h
operator_map op.Power rest nodes n m to h = two_map n m (after_parts rest) (operands nodes) to h

pub some_same : {a b : Node} → Some a ≡ Some b → a ≡ b
some_same e = cc

leaf_operand : (s : Symbol) (text : List ℕ) (at : ℕ) (found : Node) → leaf_node s text at ≡ Some found → (nodes : List Node) (n m : ℕ) → operands nodes (suc n) ≡ Some m → operands (found ∷ nodes) n ≡ Some m
leaf_operand sym.Whole text at found is nodes n m h = subst (λ l. operands (l ∷ nodes) n ≡ Some m) (some_same is) h
leaf_operand sym.Real text at found is nodes n m h = subst (λ l. operands (l ∷ nodes) n ≡ Some m) (some_same is) h
leaf_operand sym.Pi text at found is nodes n m h = subst (λ l. operands (l ∷ nodes) n ≡ Some m) (some_same is) h
leaf_operand sym.Identifier text at found is nodes n m h = subst (λ l. operands (l ∷ nodes) n ≡ Some m) (some_same is) h
leaf_operand other text at found is nodes n m h = absurd (cc)

postfix_of : {parts : List Part} {ts : List Lexeme} {ns : List Node} → Derives parts ts ns → (n m : ℕ) → after_parts parts n ≡ Some m → operands ns n ≡ Some m
postfix_of done n m h = h
postfix_of (expands {rest = rest} parts p d) n m h = postfix_of d n m (produced parts rest n m p h)
postfix_of (takes e d) n m h = postfix_of d n m h
postfix_of (reads {n = found} {x = x} {nodes = ns} e d) n m h =
    leaf_operand x.symbol x.text x.at found e ns n m (postfix_of d (suc n) m h)
postfix_of (writes {o = o} {rest = rest} {nodes = ns} d) n m h =
    operator_map o rest ns n m (λ k g. postfix_of d k m g) h

ok_same : {p q : (List Node × Bool) × List Lexeme} → ◌≡◌ {A = Result ((List Node × Bool) × List Lexeme) ℕ} (Ok p) (Ok q) → p ≡ q
ok_same e = cc

-- what the reader answers was derived from the first of its tokens
module _ (class : Symbol → Option Bool) (end : ℕ) where
  abbrev Read : List Part → List Lexeme → List Node → List Node → Type 0
  Read parts tokens before all =
      (front : List Lexeme) × (rest : List Lexeme) × (more : List Node) × (tokens ≡ front ++ rest) × Derives parts front more × (all ≡ before ++ more)

  closed_read : (parts : List Part) (before more : List Node) (x : Lexeme) (ts : List Lexeme) (v : List Node × Bool) (rest : List Lexeme) → Derives parts [] more → (o : Option Bool) → closed x (before ++ more) ts o ≡ Ok (v, rest) → Read parts (x ∷ ts) before v.0
  closed_read parts before more x ts v rest d (Some b) is =
      ([], x ∷ ts, more, refl, d, flip (ap (λ (p : (List Node × Bool) × List Lexeme). p.0.0) (ok_same is)))
  closed_read parts before more x ts v rest d None is = absurd (cc)

  step_read : (parts : List Part) (before : List Node) (x : Lexeme) (ts : List Lexeme) (v : List Node × Bool) (rest : List Lexeme) → ((left : List Part) (all : List Node) → InOrder left → run class end left all ts ≡ Ok (v, rest) → Read left ts all v.0) → (s : Step) → StepMeans parts x s → stepped x (class x.symbol) before ts (λ left all. run class end left all ts) s ≡ Ok (v, rest) → Read parts (x ∷ ts) before v.0
  step_read parts before x ts v rest next (Taken left more) m is =
      let r = next left (before ++ more) m.in_order is in
      (x ∷ r.0, r.1, more ++ r.2, ap (λ t. x ∷ t) r.3, m.to r.0 r.2 r.4, r.5 ∙ append_assoc before more r.2)
  step_read parts before x ts v rest next Refused m is = absurd (cc)
  step_read parts before x ts v rest next (Passed more) m is =
      closed_read parts before more x ts v rest m.empty (class x.symbol) is

  run_read : (ts : List Lexeme) (parts : List Part) (before : List Node) → InOrder parts → (v : List Node × Bool) (rest : List Lexeme) → run class end parts before ts ≡ Ok (v, rest) → Read parts ts before v.0
  run_read [] parts before order v rest is = absurd (cc)
  run_read (x ∷ ts) parts before order v rest is =
      step_read parts before x ts v rest (λ left all next e. run_read ts left all next v rest e) (advance parts x) (advance_means parts x order) is

  pub run_derived : (ts : List Lexeme) (v : List Node × Bool) (rest : List Lexeme) → run class end (part.Expr ∷ []) [] ts ≡ Ok (v, rest) → (front : List Lexeme) × (left : List Lexeme) × (ts ≡ front ++ left) × Derives (part.Expr ∷ []) front v.0
  run_derived ts v rest is =
      let r = run_read ts (part.Expr ∷ []) [] (tt, tt) v rest is in
      (r.0, r.1, r.3, subst (Derives (part.Expr ∷ []) r.0) (flip r.5) r.4)

  pub run_postfix : (ts : List Lexeme) (v : List Node × Bool) (rest : List Lexeme) → run class end (part.Expr ∷ []) [] ts ≡ Ok (v, rest) → IsPostfix v.0
  run_postfix ts v rest is = postfix_of (run_derived ts v rest is).3 0 1 refl
