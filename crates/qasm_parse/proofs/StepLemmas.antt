-- A step over a token means what the productions say.
use Rattle.std.proofs.Common.{◌≡◌, List, [], ◌∷◌, ◌++◌, Option, Some, None, true, refl, sym as flip, ◌∙◌, ap, subst, ⊎_elim}
use Rattle.std.proofs.lemmas.Bool.{false≢true, cond_both}
use Rattle.qasm_form.specs.declared.stmt.Function.{Function}
use Rattle.qasm_form.specs.declared.stmt.Node.{Node}
use Rattle.qasm_form.specs.declared.symbol.Symbol.{Symbol}
use Rattle.qasm_form.specs.declared.symbol.Symbol.TheVariants as sym
use Rattle.qasm_form.specs.declared.part.Operator.{Operator}
use Rattle.qasm_form.specs.declared.part.Operator.TheVariants as op
use Rattle.qasm_form.specs.declared.part.Part.{Part}
use Rattle.qasm_form.specs.declared.part.Part.TheVariants.{Expr, Terms, Term, Factors, Factor, Power, Exponent, Atom, Leaf, Token, Write}
use Rattle.qasm_parse.specs.declared.part.AtomStart.{AtomStart}
use Rattle.qasm_parse.specs.declared.part.AtomStart.TheVariants as start
use Rattle.qasm_form.specs.Symbols.{Lexeme}
use Rattle.qasm_parse.specs.SameSymbols.{same_symbol}
use Rattle.qasm_form.specs.Expressions.{function_symbol, expr, plus, minus, no_terms, term, times, over, no_factors, negation, factor, power, exponent, no_exponent, leaf, paren, call, leaf_of, node_of, Derives, done, expands, takes, reads, writes}
use Rattle.qasm_parse.specs.Running.{atom_start, sum_of, product_of, Step, Taken, Refused, Passed, wrote, leaf_step, atom_step, factor_step, sign_step, advance}
use Rattle.qasm_parse.proofs.SymbolLemmas.{same_symbol-true, same_symbol-refl}
use Rattle.qasm_parse.proofs.ExpressionLemmas.{AfterTerms, AfterFactors, AfterPower, InOrder, IsOperator, IsProduct, inv_nil, inv_token, inv_token_nil, inv_leaf, inv_leaf_nil, inv_write, inv_expr, inv_term, inv_power, inv_terms, inv_factors, inv_factor, inv_exponent, inv_atom, atom_not_empty, factor_not_empty, sum_cases, product_cases, leaf_start, paren_start, call_start, start_call, after_terms_block, after_factors_block, after_power_block}

-- what a step says of the derivations from the parts
pub record TokenTaken (parts : List Part) (x : Lexeme) (left : List Part) (more : List Node) : Type 0 where
  pub to : (ts : List Lexeme) (ns : List Node) → Derives left ts ns → Derives parts (x ∷ ts) (more ++ ns)
  pub from : (ts : List Lexeme) (all : List Node) → Derives parts (x ∷ ts) all → (ns : List Node) × (all ≡ more ++ ns) × Derives left ts ns
  pub sign : (ns : List Node) → Derives parts [] ns → IsOperator x.symbol
  pub in_order : InOrder left

pub record Refuses (parts : List Part) (x : Lexeme) : Type 0 where
  pub none : (ts : List Lexeme) (all : List Node) → Derives parts (x ∷ ts) all → ⊥
  pub some : (ns : List Node) → Derives parts [] ns → ⊥

pub record Passes (parts : List Part) (x : Lexeme) (more : List Node) : Type 0 where
  pub empty : Derives parts [] more
  pub once : (ns : List Node) → Derives parts [] ns → ns ≡ more
  pub none : (ts : List Lexeme) (all : List Node) → Derives parts (x ∷ ts) all → ⊥

abbrev pub StepMeans : List Part → Lexeme → Step → Type 0
StepMeans parts x (Taken left more) = TokenTaken parts x left more
StepMeans parts x Refused = Refuses parts x
StepMeans parts x (Passed more) = Passes parts x more

-- parts with the same derivations at this token
same_means : (p q : List Part) (x : Lexeme) (s : Step) → ((ts : List Lexeme) (all : List Node) → Derives p ts all → Derives q ts all) → ((ts : List Lexeme) (all : List Node) → Derives q (x ∷ ts) all → Derives p (x ∷ ts) all) → ((all : List Node) → Derives q [] all → Derives p [] all) → StepMeans p x s → StepMeans q x s
same_means p q x (Taken left more) to from none m = record {
  to = λ ts ns d. to _ _ (m.to ts ns d);
  from = λ ts all d. m.from ts all (from ts all d);
  sign = λ ns d. m.sign ns (none ns d);
  in_order = m.in_order;
}
same_means p q x Refused to from none m = record {
  none = λ ts all d. m.none ts all (from ts all d);
  some = λ ns d. m.some ns (none ns d);
}
same_means p q x (Passed more) to from none m = record {
  empty = to [] more m.empty;
  once = λ ns d. m.once ns (none ns d);
  none = λ ts all d. m.none ts all (from ts all d);
}

-- a node is written first
wrote_means : (o : Operator) (rest : List Part) (x : Lexeme) (s : Step) → StepMeans rest x s → StepMeans (Write o ∷ rest) x (wrote (node_of o) s)
wrote_means o rest x (Taken left more) m = record {
  to = λ ts ns d. writes (m.to ts ns d);
  from = λ ts all d. let w = inv_write d in let f = m.from ts w.0 w.2 in (f.0, w.1 ∙ ap (λ t. node_of o ∷ t) f.1, f.2);
  sign = λ ns d. m.sign _ (inv_write d).2;
  in_order = m.in_order;
}
wrote_means o rest x Refused m = record {
  none = λ ts all d. m.none ts _ (inv_write d).2;
  some = λ ns d. m.some _ (inv_write d).2;
}
wrote_means o rest x (Passed more) m = record {
  empty = writes m.empty;
  once = λ ns d. let w = inv_write d in w.1 ∙ ap (λ t. node_of o ∷ t) (m.once w.0 w.2);
  none = λ ts all d. m.none ts _ (inv_write d).2;
}

-- an atom
some_same : {a b : Node} → Some a ≡ Some b → a ≡ b
some_same e = cc

leaf_atom : (rest : List Part) (x : Lexeme) → InOrder rest → atom_start x.symbol ≡ start.Leaf → (o : Option Node) → leaf_of x ≡ o → StepMeans (Atom ∷ rest) x (leaf_step o rest)
leaf_atom rest x order is (Some n) node_is = record {
  to = λ ts ns d. expands (Leaf ∷ []) leaf (reads node_is d);
  from = λ ts all d. ⊎_elim (λ l. let w = inv_leaf l in let same : w.0 ≡ n = some_same (flip w.2 ∙ node_is) in (w.1, w.3 ∙ ap (λ m. m ∷ w.1) same, w.4)) (⊎_elim (λ p. absurd (let e : start.Paren ≡ start.Leaf = flip (ap atom_start (inv_token p).0) ∙ is in cc)) (λ (h : (f : Function) × Derives (Token (function_symbol f) ∷ Token sym.OpenParen ∷ Expr ∷ Token sym.CloseParen ∷ Write (op.Apply f) ∷ rest) (x ∷ ts) all). absurd (let e : start.Call h.0 ≡ start.Leaf = flip (start_call h.0) ∙ flip (ap atom_start (inv_token h.1).0) ∙ is in cc))) (inv_atom d);
  sign = λ ns d. absurd (atom_not_empty d);
  in_order = order;
}
leaf_atom rest x order is None node_is = record {
  none = λ ts all d. ⊎_elim (λ l. let w = inv_leaf l in let e : None ≡ Some w.0 = flip node_is ∙ w.2 in absurd (cc)) (⊎_elim (λ p. let e : start.Paren ≡ start.Leaf = flip (ap atom_start (inv_token p).0) ∙ is in absurd (cc)) (λ (h : (f : Function) × Derives (Token (function_symbol f) ∷ Token sym.OpenParen ∷ Expr ∷ Token sym.CloseParen ∷ Write (op.Apply f) ∷ rest) (x ∷ ts) all). let e : start.Call h.0 ≡ start.Leaf = flip (start_call h.0) ∙ flip (ap atom_start (inv_token h.1).0) ∙ is in absurd (cc))) (inv_atom d);
  some = λ ns d. atom_not_empty d;
}

call_same : {f g : Function} → start.Call f ≡ start.Call g → f ≡ g
call_same e = cc

atom_means : (rest : List Part) (x : Lexeme) → InOrder rest → (a : AtomStart) → atom_start x.symbol ≡ a → StepMeans (Atom ∷ rest) x (atom_step a x rest)
atom_means rest x order start.Leaf is = leaf_atom rest x order is (leaf_of x) refl
atom_means rest x order start.Paren is = record {
  to = λ ts ns d. expands _ paren (takes (paren_start x.symbol is) d);
  from = λ ts all d. ⊎_elim (λ l. let w = inv_leaf l in absurd (let e : start.Leaf ≡ start.Paren = flip (leaf_start x.symbol x.text x.at w.0 w.2) ∙ is in cc)) (⊎_elim (λ p. (all, refl, (inv_token p).1)) (λ (h : (f : Function) × Derives (Token (function_symbol f) ∷ Token sym.OpenParen ∷ Expr ∷ Token sym.CloseParen ∷ Write (op.Apply f) ∷ rest) (x ∷ ts) all). absurd (let e : start.Call h.0 ≡ start.Paren = flip (start_call h.0) ∙ flip (ap atom_start (inv_token h.1).0) ∙ is in cc))) (inv_atom d);
  sign = λ ns d. absurd (atom_not_empty d);
  in_order = (refl, order);
}
atom_means rest x order (start.Call f) is = record {
  to = λ ts ns d. expands _ (call f) (takes (call_start x.symbol f is) d);
  from = λ ts all d. ⊎_elim (λ l. let w = inv_leaf l in absurd (let e : start.Leaf ≡ start.Call f = flip (leaf_start x.symbol x.text x.at w.0 w.2) ∙ is in cc)) (⊎_elim (λ p. absurd (let e : start.Paren ≡ start.Call f = flip (ap atom_start (inv_token p).0) ∙ is in cc)) (λ (h : (g : Function) × Derives (Token (function_symbol g) ∷ Token sym.OpenParen ∷ Expr ∷ Token sym.CloseParen ∷ Write (op.Apply g) ∷ rest) (x ∷ ts) all). let same : h.0 ≡ f = call_same (flip (start_call h.0) ∙ flip (ap atom_start (inv_token h.1).0) ∙ is) in (all, refl, subst (λ g. Derives (Token sym.OpenParen ∷ Expr ∷ Token sym.CloseParen ∷ Write (op.Apply g) ∷ rest) ts all) same (inv_token h.1).1))) (inv_atom d);
  sign = λ ns d. absurd (atom_not_empty d);
  in_order = (refl, order);
}
atom_means rest x order start.Nothing is = record {
  none = λ ts all d. ⊎_elim (λ l. let w = inv_leaf l in let e : start.Leaf ≡ start.Nothing = flip (leaf_start x.symbol x.text x.at w.0 w.2) ∙ is in absurd (cc)) (⊎_elim (λ p. let e : start.Paren ≡ start.Nothing = flip (ap atom_start (inv_token p).0) ∙ is in absurd (cc)) (λ (h : (f : Function) × Derives (Token (function_symbol f) ∷ Token sym.OpenParen ∷ Expr ∷ Token sym.CloseParen ∷ Write (op.Apply f) ∷ rest) (x ∷ ts) all). let e : start.Call h.0 ≡ start.Nothing = flip (start_call h.0) ∙ flip (ap atom_start (inv_token h.1).0) ∙ is in absurd (cc))) (inv_atom d);
  some = λ ns d. atom_not_empty d;
}

power_means : (rest : List Part) (x : Lexeme) → AfterPower rest → InOrder rest → StepMeans (Power ∷ rest) x (atom_step (atom_start x.symbol) x (Exponent ∷ rest))
power_means rest x after order =
    same_means (Atom ∷ Exponent ∷ rest) (Power ∷ rest) x _ (λ ts all d. expands (Atom ∷ Exponent ∷ []) power d) (λ ts all d. inv_power d) (λ all d. inv_power d) (atom_means (Exponent ∷ rest) x (after, order) (atom_start x.symbol) refl)

-- a minus begins no power
minus_no_power : (rest : List Part) (x : Lexeme) (ts : List Lexeme) (all : List Node) → x.symbol ≡ sym.Minus → Derives (Power ∷ rest) (x ∷ ts) all → ⊥
minus_no_power rest x ts all is d =
    ⊎_elim (λ l. let w = inv_leaf l in let e : start.Leaf ≡ start.Nothing = flip (leaf_start x.symbol x.text x.at w.0 w.2) ∙ ap atom_start is in absurd (cc)) (⊎_elim (λ p. let e : sym.OpenParen ≡ sym.Minus = flip (inv_token p).0 ∙ is in absurd (cc)) (λ (h : (f : Function) × Derives (Token (function_symbol f) ∷ Token sym.OpenParen ∷ Expr ∷ Token sym.CloseParen ∷ Write (op.Apply f) ∷ Exponent ∷ rest) (x ∷ ts) all). let e : start.Call h.0 ≡ start.Nothing = flip (start_call h.0) ∙ flip (ap atom_start (inv_token h.1).0) ∙ ap atom_start is in absurd (cc))) (inv_atom (inv_power d))

factor_means : (rest : List Part) (x : Lexeme) → AfterPower rest → InOrder rest → StepMeans (Factor ∷ rest) x (factor_step x rest)
factor_means rest x after order =
    cond_both (same_symbol x.symbol sym.Minus) (Taken (Factor ∷ Write op.Negate ∷ rest) []) (atom_step (atom_start x.symbol) x (Exponent ∷ rest)) (StepMeans (Factor ∷ rest) x) (λ same. let is = same_symbol-true x.symbol sym.Minus same in record {
      to = λ ts ns d. expands _ negation (takes is d);
      from = λ ts all d. ⊎_elim (λ n. (all, refl, (inv_token n).1)) (λ p. absurd (minus_no_power rest x ts all is p)) (inv_factor d);
      sign = λ ns d. absurd (factor_not_empty d);
      in_order = (after, order);
    }) (λ differs. same_means (Power ∷ rest) (Factor ∷ rest) x _ (λ ts all d. expands (Power ∷ []) factor d) (λ ts all d. ⊎_elim (λ n. absurd (false≢true (flip differs ∙ subst (λ s. same_symbol s sym.Minus ≡ true) (flip (inv_token n).0) (same_symbol-refl sym.Minus)))) (λ p. p) (inv_factor d)) (λ all d. ⊎_elim (λ n. absurd (inv_token_nil n)) (λ p. p) (inv_factor d)) (power_means rest x after order))

-- signs between terms, and between factors
option_same : {o p : Operator} → Some o ≡ Some p → o ≡ p
option_same e = cc

terms_means : (rest : List Part) (x : Lexeme) → AfterTerms rest → InOrder rest → (empty : Step) → StepMeans rest x empty → (o : Option Operator) → sum_of x.symbol ≡ o → StepMeans (Terms ∷ rest) x (sign_step o Term Terms rest empty)
terms_means rest x after order empty m (Some o) is =
    let operator : IsOperator x.symbol = ⊎_elim (λ h. subst IsOperator (flip h.0) tt) (λ h. subst IsOperator (flip h.0) tt) (sum_cases x.symbol o is) in
    record {
      to = λ ts ns d. ⊎_elim (λ h. expands _ plus (takes h.0 (subst (λ p. Derives (Term ∷ Write p ∷ Terms ∷ rest) ts ns) h.1 d))) (λ h. expands _ minus (takes h.0 (subst (λ p. Derives (Term ∷ Write p ∷ Terms ∷ rest) ts ns) h.1 d))) (sum_cases x.symbol o is);
      from = λ ts all d. ⊎_elim (λ p. let t = inv_token p in let e : op.Plus ≡ o = option_same (flip (ap sum_of t.0) ∙ is) in (all, refl, subst (λ p. Derives (Term ∷ Write p ∷ Terms ∷ rest) ts all) e t.1)) (⊎_elim (λ p. let t = inv_token p in let e : op.Minus ≡ o = option_same (flip (ap sum_of t.0) ∙ is) in (all, refl, subst (λ p. Derives (Term ∷ Write p ∷ Terms ∷ rest) ts all) e t.1)) (λ r. absurd (after_terms_block rest after x ts all operator r))) (inv_terms d);
      sign = λ ns d. operator;
      in_order = (after, (after, order));
    }
terms_means rest x after order empty m None is =
    same_means rest (Terms ∷ rest) x empty (λ ts all d. expands [] no_terms d) (λ ts all d. ⊎_elim (λ p. absurd (let e : Some op.Plus ≡ None = flip (ap sum_of (inv_token p).0) ∙ is in cc)) (⊎_elim (λ p. absurd (let e : Some op.Minus ≡ None = flip (ap sum_of (inv_token p).0) ∙ is in cc)) (λ r. r)) (inv_terms d)) (λ all d. ⊎_elim (λ p. absurd (inv_token_nil p)) (⊎_elim (λ p. absurd (inv_token_nil p)) (λ r. r)) (inv_terms d)) m

factors_means : (rest : List Part) (x : Lexeme) → AfterFactors rest → InOrder rest → (empty : Step) → StepMeans rest x empty → (o : Option Operator) → product_of x.symbol ≡ o → StepMeans (Factors ∷ rest) x (sign_step o Factor Factors rest empty)
factors_means rest x after order empty m (Some o) is =
    let operator : IsOperator x.symbol = ⊎_elim (λ h. subst IsOperator (flip h.0) tt) (λ h. subst IsOperator (flip h.0) tt) (product_cases x.symbol o is) in
    let product : IsProduct x.symbol = ⊎_elim (λ h. subst IsProduct (flip h.0) tt) (λ h. subst IsProduct (flip h.0) tt) (product_cases x.symbol o is) in
    record {
      to = λ ts ns d. ⊎_elim (λ h. expands _ times (takes h.0 (subst (λ p. Derives (Factor ∷ Write p ∷ Factors ∷ rest) ts ns) h.1 d))) (λ h. expands _ over (takes h.0 (subst (λ p. Derives (Factor ∷ Write p ∷ Factors ∷ rest) ts ns) h.1 d))) (product_cases x.symbol o is);
      from = λ ts all d. ⊎_elim (λ p. let t = inv_token p in let e : op.Times ≡ o = option_same (flip (ap product_of t.0) ∙ is) in (all, refl, subst (λ p. Derives (Factor ∷ Write p ∷ Factors ∷ rest) ts all) e t.1)) (⊎_elim (λ p. let t = inv_token p in let e : op.Over ≡ o = option_same (flip (ap product_of t.0) ∙ is) in (all, refl, subst (λ p. Derives (Factor ∷ Write p ∷ Factors ∷ rest) ts all) e t.1)) (λ r. absurd (after_factors_block rest after x ts all product r))) (inv_factors d);
      sign = λ ns d. operator;
      in_order = (after, (after, order));
    }
factors_means rest x after order empty m None is =
    same_means rest (Factors ∷ rest) x empty (λ ts all d. expands [] no_factors d) (λ ts all d. ⊎_elim (λ p. absurd (let e : Some op.Times ≡ None = flip (ap product_of (inv_token p).0) ∙ is in cc)) (⊎_elim (λ p. absurd (let e : Some op.Over ≡ None = flip (ap product_of (inv_token p).0) ∙ is in cc)) (λ r. r)) (inv_factors d)) (λ all d. ⊎_elim (λ p. absurd (inv_token_nil p)) (⊎_elim (λ p. absurd (inv_token_nil p)) (λ r. r)) (inv_factors d)) m

exponent_means : (rest : List Part) (x : Lexeme) → AfterPower rest → InOrder rest → StepMeans rest x (advance rest x) → StepMeans (Exponent ∷ rest) x (advance (Exponent ∷ rest) x)
exponent_means rest x after order m =
    cond_both (same_symbol x.symbol sym.Power) (Taken (Factor ∷ Write op.Power ∷ rest) []) (advance rest x) (StepMeans (Exponent ∷ rest) x) (λ same. let is = same_symbol-true x.symbol sym.Power same in record {
      to = λ ts ns d. expands _ exponent (takes is d);
      from = λ ts all d. ⊎_elim (λ p. (all, refl, (inv_token p).1)) (λ r. absurd (after_power_block rest after x ts all is r)) (inv_exponent d);
      sign = λ ns d. subst IsOperator (flip is) tt;
      in_order = (after, order);
    }) (λ differs. same_means rest (Exponent ∷ rest) x _ (λ ts all d. expands [] no_exponent d) (λ ts all d. ⊎_elim (λ p. absurd (false≢true (flip differs ∙ subst (λ s. same_symbol s sym.Power ≡ true) (flip (inv_token p).0) (same_symbol-refl sym.Power)))) (λ r. r) (inv_exponent d)) (λ all d. ⊎_elim (λ p. absurd (inv_token_nil p)) (λ r. r) (inv_exponent d)) m)

token_means : (s : Symbol) (rest : List Part) (x : Lexeme) → InOrder rest → StepMeans (Token s ∷ rest) x (advance (Token s ∷ rest) x)
token_means s rest x order =
    cond_both (same_symbol x.symbol s) (Taken rest []) Refused (StepMeans (Token s ∷ rest) x) (λ same. record {
      to = λ ts ns d. takes (same_symbol-true x.symbol s same) d;
      from = λ ts all d. (all, refl, (inv_token d).1);
      sign = λ ns d. absurd (inv_token_nil d);
      in_order = order;
    }) (λ differs. record {
      none = λ ts all d. false≢true (flip differs ∙ subst (λ t. same_symbol t s ≡ true) (flip (inv_token d).0) (same_symbol-refl s));
      some = λ ns d. inv_token_nil d;
    })

leaf_means : (rest : List Part) (x : Lexeme) → InOrder rest → (o : Option Node) → leaf_of x ≡ o → StepMeans (Leaf ∷ rest) x (leaf_step o rest)
leaf_means rest x order (Some n) is = record {
  to = λ ts ns d. reads is d;
  from = λ ts all d. let w = inv_leaf d in let same : w.0 ≡ n = some_same (flip w.2 ∙ is) in (w.1, w.3 ∙ ap (λ m. m ∷ w.1) same, w.4);
  sign = λ ns d. absurd (inv_leaf_nil d);
  in_order = order;
}
leaf_means rest x order None is = record {
  none = λ ts all d. let w = inv_leaf d in let e : None ≡ Some w.0 = flip is ∙ w.2 in absurd (cc);
  some = λ ns d. inv_leaf_nil d;
}

expr_unfolds : (rest : List Part) (x : Lexeme) (s : Step) → StepMeans (Factor ∷ Factors ∷ Terms ∷ rest) x s → StepMeans (Expr ∷ rest) x s
expr_unfolds rest x s m =
    same_means (Factor ∷ Factors ∷ Terms ∷ rest) (Expr ∷ rest) x s (λ ts all d. expands (Term ∷ Terms ∷ []) expr (expands (Factor ∷ Factors ∷ []) term d)) (λ ts all d. inv_term (inv_expr d)) (λ all d. inv_term (inv_expr d)) m

term_unfolds : (rest : List Part) (x : Lexeme) (s : Step) → StepMeans (Factor ∷ Factors ∷ rest) x s → StepMeans (Term ∷ rest) x s
term_unfolds rest x s m =
    same_means (Factor ∷ Factors ∷ rest) (Term ∷ rest) x s (λ ts all d. expands (Factor ∷ Factors ∷ []) term d) (λ ts all d. inv_term d) (λ all d. inv_term d) m

-- each step means what the productions say
pub advance_means : (parts : List Part) (x : Lexeme) → InOrder parts → StepMeans parts x (advance parts x)
advance_means [] x order = record {
  empty = done;
  once = λ ns d. nil_once ns d;
  none = λ ts all d. inv_nil d;
} where
  nil_once : (ns : List Node) → Derives [] [] ns → ns ≡ []
  nil_once ns done = refl
advance_means (Expr ∷ rest) x order = expr_unfolds rest x _ (factor_means (Factors ∷ Terms ∷ rest) x order.0 (order.0, order))
advance_means (Terms ∷ rest) x order = terms_means rest x order.0 order.1 (advance rest x) (advance_means rest x order.1) (sum_of x.symbol) refl
advance_means (Term ∷ rest) x order = term_unfolds rest x _ (factor_means (Factors ∷ rest) x order.0 order)
advance_means (Factors ∷ rest) x order = factors_means rest x order.0 order.1 (advance rest x) (advance_means rest x order.1) (product_of x.symbol) refl
advance_means (Factor ∷ rest) x order = factor_means rest x order.0 order.1
advance_means (Power ∷ rest) x order = power_means rest x order.0 order.1
advance_means (Exponent ∷ rest) x order = exponent_means rest x order.0 order.1 (advance_means rest x order.1)
advance_means (Atom ∷ rest) x order = atom_means rest x order (atom_start x.symbol) refl
advance_means (Leaf ∷ rest) x order = leaf_means rest x order (leaf_of x) refl
advance_means (Token s ∷ rest) x order = token_means s rest x order
advance_means (Write o ∷ rest) x order = wrote_means o rest x (advance rest x) (advance_means rest x order)
