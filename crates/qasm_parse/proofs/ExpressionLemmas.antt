-- What a token does to the parts of an expression agrees with the productions.
use Rattle.std.proofs.Common.{◌≡◌, ℕ, List, [], ◌∷◌, Some, ◌⊎◌, refl, sym as flip, ◌∙◌, ap, subst, inl, inr, ⊎_elim}
use Rattle.qasm_form.specs.declared.stmt.Function.{Function}
use Rattle.qasm_form.specs.declared.stmt.Function.TheVariants as fun
use Rattle.qasm_form.specs.declared.stmt.Node.{Node}
use Rattle.qasm_form.specs.declared.symbol.Symbol.{Symbol}
use Rattle.qasm_form.specs.declared.symbol.Symbol.TheVariants as sym
use Rattle.qasm_form.specs.declared.part.Operator.{Operator}
use Rattle.qasm_form.specs.declared.part.Operator.TheVariants as op
use Rattle.qasm_form.specs.declared.part.Part.{Part}
use Rattle.qasm_form.specs.declared.part.Part.TheVariants.{Expr, Terms, Term, Factors, Factor, Power, Exponent, Atom, Leaf, Token, Write}
use Rattle.qasm_parse.specs.declared.part.AtomStart.TheVariants as start
use Rattle.qasm_form.specs.Symbols.{Lexeme}
use Rattle.qasm_form.specs.Expressions.{function_symbol, expr, plus, minus, no_terms, term, times, over, no_factors, negation, factor, power, exponent, no_exponent, leaf, paren, call, leaf_node, leaf_of, node_of, Derives, expands, takes, reads, writes}
use Rattle.qasm_parse.specs.Running.{atom_start, sum_of, product_of}

-- what may stand behind the parts of each level, so that no sign could belong to two
abbrev pub AfterTerms : List Part → Type 0
AfterTerms [] = Unit {0}
AfterTerms (Token s ∷ rest) = s ≡ sym.CloseParen
AfterTerms other = ⊥

abbrev pub AfterFactors : List Part → Type 0
AfterFactors [] = Unit {0}
AfterFactors (Token s ∷ rest) = s ≡ sym.CloseParen
AfterFactors (Write o ∷ rest) = AfterFactors rest
AfterFactors (Terms ∷ rest) = AfterTerms rest
AfterFactors other = ⊥

abbrev pub AfterPower : List Part → Type 0
AfterPower [] = Unit {0}
AfterPower (Token s ∷ rest) = s ≡ sym.CloseParen
AfterPower (Write o ∷ rest) = AfterPower rest
AfterPower (Terms ∷ rest) = AfterTerms rest
AfterPower (Factors ∷ rest) = AfterFactors rest
AfterPower other = ⊥

abbrev pub InOrder : List Part → Type 0
InOrder [] = Unit {0}
InOrder (Expr ∷ rest) = AfterTerms rest × InOrder rest
InOrder (Terms ∷ rest) = AfterTerms rest × InOrder rest
InOrder (Term ∷ rest) = AfterFactors rest × InOrder rest
InOrder (Factors ∷ rest) = AfterFactors rest × InOrder rest
InOrder (Factor ∷ rest) = AfterPower rest × InOrder rest
InOrder (Power ∷ rest) = AfterPower rest × InOrder rest
InOrder (Exponent ∷ rest) = AfterPower rest × InOrder rest
InOrder (part ∷ rest) = InOrder rest

-- the operators between operands
abbrev pub IsOperator : Symbol → Type 0
IsOperator sym.Plus = Unit {0}
IsOperator sym.Minus = Unit {0}
IsOperator sym.Times = Unit {0}
IsOperator sym.Over = Unit {0}
IsOperator sym.Power = Unit {0}
IsOperator other = ⊥

abbrev pub IsProduct : Symbol → Type 0
IsProduct sym.Times = Unit {0}
IsProduct sym.Over = Unit {0}
IsProduct sym.Power = Unit {0}
IsProduct other = ⊥

close_no_operator : (s : Symbol) → s ≡ sym.CloseParen → IsOperator s → ⊥
close_no_operator s is operator = subst IsOperator is operator

product_is_operator : (s : Symbol) → IsProduct s → IsOperator s
product_is_operator sym.Times h = tt
product_is_operator sym.Over h = tt
product_is_operator sym.Power h = tt
product_is_operator other h = absurd h

-- what a derivation was made by
pub inv_nil : {x : Lexeme} {ts : List Lexeme} {all : List Node} → Derives [] (x ∷ ts) all → ⊥
inv_nil d = elim d [ ]

pub inv_token : {s : Symbol} {rest : List Part} {x : Lexeme} {ts : List Lexeme} {all : List Node} → Derives (Token s ∷ rest) (x ∷ ts) all → (x.symbol ≡ s) × Derives rest ts all
inv_token (expands parts p d) = elim p [ ]
inv_token (takes e d) = (e, d)

pub inv_token_nil : {s : Symbol} {rest : List Part} {all : List Node} → Derives (Token s ∷ rest) [] all → ⊥
inv_token_nil (expands parts p d) = elim p [ ]

pub inv_leaf : {rest : List Part} {x : Lexeme} {ts : List Lexeme} {all : List Node} → Derives (Leaf ∷ rest) (x ∷ ts) all → (n : Node) × (ns : List Node) × (leaf_of x ≡ Some n) × (all ≡ n ∷ ns) × Derives rest ts ns
inv_leaf (expands parts p d) = elim p [ ]
inv_leaf (reads {n = n} {nodes = ns} e d) = (n, ns, e, refl, d)

pub inv_leaf_nil : {rest : List Part} {all : List Node} → Derives (Leaf ∷ rest) [] all → ⊥
inv_leaf_nil (expands parts p d) = elim p [ ]

pub inv_write : {o : Operator} {rest : List Part} {ts : List Lexeme} {all : List Node} → Derives (Write o ∷ rest) ts all → (ns : List Node) × (all ≡ node_of o ∷ ns) × Derives rest ts ns
inv_write (expands parts p d) = elim p [ ]
inv_write (writes {nodes = ns} d) = (ns, refl, d)

pub inv_expr : {rest : List Part} {ts : List Lexeme} {all : List Node} → Derives (Expr ∷ rest) ts all → Derives (Term ∷ Terms ∷ rest) ts all
inv_expr (expands parts expr d) = d

pub inv_term : {rest : List Part} {ts : List Lexeme} {all : List Node} → Derives (Term ∷ rest) ts all → Derives (Factor ∷ Factors ∷ rest) ts all
inv_term (expands parts term d) = d

pub inv_power : {rest : List Part} {ts : List Lexeme} {all : List Node} → Derives (Power ∷ rest) ts all → Derives (Atom ∷ Exponent ∷ rest) ts all
inv_power (expands parts power d) = d

pub inv_terms : {rest : List Part} {ts : List Lexeme} {all : List Node} → Derives (Terms ∷ rest) ts all → Derives (Token sym.Plus ∷ Term ∷ Write op.Plus ∷ Terms ∷ rest) ts all ⊎ (Derives (Token sym.Minus ∷ Term ∷ Write op.Minus ∷ Terms ∷ rest) ts all ⊎ Derives rest ts all)
inv_terms (expands parts plus d) = inl d
inv_terms (expands parts minus d) = inr (inl d)
inv_terms (expands parts no_terms d) = inr (inr d)

pub inv_factors : {rest : List Part} {ts : List Lexeme} {all : List Node} → Derives (Factors ∷ rest) ts all → Derives (Token sym.Times ∷ Factor ∷ Write op.Times ∷ Factors ∷ rest) ts all ⊎ (Derives (Token sym.Over ∷ Factor ∷ Write op.Over ∷ Factors ∷ rest) ts all ⊎ Derives rest ts all)
inv_factors (expands parts times d) = inl d
inv_factors (expands parts over d) = inr (inl d)
inv_factors (expands parts no_factors d) = inr (inr d)

pub inv_factor : {rest : List Part} {ts : List Lexeme} {all : List Node} → Derives (Factor ∷ rest) ts all → Derives (Token sym.Minus ∷ Factor ∷ Write op.Negate ∷ rest) ts all ⊎ Derives (Power ∷ rest) ts all
inv_factor (expands parts negation d) = inl d
inv_factor (expands parts factor d) = inr d

pub inv_exponent : {rest : List Part} {ts : List Lexeme} {all : List Node} → Derives (Exponent ∷ rest) ts all → Derives (Token sym.Power ∷ Factor ∷ Write op.Power ∷ rest) ts all ⊎ Derives rest ts all
inv_exponent (expands parts exponent d) = inl d
inv_exponent (expands parts no_exponent d) = inr d

pub inv_atom : {rest : List Part} {ts : List Lexeme} {all : List Node} → Derives (Atom ∷ rest) ts all → Derives (Leaf ∷ rest) ts all ⊎ (Derives (Token sym.OpenParen ∷ Expr ∷ Token sym.CloseParen ∷ rest) ts all ⊎ ((f : Function) × Derives (Token (function_symbol f) ∷ Token sym.OpenParen ∷ Expr ∷ Token sym.CloseParen ∷ Write (op.Apply f) ∷ rest) ts all))
inv_atom (expands parts leaf d) = inl d
inv_atom (expands parts paren d) = inr (inl d)
inv_atom (expands parts (call f) d) = inr (inr (f, d))

-- what no empty list of tokens is
pub atom_not_empty : {rest : List Part} {all : List Node} → Derives (Atom ∷ rest) [] all → ⊥
atom_not_empty d =
    ⊎_elim inv_leaf_nil (⊎_elim inv_token_nil (λ (h : (f : Function) × Derives (Token (function_symbol f) ∷ Token sym.OpenParen ∷ Expr ∷ Token sym.CloseParen ∷ Write (op.Apply f) ∷ _) [] _). inv_token_nil h.1)) (inv_atom d)

pub factor_not_empty : {rest : List Part} {all : List Node} → Derives (Factor ∷ rest) [] all → ⊥
factor_not_empty d = ⊎_elim inv_token_nil (λ p. atom_not_empty (inv_power p)) (inv_factor d)

-- signs with one meaning
pub sum_cases : (s : Symbol) (o : Operator) → sum_of s ≡ Some o → ((s ≡ sym.Plus) × (o ≡ op.Plus)) ⊎ ((s ≡ sym.Minus) × (o ≡ op.Minus))
sum_cases sym.Plus o is = inl (refl, cc)
sum_cases sym.Minus o is = inr (refl, cc)
sum_cases other o is = absurd (cc)

pub product_cases : (s : Symbol) (o : Operator) → product_of s ≡ Some o → ((s ≡ sym.Times) × (o ≡ op.Times)) ⊎ ((s ≡ sym.Over) × (o ≡ op.Over))
product_cases sym.Times o is = inl (refl, cc)
product_cases sym.Over o is = inr (refl, cc)
product_cases other o is = absurd (cc)

pub leaf_start : (s : Symbol) (text : List ℕ) (at : ℕ) (n : Node) → leaf_node s text at ≡ Some n → atom_start s ≡ start.Leaf
leaf_start sym.Whole text at n is = refl
leaf_start sym.Real text at n is = refl
leaf_start sym.Pi text at n is = refl
leaf_start sym.Identifier text at n is = refl
leaf_start other text at n is = absurd (cc)

pub paren_start : (s : Symbol) → atom_start s ≡ start.Paren → s ≡ sym.OpenParen
paren_start sym.OpenParen is = refl
paren_start other is = absurd (cc)

pub call_start : (s : Symbol) (f : Function) → atom_start s ≡ start.Call f → s ≡ function_symbol f
call_start sym.Sin f is = ap function_symbol (let e : fun.Sin ≡ f = cc in e)
call_start sym.Cos f is = ap function_symbol (let e : fun.Cos ≡ f = cc in e)
call_start sym.Tan f is = ap function_symbol (let e : fun.Tan ≡ f = cc in e)
call_start sym.Exp f is = ap function_symbol (let e : fun.Exp ≡ f = cc in e)
call_start sym.Ln f is = ap function_symbol (let e : fun.Ln ≡ f = cc in e)
call_start sym.Sqrt f is = ap function_symbol (let e : fun.Sqrt ≡ f = cc in e)
call_start other f is = absurd (cc)

pub start_call : (f : Function) → atom_start (function_symbol f) ≡ start.Call f
start_call fun.Sin = refl
start_call fun.Cos = refl
start_call fun.Tan = refl
start_call fun.Exp = refl
start_call fun.Ln = refl
start_call fun.Sqrt = refl

-- no operator begins what stands behind terms, and so on
pub after_terms_block : (rest : List Part) → AfterTerms rest → (x : Lexeme) (ts : List Lexeme) (all : List Node) → IsOperator x.symbol → Derives rest (x ∷ ts) all → ⊥
after_terms_block [] after x ts all operator d = inv_nil d
after_terms_block (Token s ∷ rest) after x ts all operator d =
    close_no_operator x.symbol ((inv_token d).0 ∙ after) operator
after_terms_block (other ∷ rest) after x ts all operator d = absurd after

pub after_factors_block : (rest : List Part) → AfterFactors rest → (x : Lexeme) (ts : List Lexeme) (all : List Node) → IsProduct x.symbol → Derives rest (x ∷ ts) all → ⊥
after_factors_block [] after x ts all product d = inv_nil d
after_factors_block (Token s ∷ rest) after x ts all product d =
    subst IsProduct ((inv_token d).0 ∙ after) product
after_factors_block (Write o ∷ rest) after x ts all product d =
    let w = inv_write d in after_factors_block rest after x ts w.0 product w.2
after_factors_block (Terms ∷ rest) after x ts all product d =
    ⊎_elim (λ p. subst IsProduct (inv_token p).0 product) (⊎_elim (λ m. subst IsProduct (inv_token m).0 product) (λ r. after_terms_block rest after x ts all (product_is_operator x.symbol product) r)) (inv_terms d)
after_factors_block (other ∷ rest) after x ts all product d = absurd after

pub after_power_block : (rest : List Part) → AfterPower rest → (x : Lexeme) (ts : List Lexeme) (all : List Node) → x.symbol ≡ sym.Power → Derives rest (x ∷ ts) all → ⊥
after_power_block [] after x ts all is_power d = inv_nil d
after_power_block (Token s ∷ rest) after x ts all is_power d =
    let e : sym.CloseParen ≡ sym.Power = flip after ∙ flip (inv_token d).0 ∙ is_power in absurd (cc)
after_power_block (Write o ∷ rest) after x ts all is_power d =
    let w = inv_write d in after_power_block rest after x ts w.0 is_power w.2
after_power_block (Terms ∷ rest) after x ts all is_power d =
    ⊎_elim (λ p. let e : sym.Plus ≡ sym.Power = flip (inv_token p).0 ∙ is_power in absurd (cc)) (⊎_elim (λ m. let e : sym.Minus ≡ sym.Power = flip (inv_token m).0 ∙ is_power in absurd (cc)) (λ r. after_terms_block rest after x ts all (subst IsOperator (flip is_power) tt) r)) (inv_terms d)
after_power_block (Factors ∷ rest) after x ts all is_power d =
    ⊎_elim (λ p. let e : sym.Times ≡ sym.Power = flip (inv_token p).0 ∙ is_power in absurd (cc)) (⊎_elim (λ m. let e : sym.Over ≡ sym.Power = flip (inv_token m).0 ∙ is_power in absurd (cc)) (λ r. after_factors_block rest after x ts all (subst IsProduct (flip is_power) tt) r)) (inv_factors d)
after_power_block (other ∷ rest) after x ts all is_power d = absurd after
