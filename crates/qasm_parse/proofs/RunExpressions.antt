-- The reader of expressions decides them, with a token of a class behind.
use Rattle.std.proofs.Common.{◌≡◌, ℕ, List, [], ◌∷◌, ◌++◌, length, Option, Some, None, Result, Ok, Err, Bool, ◌⊎◌, refl, sym as flip, ◌∙◌, ap, subst, inl, inr, ⊎_elim, arith, append_assoc, length-append}
use Rattle.std.proofs.lemmas.List.{append_cancel_right}
use Rattle.qasm_form.specs.declared.stmt.Node.{Node}
use Rattle.qasm_form.specs.declared.stmt.Node.TheVariants as node
use Rattle.qasm_form.specs.declared.symbol.Symbol.{Symbol}
use Rattle.qasm_form.specs.declared.symbol.Symbol.TheVariants as sym
use Rattle.qasm_form.specs.declared.part.Part.{Part}
use Rattle.qasm_form.specs.declared.part.Part.TheVariants.{Expr, Terms, Term, Factors, Factor, Power, Exponent, Atom, Leaf, Token, Write}
use Rattle.qasm_form.specs.Symbols.{Lexeme}
use Rattle.qasm_form.specs.Languages.{Language}
use Rattle.qasm_form.specs.Expressions.{expr, no_terms, term, no_factors, factor, power, no_exponent, leaf, node_of, Derives, done, expands, takes, reads, writes}
use Rattle.qasm_parse.specs.Running.{Step, Taken, Refused, Passed, advance, closed, stepped, run}
use Rattle.qasm_parse.proofs.DecidesLemmas.{Agrees, GoesOn, Stops, IsPrefixFree, Decides}
use Rattle.qasm_parse.proofs.ExpressionLemmas.{InOrder, IsOperator}
use Rattle.qasm_parse.proofs.StepLemmas.{StepMeans, TokenTaken, Passes, advance_means}

abbrev pi : Lexeme
pi = record { symbol = sym.Pi; text = []; at = 0 }

-- what each part can be read from
some_parts : (parts : List Part) → (ts : List Lexeme) × (ns : List Node) × Derives parts ts ns
some_parts [] = ([], [], done)
some_parts (part ∷ rest) = by_part part (some_parts rest) where
  atom_with : (behind : List Part) → (ts : List Lexeme) × (ns : List Node) × Derives behind ts ns → (ts : List Lexeme) × (ns : List Node) × Derives (Atom ∷ behind) ts ns
  atom_with behind d = (pi ∷ d.0, node.Pi ∷ d.1, expands (Leaf ∷ []) leaf (reads refl d.2))

  exponent_with : (behind : List Part) → (ts : List Lexeme) × (ns : List Node) × Derives behind ts ns → (ts : List Lexeme) × (ns : List Node) × Derives (Exponent ∷ behind) ts ns
  exponent_with behind d = (d.0, d.1, expands [] no_exponent d.2)

  by_part : (p : Part) → (ts : List Lexeme) × (ns : List Node) × Derives rest ts ns → (ts : List Lexeme) × (ns : List Node) × Derives (p ∷ rest) ts ns
  by_part Terms d = (d.0, d.1, expands [] no_terms d.2)
  by_part Factors d = (d.0, d.1, expands [] no_factors d.2)
  by_part Exponent d = (d.0, d.1, expands [] no_exponent d.2)
  by_part Leaf d = (pi ∷ d.0, node.Pi ∷ d.1, reads refl d.2)
  by_part Atom d = (pi ∷ d.0, node.Pi ∷ d.1, expands (Leaf ∷ []) leaf (reads refl d.2))
  by_part Power d = (pi ∷ d.0, node.Pi ∷ d.1, expands (Atom ∷ Exponent ∷ []) power (expands (Leaf ∷ []) leaf (reads refl (expands [] no_exponent d.2))))
  by_part Factor d = (pi ∷ d.0, node.Pi ∷ d.1, expands (Power ∷ []) factor (expands (Atom ∷ Exponent ∷ []) power (expands (Leaf ∷ []) leaf (reads refl (expands [] no_exponent d.2)))))
  by_part Term d = (pi ∷ d.0, node.Pi ∷ d.1, expands (Factor ∷ Factors ∷ []) term (expands (Power ∷ []) factor (expands (Atom ∷ Exponent ∷ []) power (expands (Leaf ∷ []) leaf (reads refl (expands [] no_exponent (expands [] no_factors d.2)))))))
  by_part Expr d = (pi ∷ d.0, node.Pi ∷ d.1, expands (Term ∷ Terms ∷ []) expr (expands (Factor ∷ Factors ∷ []) term (expands (Power ∷ []) factor (expands (Atom ∷ Exponent ∷ []) power (expands (Leaf ∷ []) leaf (reads refl (expands [] no_exponent (expands [] no_factors (expands [] no_terms d.2)))))))))
  by_part (Token s) d = (record { symbol = s; text = []; at = 0 } ∷ d.0, d.1, takes refl d.2)
  by_part (Write o) d = (d.0, node_of o ∷ d.1, writes d.2)

-- parts, and a token of a class behind them; the nodes come after those that were written before
abbrev pub PartsThen : (Symbol → Option Bool) → List Part → List Node → Language (List Node × Bool)
PartsThen class parts before ts v =
    (ns : List Node) × (front : List Lexeme) × (y : Lexeme) × (ts ≡ front ++ y ∷ []) × Derives parts front ns × (v.0 ≡ before ++ ns) × (class y.symbol ≡ Some v.1)

-- one token more in front
agrees_cons : {V : Type 0} (L M : Language V) (end : ℕ) (x : Lexeme) (xs : List Lexeme) → ((ts : List Lexeme) (v : V) → L ts v → M (x ∷ ts) v) → ((ts : List Lexeme) (v : V) → M (x ∷ ts) v → L ts v) → (o : Result (V × List Lexeme) ℕ) → Agrees L end xs o → Agrees M end (x ∷ xs) o
agrees_cons L M end x xs to from (Ok y) h = (x ∷ h.0, ap (λ t. x ∷ t) h.1, to h.0 y.0 h.2)
agrees_cons L M end x xs to from (Err at) h =
    (x ∷ h.0, h.1, ap (λ t. x ∷ t) h.2, h.3, (h.4.0, h.4.1, h.4.2, to _ h.4.2 h.4.3), stops_cons h.0 h.1 h.5) where
      stops_cons : (front rest : List Lexeme) → Stops L front rest → Stops M (x ∷ front) rest
      stops_cons front [] stops = tt
      stops_cons front (y ∷ rest) stops = λ more v word. stops more v (from _ v word)

heads : {x y : Lexeme} {xs ys : List Lexeme} → x ∷ xs ≡ y ∷ ys → x ≡ y
heads e = cc

tails : {x y : Lexeme} {xs ys : List Lexeme} → x ∷ xs ≡ y ∷ ys → xs ≡ ys
tails e = cc

none_some : {V : Type 0} {v : V} → None ≡ Some v → ⊥
none_some e = absurd (cc)

module _ (class : Symbol → Option Bool) (end : ℕ) (closes : (s : Symbol) × (b : Bool) × (class s ≡ Some b)) (blocked : (s : Symbol) → IsOperator s → class s ≡ None) where
  -- a word that begins with a token
  word_by : (parts : List Part) (before : List Node) (x : Lexeme) (ts : List Lexeme) (v : List Node × Bool) → PartsThen class parts before (x ∷ ts) v → ((ns : List Node) × Derives parts [] ns × (v.0 ≡ before ++ ns) × (class x.symbol ≡ Some v.1) × (ts ≡ [])) ⊎ ((ns : List Node) × (front : List Lexeme) × (y : Lexeme) × (ts ≡ front ++ y ∷ []) × Derives parts (x ∷ front) ns × (v.0 ≡ before ++ ns) × (class y.symbol ≡ Some v.1))
  word_by parts before x ts v word = by_front word.1 word.3 word.4 where
    by_front : (front : List Lexeme) → x ∷ ts ≡ front ++ word.2 ∷ [] → Derives parts front word.0 → ((ns : List Node) × Derives parts [] ns × (v.0 ≡ before ++ ns) × (class x.symbol ≡ Some v.1) × (ts ≡ [])) ⊎ ((ns : List Node) × (front : List Lexeme) × (y : Lexeme) × (ts ≡ front ++ y ∷ []) × Derives parts (x ∷ front) ns × (v.0 ≡ before ++ ns) × (class y.symbol ≡ Some v.1))
    by_front [] same d =
        inl (word.0, d, word.5, subst (λ (y : Lexeme). class y.symbol ≡ Some v.1) (flip (heads same)) word.6, tails same)
    by_front (z ∷ front) same d =
        inr (word.0, front, word.2, tails same, subst (λ y. Derives parts (y ∷ front) word.0) (flip (heads same)) d, word.5, word.6)

  some_word : (parts : List Part) (before : List Node) → (ts : List Lexeme) × (v : List Node × Bool) × PartsThen class parts before ts v
  some_word parts before =
      let d = some_parts parts in
      let y : Lexeme = record { symbol = closes.0; text = []; at = 0 } in
      (d.0 ++ y ∷ [], (before ++ d.1, closes.1), (d.1, d.0, y, refl, d.2, refl, closes.2))

  goes_on : (parts : List Part) (before : List Node) → GoesOn (PartsThen class parts before) []
  goes_on parts before = by_word (some_word parts before) where
    by_word : (ts : List Lexeme) × (v : List Node × Bool) × PartsThen class parts before ts v → GoesOn (PartsThen class parts before) []
    by_word w = by_tokens w.0 w.1 w.2 where
      by_tokens : (ts : List Lexeme) (v : List Node × Bool) → PartsThen class parts before ts v → GoesOn (PartsThen class parts before) []
      by_tokens [] v word = absurd (omega (arith, ap length word.3, length-append word.1 (word.2 ∷ [])))
      by_tokens (x ∷ ts) v word = (x, ts, v, word)

  taken_to : (parts left : List Part) (before more : List Node) (x : Lexeme) → TokenTaken parts x left more → (ts : List Lexeme) (v : List Node × Bool) → PartsThen class left (before ++ more) ts v → PartsThen class parts before (x ∷ ts) v
  taken_to parts left before more x m ts v word =
      (more ++ word.0, x ∷ word.1, word.2, ap (λ t. x ∷ t) word.3, m.to word.1 word.0 word.4, word.5 ∙ append_assoc before more word.0, word.6)

  taken_from : (parts left : List Part) (before more : List Node) (x : Lexeme) → TokenTaken parts x left more → (ts : List Lexeme) (v : List Node × Bool) → PartsThen class parts before (x ∷ ts) v → PartsThen class left (before ++ more) ts v
  taken_from parts left before more x m ts v word =
      ⊎_elim (λ h. absurd (none_some (flip (blocked x.symbol (m.sign h.0 h.1)) ∙ h.3))) (λ h. let f = m.from h.1 h.0 h.4 in (f.0, h.1, h.2, h.3, f.2, h.5 ∙ ap (λ t. before ++ t) f.1 ∙ flip (append_assoc before more f.0), h.6)) (word_by parts before x ts v word)

  passed_agrees : (parts : List Part) (before more : List Node) (x : Lexeme) (xs : List Lexeme) → Passes parts x more → (o : Option Bool) → class x.symbol ≡ o → Agrees (PartsThen class parts before) end (x ∷ xs) (closed x (before ++ more) xs o)
  passed_agrees parts before more x xs m (Some b) is = (x ∷ [], refl, (more, [], x, refl, m.empty, refl, is))
  passed_agrees parts before more x xs m None is =
      ([], x ∷ xs, refl, refl, goes_on parts before, λ others v word. ⊎_elim (λ h. none_some (flip is ∙ h.3)) (λ h. m.none h.1 h.0 h.4) (word_by parts before x others v word))

  step_agrees : (parts : List Part) (before : List Node) (x : Lexeme) (xs : List Lexeme) → ((left : List Part) (all : List Node) → InOrder left → Agrees (PartsThen class left all) end xs (run class end left all xs)) → (s : Step) → StepMeans parts x s → Agrees (PartsThen class parts before) end (x ∷ xs) (stepped x (class x.symbol) before xs (λ left all. run class end left all xs) s)
  step_agrees parts before x xs next (Taken left more) m =
      agrees_cons (PartsThen class left (before ++ more)) (PartsThen class parts before) end x xs (taken_to parts left before more x m) (taken_from parts left before more x m) (run class end left (before ++ more) xs) (next left (before ++ more) m.in_order)
  step_agrees parts before x xs next Refused m =
      ([], x ∷ xs, refl, refl, goes_on parts before, λ others v word. ⊎_elim (λ h. m.some h.0 h.1) (λ h. m.none h.1 h.0 h.4) (word_by parts before x others v word))
  step_agrees parts before x xs next (Passed more) m = passed_agrees parts before more x xs m (class x.symbol) refl

  pub run_agrees : (tokens : List Lexeme) (parts : List Part) (before : List Node) → InOrder parts → Agrees (PartsThen class parts before) end tokens (run class end parts before tokens)
  run_agrees [] parts before order = ([], [], refl, refl, goes_on parts before, tt)
  run_agrees (x ∷ tokens) parts before order =
      step_agrees parts before x tokens (λ left all next. run_agrees tokens left all next) (advance parts x) (advance_means parts x order)

  -- each word is read, whatever follows it
  closed_word : (x : Lexeme) (nodes : List Node) (rest : List Lexeme) (v : List Node × Bool) (o : Option Bool) → o ≡ Some v.1 → v.0 ≡ nodes → closed x nodes rest o ≡ Ok (v, rest)
  closed_word x nodes rest v o is nodes_is =
      ap (closed x nodes rest) is ∙ ap (λ ns. Ok ((ns, v.1), rest)) (flip nodes_is)

  step_word : (parts : List Part) (before : List Node) (x : Lexeme) (ts rest : List Lexeme) (v : List Node × Bool) → PartsThen class parts before (x ∷ ts) v → ((left : List Part) (all : List Node) → InOrder left → PartsThen class left all ts v → run class end left all (ts ++ rest) ≡ Ok (v, rest)) → (s : Step) → StepMeans parts x s → stepped x (class x.symbol) before (ts ++ rest) (λ left all. run class end left all (ts ++ rest)) s ≡ Ok (v, rest)
  step_word parts before x ts rest v word next (Taken left more) m =
      next left (before ++ more) m.in_order (taken_from parts left before more x m ts v word)
  step_word parts before x ts rest v word next Refused m =
      absurd (⊎_elim (λ h. m.some h.0 h.1) (λ h. m.none h.1 h.0 h.4) (word_by parts before x ts v word))
  step_word parts before x ts rest v word next (Passed more) m =
      ⊎_elim (λ h. let gone : ts ++ rest ≡ rest = ap (λ t. t ++ rest) h.4 in ap (λ t. closed x (before ++ more) t (class x.symbol)) gone ∙ closed_word x (before ++ more) rest v (class x.symbol) h.3 (h.2 ∙ ap (λ t. before ++ t) (m.once h.0 h.1))) (λ h. absurd (m.none h.1 h.0 h.4)) (word_by parts before x ts v word)

  run_word : (ts rest : List Lexeme) (parts : List Part) (before : List Node) → InOrder parts → (v : List Node × Bool) → PartsThen class parts before ts v → run class end parts before (ts ++ rest) ≡ Ok (v, rest)
  run_word [] rest parts before order v word = absurd (omega (arith, ap length word.3, length-append word.1 (word.2 ∷ [])))
  run_word (x ∷ ts) rest parts before order v word =
      step_word parts before x ts rest v word (λ left all next w. run_word ts rest left all next v w) (advance parts x) (advance_means parts x order)

  ok_same : {x y : (List Node × Bool) × List Lexeme} → ◌≡◌ {A = Result ((List Node × Bool) × List Lexeme) ℕ} (Ok x) (Ok y) → x ≡ y
  ok_same e = cc

  parts_free : (parts : List Part) (before : List Node) → InOrder parts → IsPrefixFree (PartsThen class parts before)
  parts_free parts before order a b r s v w left right same =
      let both = ok_same (flip (run_word a r parts before order v left) ∙ ap (run class end parts before) same ∙ run_word b s parts before order w right) in
      let rests : r ≡ s = ap (λ (x : (List Node × Bool) × List Lexeme). x.1) both in
      (append_cancel_right a b s (ap (λ t. a ++ t) (flip rests) ∙ same), ap (λ (x : (List Node × Bool) × List Lexeme). x.0) both)

  pub decides_parts : Decides (PartsThen class (Expr ∷ []) []) end (run class end (Expr ∷ []) [])
  decides_parts = record {
    some = some_word (Expr ∷ []) [];
    free = parts_free (Expr ∷ []) [] (tt, tt);
    right = λ tokens. run_agrees tokens (Expr ∷ []) [] (tt, tt);
  }
