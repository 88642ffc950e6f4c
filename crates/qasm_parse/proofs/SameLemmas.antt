-- Languages with the same words.
use Rattle.std.proofs.Common.{◌≡◌, ℕ, List, [], ◌∷◌, ◌++◌, Some, None, Bool, true, false, cond, refl, sym, ◌∙◌, ap, subst, inl, inr, ⊎_elim, append_assoc}
use Rattle.std.proofs.lemmas.Bool.{false≢true, cond_both}
use Rattle.std.proofs.lemmas.List.{append-nil}
use Rattle.qasm_form.specs.declared.symbol.Symbol.{Symbol}
use Rattle.qasm_form.specs.declared.symbol.Symbol.TheVariants.{Comma}
use Rattle.qasm_parse.specs.declared.opening.Follow.{Follow}
use Rattle.qasm_parse.specs.declared.opening.Follow.TheVariants.{Only, Until}
use Rattle.qasm_form.specs.Symbols.{Lexeme}
use Rattle.qasm_parse.specs.SameSymbols.{same_symbol}
use Rattle.qasm_parse.specs.Follows.{follows}
use Rattle.qasm_form.specs.Languages.{Language, Value, Token, OneOf, Or, Listed, Many, ◌>>=◌}
use Rattle.qasm_parse.specs.Readers.{Reader}
use Rattle.qasm_form.specs.Grammar.{ListedUntil}
use Rattle.qasm_parse.proofs.SymbolLemmas.{same_symbol-true, same_symbol-refl}
use Rattle.qasm_parse.proofs.DecidesLemmas.{Decides, decides_same}
use Rattle.qasm_parse.proofs.RepeatLemmas.{Repeat, last, more}

abbrev pub Within : {V : Type 0} → Language V → Language V → Type 0
Within {V} L M = (ts : List Lexeme) (v : V) → L ts v → M ts v

abbrev pub Same : {V : Type 0} → Language V → Language V → Type 0
Same L M = Within L M × Within M L

pub same_refl : {V : Type 0} (L : Language V) → Same L L
same_refl L = (λ ts v w. w, λ ts v w. w)

pub same_flip : {V : Type 0} (L M : Language V) → Same L M → Same M L
same_flip L M f = (f.1, f.0)

pub same_trans : {V : Type 0} (L M N : Language V) → Same L M → Same M N → Same L N
same_trans L M N f g = (λ ts v w. g.0 ts v (f.0 ts v w), λ ts v w. f.1 ts v (g.1 ts v w))

pub same_then : {A B : Type 0} (L M : Language A) (F G : A → Language B) → Same L M → ((a : A) → Same (F a) (G a)) → Same (L >>= F) (M >>= G)
same_then L M F G l f = (
  λ ts v w. (w.0, w.1, w.2, w.3, l.0 w.1 w.0 w.4, (f w.0).0 w.2 v w.5),
  λ ts v w. (w.0, w.1, w.2, w.3, l.1 w.1 w.0 w.4, (f w.0).1 w.2 v w.5),
)

pub same_assoc : {A B C : Type 0} (L : Language A) (F : A → Language B) (G : B → Language C) → Same ((L >>= F) >>= G) (L >>= λ a. F a >>= G)
same_assoc L F G = (
  λ ts v w. let i = w.4 in (i.0, i.1, i.2 ++ w.2, w.3 ∙ ap (λ t. t ++ w.2) i.3 ∙ append_assoc i.1 i.2 w.2, i.4, (w.0, i.2, w.2, refl, i.5, w.5)),
  λ ts v w. let i = w.5 in (i.0, w.1 ++ i.1, i.2, w.3 ∙ ap (λ t. w.1 ++ t) i.3 ∙ sym (append_assoc w.1 i.1 i.2), (w.0, w.1, i.1, refl, w.4, i.4), i.5),
)

pub same_value : {A B : Type 0} (a : A) (F : A → Language B) → Same (Value a >>= F) (F a)
same_value a F = (
  λ ts v w. let e : ts ≡ w.2 = w.3 ∙ ap (λ t. t ++ w.2) w.4.0 in subst (λ t. F a t v) (sym e) (subst (λ b. F b w.2 v) w.4.1 w.5),
  λ ts v w. (a, [], ts, refl, (refl, refl), w),
)

-- what maps the value first
pub same_map : {A B C : Type 0} (L : Language A) (f : A → B) (F : B → Language C) → Same ((L >>= λ a. Value (f a)) >>= F) (L >>= λ a. F (f a))
same_map {A} {B} {C} L f F =
    same_trans ((L >>= λ a. Value (f a)) >>= F) (L >>= λ a. Value (f a) >>= F) (L >>= λ a. F (f a)) (same_assoc L (λ a. Value (f a)) F) (same_then L L (λ a. Value (f a) >>= F) (λ a. F (f a)) (same_refl L) (λ a. same_value (f a) F))

pub same_or : {V : Type 0} (L M P Q : Language V) → Same L P → Same M Q → Same (Or L M) (Or P Q)
same_or L M P Q f g = (
  λ ts v w. ⊎_elim (λ x. inl (f.0 ts v x)) (λ x. inr (g.0 ts v x)) w,
  λ ts v w. ⊎_elim (λ x. inl (f.1 ts v x)) (λ x. inr (g.1 ts v x)) w,
)

pub same_or_then : {A B : Type 0} (L M : Language A) (F : A → Language B) → Same (Or L M >>= F) (Or (L >>= F) (M >>= F))
same_or_then L M F = (
  λ ts v w. ⊎_elim (λ x. inl (w.0, w.1, w.2, w.3, x, w.5)) (λ x. inr (w.0, w.1, w.2, w.3, x, w.5)) w.4,
  λ ts v w. ⊎_elim (λ x. (x.0, x.1, x.2, x.3, inl x.4, x.5)) (λ x. (x.0, x.1, x.2, x.3, inr x.4, x.5)) w,
)

pub same_or_factor : {A B : Type 0} (L : Language A) (F G : A → Language B) → Same (Or (L >>= F) (L >>= G)) (L >>= λ a. Or (F a) (G a))
same_or_factor L F G = (
  λ ts v w. ⊎_elim (λ x. (x.0, x.1, x.2, x.3, x.4, inl x.5)) (λ x. (x.0, x.1, x.2, x.3, x.4, inr x.5)) w,
  λ ts v w. ⊎_elim (λ x. inl (w.0, w.1, w.2, w.3, w.4, x)) (λ x. inr (w.0, w.1, w.2, w.3, w.4, x)) w.5,
)

pub decides_by : {V : Type 0} (L M : Language V) (end : ℕ) (r : Reader V) → Same L M → Decides L end r → Decides M end r
decides_by L M end r same decides = decides_same L M end r same.0 same.1 decides

-- an item, and what may stand behind it
abbrev pub ItemThen : {V : Type 0} → Language V → Follow → Language (V × Bool)
ItemThen item follow = item >>= λ v. OneOf (follows follow) >>= λ c. Value (v, c.0)

only_means : (stop s : Symbol) (b : Bool) → follows (Only stop) s ≡ Some b → s ≡ stop
only_means stop s b =
    cond_both (same_symbol s stop) (Some false) None (λ o. o ≡ Some b → s ≡ stop) (λ same _. same_symbol-true s stop same) (λ _ e. absurd (cc))

pub only_accepts : (stop : Symbol) → follows (Only stop) stop ≡ Some false
only_accepts stop = ap (λ b. cond b (Some false) None) (same_symbol-refl stop)

pub until_accepts : (stop : Symbol) → follows (Until stop) stop ≡ Some false
until_accepts stop = ap (λ b. cond b (Some false) (cond (same_symbol stop Comma) (Some true) None)) (same_symbol-refl stop)

until_stops : (stop s : Symbol) → follows (Until stop) s ≡ Some false → s ≡ stop
until_stops stop s =
    cond_both (same_symbol s stop) (Some false) (cond (same_symbol s Comma) (Some true) None) (λ o. o ≡ Some false → s ≡ stop) (λ same _. same_symbol-true s stop same) (λ _. cond_both (same_symbol s Comma) (Some true) None (λ o. o ≡ Some false → s ≡ stop) (λ _ e. absurd (false≢true (flag e))) (λ _ e. absurd (cc))) where
      flag : Some true ≡ Some false → false ≡ true
      flag e = let f : true ≡ false = cc in sym f

until_goes_on : (stop s : Symbol) → follows (Until stop) s ≡ Some true → s ≡ Comma
until_goes_on stop s =
    cond_both (same_symbol s stop) (Some false) (cond (same_symbol s Comma) (Some true) None) (λ o. o ≡ Some true → s ≡ Comma) (λ _ e. absurd (false≢true (flag e))) (λ _. cond_both (same_symbol s Comma) (Some true) None (λ o. o ≡ Some true → s ≡ Comma) (λ same _. same_symbol-true s Comma same) (λ _ e. absurd (cc))) where
      flag : Some false ≡ Some true → false ≡ true
      flag e = cc

until_comma : (stop : Symbol) → same_symbol Comma stop ≡ false → follows (Until stop) Comma ≡ Some true
until_comma stop differs =
    ap (λ b. cond b (Some false) (cond (same_symbol Comma Comma) (Some true) None)) differs ∙ ap (λ b. cond b (Some true) None) (same_symbol-refl Comma)

-- an item with one sign behind it
pub same_only : {A B : Type 0} (item : Language A) (stop : Symbol) (F : A → Language B) → Same (ItemThen item (Only stop) >>= λ v. F v.0) (item >>= λ a. Token stop >>= λ _. F a)
same_only {A} {B} item stop F = (
  λ ts v w. let i = w.4 in let c = i.5 in (
    i.0,
    i.1,
    i.2 ++ w.2,
    w.3 ∙ ap (λ t. t ++ w.2) i.3 ∙ append_assoc i.1 i.2 w.2,
    i.4,
    (
      c.0.1,
      c.1,
      w.2,
      ap (λ t. t ++ w.2) (c.3 ∙ ap (λ t. c.1 ++ t) c.5.0 ∙ append-nil c.1),
      (c.4.0, only_means stop c.0.1.symbol c.0.0 c.4.1),
      subst (λ (x : A × Bool). F x.0 w.2 v) c.5.1 w.5,
    ),
  ),
  λ ts v w. let i = w.5 in (
    (w.0, false),
    w.1 ++ i.1,
    i.2,
    w.3 ∙ ap (λ t. w.1 ++ t) i.3 ∙ sym (append_assoc w.1 i.1 i.2),
    (
      w.0,
      w.1,
      i.1,
      refl,
      w.4,
      ((false, i.0), i.1, [], sym (append-nil i.1), (i.4.0, subst (λ s. follows (Only stop) s ≡ Some false) (sym i.4.1) (only_accepts stop)), (refl, refl)),
    ),
    i.5,
  ),
)

-- listed items
abbrev pub OneMore : {V : Type 0} → Language (V × Bool) → Language (List V × Bool)
OneMore item = item >>= λ v. Value (v.0 ∷ [], v.1)

module _ {V : Type 0} (item : Language V) (stop : Symbol) (apart : same_symbol Comma stop ≡ false) where
  -- a further item, or the last one
  pub entry_parts : (ts : List Lexeme) (us : List V) (b : Bool) → OneMore (ItemThen item (Until stop)) ts (us, b) → (v : V) × (front : List Lexeme) × (x : Lexeme) × (ts ≡ front ++ x ∷ []) × item front v × (us ≡ v ∷ []) × (follows (Until stop) x.symbol ≡ Some b)
  entry_parts ts us b w =
      let i = w.4 in
      let c = i.5 in
      let values : w.0 ≡ (i.0, c.0.0) = c.5.1 in (
        i.0,
        i.1,
        c.0.1,
        w.3 ∙ ap (λ t. w.1 ++ t) w.5.0 ∙ append-nil w.1 ∙ i.3 ∙ ap (λ t. i.1 ++ t) (c.3 ∙ ap (λ t. c.1 ++ t) c.5.0 ∙ append-nil c.1 ∙ c.4.0),
        i.4,
        ap (λ (p : List V × Bool). p.0) w.5.1 ∙ ap (λ (p : V × Bool). p.0 ∷ []) values,
        c.4.1 ∙ ap (λ (p : V × Bool). Some p.1) (sym values) ∙ ap (λ (p : List V × Bool). Some p.1) (sym w.5.1),
      )

  pub entry : (front : List Lexeme) (x : Lexeme) (v : V) (b : Bool) → item front v → follows (Until stop) x.symbol ≡ Some b → OneMore (ItemThen item (Until stop)) (front ++ x ∷ []) (v ∷ [], b)
  entry front x v b is class =
      ((v, b), front ++ x ∷ [], [], sym (append-nil (front ++ x ∷ [])), (v, front, x ∷ [], refl, is, ((b, x), x ∷ [], [], refl, (refl, class), (refl, refl))), (refl, refl))

  -- the sign behind the last item
  abbrev Closed : List Lexeme → List V → Type 0
  Closed ts vs =
      (front : List Lexeme) × (x : Lexeme) × (ts ≡ front ++ x ∷ []) × Listed item front vs × (x.symbol ≡ stop)

  listed_more : (v : V) (vs : List V) (front rest : List Lexeme) (comma : Lexeme) → item front v → comma.symbol ≡ Comma → Listed item rest vs → Listed item (front ++ comma ∷ rest) (v ∷ vs)
  listed_more v [] front rest comma is is_comma others = absurd others
  listed_more v (w ∷ vs) front rest comma is is_comma others = (front, comma, rest, refl, is, is_comma, others)

  to_closed : (ts : List Lexeme) (vs : List V) → Repeat (OneMore (ItemThen item (Until stop))) ts vs → Closed ts vs
  to_closed ts vs (last h) =
      let e = entry_parts ts vs false h in
      (e.1, e.2, e.3, subst (Listed item e.1) (sym e.5) e.4, until_stops stop e.2.symbol e.6)
  to_closed ts all (more front rest us vs h t split is) =
      let e = entry_parts front us true h in
      let c = to_closed rest vs t in (
        e.1 ++ e.2 ∷ c.0,
        c.1,
        split ∙ (λ i. e.3 i ++ c.2 i) ∙ append_assoc e.1 (e.2 ∷ []) (c.0 ++ c.1 ∷ []) ∙ sym (append_assoc e.1 (e.2 ∷ c.0) (c.1 ∷ [])),
        subst (Listed item (e.1 ++ e.2 ∷ c.0)) (sym (is ∙ ap (λ u. u ++ vs) e.5)) (listed_more e.0 vs e.1 c.0 e.2 e.4 (until_goes_on stop e.2.symbol e.6) c.3),
        c.4,
      )

  from_listed : (vs : List V) (front : List Lexeme) (x : Lexeme) → Listed item front vs → x.symbol ≡ stop → Repeat (OneMore (ItemThen item (Until stop))) (front ++ x ∷ []) vs
  from_listed [] front x listed is = absurd listed
  from_listed (v ∷ []) front x listed is =
      last (entry front x v false listed (subst (λ s. follows (Until stop) s ≡ Some false) (sym is) (until_accepts stop)))
  from_listed (v ∷ w ∷ vs) front x listed is =
      more (listed.0 ++ listed.1 ∷ []) (listed.2 ++ x ∷ []) (v ∷ []) (w ∷ vs) (entry listed.0 listed.1 v true listed.4 (subst (λ s. follows (Until stop) s ≡ Some true) (sym listed.5) (until_comma stop apart))) (from_listed (w ∷ vs) listed.2 x listed.6 is) (ap (λ t. t ++ x ∷ []) listed.3 ∙ append_assoc listed.0 (listed.1 ∷ listed.2) (x ∷ []) ∙ sym (append_assoc listed.0 (listed.1 ∷ []) (listed.2 ++ x ∷ []))) refl

  pub same_listed : Same (Repeat (OneMore (ItemThen item (Until stop)))) (ListedUntil item stop)
  same_listed = (
    λ ts vs r. let c = to_closed ts vs r in (vs, c.0, c.1 ∷ [], c.2, c.3, (c.1, c.1 ∷ [], [], refl, (refl, c.4), (refl, refl))),
    λ ts vs w. let i = w.5 in let behind : w.2 ≡ i.0 ∷ [] = i.3 ∙ ap (λ t. i.1 ++ t) i.5.0 ∙ append-nil i.1 ∙ i.4.0 in subst (λ t. Repeat (OneMore (ItemThen item (Until stop))) t vs) (sym (w.3 ∙ ap (λ t. w.1 ++ t) behind)) (from_listed vs w.1 i.0 (subst (λ us. Listed item w.1 us) (sym i.5.1) w.4) i.4.1),
  )

-- items until a sign, each of which begins otherwise
abbrev pub Item : {V : Type 0} → Language V → Symbol → Language (List V × Bool)
Item op stop = Or (Token stop >>= λ _. Value ([], false)) (op >>= λ o. Value (o ∷ [], true))

module _ {V : Type 0} (op : Language V) (stop : Symbol) where
  abbrev Ended : List Lexeme → List V → Type 0
  Ended ts vs =
      (front : List Lexeme) × (x : Lexeme) × (ts ≡ front ++ x ∷ []) × Many op front vs × (x.symbol ≡ stop)

  last_flag : {us vs : List V} → ◌≡◌ {A = List V × Bool} (us, false) (vs, true) → ⊥
  last_flag e = false≢true (ap (λ (p : List V × Bool). p.1) e)

  to_ended : (ts : List Lexeme) (vs : List V) → Repeat (Item op stop) ts vs → Ended ts vs
  to_ended ts vs (last (inl h)) =
      ([], h.0, h.3 ∙ ap (λ t. h.1 ++ t) h.5.0 ∙ append-nil h.1 ∙ h.4.0, subst (Many op []) (sym (ap (λ (p : List V × Bool). p.0) h.5.1)) refl, h.4.1)
  to_ended ts vs (last (inr h)) = absurd (last_flag h.5.1)
  to_ended ts all (more front rest us vs (inl h) t split is) = absurd (last_flag (sym h.5.1))
  to_ended ts all (more front rest us vs (inr h) t split is) =
      let c = to_ended rest vs t in
      let front_is : front ≡ h.1 = h.3 ∙ ap (λ t. h.1 ++ t) h.5.0 ∙ append-nil h.1 in
      let us_is : us ≡ h.0 ∷ [] = ap (λ (p : List V × Bool). p.0) h.5.1 in
      (h.1 ++ c.0, c.1, split ∙ (λ i. front_is i ++ c.2 i) ∙ sym (append_assoc h.1 c.0 (c.1 ∷ [])), subst (Many op (h.1 ++ c.0)) (sym (is ∙ ap (λ u. u ++ vs) us_is)) (h.1, c.0, refl, h.4, c.3), c.4)

  from_many : (vs : List V) (front : List Lexeme) (x : Lexeme) → Many op front vs → x.symbol ≡ stop → Repeat (Item op stop) (front ++ x ∷ []) vs
  from_many [] front x many is =
      last (inl (x, x ∷ [], [], ap (λ t. t ++ x ∷ []) many, (refl, is), (refl, refl)))
  from_many (v ∷ vs) front x many is =
      more many.0 (many.1 ++ x ∷ []) (v ∷ []) vs (inr (v, many.0, [], sym (append-nil many.0), many.3, (refl, refl))) (from_many vs many.1 x many.4 is) (ap (λ t. t ++ x ∷ []) many.2 ∙ append_assoc many.0 many.1 (x ∷ [])) refl

  pub same_many : Same (Repeat (Item op stop)) (Many op >>= λ vs. Token stop >>= λ _. Value vs)
  same_many = (
    λ ts vs r. let c = to_ended ts vs r in (vs, c.0, c.1 ∷ [], c.2, c.3, (c.1, c.1 ∷ [], [], refl, (refl, c.4), (refl, refl))),
    λ ts vs w. let i = w.5 in let behind : w.2 ≡ i.0 ∷ [] = i.3 ∙ ap (λ t. i.1 ++ t) i.5.0 ∙ append-nil i.1 ∙ i.4.0 in subst (λ t. Repeat (Item op stop) t vs) (sym (w.3 ∙ ap (λ t. w.1 ++ t) behind)) (from_many vs w.1 i.0 (subst (λ us. Many op w.1 us) (sym i.5.1) w.4) i.4.1),
  )
