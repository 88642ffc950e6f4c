-- Repeated items: read until none follows.
use Rattle.std.proofs.Common.{◌≡◌, ℕ, zero, suc, ◌<◌, List, [], ◌∷◌, ◌++◌, length, Result, Ok, Err, Bool, true, false, cond, refl, sym, ◌∙◌, ap, subst, arith, append_assoc, length-append}
use Rattle.std.proofs.lemmas.Bool.{false≢true}
use Rattle.std.proofs.lemmas.List.{append-nil, append_cancel_left}
use Rattle.qasm_form.specs.Symbols.{Lexeme}
use Rattle.qasm_form.specs.Languages.{Language, Value}
use Rattle.qasm_form.specs.Languages as lang
use Rattle.qasm_parse.specs.Readers.{Reader, prefixed, repeat, repeated}
use Rattle.qasm_parse.proofs.DecidesLemmas.{Agrees, Stops, IsPrefixFree, Decides, agrees_same, then_agrees}

-- values, and whether more follow
pub data Repeat {V : Type 0} (item : Language (List V × Bool)) : List Lexeme → List V → Type 0 where
  last : {tokens : List Lexeme} {vs : List V} → item tokens (vs, false) → Repeat item tokens vs
  more : {tokens : List Lexeme} {all : List V} (front rest : List Lexeme) (us vs : List V) → item front (us, true) → Repeat item rest vs → tokens ≡ front ++ rest → all ≡ us ++ vs → Repeat item tokens all

-- what follows an item
abbrev After : {V : Type 0} → Language (List V × Bool) → List V → Bool → Language (List V)
After item us false tokens all = Value us tokens all
After {V} item us true tokens all = (vs : List V) × Repeat item tokens vs × (all ≡ us ++ vs)

roll_by : {V : Type 0} (item : Language (List V × Bool)) (us : List V) (b : Bool) (front rest tokens : List Lexeme) (all : List V) → tokens ≡ front ++ rest → item front (us, b) → After item us b rest all → Repeat item tokens all
roll_by item us false front rest tokens all split is after =
    let whole : tokens ≡ front = split ∙ ap (λ t. front ++ t) after.0 ∙ append-nil front in
    last (subst (λ t. item t (all, false)) (sym whole) (subst (λ vs. item front (vs, false)) (sym after.1) is))
roll_by item us true front rest tokens all split is after = more front rest us after.0 is after.1 split after.2

roll : {V : Type 0} (item : Language (List V × Bool)) (tokens : List Lexeme) (all : List V) → lang.◌>>=◌ item (λ v. After item v.0 v.1) tokens all → Repeat item tokens all
roll item tokens all word = roll_by item word.0.0 word.0.1 word.1 word.2 tokens all word.3 word.4 word.5

unroll : {V : Type 0} (item : Language (List V × Bool)) (tokens : List Lexeme) (all : List V) → Repeat item tokens all → lang.◌>>=◌ item (λ v. After item v.0 v.1) tokens all
unroll item tokens all (last h) = ((all, false), tokens, [], sym (append-nil tokens), h, (refl, refl))
unroll item tokens all (more front rest us vs h t split is) = ((us, true), front, rest, split, h, (vs, t, is))

module _ {V : Type 0} (end : ℕ) (item : Language (List V × Bool)) (r : Reader (List V × Bool)) (decides : Decides item end r) (nonempty : (ts : List Lexeme) (v : List V × Bool) → item ts v → 0 < length ts) (ends : (word : List Lexeme) × (vs : List V) × item word (vs, false)) where
  after_some : (v : List V × Bool) → (word : List Lexeme) × (all : List V) × After item v.0 v.1 word all
  after_some v = by_flag v.0 v.1 where
    by_flag : (us : List V) (b : Bool) → (word : List Lexeme) × (all : List V) × After item us b word all
    by_flag us false = ([], us, (refl, refl))
    by_flag us true = (ends.0, us ++ ends.1, (ends.1, last ends.2, refl))

  repeat_free : IsPrefixFree (Repeat item)
  repeat_free a b r s v w (last h) (last g) same =
      let e = decides.free a b r s (v, false) (w, false) h g same in
      (e.0, ap (λ (x : List V × Bool). x.0) e.1)
  repeat_free a b r s v w (last h) (more front rest us vs g t split is) same =
      let e = decides.free a front r (rest ++ s) (v, false) (us, true) h g (same ∙ ap (λ x. x ++ s) split ∙ append_assoc front rest s) in
      absurd (false≢true (ap (λ (x : List V × Bool). x.1) e.1))
  repeat_free a b r s v w (more front rest us vs h t split is) (last g) same =
      let e = decides.free front b (rest ++ r) s (us, true) (w, false) h g (sym (append_assoc front rest r) ∙ ap (λ x. x ++ r) (sym split) ∙ same) in
      absurd (false≢true (sym (ap (λ (x : List V × Bool). x.1) e.1)))
  repeat_free a b r s v w (more front rest us vs h t split is) (more front' rest' us' vs' h' t' split' is') same =
      let whole : front ++ (rest ++ r) ≡ front' ++ (rest' ++ s) = sym (append_assoc front rest r) ∙ ap (λ x. x ++ r) (sym split) ∙ same ∙ ap (λ x. x ++ s) split' ∙ append_assoc front' rest' s in
      let e = decides.free front front' (rest ++ r) (rest' ++ s) (us, true) (us', true) h h' whole in
      let rests : rest ++ r ≡ rest' ++ s = append_cancel_left front' (rest ++ r) (rest' ++ s) (ap (λ x. x ++ (rest ++ r)) (sym e.0) ∙ whole) in
      let f = repeat_free rest rest' r s vs vs' t t' rests in
      let values : us ≡ us' = ap (λ (x : List V × Bool). x.0) e.1 in
      (split ∙ (λ i. e.0 i ++ f.0 i) ∙ sym split', is ∙ (λ i. values i ++ f.1 i) ∙ sym is')

  prefixed_agrees : (us : List V) (tokens : List Lexeme) (o : Result (List V × List Lexeme) ℕ) → Agrees (Repeat item) end tokens o → Agrees (After item us true) end tokens (prefixed us o)
  prefixed_agrees us tokens (Ok x) h = (h.0, h.1, (x.0, h.2, refl))
  prefixed_agrees us tokens (Err at) h =
      (h.0, h.1, h.2, h.3, (h.4.0, h.4.1, us ++ h.4.2, (h.4.2, h.4.3, refl)), stops_after h.0 h.1 h.5) where
        stops_after : (front rest : List Lexeme) → Stops (Repeat item) front rest → Stops (After item us true) front rest
        stops_after front [] stops = tt
        stops_after front (x ∷ rest) stops = λ more v word. stops more word.0 word.1

  shorter : (tokens : List Lexeme) (o : Result ((List V × Bool) × List Lexeme) ℕ) → Agrees item end tokens o → (x : (List V × Bool) × List Lexeme) → o ≡ Ok x → length x.1 < length tokens
  shorter tokens o h x is =
      let g = subst (Agrees item end tokens) is h in
      omega (arith, ap length g.1, length-append g.0 x.1, nonempty g.0 x.0 g.2)

  next_agrees : (us : List V) (b : Bool) (tokens : List Lexeme) (o : Result (List V × List Lexeme) ℕ) → Agrees (Repeat item) end tokens o → Agrees (After item us b) end tokens (cond b (prefixed us o) (Ok (us, tokens)))
  next_agrees us false tokens o h = ([], refl, (refl, refl))
  next_agrees us true tokens o h = prefixed_agrees us tokens o h

  pub repeat_agrees : (n : ℕ) (tokens : List Lexeme) → length tokens < n → Agrees (Repeat item) end tokens (repeat r n tokens)
  repeat_agrees zero tokens lt = absurd (omega arith)
  repeat_agrees (suc n) tokens lt =
      agrees_same (lang.◌>>=◌ item (λ v. After item v.0 v.1)) (Repeat item) end tokens (roll item) (unroll item) (repeat r (suc n) tokens) (then_agrees end item (λ v. After item v.0 v.1) r decides after_some (λ v ts. cond v.1 (prefixed v.0 (repeat r n ts)) (Ok (v.0, ts))) tokens (λ x is. next_agrees x.0.0 x.0.1 x.1 (repeat r n x.1) (repeat_agrees n x.1 (omega (arith, shorter tokens (r tokens) (decides.right tokens) x is)))))

pub decides_repeated : {V : Type 0} (end : ℕ) (item : Language (List V × Bool)) (r : Reader (List V × Bool)) → Decides item end r → ((ts : List Lexeme) (v : List V × Bool) → item ts v → 0 < length ts) → (word : List Lexeme) × (vs : List V) × item word (vs, false) → Decides (Repeat item) end (repeated r)
decides_repeated end item r decides nonempty ends = record {
  some = (ends.0, ends.1, last ends.2);
  free = repeat_free end item r decides nonempty ends;
  right = λ tokens. repeat_agrees end item r decides nonempty ends (suc (length tokens)) tokens (omega arith);
}
