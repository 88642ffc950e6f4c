-- A reader decides a language: it reads exactly its words, and names the first token with which none begins.
use Rattle.std.proofs.Common.{◌≡◌, ℕ, List, [], ◌∷◌, ◌++◌, length, Option, Some, None, Result, Ok, Err, Bool, true, false, ◌⊎◌, refl, sym, ◌∙◌, ap, subst, inl, inr, ⊎_elim, arith, append_assoc, length-append}
use Rattle.std.proofs.lemmas.Bool.{false≢true, cond_both}
use Rattle.std.proofs.lemmas.List.{append-nil, append_cancel_left}
use Rattle.qasm_form.specs.declared.symbol.Symbol.{Symbol}
use Rattle.qasm_form.specs.Symbols.{Lexeme}
use Rattle.qasm_parse.specs.SameSymbols.{same_symbol}
use Rattle.qasm_form.specs.Languages.{Language, Value, Token, OneOf, Or}
use Rattle.qasm_form.specs.Languages as lang
use Rattle.qasm_form.specs.Statements.{offset_of}
use Rattle.qasm_parse.specs.Readers.{Reader, and_then, value, token, accepted, one_of, choose}
use Rattle.qasm_parse.specs.Readers as read
use Rattle.qasm_parse.proofs.SymbolLemmas.{same_symbol-true, same_symbol-refl}

-- some word goes on from these tokens by one token at least
abbrev pub GoesOn : {V : Type 0} → Language V → List Lexeme → Type 0
GoesOn {V} L front = (x : Lexeme) × (more : List Lexeme) × (v : V) × L (front ++ x ∷ more) v

-- no word begins with these tokens and the first of the rest
abbrev pub Stops : {V : Type 0} → Language V → List Lexeme → List Lexeme → Type 0
Stops L front [] = Unit {0}
Stops {V} L front (x ∷ rest) = (more : List Lexeme) (v : V) → L (front ++ x ∷ more) v → ⊥

-- what an answer means
abbrev pub Agrees : {V : Type 0} → Language V → ℕ → List Lexeme → Result (V × List Lexeme) ℕ → Type 0
Agrees L end tokens (Ok x) = (front : List Lexeme) × (tokens ≡ front ++ x.1) × L front x.0
Agrees L end tokens (Err at) =
    (front : List Lexeme) × (rest : List Lexeme) × (tokens ≡ front ++ rest) × (at ≡ offset_of end rest) × GoesOn L front × Stops L front rest

-- no word is a proper front of another, and each has one value
abbrev pub IsPrefixFree : {V : Type 0} → Language V → Type 0
IsPrefixFree {V} L =
    (a b r s : List Lexeme) (v w : V) → L a v → L b w → a ++ r ≡ b ++ s → (a ≡ b) × (v ≡ w)

pub record Decides {V : Type 0} (L : Language V) (end : ℕ) (r : Reader V) : Type 0 where
  pub some : (word : List Lexeme) × (v : V) × L word v
  pub free : IsPrefixFree L
  pub right : (tokens : List Lexeme) → Agrees L end tokens (r tokens)

head_of : {x y : Lexeme} {xs ys : List Lexeme} → x ∷ xs ≡ y ∷ ys → x ≡ y
head_of e = cc

tail_of : {x y : Lexeme} {xs ys : List Lexeme} → x ∷ xs ≡ y ∷ ys → xs ≡ ys
tail_of e = cc

not_nil : {x : Lexeme} {xs : List Lexeme} → x ∷ xs ≡ [] → ⊥
not_nil e = absurd (cc)

-- no token
pub decides_value : {V : Type 0} (end : ℕ) (v : V) → Decides (Value v) end (value v)
decides_value end v = record {
  some = ([], v, (refl, refl));
  free = λ a b r s x y left right same. (left.0 ∙ sym right.0, left.1 ∙ sym right.1);
  right = λ tokens. ([], refl, (refl, refl));
}

-- one token
token_agrees : (end : ℕ) (symbol : Symbol) (tokens : List Lexeme) → Agrees (Token symbol) end tokens (token end symbol tokens)
token_agrees end symbol [] =
    let x : Lexeme = record { symbol = symbol; text = []; at = 0 } in
    ([], [], refl, refl, (x, [], x, (refl, refl)), tt)
token_agrees end symbol (x ∷ rest) =
    let y : Lexeme = record { symbol = symbol; text = []; at = 0 } in
    cond_both (same_symbol x.symbol symbol) (Ok (x, rest)) (Err x.at) (Agrees (Token symbol) end (x ∷ rest)) (λ same. (x ∷ [], refl, (refl, same_symbol-true x.symbol symbol same))) (λ differs. ([], x ∷ rest, refl, refl, (y, [], y, (refl, refl)), λ more v word. let is : x.symbol ≡ symbol = subst (λ (t : Lexeme). t.symbol ≡ symbol) (sym (head_of word.0)) word.1 in false≢true (sym differs ∙ subst (λ t. same_symbol x.symbol t ≡ true) is (same_symbol-refl x.symbol))))

pub decides_token : (end : ℕ) (symbol : Symbol) → Decides (Token symbol) end (token end symbol)
decides_token end symbol = record {
  some = (record { symbol = symbol; text = []; at = 0 } ∷ [], record { symbol = symbol; text = []; at = 0 }, (refl, refl));
  free = λ a b r s x y left right same. let heads : x ∷ r ≡ y ∷ s = sym (ap (λ t. t ++ r) left.0) ∙ same ∙ ap (λ t. t ++ s) right.0 in (left.0 ∙ ap (λ z. z ∷ []) (head_of heads) ∙ sym right.0, head_of heads);
  right = token_agrees end symbol;
}

-- one token of a class
none_some : {V : Type 0} {v : V} → None ≡ Some v → ⊥
none_some e = absurd (cc)

class_of_token : {V : Type 0} (class : Symbol → Option V) (x : Lexeme) (more : List Lexeme) (v : V × Lexeme) → OneOf class (x ∷ more) v → class x.symbol ≡ Some v.0
class_of_token class x more v word =
    subst (λ (t : Lexeme). class t.symbol ≡ Some v.0) (sym (head_of word.0)) word.1

accepted_agrees : {V : Type 0} (class : Symbol → Option V) (end : ℕ) (x : Lexeme) (rest : List Lexeme) (s : Symbol) (w : V) → class s ≡ Some w → (o : Option V) → class x.symbol ≡ o → Agrees (OneOf class) end (x ∷ rest) (accepted o x rest)
accepted_agrees class end x rest s w some (Some v) is = (x ∷ [], refl, (refl, is))
accepted_agrees class end x rest s w some None is =
    let y : Lexeme = record { symbol = s; text = []; at = 0 } in
    ([], x ∷ rest, refl, refl, (y, [], (w, y), (refl, some)), λ more v word. none_some (sym is ∙ class_of_token class x more v word))

class_agrees : {V : Type 0} (class : Symbol → Option V) (end : ℕ) (s : Symbol) (w : V) → class s ≡ Some w → (tokens : List Lexeme) → Agrees (OneOf class) end tokens (one_of end class tokens)
class_agrees class end s w some [] =
    let y : Lexeme = record { symbol = s; text = []; at = 0 } in
    ([], [], refl, refl, (y, [], (w, y), (refl, some)), tt)
class_agrees class end s w some (x ∷ rest) = accepted_agrees class end x rest s w some (class x.symbol) refl

class_free : {V : Type 0} (class : Symbol → Option V) → IsPrefixFree (OneOf class)
class_free {V} class a b r s v w left right same =
    let heads : v.1 ∷ r ≡ w.1 ∷ s = sym (ap (λ t. t ++ r) left.0) ∙ same ∙ ap (λ t. t ++ s) right.0 in
    let lexemes : v.1 ≡ w.1 = head_of heads in
    let options : Some v.0 ≡ Some w.0 = sym left.1 ∙ ap (λ (x : Lexeme). class x.symbol) lexemes ∙ right.1 in
    let values : v.0 ≡ w.0 = cc in
    (left.0 ∙ ap (λ z. z ∷ []) lexemes ∙ sym right.0, λ i. (values i, lexemes i))

pub decides_one_of : {V : Type 0} (end : ℕ) (class : Symbol → Option V) (s : Symbol) (v : V) → class s ≡ Some v → Decides (OneOf class) end (one_of end class)
decides_one_of end class s v some = record {
  some = (record { symbol = s; text = []; at = 0 } ∷ [], (v, record { symbol = s; text = []; at = 0 }), (refl, some));
  free = class_free class;
  right = class_agrees class end s v some;
}

-- two lists of tokens that meet: one is a front of the other
pub meet : (a b r s : List Lexeme) → a ++ r ≡ b ++ s → ((m : List Lexeme) × (a ≡ b ++ m) × (s ≡ m ++ r)) ⊎ ((x : Lexeme) × (m : List Lexeme) × (b ≡ a ++ x ∷ m) × (r ≡ x ∷ (m ++ s)))
meet a [] r s same = inl (a, refl, sym same)
meet [] (y ∷ b) r s same = inr (y, b, refl, same)
meet (x ∷ a) (y ∷ b) r s same =
    let heads : x ≡ y = head_of same in
    ⊎_elim (λ h. inl (h.0, λ i. heads i ∷ h.1 i, h.2)) (λ h. inr (h.0, h.1, λ i. sym heads i ∷ h.2 i, h.3)) (meet a b r s (tail_of same))

-- no word is a front of tokens that go on to one
pub word_before : {V : Type 0} (L : Language V) → IsPrefixFree L → (front : List Lexeme) → GoesOn L front → (word : List Lexeme) (v : V) → L word v → (n : List Lexeme) → front ≡ word ++ n → ⊥
word_before L free front more word v is n split =
    let x = more.0 in
    let others = more.1 in
    let whole : word ++ (n ++ x ∷ others) ≡ (front ++ x ∷ others) ++ [] = sym (append_assoc word n (x ∷ others)) ∙ ap (λ t. t ++ x ∷ others) (sym split) ∙ sym (append-nil (front ++ x ∷ others)) in
    let same = free word (front ++ x ∷ others) (n ++ x ∷ others) [] v more.2 is more.3 whole in
    omega (arith, ap length same.0, ap length split, length-append word n, length-append front (x ∷ others))

-- one language after another
module _ {A B : Type 0} (end : ℕ) (L : Language A) (K : A → Language B) (r : Reader A) (first : Decides L end r) where
  pub then_free : ((a : A) → IsPrefixFree (K a)) → IsPrefixFree (lang.◌>>=◌ L K)
  then_free next a b p q v w left right same =
      let whole : left.1 ++ (left.2 ++ p) ≡ right.1 ++ (right.2 ++ q) = sym (append_assoc left.1 left.2 p) ∙ ap (λ t. t ++ p) (sym left.3) ∙ same ∙ ap (λ t. t ++ q) right.3 ∙ append_assoc right.1 right.2 q in
      let fronts = first.free left.1 right.1 (left.2 ++ p) (right.2 ++ q) left.0 right.0 left.4 right.4 whole in
      let rests : left.2 ++ p ≡ right.2 ++ q = append_cancel_left right.1 (left.2 ++ p) (right.2 ++ q) (ap (λ t. t ++ (left.2 ++ p)) (sym fronts.0) ∙ whole) in
      let tails = next right.0 left.2 right.2 p q v w (subst (λ a. K a left.2 v) fronts.1 left.5) right.5 rests in
      (left.3 ∙ (λ i. fronts.0 i ++ tails.0 i) ∙ sym right.3, tails.1)

  by_meeting : (front : List Lexeme) (x : Lexeme) (rest : List Lexeme) → GoesOn L front → Stops L front (x ∷ rest) → (others : List Lexeme) (a : A) (word tail : List Lexeme) → L word a → ((m : List Lexeme) × (word ≡ front ++ m) × (x ∷ others ≡ m ++ tail)) ⊎ ((y : Lexeme) × (m : List Lexeme) × (front ≡ word ++ y ∷ m) × (tail ≡ y ∷ (m ++ x ∷ others))) → ⊥
  by_meeting front x rest more stops others a word tail is (inr h) = word_before L first.free front more word a is (h.0 ∷ h.1) h.2
  by_meeting front x rest more stops others a word tail is (inl h) = by_middle h.0 h.1 h.2 where
    by_middle : (m : List Lexeme) → word ≡ front ++ m → x ∷ others ≡ m ++ tail → ⊥
    by_middle [] split _ =
        word_before L first.free front more word a is [] (sym (append-nil front) ∙ sym split ∙ sym (append-nil word))
    by_middle (z ∷ m) split same =
        let word_is : word ≡ front ++ x ∷ m = split ∙ ap (λ t. front ++ t ∷ m) (sym (head_of same)) in
        stops m a (subst (λ t. L t a) word_is is)

  first_stops : (front rest : List Lexeme) → GoesOn L front → Stops L front rest → Stops (lang.◌>>=◌ L K) front rest
  first_stops front [] more stops = tt
  first_stops front (x ∷ rest) more stops =
      λ others v word. by_meeting front x rest more stops others word.0 word.1 word.2 word.4 (meet word.1 front word.2 (x ∷ others) (sym word.3))

  first_goes_on : ((a : A) → (word : List Lexeme) × (v : B) × K a word v) → (front : List Lexeme) → GoesOn L front → GoesOn (lang.◌>>=◌ L K) front
  first_goes_on inhabited front more =
      let word = inhabited more.2 in
      (more.0, more.1 ++ word.0, word.1, (more.2, front ++ more.0 ∷ more.1, word.0, sym (append_assoc front (more.0 ∷ more.1) word.0), more.3, word.2))

  later_stops : (a : A) (done : List Lexeme) → L done a → (front rest : List Lexeme) → Stops (K a) front rest → Stops (lang.◌>>=◌ L K) (done ++ front) rest
  later_stops a done is front [] stops = tt
  later_stops a done is front (y ∷ rest) stops = λ others v word. (
      let whole : word.1 ++ word.2 ≡ done ++ (front ++ y ∷ others) = sym word.3 ∙ append_assoc done front (y ∷ others) in
      let same = first.free word.1 done word.2 (front ++ y ∷ others) word.0 a word.4 is whole in
      let tails : word.2 ≡ front ++ y ∷ others = append_cancel_left done word.2 (front ++ y ∷ others) (ap (λ t. t ++ word.2) (sym same.0) ∙ whole) in
      stops others v (subst (λ t. K a t v) tails (subst (λ b. K b word.2 v) same.1 word.5)))

  after_first : (tokens : List Lexeme) (x : A × List Lexeme) → Agrees L end tokens (Ok x) → (o : Result (B × List Lexeme) ℕ) → Agrees (K x.0) end x.1 o → Agrees (lang.◌>>=◌ L K) end tokens o
  after_first tokens x h (Ok y) g =
      (h.0 ++ g.0, h.1 ∙ ap (λ t. h.0 ++ t) g.1 ∙ sym (append_assoc h.0 g.0 y.1), (x.0, h.0, g.0, refl, h.2, g.2))
  after_first tokens x h (Err at) g = (
    h.0 ++ g.0,
    g.1,
    h.1 ∙ ap (λ t. h.0 ++ t) g.2 ∙ sym (append_assoc h.0 g.0 g.1),
    g.3,
    (g.4.0, g.4.1, g.4.2, (x.0, h.0, g.0 ++ g.4.0 ∷ g.4.1, append_assoc h.0 g.0 (g.4.0 ∷ g.4.1), h.2, g.4.3)),
    later_stops x.0 h.0 h.2 g.0 g.1 g.5,
  )

  by_first : ((a : A) → (word : List Lexeme) × (v : B) × K a word v) → (k : A → Reader B) (tokens : List Lexeme) (o : Result (A × List Lexeme) ℕ) → Agrees L end tokens o → ((x : A × List Lexeme) → o ≡ Ok x → Agrees (K x.0) end x.1 (k x.0 x.1)) → Agrees (lang.◌>>=◌ L K) end tokens (and_then o (λ x. k x.0 x.1))
  by_first inhabited k tokens (Err at) h next =
      (h.0, h.1, h.2, h.3, first_goes_on inhabited h.0 h.4, first_stops h.0 h.1 h.4 h.5)
  by_first inhabited k tokens (Ok x) h next = after_first tokens x h (k x.0 x.1) (next x refl)

  -- the second part need only agree where the first one leaves off
  pub then_agrees : ((a : A) → (word : List Lexeme) × (v : B) × K a word v) → (k : A → Reader B) (tokens : List Lexeme) → ((x : A × List Lexeme) → r tokens ≡ Ok x → Agrees (K x.0) end x.1 (k x.0 x.1)) → Agrees (lang.◌>>=◌ L K) end tokens (and_then (r tokens) (λ x. k x.0 x.1))
  then_agrees inhabited k tokens next = by_first inhabited k tokens (r tokens) (first.right tokens) next

pub decides_then : {A B : Type 0} (end : ℕ) (L : Language A) (K : A → Language B) (r : Reader A) (k : A → Reader B) → Decides L end r → ((a : A) → Decides (K a) end (k a)) → Decides (lang.◌>>=◌ L K) end (read.◌>>=◌ r k)
decides_then end L K r k first next =
    let word = first.some in
    let more = (next word.1).some in
    record {
      some = (word.0 ++ more.0, more.1, (word.1, word.0, more.0, refl, word.2, more.2));
      free = then_free end L K r first (λ a. (next a).free);
      right = λ tokens. then_agrees end L K r first (λ a. (next a).some) k tokens (λ x _. (next x.0).right x.1);
    }

-- two languages with the same words
pub agrees_same : {V : Type 0} (L M : Language V) (end : ℕ) (tokens : List Lexeme) → ((ts : List Lexeme) (v : V) → L ts v → M ts v) → ((ts : List Lexeme) (v : V) → M ts v → L ts v) → (o : Result (V × List Lexeme) ℕ) → Agrees L end tokens o → Agrees M end tokens o
agrees_same L M end tokens to from (Ok x) h = (h.0, h.1, to h.0 x.0 h.2)
agrees_same L M end tokens to from (Err at) h =
    (h.0, h.1, h.2, h.3, (h.4.0, h.4.1, h.4.2, to _ h.4.2 h.4.3), stops_same h.0 h.1 h.5) where
      stops_same : (front rest : List Lexeme) → Stops L front rest → Stops M front rest
      stops_same front [] stops = tt
      stops_same front (x ∷ rest) stops = λ more v word. stops more v (from _ v word)

pub decides_same : {V : Type 0} (L M : Language V) (end : ℕ) (r : Reader V) → ((ts : List Lexeme) (v : V) → L ts v → M ts v) → ((ts : List Lexeme) (v : V) → M ts v → L ts v) → Decides L end r → Decides M end r
decides_same L M end r to from decides = record {
  some = (decides.some.0, decides.some.1, to _ _ decides.some.2);
  free = λ a b p q v w left right same. decides.free a b p q v w (from a v left) (from b w right) same;
  right = λ tokens. agrees_same L M end tokens to from (r tokens) (decides.right tokens);
}

-- a language or another, told apart by the first token
abbrev pub FirstPasses : (Symbol → Bool) → Bool → List Lexeme → Type 0
FirstPasses test b [] = ⊥
FirstPasses test b (x ∷ rest) = test x.symbol ≡ b

pub first_append : (test : Symbol → Bool) (b : Bool) (front rest : List Lexeme) → FirstPasses test b front → FirstPasses test b (front ++ rest)
first_append test b [] rest first = absurd first
first_append test b (x ∷ front) rest first = first

module _ {V : Type 0} (end : ℕ) (test : Symbol → Bool) (L M : Language V) (left right : Reader V) (decides_left : Decides L end left) (decides_right : Decides M end right) (left_first : (ts : List Lexeme) (v : V) → L ts v → FirstPasses test true ts) (right_first : (ts : List Lexeme) (v : V) → M ts v → FirstPasses test false ts) where
  apart : (a b r s : List Lexeme) (v w : V) → L a v → M b w → a ++ r ≡ b ++ s → ⊥
  apart a b r s v w in_left in_right same =
      both (b ++ s) (subst (FirstPasses test true) same (first_append test true a r (left_first a v in_left))) (first_append test false b s (right_first b w in_right)) where
        both : (ts : List Lexeme) → FirstPasses test true ts → FirstPasses test false ts → ⊥
        both [] yes_first no_first = yes_first
        both (x ∷ ts) yes_first no_first = false≢true (sym no_first ∙ yes_first)

  or_free : IsPrefixFree (Or L M)
  or_free a b r s v w (inl x) (inl y) same = decides_left.free a b r s v w x y same
  or_free a b r s v w (inr x) (inr y) same = decides_right.free a b r s v w x y same
  or_free a b r s v w (inl x) (inr y) same = absurd (apart a b r s v w x y same)
  or_free a b r s v w (inr x) (inl y) same = absurd (apart b a s r w v y x (sym same))

  -- words of one side alone begin so
  left_stops : (x : Lexeme) (tokens front rest : List Lexeme) → test x.symbol ≡ true → x ∷ tokens ≡ front ++ rest → Stops L front rest → Stops (Or L M) front rest
  left_stops x tokens front [] passes same stops = tt
  left_stops x tokens [] (y ∷ rest) passes same stops = λ more v word. ⊎_elim (stops more v) (λ other. false≢true (sym (right_first (y ∷ more) v other) ∙ subst (λ (z : Lexeme). test z.symbol ≡ true) (head_of same) passes)) word
  left_stops x tokens (z ∷ front) (y ∷ rest) passes same stops = λ more v word. ⊎_elim (stops more v) (λ other. false≢true (sym (right_first (z ∷ (front ++ y ∷ more)) v other) ∙ subst (λ (z : Lexeme). test z.symbol ≡ true) (head_of same) passes)) word

  right_stops : (x : Lexeme) (tokens front rest : List Lexeme) → test x.symbol ≡ false → x ∷ tokens ≡ front ++ rest → Stops M front rest → Stops (Or L M) front rest
  right_stops x tokens front [] passes same stops = tt
  right_stops x tokens [] (y ∷ rest) passes same stops = λ more v word. ⊎_elim (λ other. false≢true (sym (subst (λ (z : Lexeme). test z.symbol ≡ false) (head_of same) passes) ∙ left_first (y ∷ more) v other)) (stops more v) word
  right_stops x tokens (z ∷ front) (y ∷ rest) passes same stops = λ more v word. ⊎_elim (λ other. false≢true (sym (subst (λ (z : Lexeme). test z.symbol ≡ false) (head_of same) passes) ∙ left_first (z ∷ (front ++ y ∷ more)) v other)) (stops more v) word

  or_from_left : (x : Lexeme) (tokens : List Lexeme) → test x.symbol ≡ true → (o : Result (V × List Lexeme) ℕ) → Agrees L end (x ∷ tokens) o → Agrees (Or L M) end (x ∷ tokens) o
  or_from_left x tokens passes (Ok y) h = (h.0, h.1, inl h.2)
  or_from_left x tokens passes (Err at) h =
      (h.0, h.1, h.2, h.3, (h.4.0, h.4.1, h.4.2, inl h.4.3), left_stops x tokens h.0 h.1 passes h.2 h.5)

  or_from_right : (x : Lexeme) (tokens : List Lexeme) → test x.symbol ≡ false → (o : Result (V × List Lexeme) ℕ) → Agrees M end (x ∷ tokens) o → Agrees (Or L M) end (x ∷ tokens) o
  or_from_right x tokens passes (Ok y) h = (h.0, h.1, inr h.2)
  or_from_right x tokens passes (Err at) h =
      (h.0, h.1, h.2, h.3, (h.4.0, h.4.1, h.4.2, inr h.4.3), right_stops x tokens h.0 h.1 passes h.2 h.5)

  starts : (word : List Lexeme) (v : V) → L word v → GoesOn (Or L M) []
  starts [] v is = absurd (left_first [] v is)
  starts (x ∷ word) v is = (x, word, v, inl is)

  or_agrees : (tokens : List Lexeme) → Agrees (Or L M) end tokens (choose end test left right tokens)
  or_agrees [] = ([], [], refl, refl, starts decides_left.some.0 decides_left.some.1 decides_left.some.2, tt)
  or_agrees (x ∷ tokens) =
      cond_both (test x.symbol) (left (x ∷ tokens)) (right (x ∷ tokens)) (Agrees (Or L M) end (x ∷ tokens)) (λ passes. or_from_left x tokens passes (left (x ∷ tokens)) (decides_left.right (x ∷ tokens))) (λ fails. or_from_right x tokens fails (right (x ∷ tokens)) (decides_right.right (x ∷ tokens)))

  pub decides_or : Decides (Or L M) end (choose end test left right)
  decides_or = record {
    some = (decides_left.some.0, decides_left.some.1, inl decides_left.some.2);
    free = or_free;
    right = or_agrees;
  }
