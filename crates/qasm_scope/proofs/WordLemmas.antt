-- Names of a declaration, and those of them that stand earlier in it.
use Rattle.std.proofs.Common.{◌≡◌, ℕ, zero, suc, ◌+◌, ◌-◌, ◌<◌, ◌≤◌, ◌⊎◌, ◌↔◌, inl, inr, List, [], ◌∷◌, ◌++◌, length, get_or, take, Option, Some, None, Bool, false, not, IsTrue, refl, sym, ◌∙◌, ap, subst, arith}
use Rattle.std.specs.Prelude.{slice_get}
use Rattle.std.specs.Bool.{then_some}
use Rattle.std.specs.List.{Any, Contains}
use Rattle.std.proofs.lemmas.Bool.{false≢true}
use Rattle.std.proofs.lemmas.List.{get_or-map, length-map, length-append, map-append, length-take, get_or_append_left, get_or-append-add, get_or-take, take-append-le}
use Rattle.std.proofs.lemmas.List.Elements.{Contains-append_right, Contains-append_cases}
use Rattle.std.proofs.Math.Seq.{take-append-add}
use Rattle.std.proofs.lemmas.Option.{slice_get_within, slice_get_read, get_or_from_slice_get, same_Some}
use Rattle.qasm_form.specs.declared.stmt.Named.{Named}
use Rattle.qasm_names.specs.Environment.{words_of}
use Rattle.qasm_scope.specs.Least.{IsLeastOffset, earlier}
use Rattle.qasm_scope.specs.Judged.{ComesAgain}
use Rattle.qasm_names.specs.Refusals.{ComesTwice}
use Rattle.qasm_scope.proofs.TestLemmas.{not_tested, below_or_here}
use Rattle.qasm_scope.proofs.LeastLemmas.{alike, either_least, one_least}

item_at : {X : Type 0} (xs : List X) (k : ℕ) → k < length xs → (x : X) × (slice_get xs k ≡ Some x)
item_at [] k l = absurd (omega arith)
item_at (x ∷ xs) zero l = (x, refl)
item_at (x ∷ xs) (suc k) l = item_at xs k (omega arith)

-- a name of the list that is this word
abbrev pub IsNameOf : List Named → List ℕ → Type 0
IsNameOf names word = Any (λ (name : Named). name.word ≡ word) names

pub contains_name : (names : List Named) (word : List ℕ) → Contains (words_of names) word → IsNameOf names word
contains_name names word w =
    let inside : w.0 < length names = subst (λ n. w.0 < n) (length-map names (λ (n : Named). n.word)) w.1 in
    let item = item_at names w.0 inside in
    let here : get_or names w.0 item.0 ≡ item.0 = get_or_from_slice_get names w.0 item.0 item.0 item.1 in
    let reads : get_or (words_of names) w.0 word ≡ (get_or names w.0 item.0).word = get_or-map (λ (n : Named). n.word) names w.0 item.0 word inside in
    (w.0, item.0, inside, here, sym (ap (λ (n : Named). n.word) here) ∙ sym reads ∙ w.2)

pub name_contained : (names : List Named) (word : List ℕ) → IsNameOf names word → Contains (words_of names) word
name_contained names word w =
    let reads : get_or (words_of names) w.0 word ≡ (get_or names w.0 w.1).word = get_or-map (λ (n : Named). n.word) names w.0 w.1 word w.2 in
    (w.0, subst (λ n. w.0 < n) (sym (length-map names (λ (n : Named). n.word))) w.2, reads ∙ ap (λ (n : Named). n.word) w.3 ∙ w.4)

-- a word isn't among these names
pub unknown_word : (names : List Named) {b : Bool} {word read : List ℕ} → read ≡ word → (IsTrue b ↔ Contains (words_of names) read) → (IsTrue (not b) ↔ ¬ Contains (words_of names) word)
unknown_word names {b} same h = not_tested (subst (λ w. IsTrue b ↔ Contains (words_of names) w) same h)

split_at : (i n : ℕ) → (i < n) ⊎ ((j : ℕ) × (i ≡ n + j))
split_at i n = by_order (below i n) where
  below : (i n : ℕ) → (i < n) ⊎ (n ≤ i)
  below i n = grind arith

  by_order : (i < n) ⊎ (n ≤ i) → (i < n) ⊎ ((j : ℕ) × (i ≡ n + j))
  by_order (inl l) = inl l
  by_order (inr l) = inr (i - n, omega arith)

words_of-append : (a b : List Named) → words_of (a ++ b) ≡ words_of a ++ words_of b
words_of-append a b = map-append (λ (n : Named). n.word) a b

-- a word that isn't in the first list
pub in_second : (a b : List Named) (word : List ℕ) {first second : Bool} → first ≡ false → (IsTrue first ↔ Contains (words_of a) word) → (IsTrue second ↔ Contains (words_of b) word) → (IsTrue second ↔ Contains (words_of (a ++ b)) word)
in_second a b word {first} {second} off f g = (to, from) where
  to : IsTrue second → Contains (words_of (a ++ b)) word
  to t = rw (words_of-append a b) (Contains-append_right (words_of a) (words_of b) word (g.0 t))

  cases : Contains (words_of a) word ⊎ Contains (words_of b) word → IsTrue second
  cases (inl w) = absurd (false≢true (sym off ∙ f.1 w))
  cases (inr w) = g.1 w

  from : Contains (words_of (a ++ b)) word → IsTrue second
  from w = cases (Contains-append_cases (words_of a) (words_of b) word (rw (words_of-append a b) at w))

pub known_again : (before names : List Named) (i : ℕ) {b : Bool} {read word : List ℕ} → read ≡ word → (IsTrue b ↔ Contains (words_of (before ++ take i names)) read) → (IsTrue b ↔ Contains (words_of (before ++ take i names)) word)
known_again before names i {b} same h =
    subst (λ (w : List ℕ). IsTrue b ↔ Contains (words_of (before ++ take i names)) w) same h

-- one of the first names stands earlier in its list, or in the list before
abbrev pub AgainBelow : List Named → List Named → ℕ → ℕ → Type 0
AgainBelow before names i at =
    (j : ℕ) × (name : Named) × (j < i) × (slice_get names j ≡ Some name) × Contains (words_of (before ++ take j names)) name.word × (at ≡ name.at)

module _ (before names : List Named) where
  pub again_first : IsLeastOffset (AgainBelow before names 0) None
  again_first = record { is = λ at w. let l : w.0 < 0 = w.2 in omega arith }

  pub again_more : (i : ℕ) (name : Named) {b : Bool} {o found next : Option ℕ} → i < length names → name ≡ get_or names i name → IsLeastOffset (AgainBelow before names i) o → (IsTrue b ↔ Contains (words_of (before ++ take i names)) name.word) → found ≡ then_some b name.at → next ≡ earlier o found → IsLeastOffset (AgainBelow before names (i + 1)) next
  again_more i name {b} {o} {found} {next} l is h test e n = alike to from (either_least h here n) where
    Here : ℕ → Type 0
    Here at = Contains (words_of (before ++ take i names)) name.word × (at ≡ name.at)

    here : IsLeastOffset (λ at. Contains (words_of (before ++ take i names)) name.word × (at ≡ name.at)) found
    here =
        subst (IsLeastOffset (λ at. Contains (words_of (before ++ take i names)) name.word × (at ≡ name.at))) (sym e) (one_least (Contains (words_of (before ++ take i names)) name.word) name.at b test)

    read : slice_get names i ≡ Some name
    read = slice_get_read names (length names) i name refl l is

    to : (at : ℕ) → AgainBelow before names i at ⊎ (Contains (words_of (before ++ take i names)) name.word × (at ≡ name.at)) → AgainBelow before names (i + 1) at
    to at (inl w) = (w.0, w.1, (let k : w.0 < i = w.2 in omega arith), w.3, w.4, w.5)
    to at (inr w) = (i, name, omega arith, read, w.0, w.1)

    from : (at : ℕ) → AgainBelow before names (i + 1) at → AgainBelow before names i at ⊎ (Contains (words_of (before ++ take i names)) name.word × (at ≡ name.at))
    from at w = elim (below_or_here w.0 i w.2) [
      | inl k ↦ inl (w.0, w.1, k, w.3, w.4, w.5)
      | inr same ↦
          let item : w.1 ≡ name = same_Some _ _ (sym w.3 ∙ ap (slice_get names) same ∙ read) in
          let contained = subst (λ j. Contains (words_of (before ++ take j names)) w.1.word) same w.4 in
          inr (subst (λ (x : Named). Contains (words_of (before ++ take i names)) x.word) item contained, w.5 ∙ ap (λ (x : Named). x.at) item)
    ]

  pub again_all : (i : ℕ) {o : Option ℕ} → length names ≤ i → IsLeastOffset (AgainBelow before names i) o → IsLeastOffset (ComesAgain before names) o
  again_all i l h = alike (λ at w. (w.0, w.1, w.3, w.4, w.5)) (λ at w. (w.0, w.1, (let k : w.0 < length names = slice_get_within names w.0 w.1 w.2 in omega arith), w.2, w.3, w.4)) h

-- a name stands earlier in its list, by two places
again_twice : (names : List Named) (at : ℕ) → ComesAgain [] names at → ComesTwice names at
again_twice names at w =
    let m : ℕ = w.0 in
    let earlier_one = contains_name (take w.0 names) w.1.word w.3 in
    let k : ℕ = earlier_one.0 in
    let inside : k < length (take w.0 names) = earlier_one.2 in
    let before : k < w.0 = omega (arith, length-take w.0 names) in
    let within : k < length names = omega (arith, length-take w.0 names) in
    let read = slice_get_read names (length names) k earlier_one.1 refl within (sym (sym (get_or-take w.0 names k earlier_one.1 before) ∙ earlier_one.3)) in
    (k, w.0, earlier_one.1, w.1, before, read, w.2, (earlier_one.4, w.4))

twice_again : (names : List Named) (at : ℕ) → ComesTwice names at → ComesAgain [] names at
twice_again names at w =
    let j : w.1 < length names = slice_get_within names w.1 w.3 w.6 in
    let before : w.0 < w.1 = w.4 in
    let inside : w.0 < length (take w.1 names) = omega (arith, length-take w.1 names) in
    let here : get_or (take w.1 names) w.0 w.2 ≡ w.2 = get_or-take w.1 names w.0 w.2 before ∙ get_or_from_slice_get names w.0 w.2 w.2 w.5 in
    (w.1, w.3, w.6, name_contained (take w.1 names) w.3.word (w.0, w.2, inside, here, w.7.0), w.7.1)

module _ (params args : List Named) where
  read_left : (m : ℕ) (x : Named) → slice_get params m ≡ Some x → slice_get (params ++ args) m ≡ Some x
  read_left m x read =
      let l : m < length params = slice_get_within params m x read in
      slice_get_read (params ++ args) (length (params ++ args)) m x refl (omega (arith, length-append params args)) (sym (get_or_append_left params args x m l ∙ get_or_from_slice_get params m x x read))

  left_read : (m : ℕ) (x : Named) → m < length params → slice_get (params ++ args) m ≡ Some x → slice_get params m ≡ Some x
  left_read m x l read =
      slice_get_read params (length params) m x refl l (sym (sym (get_or_append_left params args x m l) ∙ get_or_from_slice_get (params ++ args) m x x read))

  read_right : (j : ℕ) (x : Named) → slice_get args j ≡ Some x → slice_get (params ++ args) (length params + j) ≡ Some x
  read_right j x read =
      let l : j < length args = slice_get_within args j x read in
      slice_get_read (params ++ args) (length (params ++ args)) (length params + j) x refl (omega (arith, length-append params args)) (sym (get_or-append-add params args j x ∙ get_or_from_slice_get args j x x read))

  right_read : (j : ℕ) (x : Named) → slice_get (params ++ args) (length params + j) ≡ Some x → slice_get args j ≡ Some x
  right_read j x read =
      let l : length params + j < length (params ++ args) = slice_get_within (params ++ args) (length params + j) x read in
      slice_get_read args (length args) j x refl (omega (arith, length-append params args)) (sym (sym (get_or-append-add params args j x) ∙ get_or_from_slice_get (params ++ args) (length params + j) x x read))

  joined : (at : ℕ) → ComesAgain [] params at ⊎ ComesAgain params args at → ComesAgain [] (params ++ args) at
  joined at (inl w) =
      let l : w.0 < length params = slice_get_within params w.0 w.1 w.2 in
      let same : take w.0 (params ++ args) ≡ take w.0 params = take-append-le w.0 params args (omega arith) in
      (w.0, w.1, read_left w.0 w.1 w.2, subst (λ (xs : List Named). Contains (words_of xs) w.1.word) (sym same) w.3, w.4)
  joined at (inr w) =
      (length params + w.0, w.1, read_right w.0 w.1 w.2, subst (λ (xs : List Named). Contains (words_of xs) w.1.word) (sym (take-append-add params args w.0)) w.3, w.4)

  parted : (at : ℕ) → ComesAgain [] (params ++ args) at → ComesAgain [] params at ⊎ ComesAgain params args at
  parted at w = elim (split_at w.0 (length params)) [
    | inl l ↦
        let same : take w.0 (params ++ args) ≡ take w.0 params = take-append-le w.0 params args (omega arith) in
        inl (w.0, w.1, left_read w.0 w.1 l w.2, subst (λ (xs : List Named). Contains (words_of xs) w.1.word) same w.3, w.4)
    | inr r ↦
        let here : w.0 ≡ length params + r.0 = r.1 in
        let same : take w.0 (params ++ args) ≡ params ++ take r.0 args = ap (λ n. take n (params ++ args)) here ∙ take-append-add params args r.0 in
        inr (r.0, w.1, right_read r.0 w.1 (ap (slice_get (params ++ args)) (sym here) ∙ w.2), subst (λ (xs : List Named). Contains (words_of xs) w.1.word) same w.3, w.4)
  ]

  pub twice_least : {a b next : Option ℕ} → IsLeastOffset (ComesAgain [] params) a → IsLeastOffset (ComesAgain params args) b → next ≡ earlier a b → IsLeastOffset (ComesTwice (params ++ args)) next
  twice_least h g e =
      alike (λ at w. again_twice (params ++ args) at (joined at w)) (λ at w. parted at (twice_again (params ++ args) at w)) (either_least h g e)
