-- Lemmas on maps by bytes.
use Rattle.std.proofs.Common.{subst, ◌≡◌, ℕ, Bool, true, false, cond, List, [], ◌∷◌, ◌++◌, Some, None, refl, ap, sym, ◌∙◌}
use Rattle.std.proofs.lemmas.Bool.{false_from_ne_true, false≢true}
use Rattle.std.specs.Cmp.Lexicographic.{bytes_decides}
use Rattle.std.specs.Map.{lookup, set_value}
use Rattle.std.specs.Str.{bytes_eq}
use Rattle.std.specs.Global.{Vec}
use Rattle.qasm_names.specs.Tables.{named_by_bytes}

-- a look-up among the bytes is one among the keys
pub lookup-named_by_bytes : {X : Type 0} (name : List ℕ) (es : List (Vec ℕ × X)) → lookup (bytes_eq name) (named_by_bytes es) ≡ lookup (λ k. bytes_eq name k.items) es
lookup-named_by_bytes name [] = refl
lookup-named_by_bytes name (e ∷ es) = ap (λ r. cond (bytes_eq name e.0.items) (Some e.1) r) (lookup-named_by_bytes name es)

-- an entry at the end
pub named_by_bytes-append : {X : Type 0} (es fs : List (Vec ℕ × X)) → named_by_bytes (es ++ fs) ≡ named_by_bytes es ++ named_by_bytes fs
named_by_bytes-append [] fs = refl
named_by_bytes-append (e ∷ es) fs = ap (λ r. (e.0.items, e.1) ∷ r) (named_by_bytes-append es fs)

-- a value written at the bytes of a key
pub named_by_bytes-set_value : {X : Type 0} (word : List ℕ) (es : List (Vec ℕ × X)) (w : X) → named_by_bytes (set_value (λ k. bytes_eq word k.items) es w) ≡ set_value (bytes_eq word) (named_by_bytes es) w
named_by_bytes-set_value word [] w = refl
named_by_bytes-set_value word (e ∷ es) w = by (named_by_bytes-set_value word es w) (bytes_eq word e.0.items)
  where
    by : named_by_bytes (set_value (λ k. bytes_eq word k.items) es w) ≡ set_value (bytes_eq word) (named_by_bytes es) w → (b : Bool) → named_by_bytes (cond b ((e.0, w) ∷ es) (e ∷ set_value (λ k. bytes_eq word k.items) es w)) ≡ cond b ((e.0.items, w) ∷ named_by_bytes es) ((e.0.items, e.1) ∷ set_value (bytes_eq word) (named_by_bytes es) w)
    by rest true = refl
    by rest false = ap (λ r. (e.0.items, e.1) ∷ r) rest

-- nothing is found where something is
none_is_some : {X : Type 0} {x : X} → Some x ≡ None → ⊥
none_is_some h = cc

-- the key itself has the new value
own : {X : Type 0} (word : List ℕ) (es : List (List ℕ × X)) (w old : X) → lookup (bytes_eq word) es ≡ Some old → lookup (bytes_eq word) (set_value (bytes_eq word) es w) ≡ Some w
own word [] w old h = cc
own word (e ∷ es) w old h = by (own word es w old) (bytes_eq word e.0) refl
  where
    by : (lookup (bytes_eq word) es ≡ Some old → lookup (bytes_eq word) (set_value (bytes_eq word) es w) ≡ Some w) → (b : Bool) → bytes_eq word e.0 ≡ b → lookup (bytes_eq word) (set_value (bytes_eq word) (e ∷ es) w) ≡ Some w
    by rest true p = rw (p, p) refl
    by rest false p = rw (p, p) (rest (rw p at h))

-- another key keeps its own
other : {X : Type 0} (name word : List ℕ) → bytes_eq name word ≡ false → (es : List (List ℕ × X)) (w : X) → lookup (bytes_eq name) (set_value (bytes_eq word) es w) ≡ lookup (bytes_eq name) es
other name word apart [] w = refl
other name word apart (e ∷ es) w = by (other name word apart es w) (bytes_eq word e.0) refl
  where
    by : lookup (bytes_eq name) (set_value (bytes_eq word) es w) ≡ lookup (bytes_eq name) es → (b : Bool) → bytes_eq word e.0 ≡ b → lookup (bytes_eq name) (set_value (bytes_eq word) (e ∷ es) w) ≡ lookup (bytes_eq name) (e ∷ es)
    by rest true p =
        let same : word ≡ e.0 = (bytes_decides word e.0).0 p in
        let no : bytes_eq name e.0 ≡ false = ap (λ l. bytes_eq name l) (sym same) ∙ apart in
        rw p (rw no refl)
    by rest false p = rw p (ap (λ r. cond (bytes_eq name e.0) (Some e.1) r) rest)

-- what each name finds, where these entries have a value at the word, and at others what the old ones have
abbrev pub FindsAt : {X : Type 0} → List ℕ → X → List (List ℕ × X) → List (List ℕ × X) → Type 0
FindsAt word w old new = (name : List ℕ) → lookup (bytes_eq name) new ≡ cond (bytes_eq name word) (Some w) (lookup (bytes_eq name) old)

pub FindsAt-set_value : {X : Type 0} (word : List ℕ) (es : List (List ℕ × X)) (w old : X) → lookup (bytes_eq word) es ≡ Some old → FindsAt word w es (set_value (bytes_eq word) es w)
FindsAt-set_value word es w old h name = by (bytes_eq name word) refl
  where
    by : (b : Bool) → bytes_eq name word ≡ b → lookup (bytes_eq name) (set_value (bytes_eq word) es w) ≡ cond (bytes_eq name word) (Some w) (lookup (bytes_eq name) es)
    by true p =
        let same : name ≡ word = (bytes_decides name word).0 p in
        ap (λ l. lookup (bytes_eq l) (set_value (bytes_eq word) es w)) same ∙ own word es w old h ∙ sym (ap (λ b. cond b (Some w) (lookup (bytes_eq name) es)) p)
    by false p = rw p (other name word p es w)

-- an entry at the end, of a name that isn't there
pub FindsAt-append : {X : Type 0} (word : List ℕ) (es : List (List ℕ × X)) (w : X) → lookup (bytes_eq word) es ≡ None → FindsAt word w es (es ++ (word, w) ∷ [])
FindsAt-append word [] w h name = refl
FindsAt-append word (e ∷ es) w h name = by (λ q. FindsAt-append word es w (rw q at h) name) (bytes_eq name e.0) refl (bytes_eq word e.0) refl
  where
    by : (bytes_eq word e.0 ≡ false → lookup (bytes_eq name) (es ++ (word, w) ∷ []) ≡ cond (bytes_eq name word) (Some w) (lookup (bytes_eq name) es))
        → (b : Bool) → bytes_eq name e.0 ≡ b → (d : Bool) → bytes_eq word e.0 ≡ d → lookup (bytes_eq name) (e ∷ (es ++ (word, w) ∷ [])) ≡ cond (bytes_eq name word) (Some w) (lookup (bytes_eq name) (e ∷ es))
    by rest b p true q = let no : Some e.1 ≡ None = rw q at h in absurd (none_is_some no)
    by rest true p false q =
        let same : name ≡ e.0 = (bytes_decides name e.0).0 p in
        let no : bytes_eq name word ≡ false = false_from_ne_true (bytes_eq name word) (λ t. false≢true (sym q ∙ (bytes_decides word e.0).1 (sym ((bytes_decides name word).0 t) ∙ same))) in
        rw (p, no) refl
    by rest false p false q = rw p (rest q)

-- a value written through what a map lent
pub FindsAt-lent : {X : Type 0} (word : List ℕ) (es fs : List (Vec ℕ × X)) (before : List (List ℕ × X)) (w old : X) → named_by_bytes es ≡ before
    → Some old ≡ lookup (λ k. bytes_eq word k.items) es → fs ≡ set_value (λ k. bytes_eq word k.items) es w
    → FindsAt word w before (named_by_bytes fs) × (lookup (bytes_eq word) before ≡ Some old)
FindsAt-lent {X} word es fs before w old view found written =
    let here : lookup (bytes_eq word) before ≡ Some old = ap (λ l. lookup (bytes_eq word) l) (sym view) ∙ lookup-named_by_bytes word es ∙ sym found in
    let after : named_by_bytes fs ≡ set_value (bytes_eq word) before w = ap named_by_bytes written ∙ named_by_bytes-set_value word es w ∙ ap (λ l. set_value (bytes_eq word) l w) view in
    let P : List (List ℕ × X) → Type 0 = λ l. FindsAt word w before l in
    (subst P (sym after) (FindsAt-set_value word before w old here), here)

-- an entry added to a map
pub FindsAt-added : {X : Type 0} (word : List ℕ) (key : Vec ℕ) (es fs : List (Vec ℕ × X)) (before : List (List ℕ × X)) (w : X) → named_by_bytes es ≡ before
    → None ≡ lookup (λ k. bytes_eq word k.items) es → key.items ≡ word → fs ≡ es ++ (key, w) ∷ []
    → FindsAt word w before (named_by_bytes fs) × (lookup (bytes_eq word) before ≡ None)
FindsAt-added {X} word key es fs before w view absent is_word added =
    let here : lookup (bytes_eq word) before ≡ None = ap (λ l. lookup (bytes_eq word) l) (sym view) ∙ lookup-named_by_bytes word es ∙ sym absent in
    let after : named_by_bytes fs ≡ before ++ (word, w) ∷ [] = ap named_by_bytes added ∙ named_by_bytes-append es ((key, w) ∷ []) ∙ ap (λ l. l ++ (key.items, w) ∷ []) view ∙ ap (λ l. before ++ (l, w) ∷ []) is_word in
    let P : List (List ℕ × X) → Type 0 = λ l. FindsAt word w before l in
    (subst P (sym after) (FindsAt-append word before w here), here)
