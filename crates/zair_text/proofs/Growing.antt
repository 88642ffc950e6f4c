-- What a sink has after some of the lines.
use Rattle.std.proofs.Common.{◌≡◌, ℕ, zero, suc, ◌+◌, ◌<◌, List, [], ◌∷◌, ◌++◌, length, get_or, take, drop, map, Option, refl, sym, ap, ◌∙◌, subst, arith, append_assoc, append-nil}
use Rattle.std.proofs.lemmas.Grind.{flat_map-append}
use Rattle.std.proofs.lemmas.List.{map_more}
use Rattle.zac_io.specs.Outside.{Appends, AppendsPrefix, WritesAddUp}
use Rattle.zair_text.specs.Lines.{joined}
use Rattle.zair_text.specs.Writing.{AppendsLines}

-- the list's lines are those before place i, the line there, and those after it
split_at : {X : Type 0} (f : X → List ℕ) (xs : List X) (i : ℕ) (x : X) → i < length xs → x ≡ get_or xs i x → map f (take i xs) ++ f x ∷ map f (drop (i + 1) xs) ≡ map f xs
split_at f [] i x h e = absurd (omega arith)
split_at f (y ∷ ys) zero x h e = ap (λ z. f z ∷ map f ys) e
split_at f (y ∷ ys) (suc i) x h e =
    let more : suc i + 1 ≡ suc (i + 1) = omega arith in
    rw more (ap (λ ls. f y ∷ ls) (split_at f ys i x (omega arith) e))

pub joined_more : (before : List (List ℕ)) (bytes : List ℕ) → joined (before ++ bytes ∷ []) ≡ joined before ++ bytes
joined_more before bytes = flat_map-append (λ (b : List ℕ). b) before (bytes ∷ []) ∙ ap (λ s. joined before ++ s) (append-nil bytes)

pub take_one_more : {X Y : Type 0} (f : X → Y) (xs : List X) (i : ℕ) (x : X) → i < length xs → x ≡ get_or xs i x → map f (take (i + 1) xs) ≡ map f (take i xs) ++ f x ∷ []
take_one_more f xs i x h e = map_more f xs i x h ∙ ap (λ z. map f (take i xs) ++ f z ∷ []) (sym e)

-- the lines before place i went out
pub lines_before : {X : Type 0} (f : X → List ℕ) (xs : List X) (i : ℕ) (x : X) (old new : Option (List ℕ)) → i < length xs → x ≡ get_or xs i x
    → Appends old new (joined (map f (take i xs))) → AppendsLines old new (map f xs)
lines_before f xs i x old new h e grown = record {
  whole = map f (take i xs);
  next = f x;
  rest = map f (drop (i + 1) xs);
  is_front = split_at f xs i x h e;
  grown = grown;
}

-- and then a prefix of the line there
pub prefix_at : WritesAddUp → {X : Type 0} (f : X → List ℕ) (xs : List X) (i : ℕ) (x : X) (bytes : List ℕ) (old between new : Option (List ℕ)) → i < length xs → x ≡ get_or xs i x → bytes ≡ f x
    → Appends old between (joined (map f (take i xs))) → AppendsPrefix between new bytes → AppendsPrefix old new (joined (map f xs))
prefix_at laws f xs i x bytes old between new h e is grown part =
    let before : List (List ℕ) = map f (take i xs) in
    let after : List (List ℕ) = map f (drop (i + 1) xs) in
    let P : List ℕ → Type 0 = λ s. AppendsPrefix old new s in
    let both = laws.front old new _ (joined after) (laws.behind old between new (joined before) bytes grown part) in
    let same : (joined before ++ bytes) ++ joined after ≡ joined (map f xs) =
    append_assoc (joined before) bytes (joined after)
    ∙ (ap (λ b. joined before ++ (b ++ joined after)) is
    ∙ (sym (flat_map-append (λ (b : List ℕ). b) before (f x ∷ after))
    ∙ ap joined (split_at f xs i x h e))) in
    subst P same both

-- or all of it
pub line_more : WritesAddUp → {X : Type 0} (f : X → List ℕ) (xs : List X) (i : ℕ) (x : X) (bytes : List ℕ) (old between new : Option (List ℕ)) → i < length xs → x ≡ get_or xs i x → bytes ≡ f x
    → Appends old between (joined (map f (take i xs))) → Appends between new bytes → Appends old new (joined (map f (take (i + 1) xs)))
line_more laws f xs i x bytes old between new h e is grown more =
    let before : List (List ℕ) = map f (take i xs) in
    let P : List ℕ → Type 0 = λ s. Appends old new s in
    let same : joined before ++ bytes ≡ joined (map f (take (i + 1) xs)) =
    ap (λ b. joined before ++ b) is ∙ (sym (joined_more before (f x)) ∙ ap joined (sym (take_one_more f xs i x h e))) in
    subst P same (laws.both old between new (joined before) bytes grown more)

-- the first line went out, and then some of the others
pub first_and_lines : WritesAddUp → (first : List ℕ) (lines : List (List ℕ)) (old between new : Option (List ℕ)) → Appends old between first → AppendsLines between new lines → AppendsLines old new (first ∷ lines)
first_and_lines laws first lines old between new one some = record {
  whole = first ∷ some.whole;
  next = some.next;
  rest = some.rest;
  is_front = ap (λ ls. first ∷ ls) some.is_front;
  grown = laws.both old between new first (joined some.whole) one some.grown;
}

-- no line went out
pub no_line : WritesAddUp → (first : List ℕ) (lines : List (List ℕ)) (sink : Option (List ℕ)) → AppendsLines sink sink (first ∷ lines)
no_line laws first lines sink = record {
  whole = [];
  next = first;
  rest = lines;
  is_front = refl;
  grown = laws.nothing sink;
}

-- some of the lines went out, where one more line is to come behind them
pub not_the_last : (lines : List (List ℕ)) (last : List ℕ) (old new : Option (List ℕ)) → AppendsLines old new lines → AppendsLines old new (lines ++ last ∷ [])
not_the_last lines last old new some = record {
  whole = some.whole;
  next = some.next;
  rest = some.rest ++ last ∷ [];
  is_front = sym (append_assoc some.whole (some.next ∷ some.rest) (last ∷ [])) ∙ ap (λ ls. ls ++ last ∷ []) some.is_front;
  grown = some.grown;
}

-- all of them but the last one
pub all_but_last : (lines : List (List ℕ)) (last : List ℕ) (old new : Option (List ℕ)) → Appends old new (joined lines) → AppendsLines old new (lines ++ last ∷ [])
all_but_last lines last old new grown = record { whole = lines; next = last; rest = []; is_front = refl; grown = grown }
