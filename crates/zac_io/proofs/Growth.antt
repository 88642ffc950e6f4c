-- What several writes to a sink come to.
use Rattle.std.proofs.Common.{◌≡◌, ℕ, List, [], ◌++◌, take, drop, refl, sym, ap, ◌∙◌, append_assoc, append-nil, Option, None, Some}
use Rattle.std.proofs.lemmas.List.{take-append-drop}
use Rattle.std.specs.Option.{option_map}
use Rattle.zac_io.specs.Outside.{Appends, AppendsPrefix}

-- The first n of the bytes are a prefix of them.
pub front_appended : (held new bytes : List ℕ) (n : ℕ) → new ≡ held ++ take n bytes → AppendsPrefix (Some held) (Some new) bytes
front_appended held new bytes n grown = record {
  front = take n bytes;
  rest = drop n bytes;
  is_prefix = take-append-drop n bytes;
  grown = ap (λ (l : List ℕ). Some l) grown;
}

-- Nothing was written.
pub Appends-nil : (sink : Option (List ℕ)) → Appends sink sink []
Appends-nil None = refl
Appends-nil (Some held) = ap (λ (l : List ℕ). Some l) (sym (append-nil held))

grown_twice : (old : Option (List ℕ)) (first second : List ℕ) → option_map (λ (held : List ℕ). held ++ second) (option_map (λ (held : List ℕ). held ++ first) old) ≡ option_map (λ (held : List ℕ). held ++ (first ++ second)) old
grown_twice None first second = refl
grown_twice (Some held) first second = ap (λ (l : List ℕ). Some l) (append_assoc held first second)

-- One write after the other writes both.
pub Appends-append : (old between new : Option (List ℕ)) (first second : List ℕ) → Appends old between first → Appends between new second → Appends old new (first ++ second)
Appends-append old between new first second one other =
    other ∙ ap (option_map (λ (held : List ℕ). held ++ second)) one ∙ grown_twice old first second

-- What is a prefix of the first bytes is one of those and more.
pub AppendsPrefix-append : (old new : Option (List ℕ)) (bytes more : List ℕ) → AppendsPrefix old new bytes → AppendsPrefix old new (bytes ++ more)
AppendsPrefix-append old new bytes more part = record {
  front = part.front;
  rest = part.rest ++ more;
  is_prefix = sym (append_assoc part.front part.rest more) ∙ ap (λ (l : List ℕ). l ++ more) part.is_prefix;
  grown = part.grown;
}

-- A whole write and a part of the next are a part of both.
pub AppendsPrefix-after : (old between new : Option (List ℕ)) (first second : List ℕ) → Appends old between first → AppendsPrefix between new second → AppendsPrefix old new (first ++ second)
AppendsPrefix-after old between new first second one part = record {
  front = first ++ part.front;
  rest = part.rest;
  is_prefix = append_assoc first part.front part.rest ∙ ap (λ (l : List ℕ). first ++ l) part.is_prefix;
  grown = Appends-append old between new first part.front one part.grown;
}
