-- The marks that a last pass leaves are a vertex cover as large as the matching (Koenig).
use Rattle.std.proofs.Common.{ℕ, ◌≡◌, ◌≢◌, ◌+◌, ◌-◌, ◌<◌, ◌≤◌, ◌⊎◌, inl, inr, List, [], ◌∷◌, Option, Some, None, Bool, true, false, ◌&&◌, eqb, cond, length, get_or, map, sym, ◌∙◌, ap, arith, refl, subst, suc}
use Rattle.std.specs.Prelude.{IsSome, unwrap_or}
use Rattle.std.specs.List.{All, AllPairs, Contains, remove}
use Rattle.std.proofs.lemmas.List.{get_or-map, length-map, get_or_default}
use Rattle.std.proofs.lemmas.List.Edits.{length-remove, get_or-remove_below, get_or-remove_above}
use Rattle.std.proofs.lemmas.Option.{same_Some}
use Rattle.std.proofs.lemmas.List.Folds.{Any-from_list_any, list_any_at}
use Rattle.std.proofs.lemmas.Bool.{cases_lt, cases_Bool, false≢true, both_ways, and_from, and_parts, eq-eqb, eqb-true}
use Rattle.zac_match.specs.Choice.{IsChoice}
use Rattle.zac_pairing.specs.Pairing.{mate, IsPairing}
use Rattle.zac_pairing.specs.Tree.{AllPass}
use Rattle.zac_match.specs.Cover.{is_edge, Lists, IsMarked, IsClosed}

-- ---- edges and their test

pub is_edge-from_Contains : (given : List (ℕ × ℕ)) (u v : ℕ) → Contains given (u, v) → is_edge given u v ≡ true
is_edge-from_Contains given u v c =
    list_any_at (λ (e : ℕ × ℕ). eqb e.0 u && eqb e.1 v) given c.0 (u, v) c.1 (ap (λ (e : ℕ × ℕ). eqb e.0 u && eqb e.1 v) c.2 ∙ and_from (eqb u u) (eqb v v) (eq-eqb u u refl) (eq-eqb v v refl))

pub Contains-from_edge : (given : List (ℕ × ℕ)) (u v : ℕ) → is_edge given u v ≡ true → Contains given (u, v)
Contains-from_edge given u v h =
    let a = Any-from_list_any (λ (e : ℕ × ℕ). eqb e.0 u && eqb e.1 v) given h in
    let parts = and_parts (eqb a.1.0 u) (eqb a.1.1 v) a.4 in
    let here : Contains given (a.1.0, a.1.1) = (a.0, a.2, a.3) in
    let P : ℕ → Type 0 = λ x. Contains given (x, a.1.1) in
    let Q : ℕ → Type 0 = λ y. Contains given (u, y) in
    subst Q (eqb-true a.1.1 v parts.1) (subst P (eqb-true a.1.0 u parts.0) here)

-- the edges list the pairs of the vertices below n, each once
pub record ListsBelow (left : List (Option ℕ)) (edges : List (ℕ × ℕ)) (n : ℕ) : Type 0 where
  pub sound : All (λ e. (mate left e.0 ≡ Some e.1) × (e.0 < n)) edges
  pub complete : (u v : ℕ) → u < n → mate left u ≡ Some v → Contains edges (u, v)
  pub once : AllPairs (λ a b. a.0 ≢ b.0) edges

-- ---- the cover

Contains-remove : (xs : List ℕ) (k y z : ℕ) → k < length xs → get_or xs k y ≡ y → z ≢ y → Contains xs z → Contains (remove xs k) z
Contains-remove xs k y z k_in at apart c =
    let n : length (remove xs k) + 1 ≡ length xs = length-remove xs k k_in in
    elim (cases_lt c.0 k) [
      | inl l ↦ (c.0, omega arith, get_or-remove_below xs k z c.0 l k_in ∙ c.2)
      | inr l ↦
          let other : c.0 ≢ k = λ s. apart (sym c.2 ∙ (ap (λ i. get_or xs i z) s ∙ (get_or_default xs k z y k_in ∙ at))) in
          let c_in : c.0 < length xs = c.1 in
          let back : c.0 - 1 + 1 ≡ c.0 = omega arith in
          (c.0 - 1, omega arith, get_or-remove_above xs k z (c.0 - 1) (omega arith) k_in ∙ (ap (λ i. get_or xs i z) back ∙ c.2))
    ]

-- numbers no two of which are equal, all in a list, are no more than the list has
pub length-le_from_distinct : (ys xs : List ℕ) → AllPairs (λ a b. a ≢ b) ys → All (Contains xs) ys → length ys ≤ length xs
length-le_from_distinct [] xs d c = omega arith
length-le_from_distinct (y ∷ ys) xs d c =
    let here : Contains xs y = c 0 y (omega arith) in
    let n : length (remove xs here.0) + 1 ≡ length xs = length-remove xs here.0 here.1 in
    let rest : length ys ≤ length (remove xs here.0) =
    length-le_from_distinct ys (remove xs here.0)
    (λ i j e l h. d (suc i) (suc j) e (omega arith) (omega arith))
    (λ k e h. Contains-remove xs here.0 y (get_or ys k e) here.1 here.2 (λ s. d 0 (suc k) e (omega arith) (omega arith) (sym s)) (c (suc k) e (omega arith))) in
    omega arith

Contains-map : (edges : List (ℕ × ℕ)) (u v : ℕ) → Contains edges (u, v) → Contains (map (λ (e : ℕ × ℕ). e.1) edges) v
Contains-map edges u v c = (c.0, omega (arith, c.1, length-map edges (λ (e : ℕ × ℕ). e.1)), get_or-map (λ (e : ℕ × ℕ). e.1) edges c.0 (u, v) v c.1 ∙ ap (λ (e : ℕ × ℕ). e.1) c.2)

some_of : (o : Option ℕ) → IsSome o → (u : ℕ) × (o ≡ Some u)
some_of None h = absurd (false≢true h)
some_of (Some u) h = (u, refl)

module _ (given : List (ℕ × ℕ)) (left right : List (Option ℕ)) (marks : List Bool) (chosen : List (ℕ × ℕ)) (pairing : IsPairing left right) (closed : IsClosed given left right marks (length left)) (lists : Lists left chosen) where
  -- the right end of the pair that covers an edge
  cover : ℕ × ℕ → ℕ
  cover e = cond (get_or marks e.1 false) e.1 (unwrap_or (mate left e.0) 0)

  Covers : ℕ × ℕ → Type 0
  Covers e = (IsMarked marks e.1 × (cover e ≡ e.1)) ⊎ ((get_or marks e.1 false ≡ false) × (mate left e.0 ≡ Some (cover e)))

  covers : (e : ℕ × ℕ) → Contains given e → e.0 < length left → Covers e
  unfolding Covers cover
  covers e edge e_in = elim (cases_Bool (get_or marks e.1 false)) [
    | inl t ↦ inl (t, ap (λ b. cond b e.1 (unwrap_or (mate left e.0) 0)) t)
    | inr f ↦ inr (f, go (mate left e.0) refl f)
  ]
    where
      go : (o : Option ℕ) → mate left e.0 ≡ o → get_or marks e.1 false ≡ false → mate left e.0 ≡ Some (cond (get_or marks e.1 false) e.1 (unwrap_or (mate left e.0) 0))
      go None s f = absurd (both_ways (get_or marks e.1 false) f (closed.from_free e.0 e.1 e_in edge s))
      go (Some w) s f = s ∙ ap Some (sym (ap (λ b. cond b e.1 (unwrap_or (mate left e.0) 0)) f ∙ ap (λ o. unwrap_or o 0) s))

  in_chosen : (e : ℕ × ℕ) → Covers e → Contains (map (λ (e : ℕ × ℕ). e.1) chosen) (cover e)
  unfolding Covers
  in_chosen e c = elim c [
    | inl m ↦
        let u = some_of (mate right e.1) (closed.mated e.1 m.0) in
        let at : Contains (map (λ (e : ℕ × ℕ). e.1) chosen) e.1 = Contains-map chosen u.0 e.1 (lists.complete u.0 e.1 (pairing.back u.0 e.1 u.1)) in
        let P : ℕ → Type 0 = λ x. Contains (map (λ (e : ℕ × ℕ). e.1) chosen) x in
        subst P (sym m.1) at
    | inr m ↦ Contains-map chosen e.0 (cover e) (lists.complete e.0 (cover e) m.1)
  ]

  -- an unmarked edge is not covered by a marked vertex
  mixed : (a b : ℕ × ℕ) → Contains given b → IsMarked marks a.1 → cover a ≡ a.1 → get_or marks b.1 false ≡ false → mate left b.0 ≡ Some (cover b) → cover a ≡ cover b → ⊥
  mixed a b edge m is_a f is_b s =
      let P : ℕ → Type 0 = λ x. IsMarked marks x in
      both_ways (get_or marks b.1 false) f (closed.from_marked b.0 b.1 (cover b) edge is_b (subst P (sym is_a ∙ s) m))

  apart : (a b : ℕ × ℕ) → Contains given a → Contains given b → Covers a → Covers b → (a.0 ≢ b.0) × (a.1 ≢ b.1) → cover a ≢ cover b
  unfolding Covers
  apart a b a_in b_in ca cb d s = elim ca [
    | inl m ↦ elim cb [
      | inl n ↦ d.1 (sym m.1 ∙ (s ∙ n.1))
      | inr n ↦ mixed a b b_in m.0 m.1 n.0 n.1 s
    ]
    | inr m ↦ elim cb [
      | inl n ↦ mixed b a a_in n.0 n.1 m.0 m.1 (sym s)
      | inr n ↦
          let at_a : mate right (cover a) ≡ Some a.0 = pairing.there a.0 (cover a) m.1 in
          let at_b : mate right (cover b) ≡ Some b.0 = pairing.there b.0 (cover b) n.1 in
          d.0 (same_Some a.0 b.0 (sym at_a ∙ (ap (mate right) s ∙ at_b)))
    ]
  ]

  pub length-le_choice : (others : List (ℕ × ℕ)) → All (λ e. e.0 < length left) given → IsChoice given others → length others ≤ length chosen
  length-le_choice others in_left choice =
      let within : (k : ℕ) (d : ℕ × ℕ) → k < length others → (get_or others k d).0 < length left = λ k d h.
      let c = choice.given_edges k d h in
      let P : ℕ × ℕ → Type 0 = λ e. e.0 < length left in
      subst P c.2 (in_left c.0 (get_or others k d) c.1) in
      let covered : (k : ℕ) (d : ℕ × ℕ) → k < length others → Covers (get_or others k d) = λ k d h. covers (get_or others k d) (choice.given_edges k d h) (within k d h) in
      let n : length (map cover others) ≡ length others = length-map others cover in
      let m : length (map (λ (e : ℕ × ℕ). e.1) chosen) ≡ length chosen = length-map chosen (λ (e : ℕ × ℕ). e.1) in
      let distinct : AllPairs (λ a b. a ≢ b) (map cover others) = λ i j d l h s.
      apart (get_or others i (0, 0)) (get_or others j (0, 0)) (choice.given_edges i (0, 0) (omega arith)) (choice.given_edges j (0, 0) (omega arith)) (covered i (0, 0) (omega arith)) (covered j (0, 0) (omega arith)) (choice.no_end_twice i j (0, 0) l (omega arith))
      (sym (get_or-map cover others i (0, 0) d (omega arith)) ∙ (s ∙ get_or-map cover others j (0, 0) d (omega arith))) in
      let among : All (Contains (map (λ (e : ℕ × ℕ). e.1) chosen)) (map cover others) = λ k d h.
      let P : ℕ → Type 0 = λ x. Contains (map (λ (e : ℕ × ℕ). e.1) chosen) x in
      subst P (sym (get_or-map cover others k (0, 0) d (omega arith))) (in_chosen (get_or others k (0, 0)) (covered k (0, 0) (omega arith))) in
      let all : length (map cover others) ≤ length (map (λ (e : ℕ × ℕ). e.1) chosen) = length-le_from_distinct (map cover others) (map (λ (e : ℕ × ℕ). e.1) chosen) distinct among in
      omega arith

pub IsChoice-listed : (given : List (ℕ × ℕ)) (left right : List (Option ℕ)) (chosen : List (ℕ × ℕ)) → IsPairing left right → AllPass (is_edge given) left → Lists left chosen → IsChoice given chosen
IsChoice-listed given left right chosen pairing edges lists = record {
  given_edges = λ k d h. Contains-from_edge given (get_or chosen k d).0 (get_or chosen k d).1 (edges.each (get_or chosen k d).0 (get_or chosen k d).1 (lists.sound k d h));
  no_end_twice = λ i j d l h. (
    lists.once i j d l h,
    λ s.
        let at_i : mate right (get_or chosen i d).1 ≡ Some (get_or chosen i d).0 = pairing.there (get_or chosen i d).0 (get_or chosen i d).1 (lists.sound i d (omega arith)) in
        let at_j : mate right (get_or chosen j d).1 ≡ Some (get_or chosen j d).0 = pairing.there (get_or chosen j d).0 (get_or chosen j d).1 (lists.sound j d h) in
        lists.once i j d l h (same_Some (get_or chosen i d).0 (get_or chosen j d).0 (sym at_i ∙ (ap (mate right) s ∙ at_j))),
  );
}
