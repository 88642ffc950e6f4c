-- What one more marked vertex leaves of a search.
use Rattle.std.proofs.Common.{ℕ, ◌≡◌, ◌≢◌, ◌+◌, ◌<◌, ◌≤◌, ◌⊎◌, inl, inr, List, [], ◌∷◌, ◌++◌, Option, Some, Bool, true, false, length, get_or, set, sym, ◌∙◌, ap, arith, refl, subst}
use Rattle.std.specs.List.{Contains}
use Rattle.std.specs.Prelude.{IsSome}
use Rattle.std.proofs.lemmas.List.{get_or-set_same, get_or-set_other, length_push, get_or_past, get_or_default}
use Rattle.std.proofs.lemmas.List.Elements.{Contains-get_or}
use Rattle.std.proofs.lemmas.List.Sums.{sum_by-set}
use Rattle.std.proofs.lemmas.Option.{same_Some}
use Rattle.std.proofs.lemmas.Bool.{cases_eq, cases_lt, false≢true, both_ways}
use Rattle.zac_pairing.specs.declared.tree.Step.{Step}
use Rattle.zac_match.specs.Chains.{AreChained, left_end, link, bound}
use Rattle.zac_match.specs.Cover.{IsMarked, is_edge}
use Rattle.zac_match.specs.Search.{IsSearch, Visits, one_if_unmarked, unmarked_count}
use Rattle.zac_pairing.specs.Pairing.{mate, IsPairing}
use Rattle.zac_pairing.specs.Tree.{left_at, IsTree, HasPairs}
use Rattle.zac_pairing.proofs.TreeFacts.{left_at_push, left_at_before, place_push, IsTree-push, pairs_push}
use Rattle.zac_match.proofs.CoverFacts.{is_edge-from_Contains}

-- each edge of u from the number n on leads to a marked vertex
abbrev pub EdgesMarked : List (ℕ × ℕ) → List Bool → ℕ → ℕ → Type 0
EdgesMarked given marks u n = (k v : ℕ) → k < length given → n ≤ k → get_or given k (u, v) ≡ (u, v) → IsMarked marks v

pub marked_in : (marks : List Bool) (v : ℕ) → IsMarked marks v → v < length marks
marked_in marks v e = elim (cases_lt v (length marks)) [ inl h ↦ h | inr h ↦ absurd (false≢true (sym (get_or_past marks v false h) ∙ e)) ]

pub IsMarked-set_same : (marks : List Bool) (v : ℕ) → v < length marks → IsMarked (set marks v true) v
IsMarked-set_same marks v h = get_or-set_same marks v true false h

pub IsMarked-set : (marks : List Bool) (v k : ℕ) → IsMarked marks k → IsMarked (set marks v true) k
IsMarked-set marks v k m = elim (cases_eq k v) [
  | inl s ↦ let P : ℕ → Type 0 = λ x. IsMarked (set marks x true) k in subst P s (IsMarked-set_same marks k (marked_in marks k m))
  | inr d ↦ get_or-set_other marks v k true false d ∙ m
]

pub IsMarked-set_cases : (marks : List Bool) (v k : ℕ) → IsMarked (set marks v true) k → IsMarked marks k ⊎ (k ≡ v)
IsMarked-set_cases marks v k m = elim (cases_eq k v) [
  | inl s ↦ inr s
  | inr d ↦ inl (sym (get_or-set_other marks v k true false d) ∙ m)
]

pub unmarked_count-set : (marks : List Bool) (v : ℕ) → v < length marks → get_or marks v false ≡ false → unmarked_count (set marks v true) + 1 ≡ unmarked_count marks
unmarked_count-set marks v h e =
    let all : unmarked_count (set marks v true) + one_if_unmarked (get_or marks v false) ≡ unmarked_count marks + 0 = sum_by-set one_if_unmarked marks v true false h in
    let one : one_if_unmarked (get_or marks v false) ≡ 1 = ap one_if_unmarked e in
    omega arith

module _ (given : List (ℕ × ℕ)) (left right : List (Option ℕ)) (before marks : List Bool) (steps : List Step) (from u v : ℕ) (pairing : IsPairing left right) (old : IsSearch given left right before marks steps) (from_in : from < length steps) (edge : Contains given (left_at steps from, v)) (v_in : v < length marks) (unmarked : get_or marks v false ≡ false) (mated : mate right v ≡ Some u) where
  step : Step
  step = record { left = u; from = from }

  more : List Step
  more = steps ++ step ∷ []

  long : length more ≡ length steps + 1
  unfolding more
  long = length_push steps step

  to_v : mate left u ≡ Some v
  to_v = pairing.back u v mated

  -- a place among the new steps is an old one or the new one
  place : (j : ℕ) → j < length more → (j < length steps) ⊎ (j ≡ length steps)
  unfolding more
  place = place_push steps step

  at_new : left_at more (length steps) ≡ u
  unfolding more step
  at_new = left_at_push steps step

  at_old : (j : ℕ) → j < length steps → left_at more j ≡ left_at steps j
  unfolding more
  at_old j h = left_at_before steps step j h

  -- the new vertex is no old one, since v was not marked
  apart : (j : ℕ) → j < length steps → left_at steps j ≢ u
  apart j h s = both_ways (get_or marks v false) unmarked (old.through j v h (ap (mate left) s ∙ to_v))

  tree : IsTree left more (length more)
  unfolding more step
  tree = IsTree-push left steps step v old.tree from_in to_v apart

  edges : HasPairs (is_edge given) left more (length more)
  unfolding more step
  edges = record { each = pairs_push left steps step v old.tree from_in to_v apart (λ a b. is_edge given a b ≡ true) old.edges.each (is_edge-from_Contains given (left_at steps from) v edge) }

  search : IsSearch given left right before (set marks v true) more
  search = record {
    tree = tree;
    edges = edges;
    through = λ j w h e. elim (place j h) [
      | inl l ↦ IsMarked-set marks v w (old.through j w l (ap (mate left) (sym (at_old j l)) ∙ e))
      | inr s ↦
          let is_v : v ≡ w = same_Some v w (sym to_v ∙ (ap (mate left) (sym (ap (left_at more) s ∙ at_new)) ∙ e)) in
          let P : ℕ → Type 0 = λ x. IsMarked (set marks v true) x in
          subst P is_v (IsMarked-set_same marks v v_in)
    ];
    kept = λ x m. IsMarked-set marks v x (old.kept x m);
    mated = λ x m. elim (IsMarked-set_cases marks v x m) [
      | inl was ↦ old.mated x was
      | inr s ↦ let P : ℕ → Type 0 = λ y. IsSome (mate right y) in let Q : Option ℕ → Type 0 = λ o. IsSome o in inr (subst P (sym s) (subst Q (sym mated) refl))
    ];
    queued = λ a w e m. elim (IsMarked-set_cases marks v w m) [
      | inl was ↦ elim (old.queued a w e was) [
        | inl b ↦ inl b
        | inr q ↦ inr (q.0, omega (arith, q.1, long), at_old q.0 q.1 ∙ q.2)
      ]
      | inr s ↦
          let back : mate right v ≡ Some a = ap (mate right) (sym s) ∙ pairing.there a w e in
          let same : u ≡ a = same_Some u a (sym mated ∙ back) in
          inr (length steps, omega (arith, long), at_new ∙ same)
    ];
  }

  pub IsSearch-push : IsSearch given left right before (set marks v true) (steps ++ record { left = u; from = from } ∷ [])
  unfolding more step
  IsSearch-push = search

-- what is read of an edge
pub ends_read : (given : List (ℕ × ℕ)) (k u x : ℕ) → k < length given → get_or given k (u, x) ≡ (u, x) → (left_end given k ≡ u) × ((get_or given k (0, 0)).1 ≡ x)
ends_read given k u x h e =
    let same : get_or given k (0, 0) ≡ (u, x) = get_or_default given k (0, 0) (u, x) h ∙ e in
    (ap (λ (p : ℕ × ℕ). p.0) same, ap (λ (p : ℕ × ℕ). p.1) same)

pub Contains-at : (given : List (ℕ × ℕ)) (k u : ℕ) → k < length given → left_end given k ≡ u → Contains given (u, (get_or given k (0, 0)).1)
Contains-at given k u h e =
    let P : ℕ → Type 0 = λ a. Contains given (a, (get_or given k (0, 0)).1) in
    subst P e (Contains-get_or given k (0, 0) h)

-- one edge fewer is left of a chain
pub EdgesMarked-next : (given : List (ℕ × ℕ)) (last before : List (Option ℕ)) (marks : List Bool) (u e : ℕ) → AreChained given last before (length given) → e < length given → left_end given e ≡ u → IsMarked marks (get_or given e (0, 0)).1 → EdgesMarked given marks u (e + 1) → EdgesMarked given marks u (bound (link before e))
EdgesMarked-next given last before marks u e chained e_in end marked done = λ k x k_in le at.
    let read : (left_end given k ≡ u) × ((get_or given k (0, 0)).1 ≡ x) = ends_read given k u x k_in at in
    elim (cases_lt k e) [
      | inl l ↦
          let on : k < bound (link before e) = chained.before_complete e k e_in l (read.0 ∙ sym end) in
          absurd (omega arith)
      | inr l ↦ elim (cases_eq k e) [
        | inl s ↦
            let P : ℕ → Type 0 = λ y. IsMarked marks y in
            subst P (ap (λ i. (get_or given i (0, 0)).1) (sym s) ∙ read.1) marked
        | inr d ↦ done k x k_in (omega arith) at
      ]
    ]

-- none is left of a chain that has not begun
pub EdgesMarked-none : (given : List (ℕ × ℕ)) (last before : List (Option ℕ)) (marks : List Bool) (u : ℕ) → AreChained given last before (length given) → EdgesMarked given marks u (bound (link last u))
EdgesMarked-none given last before marks u chained = λ k x k_in le at.
    let read : (left_end given k ≡ u) × ((get_or given k (0, 0)).1 ≡ x) = ends_read given k u x k_in at in
    let on : k < bound (link last (left_end given k)) = chained.last_complete k k_in in
    let same : bound (link last (left_end given k)) ≡ bound (link last u) = ap (λ a. bound (link last a)) read.0 in
    absurd (omega arith)

-- what one look keeps
pub visit_keeps : (given : List (ℕ × ℕ)) (left right : List (Option ℕ)) (before marks marks' : List Bool) (steps steps' : List Step) (from v : ℕ) → IsPairing left right → from < length steps → Contains given (left_at steps from, v) → v < length marks → Visits right v from marks marks' steps steps' → IsSearch given left right before marks steps → IsSearch given left right before marks' steps'
visit_keeps given left right before marks marks' steps steps' from v pairing from_in edge v_in (inl was) search =
    let P : List Bool → Type 0 = λ m. IsSearch given left right before m steps' in
    let Q : List Step → Type 0 = λ s. IsSearch given left right before marks s in
    subst P (sym was.1) (subst Q (sym was.2) search)
visit_keeps given left right before marks marks' steps steps' from v pairing from_in edge v_in (inr new) search =
    let P : List Bool → Type 0 = λ m. IsSearch given left right before m steps' in
    let Q : List Step → Type 0 = λ s. IsSearch given left right before (set marks v true) s in
    subst P (sym new.3) (subst Q (sym new.4) (IsSearch-push given left right before marks steps from new.0 v pairing search from_in edge v_in new.2 new.1))

pub visit_marks : (right : List (Option ℕ)) (v from : ℕ) (marks marks' : List Bool) (steps steps' : List Step) → v < length marks → Visits right v from marks marks' steps steps' → IsMarked marks' v
visit_marks right v from marks marks' steps steps' v_in (inl was) = ap (λ m. get_or m v false) was.1 ∙ was.0
visit_marks right v from marks marks' steps steps' v_in (inr new) = ap (λ m. get_or m v false) new.3 ∙ IsMarked-set_same marks v v_in

pub visit_marks_stay : (right : List (Option ℕ)) (v from : ℕ) (marks marks' : List Bool) (steps steps' : List Step) → Visits right v from marks marks' steps steps' → (k : ℕ) → IsMarked marks k → IsMarked marks' k
visit_marks_stay right v from marks marks' steps steps' (inl was) = λ k m. ap (λ m. get_or m k false) was.1 ∙ m
visit_marks_stay right v from marks marks' steps steps' (inr new) = λ k m. ap (λ m. get_or m k false) new.3 ∙ IsMarked-set marks v k m

pub visit_steps_stay : (right : List (Option ℕ)) (v from : ℕ) (marks marks' : List Bool) (steps steps' : List Step) → Visits right v from marks marks' steps steps' → (j : ℕ) → j < length steps → left_at steps' j ≡ left_at steps j
visit_steps_stay right v from marks marks' steps steps' (inl was) = λ j h. ap (λ s. left_at s j) was.2
visit_steps_stay right v from marks marks' steps steps' (inr new) = λ j h. ap (λ s. left_at s j) new.4 ∙ left_at_before steps (record { left = new.0; from = from }) j h

pub visit_longer : (right : List (Option ℕ)) (v from : ℕ) (marks marks' : List Bool) (steps steps' : List Step) → Visits right v from marks marks' steps steps' → length steps ≤ length steps'
visit_longer right v from marks marks' steps steps' (inl was) = omega (arith, ap length was.2)
visit_longer right v from marks marks' steps steps' (inr new) = omega (arith, ap length new.4, length_push steps (record { left = new.0; from = from }))

pub visit_count : (right : List (Option ℕ)) (v from : ℕ) (marks marks' : List Bool) (steps steps' : List Step) → v < length marks → Visits right v from marks marks' steps steps' → unmarked_count marks' + length steps' ≡ unmarked_count marks + length steps
visit_count right v from marks marks' steps steps' v_in (inl was) = omega (arith, ap length was.2, ap unmarked_count was.1)
visit_count right v from marks marks' steps steps' v_in (inr new) = omega (arith, ap length new.4, length_push steps (record { left = new.0; from = from }), ap unmarked_count new.3, unmarked_count-set marks v v_in new.2)
