-- What a flip of one pair, and one more step, leave of a tree of steps.
use Rattle.std.proofs.Common.{ℕ, ◌≡◌, ◌≢◌, ◌+◌, ◌<◌, ◌⊎◌, inl, inr, List, [], ◌∷◌, ◌++◌, Option, Some, Bool, true, length, get_or, set, sym, ◌∙◌, ap, arith, refl, subst}
use Rattle.std.specs.Prelude.{IsSome, is_some}
use Rattle.std.proofs.lemmas.List.{length-set, length_push, get_or_push, get_or_append_left, get_or_read}
use Rattle.std.proofs.lemmas.Option.{none-some, same_Some}
use Rattle.std.proofs.lemmas.Bool.{cases_eq, cases_lt}
use Rattle.zac_pairing.specs.declared.tree.Step.{Step}
use Rattle.zac_pairing.specs.Pairing.{mate}
use Rattle.zac_pairing.specs.Tree.{no_step, left_at, from_at, IsTree, HasPairs, AllPass}
use Rattle.zac_pairing.proofs.PairingFacts.{mate_in, mate-set_same, mate-set_other}

-- ---- a flip

pub some_from : (o : Option ℕ) (k : ℕ) → o ≡ Some k → IsSome o
some_from o k e = ap is_some e

pub AllPass-set : (test : ℕ → ℕ → Bool) (left : List (Option ℕ)) (u v : ℕ) → u < length left → AllPass test left → test u v ≡ true → AllPass test (set left u (Some v))
AllPass-set test left u v h pass this = record {
  each = λ a b e. elim (cases_eq a u) [
    | inl s ↦
        let same : v ≡ b = same_Some v b (sym (mate-set_same left u (Some v) h) ∙ (ap (mate (set left u (Some v))) (sym s) ∙ e)) in
        ap (λ x. test x b) s ∙ (ap (test u) (sym same) ∙ this)
    | inr d ↦ pass.each a b (sym (mate-set_other left u a (Some v) d) ∙ e)
  ];
}

-- who has a partner keeps one
pub some-set : (left : List (Option ℕ)) (u v k : ℕ) → u < length left → IsSome (mate left k) → IsSome (mate (set left u (Some v)) k)
some-set left u v k h some = elim (cases_eq k u) [
  | inl s ↦ some_from (mate (set left u (Some v)) k) v (ap (mate (set left u (Some v))) s ∙ mate-set_same left u (Some v) h)
  | inr d ↦ ap is_some (mate-set_other left u k (Some v) d) ∙ some
]

module _ (left : List (Option ℕ)) (steps : List Step) (at v w : ℕ) (tree : IsTree left steps (at + 1)) (mated : mate left (left_at steps at) ≡ Some w) where
  pub not_root : 0 < at
  not_root = elim (cases_lt 0 at) [
    | inl h ↦ h
    | inr h ↦
        let zero : at ≡ 0 = omega arith in
        absurd (none-some w (sym tree.root ∙ (ap (λ k. mate left (left_at steps k)) (sym zero) ∙ mated)))
  ]

  same_below : (j : ℕ) → j < at → mate (set left (left_at steps at) (Some v)) (left_at steps j) ≡ mate left (left_at steps j)
  same_below j h = mate-set_other left (left_at steps at) (left_at steps j) (Some v) (tree.distinct j at h (omega arith))

  pub IsTree-flipped : IsTree (set left (left_at steps at) (Some v)) steps (from_at steps at + 1)
  IsTree-flipped =
      let below : from_at steps at < at = tree.earlier at not_root (omega arith) in
      record {
        some = omega arith;
        within = omega (arith, tree.within);
        root = same_below 0 not_root ∙ tree.root;
        in_left = λ j h. let l = tree.in_left j (omega arith) in omega (arith, l, length-set left (left_at steps at) (Some v));
        distinct = λ i j l h. tree.distinct i j l (omega arith);
        earlier = λ j p h. tree.earlier j p (omega arith);
        later = λ j p h. ap is_some (same_below j (omega arith)) ∙ tree.later j p (omega arith);
      }

  pub HasPairs-flipped : (test : ℕ → ℕ → Bool) → HasPairs test left steps (at + 1) → HasPairs test (set left (left_at steps at) (Some v)) steps (from_at steps at + 1)
  HasPairs-flipped test pairs =
      let below : from_at steps at < at = tree.earlier at not_root (omega arith) in
      record { each = λ j x p h e. pairs.each j x p (omega arith) (sym (same_below j (omega arith)) ∙ e) }

  pub next_pair : (test : ℕ → ℕ → Bool) → HasPairs test left steps (at + 1) → test (left_at steps (from_at steps at)) w ≡ true
  next_pair test pairs = pairs.each at w not_root (omega arith) mated

-- ---- one more step

pub left_at_push : (steps : List Step) (s : Step) → left_at (steps ++ s ∷ []) (length steps) ≡ s.left
left_at_push steps s = ap (λ (x : Step). x.left) (get_or_push steps s no_step (length steps) refl)

pub from_at_push : (steps : List Step) (s : Step) → from_at (steps ++ s ∷ []) (length steps) ≡ s.from
from_at_push steps s = ap (λ (x : Step). x.from) (get_or_push steps s no_step (length steps) refl)

pub left_at_before : (steps : List Step) (s : Step) (j : ℕ) → j < length steps → left_at (steps ++ s ∷ []) j ≡ left_at steps j
left_at_before steps s j h = ap (λ (x : Step). x.left) (get_or_append_left steps (s ∷ []) no_step j h)

pub from_at_before : (steps : List Step) (s : Step) (j : ℕ) → j < length steps → from_at (steps ++ s ∷ []) j ≡ from_at steps j
from_at_before steps s j h = ap (λ (x : Step). x.from) (get_or_append_left steps (s ∷ []) no_step j h)

-- a place among the steps and one more is an old one or the new one
pub place_push : (steps : List Step) (s : Step) (j : ℕ) → j < length (steps ++ s ∷ []) → (j < length steps) ⊎ (j ≡ length steps)
place_push steps s j h = elim (cases_lt j (length steps)) [ inl l ↦ inl l | inr l ↦ inr (omega (arith, length_push steps s)) ]

-- a step to a left end that is not in the tree yet
module _ (left : List (Option ℕ)) (steps : List Step) (s : Step) (v : ℕ) (old : IsTree left steps (length steps)) (from_in : s.from < length steps) (mated : mate left s.left ≡ Some v) (apart : (j : ℕ) → j < length steps → left_at steps j ≢ s.left) where
  more : List Step
  more = steps ++ s ∷ []

  long : length more ≡ length steps + 1
  unfolding more
  long = length_push steps s

  place : (j : ℕ) → j < length more → (j < length steps) ⊎ (j ≡ length steps)
  unfolding more
  place = place_push steps s

  at_new : left_at more (length steps) ≡ s.left
  unfolding more
  at_new = left_at_push steps s

  from_new : from_at more (length steps) ≡ s.from
  unfolding more
  from_new = from_at_push steps s

  at_old : (j : ℕ) → j < length steps → left_at more j ≡ left_at steps j
  unfolding more
  at_old j h = left_at_before steps s j h

  from_old : (j : ℕ) → j < length steps → from_at more j ≡ from_at steps j
  unfolding more
  from_old j h = from_at_before steps s j h

  tree : IsTree left more (length more)
  tree = record {
    some = omega (arith, long);
    within = omega arith;
    root = ap (mate left) (at_old 0 old.some) ∙ old.root;
    in_left = λ j h. elim (place j h) [
      | inl l ↦ omega (arith, at_old j l, old.in_left j l)
      | inr e ↦ omega (arith, ap (left_at more) e ∙ at_new, mate_in left s.left v mated)
    ];
    distinct = λ i j l h e. elim (place j h) [
      | inl k ↦ old.distinct i j l k (sym (at_old i (omega arith)) ∙ (e ∙ at_old j k))
      | inr n ↦ apart i (omega arith) (sym (at_old i (omega arith)) ∙ (e ∙ (ap (left_at more) n ∙ at_new)))
    ];
    earlier = λ j p h. elim (place j h) [
      | inl l ↦ omega (arith, from_old j l, old.earlier j p l)
      | inr e ↦ omega (arith, ap (from_at more) e ∙ from_new, from_in)
    ];
    later = λ j p h. elim (place j h) [
      | inl l ↦ ap (λ x. is_some (mate left x)) (at_old j l) ∙ old.later j p l
      | inr e ↦ ap (λ x. is_some (mate left x)) (ap (left_at more) e ∙ at_new) ∙ some_from (mate left s.left) v mated
    ];
  }

  -- what holds of each later step's pair holds with one more
  pairs : (P : ℕ → ℕ → Type 0) → ((j w : ℕ) → 0 < j → j < length steps → mate left (left_at steps j) ≡ Some w → P (left_at steps (from_at steps j)) w) → P (left_at steps s.from) v → (j w : ℕ) → 0 < j → j < length more → mate left (left_at more j) ≡ Some w → P (left_at more (from_at more j)) w
  pairs P was new j w p h e = elim (place j h) [
    | inl l ↦
        let below : from_at steps j < j = old.earlier j p l in
        let same : left_at more (from_at more j) ≡ left_at steps (from_at steps j) = ap (left_at more) (from_old j l) ∙ at_old (from_at steps j) (omega arith) in
        let Q : ℕ → Type 0 = λ x. P x w in
        subst Q (sym same) (was j w p l (ap (mate left) (sym (at_old j l)) ∙ e))
    | inr n ↦
        let is_v : v ≡ w = same_Some v w (sym mated ∙ (ap (mate left) (sym (ap (left_at more) n ∙ at_new)) ∙ e)) in
        let same : left_at more (from_at more j) ≡ left_at steps s.from = ap (left_at more) (ap (from_at more) n ∙ from_new) ∙ at_old s.from from_in in
        let Q : ℕ → Type 0 = λ x. P x w in
        let R : ℕ → Type 0 = λ x. P (left_at steps s.from) x in
        subst Q (sym same) (subst R is_v new)
  ]

  pub IsTree-push : IsTree left (steps ++ s ∷ []) (length (steps ++ s ∷ []))
  unfolding more
  IsTree-push = tree

  pub pairs_push : (P : ℕ → ℕ → Type 0) → ((j w : ℕ) → 0 < j → j < length steps → mate left (left_at steps j) ≡ Some w → P (left_at steps (from_at steps j)) w) → P (left_at steps s.from) v → (j w : ℕ) → 0 < j → j < length (steps ++ s ∷ []) → mate left (left_at (steps ++ s ∷ []) j) ≡ Some w → P (left_at (steps ++ s ∷ []) (from_at (steps ++ s ∷ []) j)) w
  unfolding more
  pairs_push = pairs

-- what a step that was read says
pub step_read : (steps : List Step) (k : ℕ) (s : Step) → k < length steps → s ≡ get_or steps k s → (s.left ≡ left_at steps k) × (s.from ≡ from_at steps k)
step_read steps k s h e =
    let same : s ≡ get_or steps k no_step = get_or_read steps k s h e no_step in
    (ap (λ (x : Step). x.left) same, ap (λ (x : Step). x.from) same)
