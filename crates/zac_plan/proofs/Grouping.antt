-- The groups of moves have together just the moves.
use Rattle.std.proofs.Common.{◌≡◌, ℕ, zero, suc, ◌+◌, ◌<◌, ◌≤◌, inl, inr, Some, List, [], ◌∷◌, ◌++◌, cond, length, refl, sym, ap, ◌∙◌, subst, arith, slice_get, slice_index}
use Rattle.std.specs.List.Sorted.{IsPermutation}
use Rattle.std.proofs.lemmas.Bool.{cases_eq, eq-eqb, ne_eqb}
use Rattle.std.proofs.lemmas.List.{length-append}
use Rattle.std.proofs.lemmas.List.Sorted.{IsPermutation-append, IsPermutation-append_right, IsPermutation-cons, IsPermutation-middle, IsPermutation-refl, IsPermutation-sym, IsPermutation-trans, length_permutation}
use Rattle.zac_arch.specs.Architecture.{Architecture}
use Rattle.zac_group.specs.FirstFit.{IsGrouping, members}
use Rattle.zac_group.specs.Groups.{MoveGroup}
use Rattle.zac_group.specs.declared.shift.Shift.{Shift}
use Rattle.zac_plan.specs.Growth.{moves_in}

-- the moves of groups one after another
abbrev pub all_moves : List MoveGroup → List Shift
all_moves [] = []
all_moves (g ∷ gs) = g.shifts ++ all_moves gs

-- the moves that got the number n, those that got n + 1, and so on, for m numbers
abbrev blocks : List Shift → List ℕ → ℕ → ℕ → List Shift
blocks ss ns n zero = []
blocks ss ns n (suc m) = members ss ns n ++ blocks ss ns (n + 1) m

blocks_none : (ns : List ℕ) (n m : ℕ) → blocks [] ns n m ≡ []
blocks_none ns n zero = refl
blocks_none ns n (suc m) = blocks_none ns (n + 1) m

-- a move with a smaller number is in none of these
below_all : (s : Shift) (ss : List Shift) (k : ℕ) (ns : List ℕ) (n m : ℕ) → k < n → blocks (s ∷ ss) (k ∷ ns) n m ≡ blocks ss ns n m
below_all s ss k ns n zero below = refl
below_all s ss k ns n (suc m) below =
    ap (λ b. cond b (s ∷ members ss ns n) (members ss ns n) ++ blocks (s ∷ ss) (k ∷ ns) (n + 1) m) (ne_eqb k n (λ e. absurd (omega arith)))
    ∙ ap (λ (l : List Shift). members ss ns n ++ l) (below_all s ss k ns (n + 1) m (omega arith))

-- a move with one of the numbers is in one of them
in_one : (s : Shift) (ss : List Shift) (k : ℕ) (ns : List ℕ) (n m : ℕ) → n ≤ k → k < n + m → IsPermutation (s ∷ blocks ss ns n m) (blocks (s ∷ ss) (k ∷ ns) n m)
in_one s ss k ns n zero from below = absurd (omega arith)
in_one s ss k ns n (suc m) from below =
    let here : List Shift = members ss ns n in
    let later : List Shift = blocks ss ns (n + 1) m in
    let P : List Shift → Type 0 = λ l. IsPermutation (s ∷ (here ++ later)) l in
    elim (cases_eq k n) as (λ _. P (blocks (s ∷ ss) (k ∷ ns) n (suc m))) [
      | inl same ↦
          let now : blocks (s ∷ ss) (k ∷ ns) n (suc m) ≡ s ∷ (here ++ later) =
          ap (λ b. cond b (s ∷ here) here ++ blocks (s ∷ ss) (k ∷ ns) (n + 1) m) (eq-eqb k n same)
          ∙ ap (λ (l : List Shift). s ∷ (here ++ l)) (below_all s ss k ns (n + 1) m (omega arith)) in
          subst P (sym now) (IsPermutation-refl (s ∷ (here ++ later)))
      | inr differ ↦
          let then : blocks (s ∷ ss) (k ∷ ns) n (suc m) ≡ here ++ blocks (s ∷ ss) (k ∷ ns) (n + 1) m =
          ap (λ b. cond b (s ∷ here) here ++ blocks (s ∷ ss) (k ∷ ns) (n + 1) m) (ne_eqb k n differ) in
          subst P (sym then)
          (IsPermutation-trans (s ∷ (here ++ later)) (here ++ s ∷ later) (here ++ blocks (s ∷ ss) (k ∷ ns) (n + 1) m)
          (IsPermutation-sym (here ++ s ∷ later) (s ∷ (here ++ later)) (IsPermutation-middle here s later))
          (IsPermutation-append_right here (s ∷ later) (blocks (s ∷ ss) (k ∷ ns) (n + 1) m) (in_one s ss k ns (n + 1) m (omega arith) (omega arith))))
    ]

-- all moves are in them where all numbers are
parted : (ss : List Shift) (ns : List ℕ) (m : ℕ) → length ns ≡ length ss → ((k : ℕ) → k < length ns → slice_index ns k < m) → IsPermutation ss (blocks ss ns 0 m)
parted [] ns m long below = subst (IsPermutation []) (sym (blocks_none ns 0 m)) (IsPermutation-refl [])
parted (s ∷ ss) [] m long below = absurd (omega arith)
parted (s ∷ ss) (k ∷ ns) m long below =
    IsPermutation-trans (s ∷ ss) (s ∷ blocks ss ns 0 m) (blocks (s ∷ ss) (k ∷ ns) 0 m)
    (IsPermutation-cons s ss (blocks ss ns 0 m) (parted ss ns m (omega arith) (λ j within. below (suc j) (omega arith))))
    (in_one s ss k ns 0 m (omega arith) (let first : k < m = below 0 (omega arith) in omega arith))

-- groups with these moves
grouped : (ss : List Shift) (ns : List ℕ) (n : ℕ) (groups : List MoveGroup) →
    ((k : ℕ) (g : MoveGroup) → slice_get groups k ≡ Some g → IsPermutation (members ss ns (n + k)) g.shifts) →
    IsPermutation (blocks ss ns n (length groups)) (all_moves groups)
grouped ss ns n [] each = IsPermutation-refl []
grouped ss ns n (g ∷ gs) each =
    let zeroth : n + 0 ≡ n = omega arith in
    IsPermutation-append (members ss ns n) g.shifts (blocks ss ns (n + 1) (length gs)) (all_moves gs)
    (subst (λ k. IsPermutation (members ss ns k) g.shifts) zeroth (each 0 g refl))
    (grouped ss ns (n + 1) gs (λ k h at.
    let next : n + suc k ≡ (n + 1) + k = omega arith in
    subst (λ j. IsPermutation (members ss ns j) h.shifts) next (each (suc k) h at)))

pub groups_permute : (a : Architecture) (shifts : List Shift) (groups : List MoveGroup) → IsGrouping a shifts groups → IsPermutation shifts (all_moves groups)
groups_permute a shifts groups is =
    let m : ℕ = length groups in
    IsPermutation-trans shifts is.ordered (all_moves groups) is.permutes
    (IsPermutation-trans is.ordered (blocks is.ordered is.numbers 0 m) (all_moves groups)
    (parted is.ordered is.numbers m is.first_fit.each is.below)
    (grouped is.ordered is.numbers 0 groups (λ k g at.
    let same : k ≡ 0 + k = omega arith in
    subst (λ j. IsPermutation (members is.ordered is.numbers j) g.shifts) same (is.shifts_are k g at))))

length-all_moves : (groups : List MoveGroup) → length (all_moves groups) ≡ moves_in groups
length-all_moves [] = refl
length-all_moves (g ∷ gs) = length-append g.shifts (all_moves gs) ∙ ap (λ n. length g.shifts + n) (length-all_moves gs)

-- groups have as many moves as there are
pub moves_grouped : (a : Architecture) (shifts : List Shift) (groups : List MoveGroup) → IsGrouping a shifts groups → moves_in groups ≡ length shifts
moves_grouped a shifts groups is = sym (length-all_moves groups) ∙ length_permutation shifts (all_moves groups) (groups_permute a shifts groups is)
