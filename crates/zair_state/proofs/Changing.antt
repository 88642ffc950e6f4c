-- One AOD's beams change: what crossings of it and of others keep.
use Rattle.std.proofs.Common.{◌≡◌, ◌≢◌, ℕ, ◌+◌, ◌*◌, ◌<◌, ◌≤◌, inl, inr, List, length, get_or, set, get_or-set_same, get_or-set_other, refl, sym, ap, ◌∙◌, subst, arith}
use Rattle.std.proofs.lemmas.Bool.{cases_eq}
use Rattle.std.proofs.lemmas.List.Elements.{All-contains}
use Rattle.std.proofs.lemmas.Option.{slice_get_within, get_or_from_slice_get}
use Rattle.zac_arch.specs.Architecture.{Architecture, trap_points, StandsAt}
use Rattle.zac_arch.specs.Distances.{difference, IsFarther, IsWithin}
use Rattle.zac_arch.specs.declared.place.Point.{Point}
use Rattle.zair_form.specs.declared.step.Beam.{Beam}
use Rattle.zair_state.specs.State.{State, Beams, idle, beams_of, crossing, EachCrossing, IsFreeOfOthers, IsClear}

same_squares : (m n k l : ℕ) → m ≡ n → k ≡ l → m * m + k * k ≡ n * n + l * l
same_squares m n k l e f = cc

pub farther_back : (d : ℕ) (p q : Point) → IsFarther d p q → IsFarther d q p
farther_back d p q h =
    let dx : difference p.x q.x ≡ difference q.x p.x = omega arith in
    let dy : difference p.y q.y ≡ difference q.y p.y = omega arith in
    subst (λ (n : ℕ). d * d < n) (same_squares (difference p.x q.x) (difference q.x p.x) (difference p.y q.y) (difference q.y p.y) dx dy) h

pub within_back : (d : ℕ) (p q : Point) → IsWithin d p q → IsWithin d q p
within_back d p q h =
    let dx : difference p.x q.x ≡ difference q.x p.x = omega arith in
    let dy : difference p.y q.y ≡ difference q.y p.y = omega arith in
    subst (λ (n : ℕ). n ≤ d * d) (same_squares (difference p.x q.x) (difference q.x p.x) (difference p.y q.y) (difference q.y p.y) dx dy) h

no_square : (d m n : ℕ) → m ≡ 0 → n ≡ 0 → ¬ (d * d < m * m + n * n)
no_square d m n e f h =
    let flat : d * d < m * m + 0 * 0 = subst (λ (y : ℕ). d * d < m * m + y * y) f h in
    let none : d * d < 0 * 0 + 0 * 0 = subst (λ (x : ℕ). d * d < x * x + 0 * 0) e flat in
    absurd (omega arith)

pub not_farther_there : (d : ℕ) (p q : Point) → p ≡ q → ¬ IsFarther d p q
not_farther_there d p q e h =
    let ex : p.x ≡ q.x = ap (λ (r : Point). r.x) e in
    let ey : p.y ≡ q.y = ap (λ (r : Point). r.y) e in
    no_square d (difference p.x q.x) (difference p.y q.y) (omega arith) (omega arith) h

-- a clear crossing doesn't stand on a trap
pub clear_of_trap : (a : Architecture) (s : State) (aod t : ℕ) (p : Point) → IsClear a s aod p → ¬ StandsAt a t p
clear_of_trap a s aod t p h there =
    not_farther_there a.figures.reach p p refl
    (All-contains (IsFarther a.figures.reach p) (trap_points a) p h.off_traps (t, slice_get_within (trap_points a) t p there, get_or_from_slice_get (trap_points a) t p p there))

-- the beams of one AOD become these, and those of the others stay
pub record Changes (s s' : State) (aod : ℕ) (beams : Beams) : Type 0 where
  pub there : beams_of s' aod ≡ beams
  pub elsewhere : (other : ℕ) → other ≢ aod → beams_of s' other ≡ beams_of s other

-- what a write to one AOD changes
pub changes_of : (s s' : State) (aod : ℕ) (beams : Beams) → aod < length s.aods → s'.aods ≡ set s.aods aod beams → Changes s s' aod beams
changes_of s s' aod beams known e = record {
  there = ap (λ (l : List Beams). get_or l aod idle) e ∙ get_or-set_same s.aods aod beams idle known;
  elsewhere = λ other ne. ap (λ (l : List Beams). get_or l other idle) e ∙ get_or-set_other s.aods aod other beams idle ne;
}

-- a fact on each AOD's beams, from those of the changed AOD and those of the others
pub each_aod : (s s' : State) (aod : ℕ) (beams : Beams) (P : Beams → Type 0) → Changes s s' aod beams → P beams → ((k : ℕ) → P (beams_of s k)) → (k : ℕ) → P (beams_of s' k)
each_aod s s' aod beams P change here h k = elim (cases_eq k aod) [
  | inl e ↦ subst P (sym (ap (λ (n : ℕ). beams_of s' n) e ∙ change.there)) here
  | inr ne ↦ subst P (sym (change.elsewhere k ne)) (h k)
]

pub crossings_elsewhere : (s s' : State) (aod : ℕ) (beams : Beams) (other : ℕ) (P : Beam → Beam → Type 0) → Changes s s' aod beams → other ≢ aod →
    EachCrossing (beams_of s other).rows (beams_of s other).columns P → EachCrossing (beams_of s' other).rows (beams_of s' other).columns P
crossings_elsewhere s s' aod beams other P change ne h =
    subst (λ (b : Beams). EachCrossing b.rows b.columns P) (sym (change.elsewhere other ne)) h

-- what the changed AOD's crossings are free of stays where it is
pub stays_free : (a : Architecture) (s s' : State) (aod : ℕ) (beams : Beams) (p : Point) → Changes s s' aod beams → IsFreeOfOthers a s aod p → IsFreeOfOthers a s' aod p
stays_free a s s' aod beams p change h other ne =
    crossings_elsewhere s s' aod beams other (λ row column. IsFarther a.figures.reach p (crossing row column)) change ne (h other ne)

pub stays_clear : (a : Architecture) (s s' : State) (aod : ℕ) (beams : Beams) (p : Point) → Changes s s' aod beams → IsClear a s aod p → IsClear a s' aod p
stays_clear a s s' aod beams p change h = record { free = stays_free a s s' aod beams p change h.free; off_traps = h.off_traps }

-- another AOD's crossing stays free of others, where the changed beams cross far from it
pub free_of_changed : (a : Architecture) (s s' : State) (aod : ℕ) (beams : Beams) (k : ℕ) (p : Point) → Changes s s' aod beams → k ≢ aod → IsFreeOfOthers a s k p →
    EachCrossing beams.rows beams.columns (λ row column. IsFarther a.figures.reach p (crossing row column)) → IsFreeOfOthers a s' k p
free_of_changed a s s' aod beams k p change ne h far other other_ne =
    elim (cases_eq other aod) [
      | inl e ↦
          let now : beams_of s' other ≡ beams = ap (λ (n : ℕ). beams_of s' n) e ∙ change.there in
          subst (λ (b : Beams). EachCrossing b.rows b.columns (λ row column. IsFarther a.figures.reach p (crossing row column))) (sym now) far
      | inr distinct ↦ crossings_elsewhere s s' aod beams other (λ row column. IsFarther a.figures.reach p (crossing row column)) change distinct (h other other_ne)
    ]

-- each crossing of the changed beams is free of others; so is then each crossing of another AOD, if it was
pub others_stay_free : (a : Architecture) (s s' : State) (aod : ℕ) (beams : Beams) → Changes s s' aod beams →
    EachCrossing beams.rows beams.columns (λ row column. IsFreeOfOthers a s aod (crossing row column)) → (k : ℕ) → k ≢ aod →
    EachCrossing (beams_of s k).rows (beams_of s k).columns (λ row column. IsFreeOfOthers a s k (crossing row column) → IsFreeOfOthers a s' k (crossing row column))
others_stay_free a s s' aod beams change free k ne row column in_rows in_columns h =
    free_of_changed a s s' aod beams k (crossing row column) change ne h (λ row' column' in_rows' in_columns'.
    farther_back a.figures.reach (crossing row' column') (crossing row column) (free row' column' in_rows' in_columns' k ne row column in_rows in_columns))
