-- Points that are out of reach of the crossings of an AOD.
use Rattle.std.proofs.Common.{◌≡◌, ◌≢◌, ℕ, ◌+◌, ◌*◌, ◌<◌, ◌≤◌, inl, inr, Bool, true, false, not, ◌&&◌, IsTrue, Option, Some, None, List, length, refl, sym, ap, ◌∙◌, subst, arith}
use Rattle.std.specs.List.{Any, Contains}
use Rattle.std.proofs.lemmas.Bool.{cases_lt, cases_eq, false≢true}
use Rattle.std.proofs.lemmas.List.Elements.{All-contains}
use Rattle.std.proofs.lemmas.Option.{slice_get_within, slice_get-get_or, get_or_from_slice_get}
use Rattle.std.proofs.lemmas.Nat.{mul-le}
use Rattle.std.proofs.lemmas.List.{get_or_past}
use Rattle.zac_arch.specs.Architecture.{Architecture, StandsAt, trap_points}
use Rattle.zac_arch.specs.Distances.{difference, IsFarther, IsWithin}
use Rattle.zac_arch.specs.declared.place.Point.{Point}
use Rattle.zair_form.specs.declared.step.Beam.{Beam}
use Rattle.zair_state.specs.Least.{IsLeastOf}
use Rattle.zair_state.specs.State.{State, Beams, idle, beams_of, EachCrossing, crossing, IsFreeOfOthers, IsClear}
use Rattle.zair_state.proofs.Membership.{contains_none, any_contained, any_from_contained, all_from_contains}
use Rattle.zair_state.proofs.Minima.{Same, not_same}

-- the distance of the nearest of these beams
abbrev pub NearestAt : List Beam → ℕ → Option ℕ → Type 0
NearestAt beams n o = IsLeastOf (λ d. Any (λ (b : Beam). difference n b.at ≡ d) beams) o

abbrev pub AreFar : ℕ → Point → List Beam → List Beam → Type 0
AreFar reach p rows columns = EachCrossing rows columns (λ row column. IsFarther reach p (crossing row column))

larger_squares : (a b c d : ℕ) → a ≤ c → b ≤ d → a * a + b * b ≤ c * c + d * d
larger_squares a b c d ac bd = omega (arith, mul-le a a c c ac ac, mul-le b b d d bd bd)

pub far_by_nearest : (rows columns : List Beam) (reach : ℕ) (p : Point) (across up : ℕ) (test : Bool) → NearestAt columns p.x (Some across) → NearestAt rows p.y (Some up) → Same (IsTrue test) (IsWithin reach (record { x = 0; y = 0 }) (record { x = across; y = up })) → Same (IsTrue (not test)) (AreFar reach p rows columns)
far_by_nearest rows columns reach p across up test x y told =
    let here : Point = record { x = 0; y = 0 } in
    let there : Point = record { x = across; y = up } in
    let outside = not_same test (IsWithin reach here there) told in
    let a : difference 0 across ≡ across = omega arith in
    let b : difference 0 up ≡ up = omega arith in (
      λ off row column in_rows in_columns.
          let dx = x.1 (difference p.x column.at) (any_from_contained (λ (b : Beam). difference p.x b.at ≡ difference p.x column.at) columns column in_columns refl) in
          let dy = y.1 (difference p.y row.at) (any_from_contained (λ (b : Beam). difference p.y b.at ≡ difference p.y row.at) rows row in_rows refl) in
          elim (cases_lt (reach * reach) (across * across + up * up)) as (λ _. IsFarther reach p (crossing row column)) [
            | inl far ↦ omega (arith, far, larger_squares across up (difference p.x column.at) (difference p.y row.at) dx dy)
            | inr le ↦ let near : IsWithin reach here there = rw (a, b) le in absurd (outside.0 off near)
          ],
      λ far. outside.1 (λ near.
          let r = any_contained (λ (b : Beam). difference p.x b.at ≡ across) columns x.0 in
          let q = any_contained (λ (b : Beam). difference p.y b.at ≡ up) rows y.0 in
          let apart : IsFarther reach p (crossing q.0 r.0) = far q.0 r.0 q.1 r.1 in
          let close : across * across + up * up ≤ reach * reach = rw (a, b) at near in
          let ex : difference p.x r.0.at ≡ across = r.2 in
          let ey : difference p.y q.0.at ≡ up = q.2 in
          let wide : reach * reach < across * across + up * up = rw (ex, ey) at apart in
          absurd (omega (arith, close, wide))),
    )

pub far_without_columns : (rows columns : List Beam) (reach : ℕ) (p : Point) → NearestAt columns p.x None → AreFar reach p rows columns
far_without_columns rows columns reach p none row column in_rows in_columns =
    absurd (none (difference p.x column.at) (any_from_contained (λ (b : Beam). difference p.x b.at ≡ difference p.x column.at) columns column in_columns refl))

pub far_without_rows : (rows columns : List Beam) (reach : ℕ) (p : Point) → NearestAt rows p.y None → AreFar reach p rows columns
far_without_rows rows columns reach p none row column in_rows in_columns =
    absurd (none (difference p.y row.at) (any_from_contained (λ (b : Beam). difference p.y b.at ≡ difference p.y row.at) rows row in_rows refl))

-- every other AOD up to n is far
abbrev pub FarBelow : ℕ → State → ℕ → Point → ℕ → Type 0
FarBelow reach s aod p n =
    (other : ℕ) → other < n → other ≢ aod → AreFar reach p (beams_of s other).rows (beams_of s other).columns

pub far_next : (reach : ℕ) (s : State) (aod : ℕ) (p : Point) (n : ℕ) → FarBelow reach s aod p n → (n ≢ aod → AreFar reach p (beams_of s n).rows (beams_of s n).columns) → FarBelow reach s aod p (n + 1)
far_next reach s aod p n below here other lt ne =
    elim (cases_eq other n) as (λ _. AreFar reach p (beams_of s other).rows (beams_of s other).columns) [
      | inl e ↦ subst (λ (k : ℕ). AreFar reach p (beams_of s k).rows (beams_of s k).columns) (sym e) (here (λ same. ne (e ∙ same)))
      | inr unlike ↦ below other (omega arith) ne
    ]

pub all_far : (reach : ℕ) (a : Architecture) (s : State) (aod : ℕ) (p : Point) (n : ℕ) → reach ≡ a.figures.reach → length s.aods ≤ n → FarBelow reach s aod p n → IsFreeOfOthers a s aod p
all_far reach a s aod p n e le below other ne =
    elim (cases_lt other n) as (λ _. EachCrossing (beams_of s other).rows (beams_of s other).columns (λ row column. IsFarther a.figures.reach p (crossing row column))) [
      | inl lt ↦ subst (λ (m : ℕ). AreFar m p (beams_of s other).rows (beams_of s other).columns) e (below other lt ne)
      | inr ge ↦ λ row column in_rows in_columns. absurd (contains_none row (subst (λ (b : Beams). Contains b.rows row) (get_or_past s.aods other idle (omega arith)) in_rows))
    ]

pub one_far : (reach : ℕ) (a : Architecture) (s : State) (aod : ℕ) (p : Point) (n : ℕ) → reach ≡ a.figures.reach → n ≢ aod → IsFreeOfOthers a s aod p → AreFar reach p (beams_of s n).rows (beams_of s n).columns
one_far reach a s aod p n e ne free = subst (λ (m : ℕ). AreFar m p (beams_of s n).rows (beams_of s n).columns) (sym e) (free n ne)

pub clear_told : (a : Architecture) (s : State) (aod : ℕ) (p : Point) (off free both : Bool) → both ≡ off && free → Same (IsTrue off) ((t : ℕ) (q : Point) → StandsAt a t q → IsFarther a.figures.reach p q) → Same (IsTrue free) (IsFreeOfOthers a s aod p) → Same (IsTrue both) (IsClear a s aod p)
clear_told a s aod p true true both e told_off told_free =
    (λ _. record { free = told_free.0 refl; off_traps = all_from_contains (IsFarther a.figures.reach p) (trap_points a) (λ q in_traps. told_off.0 refl in_traps.0 q (slice_get-get_or (trap_points a) in_traps.0 q in_traps.1 ∙ ap (λ (x : Point). Some x) in_traps.2)) }, λ clear. e)
clear_told a s aod p true false both e told_off told_free = (λ t. absurd (cc), λ clear. absurd (false≢true (told_free.1 clear.free)))
clear_told a s aod p false free both e told_off told_free = (
  λ t. absurd (cc),
  λ clear.
      absurd (false≢true (told_off.1 (λ t q at. All-contains (IsFarther a.figures.reach p) (trap_points a) q clear.off_traps (t, slice_get_within (trap_points a) t q at, get_or_from_slice_get (trap_points a) t q q at)))),
)

-- the AOD of this number is far, or is this AOD
pub other_told : (reach : ℕ) (p : Point) (k aod : ℕ) (rows columns : List Beam) (test : Bool) → k ≢ aod → Same (IsTrue test) (AreFar reach p rows columns) → Same (IsTrue test) (k ≢ aod → AreFar reach p rows columns)
other_told reach p k aod rows columns test ne told = (λ t _. told.0 t, λ h. told.1 (h ne))

pub not_clear : (a : Architecture) (s : State) (aod : ℕ) (p : Point) (off : Bool) → off ≡ false → Same (IsTrue off) ((t : ℕ) (q : Point) → StandsAt a t q → IsFarther a.figures.reach p q) → Same (IsTrue false) (IsClear a s aod p)
not_clear a s aod p off e told = (
  λ t. absurd (false≢true t),
  λ clear.
      absurd (false≢true (sym e ∙ told.1 (λ t q at. All-contains (IsFarther a.figures.reach p) (trap_points a) q clear.off_traps (t, slice_get_within (trap_points a) t q at, get_or_from_slice_get (trap_points a) t q q at)))),
)
