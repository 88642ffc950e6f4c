-- The index from traps to qubits, and how a step keeps it.
use Rattle.std.proofs.Common.{◌≡◌, ◌≢◌, ℕ, zero, suc, ◌+◌, ◌<◌, ◌≤◌, inl, inr, List, [], ◌∷◌, Some, length, map, get_or, set, length-set, refl, sym, ap, ◌∙◌, subst, arith, slice_get}
use Rattle.std.specs.List.{All, Contains}
use Rattle.std.proofs.lemmas.Bool.{cases_eq, cases_lt, cases_order}
use Rattle.std.proofs.lemmas.List.Elements.{All-contains}
use Rattle.std.proofs.lemmas.Option.{slice_get_within, slice_get-get_or}
use Rattle.zac_arch.specs.Architecture.{Architecture, StandsAt, storage_count, trap_count, trap_points}
use Rattle.zac_arch.specs.Rules.{KeepsRules}
use Rattle.zac_arch.proofs.Geometry.{trap_count_is}
use Rattle.zac_arch.specs.declared.place.Point.{Point}
use Rattle.zac_arch.specs.declared.place.TrapId.{TrapId}
use Rattle.zair_form.specs.declared.step.Beam.{Beam}
use Rattle.zair_form.specs.declared.step.Caught.{Caught}
use Rattle.zair_form.specs.declared.step.Dropped.{Dropped}
use Rattle.zair_form.specs.declared.step.Step.TheVariants.{Deactivate}
use Rattle.zair_state.specs.declared.place.Place.{Place}
use Rattle.zair_state.specs.declared.place.Place.TheVariants.{Trap, Held}
use Rattle.zair_state.specs.Invariant.{IsSound}
use Rattle.zair_state.specs.Legal.{IsLegal, Drops}
use Rattle.zair_state.specs.Result.{after_catching, after_dropping}
use Rattle.zair_state.specs.State.{State, IsAt, beams_of, crossing}
use Rattle.zair_machine.specs.Machine.{after_writing, TellsTraps, IsWrongHome}
use Rattle.zair_machine.proofs.Full.{same_trap_number}
use Rattle.zair_state.proofs.BeamLists.{one_at}
use Rattle.zair_state.proofs.Deciding.{told_contained}
use Rattle.zair_state.proofs.Membership.{contains_none, contains_here, contains_later, contains_cases, all_from_contains}
use Rattle.zair_state.proofs.Placing.{after_catching_at, after_dropping_at}

same_point : (p q : Point) → Some p ≡ Some q → p ≡ q
same_point p q e = cc

trap_number : (t u : TrapId) → Trap t ≡ Trap u → t.0 ≡ u.0
trap_number t u e = let same : t ≡ u = cc in ap (λ (x : TrapId). x.0) same

held_no_trap : (aod row column : ℕ) (t : TrapId) (P : Type 0) → Held aod row column ≡ Trap t → P
held_no_trap aod row column t P e = absurd (cc)

written : (xs : List ℕ) (i y : ℕ) → i < length xs → slice_get (set xs i y) i ≡ Some y
written [] i y lt = absurd (omega arith)
written (z ∷ zs) zero y lt = refl
written (z ∷ zs) (suc i) y lt = written zs i y (omega arith)

unwritten : (xs : List ℕ) (i k y : ℕ) → k ≢ i → slice_get (set xs i y) k ≡ slice_get xs k
unwritten [] i k y ne = refl
unwritten (z ∷ zs) zero zero y ne = absurd (ne refl)
unwritten (z ∷ zs) zero (suc k) y ne = refl
unwritten (z ∷ zs) (suc i) zero y ne = refl
unwritten (z ∷ zs) (suc i) (suc k) y ne = unwritten zs i k y (λ e. ne (ap suc e))

-- what stands where the numbers of items are written
module _ {X : Type 0} (place number : X → ℕ) where
  pub length_written : (xs : List X) (ns : List ℕ) → length (after_writing place number xs ns) ≡ length ns
  length_written [] ns = refl
  length_written (x ∷ xs) ns = length_written xs (set ns (place x) (number x)) ∙ length-set ns (place x) (number x)

  pub written_elsewhere : (xs : List X) (ns : List ℕ) (n : ℕ) → ((x : X) → Contains xs x → place x ≢ n) → slice_get (after_writing place number xs ns) n ≡ slice_get ns n
  written_elsewhere [] ns n other = refl
  written_elsewhere (x ∷ xs) ns n other =
      written_elsewhere xs (set ns (place x) (number x)) n (λ y h. other y (contains_later x y xs h)) ∙ unwritten ns (place x) n (number x) (λ e. other x (contains_here x xs) (sym e))

  pub written_there : (xs : List X) (ns : List ℕ) (n q : ℕ) → n < length ns → ((x : X) → Contains xs x → place x ≡ n → number x ≡ q) → ((x : X) × Contains xs x × (place x ≡ n)) → slice_get (after_writing place number xs ns) n ≡ Some q
  written_there [] ns n q lt same h = absurd (contains_none h.0 h.1)
  written_there (x ∷ xs) ns n q lt same h = elim (told_contained (λ (y : X). place y ≡ n) xs (λ y. cases_eq (place y) n)) [
    | inl there ↦ written_there xs (set ns (place x) (number x)) n q (omega (arith, lt, length-set ns (place x) (number x))) (λ y k e. same y (contains_later x y xs k) e) there
    | inr none ↦ elim (contains_cases x h.0 xs h.1) [
      | inr later ↦ absurd (none (h.0, later, h.2))
      | inl first ↦
          let at : place x ≡ n = ap place first ∙ h.2 in
          let mine : slice_get (set ns (place x) (number x)) n ≡ Some (number x) = subst (λ (k : ℕ). slice_get (set ns (place x) (number x)) k ≡ Some (number x)) at (written ns (place x) (number x) (omega (arith, lt, at))) in
          written_elsewhere xs (set ns (place x) (number x)) n (λ y k e. none (y, k, e)) ∙ mine ∙ ap (λ (k : ℕ). Some k) (same x (contains_here x xs) at)
    ]
  ]

-- atoms that are caught leave their traps, and the index of traps stays
pub told_caught : (aod : ℕ) (atoms : List Caught) (places : List Place) (index : List ℕ) → TellsTraps places index → TellsTraps (after_catching aod atoms places) index
told_caught aod atoms places index told q t h = elim (after_catching_at aod atoms places q (Trap t) h) [
  | inl c ↦ held_no_trap aod c.0.row c.0.column t (slice_get index t.0 ≡ Some q) c.3
  | inr old ↦ told q t old.1
]

module _ (a : Architecture) (s : State) (aod : ℕ) (rows columns : List ℕ) (atoms : List Dropped) (gap_least : 1 ≤ a.figures.gap) (sound : IsSound a s) (legal : IsLegal a s (Deactivate aod rows columns atoms)) (empty : All (λ (d : Dropped). (r : ℕ) → ¬ IsAt s r (Trap d.trap)) atoms) where
  drop_of : (d : Dropped) → Contains atoms d → Drops a s aod rows columns d
  drop_of d h = All-contains (Drops a s aod rows columns) atoms d legal.drops h

  pub traps_within : (index : List ℕ) → length index ≡ trap_count a → All (λ (d : Dropped). d.trap.0 < length index) atoms
  traps_within index len = all_from_contains (λ (d : Dropped). d.trap.0 < length index) atoms (λ d h.
      let p = drop_of d h in omega (arith, len, slice_get_within (trap_points a) d.trap.0 (crossing p.row p.column) p.exact))

  -- two atoms that are dropped into one trap are one
  one_drop : (d e : Dropped) → Contains atoms d → Contains atoms e → d.trap.0 ≡ e.trap.0 → d.q ≡ e.q
  one_drop d e in_d in_e same =
      let p = drop_of d in_d in
      let r = drop_of e in_e in
      let there : StandsAt a e.trap.0 (crossing p.row p.column) = subst (λ (n : ℕ). StandsAt a n (crossing p.row p.column)) same p.exact in
      let point : crossing p.row p.column ≡ crossing r.row r.column = same_point (crossing p.row p.column) (crossing r.row r.column) (sym there ∙ r.exact) in
      let row : p.row ≡ r.row = one_at a.figures.gap (beams_of s aod).rows p.row r.row gap_least (sound.rows aod).placed p.row_active r.row_active (ap (λ (x : Point). x.y) point) in
      let column : p.column ≡ r.column = one_at a.figures.gap (beams_of s aod).columns p.column r.column gap_least (sound.columns aod).placed p.column_active r.column_active (ap (λ (x : Point). x.x) point) in
      let held : IsAt s d.q (Held aod r.row.id r.column.id) = subst (λ (b : Beam). IsAt s d.q (Held aod r.row.id b.id)) column (subst (λ (b : Beam). IsAt s d.q (Held aod b.id p.column.id)) row p.held) in
      sound.apart d.q e.q (Held aod r.row.id r.column.id) held r.held

  pub told_dropped : (index : List ℕ) → length index ≡ trap_count a → TellsTraps s.places index → TellsTraps (after_dropping atoms s.places) (after_writing (λ (d : Dropped). d.trap.0) (λ (d : Dropped). d.q) atoms index)
  told_dropped index len told q t h = elim (after_dropping_at atoms s.places q (Trap t) h) [
    | inl x ↦
        let at : x.0.trap.0 ≡ t.0 = trap_number x.0.trap t x.3 in
        let p = drop_of x.0 x.1 in
        written_there (λ (d : Dropped). d.trap.0) (λ (d : Dropped). d.q) atoms index t.0 q (omega (arith, len, at, slice_get_within (trap_points a) x.0.trap.0 (crossing p.row p.column) p.exact))
        (λ d k e. one_drop d x.0 k x.1 (e ∙ sym at) ∙ x.2) (x.0, x.1, at)
    | inr old ↦ elim (told_contained (λ (d : Dropped). d.trap.0 ≡ t.0) atoms (λ d. cases_eq d.trap.0 t.0)) [
      | inr none ↦ written_elsewhere (λ (d : Dropped). d.trap.0) (λ (d : Dropped). d.q) atoms index t.0 (λ d k e. none (d, k, e)) ∙ told q t old.1
      | inl x ↦ absurd (All-contains (λ (d : Dropped). (r : ℕ) → ¬ IsAt s r (Trap d.trap)) atoms x.0 empty x.1 q (subst (λ (u : TrapId). IsAt s q (Trap u)) (same_trap_number t x.0.trap (sym x.2)) old.1))
    ]
  ]

-- the index of homes that are right
pub home_at : (homes : List TrapId) (q : ℕ) (t : TrapId) → slice_get (map (λ (h : TrapId). Trap h) homes) q ≡ Some (Trap t) → slice_get homes q ≡ Some t
home_at [] q t h = absurd (cc)
home_at (x ∷ xs) zero t h = let same : Trap x ≡ Trap t = cc in let one : x ≡ t = cc in ap (λ (u : TrapId). Some u) one
home_at (x ∷ xs) (suc q) t h = home_at xs q t h

-- the index is right for the first n homes
abbrev pub IndexBelow : Architecture → List TrapId → ℕ → List ℕ → Type 0
IndexBelow a homes n index = (length index ≡ trap_count a) × ((q : ℕ) (home : TrapId) → q < n → slice_get homes q ≡ Some home → slice_get index home.0 ≡ Some q)

module _ (a : Architecture) (homes : List TrapId) (rules : KeepsRules a) (none : (q : ℕ) → ¬ IsWrongHome a homes q) where
  home_within : (q : ℕ) (home : TrapId) → slice_get homes q ≡ Some home → home.0 < trap_count a
  home_within q home at = elim (cases_lt home.0 (storage_count a)) [ inl lt ↦ omega (arith, lt, trap_count_is a rules) | inr ge ↦ absurd (none q (home, at, inl ge)) ]

  one_home : (p q : ℕ) (home : TrapId) → slice_get homes p ≡ Some home → slice_get homes q ≡ Some home → p ≡ q
  one_home p q home at there = elim (cases_order p q) [
    | inl e ↦ e
    | inr other ↦ elim other [ inl lt ↦ absurd (none q (home, there, inr (p, lt, at))) | inr gt ↦ absurd (none p (home, at, inr (q, gt, there))) ]
  ]

  pub index_start : (index : List ℕ) → length index ≡ trap_count a → IndexBelow a homes 0 index
  index_start index len = (len, λ q home lt h. absurd (omega arith))

  pub home_in_index : (index : List ℕ) (k : ℕ) (d : TrapId) → IndexBelow a homes k index → k < length homes → (get_or homes k d).0 < length index
  home_in_index index k d h lt = let within = home_within k (get_or homes k d) (slice_get-get_or homes k d lt) in let len = h.0 in omega arith

  pub index_more : (index : List ℕ) (k : ℕ) (d : TrapId) → IndexBelow a homes k index → k < length homes → IndexBelow a homes (k + 1) (set index (get_or homes k d).0 k)
  index_more index k d h lt =
      let home = get_or homes k d in
      let at : slice_get homes k ≡ Some home = slice_get-get_or homes k d lt in (
        length-set index home.0 k ∙ h.0,
        λ q other before there. elim (cases_lt q k) as (λ _. slice_get (set index home.0 k) other.0 ≡ Some q) [
          | inl earlier ↦ unwritten index home.0 other.0 k (λ e.
              let same : slice_get homes k ≡ Some other = at ∙ ap (λ (u : TrapId). Some u) (same_trap_number home other (sym e)) in
              let one = one_home q k other there same in
              absurd (omega arith)) ∙ h.1 q other earlier there
          | inr late ↦
              let last : q ≡ k = omega arith in
              let same : slice_get homes k ≡ Some other = subst (λ (i : ℕ). slice_get homes i ≡ Some other) last there in
              let both : Some home ≡ Some other = sym at ∙ same in
              let one : home ≡ other = cc in
              subst (λ (u : TrapId). slice_get (set index home.0 k) u.0 ≡ Some q) one (written index home.0 k (home_in_index index k d h lt) ∙ ap (λ (i : ℕ). Some i) (sym last))
        ],
      )

  pub index_whole : (index : List ℕ) (k : ℕ) → length homes ≤ k → IndexBelow a homes k index → (q : ℕ) (home : TrapId) → slice_get homes q ≡ Some home → slice_get index home.0 ≡ Some q
  index_whole index k le h q home at = let lt = slice_get_within homes q home at in h.1 q home (omega arith) at
