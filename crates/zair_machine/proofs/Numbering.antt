-- Crossings of rows and columns by their numbers, and how often a step lists them.
use Rattle.std.proofs.Common.{◌≡◌, ℕ, zero, suc, ◌+◌, ◌-◌, ◌*◌, ◌<◌, ◌≤◌, inl, inr, Bool, true, false, ◌&&◌, eqb, eqb-true, eq-eqb, IsTrue, IfSome, Option, Some, None, MatchOption, List, length, take, drop, get_or, replicate, refl, sym, ap, ◌∙◌, subst, arith, slice_get}
use Rattle.std.specs.List.{Any}
use Rattle.std.proofs.lemmas.Bool.{cases_order}
use Rattle.std.proofs.lemmas.List.{get_or-drop}
use Rattle.std.proofs.lemmas.Option.{slice_get_within, get_or_from_slice_get}
use Rattle.zac_arch.specs.Architecture.{Architecture}
use Rattle.zair_form.specs.declared.step.Beam.{Beam}
use Rattle.zair_form.specs.declared.step.Caught.{Caught}
use Rattle.zair_form.specs.declared.step.Dropped.{Dropped}
use Rattle.zair_state.specs.declared.place.Place.TheVariants.{Held}
use Rattle.zair_state.specs.Invariant.{IsSound}
use Rattle.zair_state.specs.State.{State, IsAt, HasId, beams_of}
use Rattle.zair_state.proofs.BeamLists.{Rising, has_id}
use Rattle.zair_state.proofs.Membership.{any_contained, any_from_contained}
use Rattle.zair_state.proofs.Minima.{Same}
use Rattle.zair_state.proofs.NothingBroken.{contained_at}
use Rattle.zair_state.proofs.Picking.{held_same, place_same, rest_of}
use Rattle.zair_machine.specs.Crossings.{IsCrossingOf, CountsCaught, CountsDropped, counted}
use Rattle.zair_machine.proofs.Counting.{CountsTo, counts_start, counts_more, counts_whole, count_some, count_once}

-- counts behind a place
pub behind : (counts : List ℕ) (n k j : ℕ) → n ≡ length counts → get_or (take (n - k) (drop k counts)) j 0 ≡ get_or counts (k + j) 0
behind counts n k j e =
    ap (λ (m : ℕ). get_or (take (m - k) (drop k counts)) j 0) e ∙ ap (λ (l : List ℕ). get_or l j 0) (rest_of counts k) ∙ get_or-drop k counts j 0

-- of beams by rising id, two places with one id are one
place_one : (beams : List Beam) (i j : ℕ) (b c : Beam) → Rising beams → slice_get beams i ≡ Some b → slice_get beams j ≡ Some c → b.id ≡ c.id → i ≡ j
place_one beams i j b c rising h k e =
    let at : get_or beams i b ≡ b = get_or_from_slice_get beams i b b h in
    let there : get_or beams j b ≡ c = get_or_from_slice_get beams j c b k in
    let eb : (get_or beams i b).id ≡ b.id = ap (λ (x : Beam). x.id) at in
    let ec : (get_or beams j b).id ≡ c.id = ap (λ (x : Beam). x.id) there in
    elim (cases_order i j) [
      | inl same ↦ same
      | inr other ↦ elim other [
        | inl less ↦ (let lt = rising i j b less (slice_get_within beams j c k) in absurd (omega arith))
        | inr more ↦ (let lt = rising j i b more (slice_get_within beams i b h) in absurd (omega arith))
      ]
    ]

module _ (rows columns : List Beam) where
  pub crossing_has : (row column n : ℕ) → IsCrossingOf rows columns row column n → HasId rows row × HasId columns column
  crossing_has row column n h = (
    subst (HasId rows) h.6 (has_id rows h.2 (contained_at rows h.0 h.2 h.4)),
    subst (HasId columns) h.7 (has_id columns h.3 (contained_at columns h.1 h.3 h.5)),
  )

  pub crossing_one : Rising rows → Rising columns → (row column m n : ℕ) → IsCrossingOf rows columns row column m → IsCrossingOf rows columns row column n → m ≡ n
  crossing_one up across row column m n h k =
      let i = place_one rows h.0 k.0 h.2 k.2 up h.4 k.4 (h.6 ∙ sym k.6) in
      let j = place_one columns h.1 k.1 h.3 k.3 across h.5 k.5 (h.7 ∙ sym k.7) in
      omega (arith, i, j, h.8, k.8)

  pub crossing_same : length columns ≤ 64 → (row column row' column' n : ℕ) → IsCrossingOf rows columns row column n → IsCrossingOf rows columns row' column' n → (row ≡ row') × (column ≡ column')
  crossing_same few row column row' column' n h k =
      let hj = slice_get_within columns h.1 h.3 h.5 in
      let kj = slice_get_within columns k.1 k.3 k.5 in
      let i : h.0 ≡ k.0 = omega (arith, h.8, k.8) in
      let j : h.1 ≡ k.1 = omega (arith, h.8, k.8) in
      let er : Some h.2 ≡ Some k.2 = sym h.4 ∙ ap (slice_get rows) i ∙ k.4 in
      let ec : Some h.3 ≡ Some k.3 = sym h.5 ∙ ap (slice_get columns) j ∙ k.5 in
      let r : h.2 ≡ k.2 = cc in
      let c : h.3 ≡ k.3 = cc in
      (sym h.6 ∙ ap (λ (b : Beam). b.id) r ∙ k.6, sym h.7 ∙ ap (λ (b : Beam). b.id) c ∙ k.7)

-- the test whether a caught atom names a crossing
abbrev pub names : ℕ × ℕ → Caught → Bool
names z x = (eqb x.row z.0) && (eqb x.column z.1)

both_true : (a b : Bool) → a && b ≡ true → (a ≡ true) × (b ≡ true)
both_true true true h = (refl, refl)
both_true true false h = absurd (cc)
both_true false b h = absurd (cc)

pub names_told : (x : Caught) (row column : ℕ) → Same (names (row, column) x ≡ true) ((x.row ≡ row) × (x.column ≡ column))
names_told x row column = (
  λ h. let t = both_true (eqb x.row row) (eqb x.column column) h in (eqb-true x.row row t.0, eqb-true x.column column t.1),
  λ h.
      let r = eq-eqb x.row row h.0 in
      let c = eq-eqb x.column column h.1 in
      ap (λ (t : Bool). t && (eqb x.column column)) r ∙ c,
)

-- a caught atom's number is within the counts
pub caught_within : (rows columns : List Beam) (counts : List ℕ) (x : Caught) (o : Option ℕ) → 4096 ≤ length counts → MatchOption o (¬ (HasId rows x.row × HasId columns x.column)) (λ n. (n < 4096) × IsCrossingOf rows columns x.row x.column n) → IfSome o (λ n. n < length counts)
caught_within rows columns counts x None room told = tt
caught_within rows columns counts x (Some n) room told = let lt = told.0 in omega arith

-- the counts of the first k caught atoms
abbrev pub CaughtTo : List Beam → List Beam → List Caught → ℕ → List ℕ → Type 0
CaughtTo rows columns atoms k counts = CountsTo (λ (z : ℕ × ℕ) n. IsCrossingOf rows columns z.0 z.1 n) names atoms k counts

module _ (rows columns : List Beam) (up : Rising rows) (across : Rising columns) (few : length columns ≤ 64) (atoms : List Caught) where
  pub caught_start : (counts : List ℕ) → ((n : ℕ) → get_or counts n 0 ≡ 0) → CaughtTo rows columns atoms 0 counts
  caught_start counts clean = counts_start (λ (z : ℕ × ℕ) n. IsCrossingOf rows columns z.0 z.1 n) names atoms counts clean

  number_told : (x : Caught) (o : Option ℕ) → MatchOption o (¬ (HasId rows x.row × HasId columns x.column)) (λ n. (n < 4096) × IsCrossingOf rows columns x.row x.column n) → (z : ℕ × ℕ) (n : ℕ) → IsCrossingOf rows columns z.0 z.1 n → Same (names z x ≡ true) (o ≡ Some n)
  number_told x None none z n at = (
    λ t.
        let e = (names_told x z.0 z.1).0 t in
        let has = crossing_has rows columns z.0 z.1 n at in
        absurd (none (subst (HasId rows) (sym e.0) has.0, subst (HasId columns) (sym e.1) has.1)),
    λ h. absurd (cc),
  )
  number_told x (Some m) told z n at = (
    λ t.
        let e = (names_told x z.0 z.1).0 t in
        let here : IsCrossingOf rows columns z.0 z.1 m = rw (← e.0, ← e.1) told.1 in
        ap (λ (i : ℕ). Some i) (crossing_one rows columns up across z.0 z.1 m n here at),
    λ h.
        let e : m ≡ n = cc in
        let here : IsCrossingOf rows columns x.row x.column n = subst (IsCrossingOf rows columns x.row x.column) e told.1 in
        (names_told x z.0 z.1).1 (crossing_same rows columns few x.row x.column z.0 z.1 n here at),
  )

  pub caught_more : (counts : List ℕ) (k : ℕ) (d : Caught) (o : Option ℕ) → k < length atoms → 4096 ≤ length counts → MatchOption o (¬ (HasId rows (get_or atoms k d).row × HasId columns (get_or atoms k d).column)) (λ n. (n < 4096) × IsCrossingOf rows columns (get_or atoms k d).row (get_or atoms k d).column n) → CaughtTo rows columns atoms k counts → CaughtTo rows columns atoms (k + 1) (counted o counts)
  caught_more counts k d o lt room told before =
      counts_more (λ (z : ℕ × ℕ) n. IsCrossingOf rows columns z.0 z.1 n) names atoms counts k d o lt (caught_within rows columns counts (get_or atoms k d) o room told) (number_told (get_or atoms k d) o told) before

  pub caught_whole : (counts : List ℕ) (k : ℕ) → length atoms ≤ k → CaughtTo rows columns atoms k counts → CountsCaught rows columns atoms counts
  caught_whole counts k le h row column n at =
      counts_whole (λ (z : ℕ × ℕ) n. IsCrossingOf rows columns z.0 z.1 n) names atoms counts k le h (row, column) n at

-- a crossing is counted where an atom names it
pub named_told : (rows columns : List Beam) (atoms : List Caught) (counts : List ℕ) (i j : ℕ) (r c : Beam) → CountsCaught rows columns atoms counts → slice_get rows i ≡ Some r → slice_get columns j ≡ Some c → Same (1 ≤ get_or counts (i * 64 + j) 0) (Any (λ (x : Caught). (x.row ≡ r.id) × (x.column ≡ c.id)) atoms)
named_told rows columns atoms counts i j r c told at there =
    let e = told r.id c.id (i * 64 + j) (i, j, r, c, at, there, refl, refl, refl) in (
      λ le.
          let x = count_some (names (r.id, c.id)) atoms (omega arith) in
          any_from_contained (λ (x : Caught). (x.row ≡ r.id) × (x.column ≡ c.id)) atoms x.0 x.1 ((names_told x.0 r.id c.id).0 x.2),
      λ h.
          let x = any_contained (λ (x : Caught). (x.row ≡ r.id) × (x.column ≡ c.id)) atoms h in
          let le = count_once (names (r.id, c.id)) atoms x.0 x.1 ((names_told x.0 r.id c.id).1 x.2) in
          omega arith,
    )

-- where the AOD holds the atom of a qubit
abbrev pub HeldAs : State → ℕ → ℕ → Option ℕ → Type 0
HeldAs s aod q o =
    MatchOption o ((row column : ℕ) → ¬ IsAt s q (Held aod row column)) (λ n. (n < 4096) × ((row : ℕ) × (column : ℕ) × IsAt s q (Held aod row column) × IsCrossingOf (beams_of s aod).rows (beams_of s aod).columns row column n))

-- a held atom's number is within the counts
pub held_within : (s : State) (aod : ℕ) (counts : List ℕ) (q : ℕ) (o : Option ℕ) → 4096 ≤ length counts → HeldAs s aod q o → IfSome o (λ n. n < length counts)
held_within s aod counts q None room told = tt
held_within s aod counts q (Some n) room told = let lt = told.0 in omega arith

-- a qubit with the crossing of this number that holds its atom
abbrev pub Spot : State → ℕ → ℕ × ℕ × ℕ → ℕ → Type 0
Spot s aod z n = IsAt s z.0 (Held aod z.1 z.2) × IsCrossingOf (beams_of s aod).rows (beams_of s aod).columns z.1 z.2 n

abbrev pub is_of : ℕ × ℕ × ℕ → Dropped → Bool
is_of z d = eqb d.q z.0

-- the counts of the first k dropped atoms
abbrev pub DroppedTo : State → ℕ → List Dropped → ℕ → List ℕ → Type 0
DroppedTo s aod atoms k counts = CountsTo (Spot s aod) is_of atoms k counts

module _ (a : Architecture) (s : State) (sound : IsSound a s) (most : a.figures.columns ≤ 64) (aod : ℕ) where
  few_columns : length (beams_of s aod).columns ≤ 64
  few_columns = omega (arith, (sound.columns aod).few)

  held_told : (d : Dropped) (o : Option ℕ) → HeldAs s aod d.q o → (z : ℕ × ℕ × ℕ) (n : ℕ) → Spot s aod z n → Same (is_of z d ≡ true) (o ≡ Some n)
  held_told d None none z n at =
      (λ t. let e = eqb-true d.q z.0 t in absurd (none z.1 z.2 (subst (λ (q : ℕ). IsAt s q (Held aod z.1 z.2)) (sym e) at.0)), λ h. absurd (cc))
  held_told d (Some m) told z n at = (
    λ t.
        let e = eqb-true d.q z.0 t in
        let held = told.1 in
        let same = held_same aod held.0 held.1 aod z.1 z.2 (place_same s z.0 (Held aod held.0 held.1) (Held aod z.1 z.2) (subst (λ (q : ℕ). IsAt s q (Held aod held.0 held.1)) e held.2) at.0) in
        let here : IsCrossingOf (beams_of s aod).rows (beams_of s aod).columns z.1 z.2 m = rw (← same.1, ← same.2) held.3 in
        ap (λ (i : ℕ). Some i) (crossing_one (beams_of s aod).rows (beams_of s aod).columns (sound.rows aod).rising (sound.columns aod).rising z.1 z.2 m n here at.1),
    λ h.
        let e : m ≡ n = cc in
        let held = told.1 in
        let here : IsCrossingOf (beams_of s aod).rows (beams_of s aod).columns held.0 held.1 n = subst (IsCrossingOf (beams_of s aod).rows (beams_of s aod).columns held.0 held.1) e held.3 in
        let same = crossing_same (beams_of s aod).rows (beams_of s aod).columns few_columns held.0 held.1 z.1 z.2 n here at.1 in
        let there : IsAt s d.q (Held aod z.1 z.2) = rw (← same.0, ← same.1) held.2 in
        eq-eqb d.q z.0 (sound.apart d.q z.0 (Held aod z.1 z.2) there at.0),
  )

  pub repeated_told : (q n : ℕ) (counts : List ℕ) (test : Bool) → (row : ℕ) × (column : ℕ) × IsAt s q (Held aod row column) × IsCrossingOf (beams_of s aod).rows (beams_of s aod).columns row column n → Same (IsTrue test) (2 ≤ get_or counts n 0)
      → Same (IsTrue test) ((row : ℕ) × (column : ℕ) × (n : ℕ) × IsAt s q (Held aod row column) × IsCrossingOf (beams_of s aod).rows (beams_of s aod).columns row column n × (2 ≤ get_or counts n 0))
  repeated_told q n counts test at told = (
    λ t. (at.0, at.1, n, at.2, at.3, told.0 t),
    λ h.
        let same = held_same aod h.0 h.1 aod at.0 at.1 (place_same s q (Held aod h.0 h.1) (Held aod at.0 at.1) h.3 at.2) in
        let here : IsCrossingOf (beams_of s aod).rows (beams_of s aod).columns at.0 at.1 h.2 = rw (← same.1, ← same.2) h.4 in
        let one = crossing_one (beams_of s aod).rows (beams_of s aod).columns (sound.rows aod).rising (sound.columns aod).rising at.0 at.1 h.2 n here at.3 in
        told.1 (subst (λ (k : ℕ). 2 ≤ get_or counts k 0) one h.5),
  )

  module _ (atoms : List Dropped) where
    pub dropped_start : (counts : List ℕ) → ((n : ℕ) → get_or counts n 0 ≡ 0) → DroppedTo s aod atoms 0 counts
    dropped_start counts clean = counts_start (Spot s aod) is_of atoms counts clean

    pub dropped_more : (counts : List ℕ) (k : ℕ) (d : Dropped) (o : Option ℕ) → k < length atoms → 4096 ≤ length counts → HeldAs s aod (get_or atoms k d).q o → DroppedTo s aod atoms k counts → DroppedTo s aod atoms (k + 1) (counted o counts)
    dropped_more counts k d o lt room told before =
        counts_more (Spot s aod) is_of atoms counts k d o lt (held_within s aod counts (get_or atoms k d).q o room told) (held_told (get_or atoms k d) o told) before

    pub dropped_whole : (counts : List ℕ) (k : ℕ) → length atoms ≤ k → DroppedTo s aod atoms k counts → CountsDropped s aod atoms counts
    dropped_whole counts k le h q row column n held at = counts_whole (Spot s aod) is_of atoms counts k le h (q, row, column) n (held, at)

-- nothing is counted yet
abbrev pub zeros : ℕ → List ℕ
zeros k = replicate k 0

pub all_zero : (k n : ℕ) → get_or (zeros k) n 0 ≡ 0
all_zero zero n = refl
all_zero (suc k) zero = refl
all_zero (suc k) (suc n) = all_zero k n
