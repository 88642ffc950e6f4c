-- Atoms that a crossing drops.
use Rattle.std.proofs.Common.{◌≡◌, ◌≢◌, ℕ, ◌+◌, ◌*◌, ◌≤◌, ◌⊎◌, inl, inr, Bool, IsTrue, eqb, eqb-true, eq-eqb, Option, Some, List, map, get_or, count_by, refl, sym, ap, ◌∙◌, subst, arith, slice_get}
use Rattle.std.specs.List.{Any, Contains}
use Rattle.std.proofs.lemmas.Bool.{cases_lt, cases_order}
use Rattle.zac_arch.specs.Architecture.{Architecture, StandsAt}
use Rattle.zac_arch.specs.declared.place.Point.{Point}
use Rattle.zac_arch.specs.declared.place.TrapId.{TrapId}
use Rattle.zair_form.specs.declared.step.Beam.{Beam}
use Rattle.zair_form.specs.declared.step.Dropped.{Dropped}
use Rattle.zair_state.specs.declared.place.Place.{Place}
use Rattle.zair_state.specs.declared.place.Place.TheVariants.{Trap, Held}
use Rattle.zair_form.specs.declared.step.Step.TheVariants.{Deactivate}
use Rattle.zair_form.specs.declared.step.Step.{Step}
use Rattle.zair_state.specs.Faults.{IsTwice, IsDropWrong}
use Rattle.zair_state.specs.Invariant.{IsSound}
use Rattle.zair_state.specs.Least.{IsLeastOf, lesser_of}
use Rattle.zair_state.specs.Legal.{Drops}
use Rattle.zair_state.specs.State.{State, IsAt, HasId, beams_of, crossing}
use Rattle.zair_state.proofs.Membership.{contained_in_map, contains_map, any_contained, any_from_contained}
use Rattle.zair_state.proofs.BeamLists.{Rising, one_of_id, has_id, beam_of_id}
use Rattle.zair_state.proofs.Minima.{Same, KeyOf, least_same, least_of_either}
use Rattle.zair_state.proofs.Picking.{held_same, place_same}
use Rattle.zair_machine.specs.Crossings.{IsCrossingOf, CountsDropped, IsWrongDrop, IsLeftBehind}
use Rattle.zair_machine.proofs.Counting.{count_some, count_once, count_two, count_other}
use Rattle.zair_machine.proofs.Items.{least_as, at_contained, map_at, mapped_at}

pub any_key : {X : Type 0} (key : X → ℕ) (xs : List X) (n : ℕ) → Same (Any (λ x. key x ≡ n) xs) (Contains (map key xs) n)
any_key key xs n = (
  λ h.
      let r = any_contained (λ x. key x ≡ n) xs h in subst (λ m. Contains (map key xs) m) r.2 (contains_map key xs r.0 r.1),
  λ h.
      let r = contained_in_map key xs n h in any_from_contained (λ x. key x ≡ n) xs r.0 r.1 r.2,
)

pub wrong_with : {X : Type 0} (key : X → ℕ) (Q : X → Type 0) (xs : List X) (n : ℕ) → Same (KeyOf key Q xs n) (Any (λ x. (key x ≡ n) × Q x) xs)
wrong_with key Q xs n = (
  λ h. any_from_contained (λ x. (key x ≡ n) × Q x) xs h.0 h.1 (h.3, h.2),
  λ h.
      let r = any_contained (λ x. (key x ≡ n) × Q x) xs h in (r.0, r.1, r.2.1, r.2.0),
)

-- the place is a crossing of the AOD that is switched off
abbrev pub IsLeft : Place → ℕ → List ℕ → List ℕ → Type 0
IsLeft place aod rows columns = (row : ℕ) × (column : ℕ) × (place ≡ Held aod row column) × (Contains rows row ⊎ Contains columns column)

pub left_told : (place : Place) (aod row column : ℕ) (rows columns : List ℕ) (test : Bool) → place ≡ Held aod row column → Same (IsTrue test) (Contains rows row ⊎ Contains columns column) → Same (IsTrue test) (IsLeft place aod rows columns)
left_told place aod row column rows columns test e told = (
  λ t. (row, column, e, told.0 t),
  λ h.
      let same = held_same aod h.0 h.1 aod row column (sym h.2 ∙ e) in
      told.1 (elim h.3 [ inl x ↦ inl (subst (λ (n : ℕ). Contains rows n) same.1 x) | inr x ↦ inr (subst (λ (n : ℕ). Contains columns n) same.2 x) ]),
)

pub not_left : (place : Place) (aod k row column : ℕ) (rows columns : List ℕ) → place ≡ Held k row column → k ≢ aod → ¬ IsLeft place aod rows columns
not_left place aod k row column rows columns e ne h = ne (held_same k row column aod h.0 h.1 (sym e ∙ h.2)).0

-- the place is a crossing of active beams exactly on the trap
abbrev pub HangsOver : Architecture → State → Place → TrapId → Type 0
HangsOver a s place trap =
    (k : ℕ) × (row : ℕ) × (column : ℕ) × (r : Beam) × (c : Beam) × (place ≡ Held k row column) × Contains (beams_of s k).rows r × Contains (beams_of s k).columns c × (r.id ≡ row) × (c.id ≡ column) × StandsAt a trap.0 (crossing r c)

pub hangs_told : (a : Architecture) (s : State) (place : Place) (trap : TrapId) (aod row column : ℕ) (p : Point) (test : Bool) → place ≡ Held aod row column → Rising (beams_of s aod).rows → Rising (beams_of s aod).columns → Contains (beams_of s aod).rows (record { id = row; at = p.y }) × Contains (beams_of s aod).columns (record { id = column; at = p.x }) → Same (IsTrue test) (StandsAt a trap.0 p) → Same (IsTrue test) (HangsOver a s place trap)
hangs_told a s place trap aod row column p test e up across at told =
    let r : Beam = record { id = row; at = p.y } in
    let c : Beam = record { id = column; at = p.x } in (
      λ t. (aod, row, column, r, c, e, at.0, at.1, refl, refl, told.0 t),
      λ h.
          let same = held_same h.0 h.1 h.2 aod row column (sym h.5 ∙ e) in
          let er : h.3 ≡ r = one_of_id (beams_of s aod).rows h.3 r up (subst (λ (k : ℕ). Contains (beams_of s k).rows h.3) same.0 h.6) at.0 (h.8 ∙ same.1) in
          let ec : h.4 ≡ c = one_of_id (beams_of s aod).columns h.4 c across (subst (λ (k : ℕ). Contains (beams_of s k).columns h.4) same.0 h.7) at.1 (h.9 ∙ same.2) in
          let ep : crossing h.3 h.4 ≡ p = ap (λ (b : Beam). crossing b h.4) er ∙ ap (λ (b : Beam). crossing r b) ec in
          told.1 (subst (λ (q : Point). StandsAt a trap.0 q) ep h.10),
    )

pub hangs_nowhere : (a : Architecture) (s : State) (place : Place) (trap : TrapId) (aod row column : ℕ) → place ≡ Held aod row column → ¬ (HasId (beams_of s aod).rows row × HasId (beams_of s aod).columns column) → ¬ HangsOver a s place trap
hangs_nowhere a s place trap aod row column e none h =
    let same = held_same h.0 h.1 h.2 aod row column (sym h.5 ∙ e) in
    none (
      subst (HasId (beams_of s aod).rows) (h.8 ∙ same.1) (has_id (beams_of s aod).rows h.3 (subst (λ (k : ℕ). Contains (beams_of s k).rows h.3) same.0 h.6)),
      subst (HasId (beams_of s aod).columns) (h.9 ∙ same.2) (has_id (beams_of s aod).columns h.4 (subst (λ (k : ℕ). Contains (beams_of s k).columns h.4) same.0 h.7)),
    )

pub drops_not_left : (a : Architecture) (s : State) (aod : ℕ) (rows columns : List ℕ) (d : Dropped) (place : Place) → IsAt s d.q place → Drops a s aod rows columns d → IsLeft place aod rows columns
drops_not_left a s aod rows columns d place at h =
    (h.row.id, h.column.id, place_same s d.q place (Held aod h.row.id h.column.id) at h.held, h.vanishes)

pub drops_told : (a : Architecture) (s : State) (aod : ℕ) (rows columns : List ℕ) (d : Dropped) (place : Place) (test : Bool) → IsAt s d.q place → IsLeft place aod rows columns → Same (IsTrue test) (HangsOver a s place d.trap) → Same (IsTrue test) (Drops a s aod rows columns d)
drops_told a s aod rows columns d place test at left told = (
  λ t.
      let h = told.0 t in
      let same = held_same h.0 h.1 h.2 aod left.0 left.1 (sym h.5 ∙ left.2) in
      let er : h.3.id ≡ left.0 = h.8 ∙ same.1 in
      let ec : h.4.id ≡ left.1 = h.9 ∙ same.2 in
      let held : IsAt s d.q (Held aod h.3.id h.4.id) = rw (er, ec) (subst (λ (x : Place). IsAt s d.q x) left.2 at) in
      record {
        row = h.3;
        column = h.4;
        row_active = subst (λ (k : ℕ). Contains (beams_of s k).rows h.3) same.0 h.6;
        column_active = subst (λ (k : ℕ). Contains (beams_of s k).columns h.4) same.0 h.7;
        held = held;
        vanishes = rw (er, ec) left.3;
        exact = h.10;
      },
  λ h. told.1 (aod, h.row.id, h.column.id, h.row, h.column, place_same s d.q place (Held aod h.row.id h.column.id) at h.held, h.row_active, h.column_active, refl, refl, h.exact),
)

pub trap_not_left : (place : Place) (t : TrapId) (aod : ℕ) (rows columns : List ℕ) → place ≡ Trap t → ¬ IsLeft place aod rows columns
trap_not_left place t aod rows columns e h = let f = h.2 in absurd (cc)

pub trap_not_hanging : (a : Architecture) (s : State) (place : Place) (t trap : TrapId) → place ≡ Trap t → ¬ HangsOver a s place trap
trap_not_hanging a s place t trap e h = let f = h.5 in absurd (cc)

-- the row of this beam and a column have a crossing that is switched off, holds the qubit's atom and has the count 0
abbrev pub LeftInRow : State → ℕ → List ℕ → List ℕ → List Beam → List ℕ → ℕ → Beam → ℕ → Type 0
LeftInRow s aod rows columns on_columns counts i r q =
    (j : ℕ) × (c : Beam) × (slice_get on_columns j ≡ Some c) × IsAt s q (Held aod r.id c.id) × (Contains rows r.id ⊎ Contains columns c.id) × (get_or counts (i * 64 + j) 0 ≡ 0)

-- the crossing of this column
abbrev pub LeftWith : State → ℕ → ℕ → Bool → List ℕ → List ℕ → ℕ → Beam → ℕ → Type 0
LeftWith s aod row off columns counts j c q = IsAt s q (Held aod row c.id) × (IsTrue off ⊎ Contains columns c.id) × (get_or counts j 0 ≡ 0)

pub left_if : (s : State) (aod row : ℕ) (off : Bool) (columns counts : List ℕ) (j : ℕ) (c : Beam) (count : ℕ) (test : Bool) (o : Option ℕ) → count ≡ get_or counts j 0 → Same (IsTrue test) ((count ≡ 0) × (IsTrue off ⊎ Contains columns c.id)) → IsLeastOf (λ q. IsTrue test × IsAt s q (Held aod row c.id)) o → IsLeastOf (LeftWith s aod row off columns counts j c) o
left_if s aod row off columns counts j c count test o e same h =
    least_same (λ q. IsTrue test × IsAt s q (Held aod row c.id)) (LeftWith s aod row off columns counts j c) o
    (λ q. (λ k. let t = same.0 k.0 in (k.1, t.1, sym e ∙ t.0), λ k. (same.1 (e ∙ k.2, k.1), k.0))) h

pub left_row : (s : State) (aod : ℕ) (rows columns : List ℕ) (on_columns : List Beam) (counts behind : List ℕ) (i : ℕ) (r : Beam) (off : Bool) (o : Option ℕ) → ((j : ℕ) → get_or behind j 0 ≡ get_or counts (i * 64 + j) 0) → Same (IsTrue off) (Contains rows r.id)
    → IsLeastOf (λ q. (j : ℕ) × (c : Beam) × (slice_get on_columns j ≡ Some c) × IsAt s q (Held aod r.id c.id) × (IsTrue off ⊎ Contains columns c.id) × (get_or behind j 0 ≡ 0)) o → IsLeastOf (LeftInRow s aod rows columns on_columns counts i r) o
left_row s aod rows columns on_columns counts behind i r off o there same h =
    least_same (λ q. (j : ℕ) × (c : Beam) × (slice_get on_columns j ≡ Some c) × IsAt s q (Held aod r.id c.id) × (IsTrue off ⊎ Contains columns c.id) × (get_or behind j 0 ≡ 0)) (LeftInRow s aod rows columns on_columns counts i r) o
    (λ q. (
      λ k. (k.0, k.1, k.2, k.3, elim k.4 [ inl t ↦ inl (same.0 t) | inr x ↦ inr x ], sym (there k.0) ∙ k.5),
      λ k. (k.0, k.1, k.2, k.3, elim k.4 [ inl t ↦ inl (same.1 t) | inr x ↦ inr x ], there k.0 ∙ k.5),
    )) h

abbrev pub LeftBehind : State → ℕ → List ℕ → List ℕ → List Beam → List Beam → List ℕ → ℕ → Type 0
LeftBehind s aod rows columns on_rows on_columns counts q =
    (row : ℕ) × (column : ℕ) × (n : ℕ) × IsAt s q (Held aod row column) × (Contains rows row ⊎ Contains columns column) × IsCrossingOf on_rows on_columns row column n × (get_or counts n 0 ≡ 0)

pub left_there : (s : State) (aod : ℕ) (rows columns : List ℕ) (on_rows on_columns : List Beam) (counts : List ℕ) (q i : ℕ) (r : Beam) → slice_get on_rows i ≡ Some r → LeftInRow s aod rows columns on_columns counts i r q → LeftBehind s aod rows columns on_rows on_columns counts q
left_there s aod rows columns on_rows on_columns counts q i r at h =
    (r.id, h.1.id, i * 64 + h.0, h.3, h.4, (i, h.0, r, h.1, at, h.2, refl, refl, refl), h.5)

pub left_back : (s : State) (aod : ℕ) (rows columns : List ℕ) (on_rows on_columns : List Beam) (counts : List ℕ) (q : ℕ) → LeftBehind s aod rows columns on_rows on_columns counts q → (i : ℕ) × (r : Beam) × (slice_get on_rows i ≡ Some r) × LeftInRow s aod rows columns on_columns counts i r q
left_back s aod rows columns on_rows on_columns counts q h =
    let k = h.5 in
    (k.0, k.2, k.4, (k.1, k.3, k.5, rw (k.6, k.7) h.3, rw (k.6, k.7) h.4, ap (λ (n : ℕ). get_or counts n 0) (sym k.8) ∙ h.6))

-- what a deactivate does wrong with atoms, told by counts
module _ (a : Architecture) (s : State) (sound : IsSound a s) (aod : ℕ) (rows columns : List ℕ) (atoms : List Dropped) (counts : List ℕ) (told : CountsDropped s aod atoms counts) where
  abbrev on_rows : List Beam
  on_rows = (beams_of s aod).rows

  abbrev on_columns : List Beam
  on_columns = (beams_of s aod).columns

  abbrev Wrong : ℕ → Type 0
  Wrong q = Any (λ (d : Dropped). (d.q ≡ q) × IsWrongDrop a s aod rows columns counts d) atoms

  abbrev Left : ℕ → Type 0
  Left q = LeftBehind s aod rows columns on_rows on_columns counts q

  -- the number of the crossing that holds an atom
  number_of : (q row column : ℕ) → IsAt s q (Held aod row column) → (n : ℕ) × IsCrossingOf on_rows on_columns row column n
  number_of q row column at =
      let active = sound.held q aod row column at in
      let r = beam_of_id on_rows row active.0 in
      let c = beam_of_id on_columns column active.1 in
      let i = at_contained on_rows r.0 r.1 in
      let j = at_contained on_columns c.0 c.1 in
      (i.0 * 64 + j.0, (i.0, j.0, r.0, c.0, i.1, j.1, r.2, c.2, refl))

  listed_count : (q : ℕ) → Any (λ (d : Dropped). d.q ≡ q) atoms → 1 ≤ count_by (λ (d : Dropped). eqb d.q q) atoms
  listed_count q h =
      let x = any_contained (λ (d : Dropped). d.q ≡ q) atoms h in count_once (λ (d : Dropped). eqb d.q q) atoms x.0 x.1 (eq-eqb x.0.q q x.2)

  count_listed : (q : ℕ) → 1 ≤ count_by (λ (d : Dropped). eqb d.q q) atoms → Any (λ (d : Dropped). d.q ≡ q) atoms
  count_listed q h =
      let x = count_some (λ (d : Dropped). eqb d.q q) atoms h in any_from_contained (λ (d : Dropped). d.q ≡ q) atoms x.0 x.1 (eqb-true x.0.q q x.2)

  twice_count : (q : ℕ) → IsTwice (map (λ (d : Dropped). d.q) atoms) q → 2 ≤ count_by (λ (d : Dropped). eqb d.q q) atoms
  twice_count q h =
      let x = mapped_at (λ (d : Dropped). d.q) atoms h.0 q h.3 in
      let y = mapped_at (λ (d : Dropped). d.q) atoms h.1 q h.4 in
      count_two (λ (d : Dropped). eqb d.q q) atoms h.0 h.1 x.0 y.0 h.2 x.1 y.1 (eq-eqb x.0.q q x.2) (eq-eqb y.0.q q y.2)

  count_twice : (q : ℕ) → 2 ≤ count_by (λ (d : Dropped). eqb d.q q) atoms → IsTwice (map (λ (d : Dropped). d.q) atoms) q
  count_twice q h =
      let x = count_some (λ (d : Dropped). eqb d.q q) atoms (omega arith) in
      let i = at_contained atoms x.0 x.1 in
      let y = count_other (λ (d : Dropped). eqb d.q q) atoms i.0 x.0 i.1 x.2 h in
      let qi : slice_get (map (λ (d : Dropped). d.q) atoms) i.0 ≡ Some q = map_at (λ (d : Dropped). d.q) atoms i.0 x.0 i.1 ∙ ap (λ (n : ℕ). Some n) (eqb-true x.0.q q x.2) in
      let qj : slice_get (map (λ (d : Dropped). d.q) atoms) y.1 ≡ Some q = map_at (λ (d : Dropped). d.q) atoms y.1 y.0 y.2 ∙ ap (λ (n : ℕ). Some n) (eqb-true y.0.q q y.4) in
      elim (cases_order i.0 y.1) [
        | inl e ↦ absurd (y.3 e)
        | inr other ↦ elim other [ inl less ↦ (i.0, y.1, less, qi, qj) | inr more ↦ (y.1, i.0, more, qj, qi) ]
      ]

  wrong_there : (q : ℕ) → Left q ⊎ Wrong q → IsDropWrong a s (Deactivate aod rows columns atoms) q
  wrong_there q h = elim h [
    | inl left ↦ inl (
      left.0,
      left.1,
      left.3,
      left.4,
      λ listed.
          let le = listed_count q listed in
          let e = told q left.0 left.1 left.2 left.3 left.5 in
          absurd (omega (arith, e, left.6)),
    )
    | inr wrong ↦
        let x = any_contained (λ (d : Dropped). (d.q ≡ q) × IsWrongDrop a s aod rows columns counts d) atoms wrong in
        elim x.2.1 [
          | inl not_so ↦ inr (inl (any_from_contained (λ (d : Dropped). (d.q ≡ q) × ¬ Drops a s aod rows columns d) atoms x.0 x.1 (x.2.0, not_so)))
          | inr many ↦
              let e = told x.0.q many.0 many.1 many.2 many.3 many.4 in
              let le : 2 ≤ count_by (λ (d : Dropped). eqb d.q x.0.q) atoms = omega (arith, e, many.5) in
              inr (inr (count_twice q (subst (λ (n : ℕ). 2 ≤ count_by (λ (d : Dropped). eqb d.q n) atoms) x.2.0 le)))
        ]
  ]

  wrong_back : (q : ℕ) → IsDropWrong a s (Deactivate aod rows columns atoms) q → ¬ ¬ (Left q ⊎ Wrong q)
  wrong_back q h none = elim h [
    | inl left ↦
        let n = number_of q left.0 left.1 left.2 in
        let e = told q left.0 left.1 n.0 left.2 n.1 in
        let zero_count : get_or counts n.0 0 ≡ 0 = elim (cases_lt 0 (count_by (λ (d : Dropped). eqb d.q q) atoms)) [
          | inl some ↦ absurd (left.4 (count_listed q (omega arith)))
          | inr le ↦ omega arith
        ] in
        none (inl (left.0, left.1, n.0, left.2, left.3, n.1, zero_count))
    | inr other ↦ elim other [
      | inl wrong ↦
          let x = any_contained (λ (d : Dropped). (d.q ≡ q) × ¬ Drops a s aod rows columns d) atoms wrong in
          none (inr (any_from_contained (λ (d : Dropped). (d.q ≡ q) × IsWrongDrop a s aod rows columns counts d) atoms x.0 x.1 (x.2.0, inl x.2.1)))
      | inr twice ↦
          let le = twice_count q twice in
          let x = count_some (λ (d : Dropped). eqb d.q q) atoms (omega arith) in
          let eq = eqb-true x.0.q q x.2 in
          none (inr (any_from_contained (λ (d : Dropped). (d.q ≡ q) × IsWrongDrop a s aod rows columns counts d) atoms x.0 x.1 (
            eq,
            inl (λ drops.
                let n = number_of x.0.q drops.row.id drops.column.id drops.held in
                let e = told x.0.q drops.row.id drops.column.id n.0 drops.held n.1 in
                let many : 2 ≤ count_by (λ (d : Dropped). eqb d.q x.0.q) atoms = subst (λ (n : ℕ). 2 ≤ count_by (λ (d : Dropped). eqb d.q n) atoms) (sym eq) le in
                none (inr (any_from_contained (λ (d : Dropped). (d.q ≡ q) × IsWrongDrop a s aod rows columns counts d) atoms x.0 x.1 (eq, inr (drops.row.id, drops.column.id, n.0, drops.held, n.1, omega arith))))),
          )))
    ]
  ]

  drops_wrong : (left wrong o : Option ℕ) → o ≡ lesser_of left wrong → IsLeastOf (LeftBehind s aod rows columns (beams_of s aod).rows (beams_of s aod).columns counts) left → IsLeastOf (λ q. Any (λ (d : Dropped). (d.q ≡ q) × IsWrongDrop a s aod rows columns counts d) atoms) wrong → IsLeastOf (IsDropWrong a s (Deactivate aod rows columns atoms)) o
  drops_wrong left wrong o e h k =
      rw e (least_as (λ q. Left q ⊎ Wrong q) (IsDropWrong a s (Deactivate aod rows columns atoms)) (lesser_of left wrong) wrong_there wrong_back
      (least_of_either Left Wrong (λ q. Left q ⊎ Wrong q) left wrong (λ q x. x) (λ q x. inl x) (λ q x. inr x) h k))

pub drop_counted : (a : Architecture) (s : State) → IsSound a s → (aod : ℕ) (rows columns on_rows on_columns : List ℕ) (atoms listed : List Dropped) (step : Step) (counts : List ℕ) (left wrong o : Option ℕ) → step ≡ Deactivate aod rows columns atoms → on_rows ≡ rows → on_columns ≡ columns → listed ≡ atoms → o ≡ lesser_of left wrong
    → CountsDropped s aod listed counts → IsLeastOf (IsLeftBehind s aod on_rows on_columns counts) left → IsLeastOf (λ q. Any (λ (d : Dropped). (d.q ≡ q) × IsWrongDrop a s aod on_rows on_columns counts d) listed) wrong → IsLeastOf (IsDropWrong a s step) o
drop_counted a s sound aod rows columns on_rows on_columns atoms listed step counts left wrong o e f g h i =
    rw (e, f, g, h) (λ told x y. drops_wrong a s sound aod rows columns atoms counts told left wrong o i x y)
