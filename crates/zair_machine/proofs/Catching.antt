-- Atoms that a step lists as caught and can't catch, told by counts.
use Rattle.std.proofs.Common.{◌≡◌, ◌≢◌, ℕ, ◌+◌, ◌*◌, ◌≤◌, ◌⊎◌, inl, inr, true, Option, Some, List, count_by, refl, sym, ap, ◌∙◌, subst, arith, slice_get}
use Rattle.std.specs.List.{Any, Contains}
use Rattle.std.proofs.lemmas.Bool.{cases_order}
use Rattle.zac_arch.specs.Architecture.{Architecture, StandsAt}
use Rattle.zac_arch.specs.declared.place.Point.{Point}
use Rattle.zac_arch.specs.declared.place.TrapId.{TrapId}
use Rattle.zair_form.specs.declared.step.Beam.{Beam}
use Rattle.zair_form.specs.declared.step.Caught.{Caught}
use Rattle.zair_form.specs.declared.step.Step.{Step}
use Rattle.zair_form.specs.declared.step.Step.TheVariants.{Activate}
use Rattle.zair_state.specs.declared.fault.Axis.{Axis}
use Rattle.zair_state.specs.declared.fault.MachineFault.TheVariants.{Limit, Order, Gap}
use Rattle.zair_state.specs.declared.place.Place.TheVariants.{Trap}
use Rattle.zair_state.specs.Faults.{AreSameCatch, along, active, beams_after}
use Rattle.zair_state.specs.FirstFault.{AreMetBefore}
use Rattle.zair_state.specs.Least.{IsLeastOf}
use Rattle.zair_state.specs.Legal.{Picks}
use Rattle.zair_state.specs.Result.{with_beams}
use Rattle.zair_state.specs.State.{State, IsAt, ArePlaced, crossing}
use Rattle.zair_state.proofs.BeamLists.{one_at}
use Rattle.zair_state.proofs.MadeLegal.{placed_from}
use Rattle.zair_state.proofs.Membership.{any_contained, any_from_contained}
use Rattle.zair_state.proofs.NothingBroken.{contained_at}
use Rattle.zair_machine.specs.Crossings.{IsCrossingOf, CountsCaught, IsWrongPick}
use Rattle.zair_machine.proofs.Counting.{count_two, count_other}
use Rattle.zair_machine.proofs.Items.{least_as, at_contained}
use Rattle.zair_machine.proofs.Numbering.{names, names_told}

same_trap : (t u : TrapId) → Some (Trap t) ≡ Some (Trap u) → t ≡ u
same_trap t u e = cc

same_point : (p q : Point) → Some p ≡ Some q → p ≡ q
same_point p q e = cc

-- after a step whose beams break no condition, they are placed
pub placed_after : (a : Architecture) (s : State) (step : Step) (aod : ℕ) (rows columns : List Beam) (atoms : List Caught) (axis : Axis) (beams : List Beam) → step ≡ Activate aod rows columns atoms → beams ≡ beams_after s step axis → AreMetBefore a s step 6 → ArePlaced a.figures.gap beams
placed_after a s step aod rows columns atoms axis beams e f met =
    let here : AreMetBefore a s (Activate aod rows columns atoms) 6 = subst (λ (x : Step). AreMetBefore a s x 6) e met in
    let after : List Beam = with_beams (along axis rows columns) (active s aod axis) in
    let placed : ArePlaced a.figures.gap after = placed_from a.figures.gap after
    (λ id off. here (Limit (record { axis = axis; id = id })) (omega arith) (inr off))
    (λ k lower upper at there le. here (Order (record { axis = axis; id = upper.id })) (omega arith) (lower, upper, (k, at, there, refl), le))
    (λ k lower upper at there lt less. here (Gap (record { axis = axis; id = upper.id })) (omega arith) (lower, upper, (k, at, there, refl), lt, less)) in
    subst (ArePlaced a.figures.gap) (sym (f ∙ ap (λ (x : Step). beams_after s x axis) e)) placed

module _ (a : Architecture) (s : State) (gap_least : 1 ≤ a.figures.gap) (aod : ℕ) (new_rows new_columns rows columns : List Beam) (rows_placed : ArePlaced a.figures.gap rows) (columns_placed : ArePlaced a.figures.gap columns) (atoms : List Caught) (counts : List ℕ) (told : CountsCaught rows columns atoms counts) where
  abbrev Caughts : Caught → Type 0
  Caughts c = Picks a s aod new_rows new_columns rows columns c

  abbrev Wrong : ℕ → Type 0
  Wrong q = Any (λ (c : Caught). (c.q ≡ q) × IsWrongPick a s aod new_rows new_columns rows columns counts c) atoms

  abbrev Listed : ℕ → Type 0
  Listed q =
      (c : Caught) × (i : ℕ) × (slice_get atoms i ≡ Some c) × (c.q ≡ q) × (¬ Caughts c ⊎ ((d : Caught) × (j : ℕ) × (slice_get atoms j ≡ Some d) × (i ≢ j) × AreSameCatch c d))

  number_of : (c : Caught) → Caughts c → (n : ℕ) × IsCrossingOf rows columns c.row c.column n
  number_of c p =
      let i = at_contained rows p.row p.row_active in
      let j = at_contained columns p.column p.column_active in
      (i.0 * 64 + j.0, (i.0, j.0, p.row, p.column, i.1, j.1, p.row_named, p.column_named, refl))

  -- one atom is caught at one crossing
  one_crossing : (c d : Caught) → Caughts c → Caughts d → c.q ≡ d.q → (c.row ≡ d.row) × (c.column ≡ d.column)
  one_crossing c d p r e =
      let rests : IsAt s d.q (Trap p.trap) = subst (λ (q : ℕ). IsAt s q (Trap p.trap)) e p.rests in
      let trap : p.trap ≡ r.trap = same_trap p.trap r.trap (sym rests ∙ r.rests) in
      let there : StandsAt a r.trap.0 (crossing p.row p.column) = subst (λ (t : TrapId). StandsAt a t.0 (crossing p.row p.column)) trap p.exact in
      let point : crossing p.row p.column ≡ crossing r.row r.column = same_point (crossing p.row p.column) (crossing r.row r.column) (sym there ∙ r.exact) in
      let row : p.row ≡ r.row = one_at a.figures.gap rows p.row r.row gap_least rows_placed p.row_active r.row_active (ap (λ (x : Point). x.y) point) in
      let column : p.column ≡ r.column = one_at a.figures.gap columns p.column r.column gap_least columns_placed p.column_active r.column_active (ap (λ (x : Point). x.x) point) in
      (sym p.row_named ∙ ap (λ (b : Beam). b.id) row ∙ r.row_named, sym p.column_named ∙ ap (λ (b : Beam). b.id) column ∙ r.column_named)

  wrong_there : (q : ℕ) → Wrong q → Listed q
  wrong_there q h =
      let x = any_contained (λ (c : Caught). (c.q ≡ q) × IsWrongPick a s aod new_rows new_columns rows columns counts c) atoms h in
      let c : Caught = x.0 in
      let i = at_contained atoms c x.1 in
      elim x.2.1 [
        | inl not_so ↦ (c, i.0, i.1, x.2.0, inl not_so)
        | inr many ↦
            let e = told c.row c.column many.0 many.1 in
            let y = count_other (names (c.row, c.column)) atoms i.0 c i.1 ((names_told c c.row c.column).1 (refl, refl)) (omega (arith, e, many.2)) in
            let same = (names_told y.0 c.row c.column).0 y.4 in
            (c, i.0, i.1, x.2.0, inr (y.0, y.1, y.2, y.3, inr (sym same.0, sym same.1)))
      ]

  shared : (q i j : ℕ) (c d : Caught) → ¬ Wrong q → slice_get atoms i ≡ Some c → slice_get atoms j ≡ Some d → i ≢ j → c.q ≡ q → Contains atoms c → c.row ≡ d.row → c.column ≡ d.column → ⊥
  shared q i j c d none at there ne e in_atoms row column =
      none (any_from_contained (λ (c : Caught). (c.q ≡ q) × IsWrongPick a s aod new_rows new_columns rows columns counts c) atoms c in_atoms (
        e,
        inl (λ p.
            let n = number_of c p in
            let here = (names_told c c.row c.column).1 (refl, refl) in
            let other = (names_told d c.row c.column).1 (sym row, sym column) in
            let le = both_counted i j c d ne at there here other in
            let f = told c.row c.column n.0 n.1 in
            none (any_from_contained (λ (c : Caught). (c.q ≡ q) × IsWrongPick a s aod new_rows new_columns rows columns counts c) atoms c in_atoms (e, inr (n.0, n.1, omega (arith, f, le))))),
      ))
    where
      both_counted : (i j : ℕ) (c d : Caught) → i ≢ j → slice_get atoms i ≡ Some c → slice_get atoms j ≡ Some d → names (c.row, c.column) c ≡ true → names (c.row, c.column) d ≡ true → 2 ≤ count_by (names (c.row, c.column)) atoms
      both_counted i j c d ne at there here other = elim (cases_order i j) [
        | inl e ↦ absurd (ne e)
        | inr x ↦ elim x [
          | inl less ↦ count_two (names (c.row, c.column)) atoms i j c d less at there here other
          | inr more ↦ count_two (names (c.row, c.column)) atoms j i d c more there at other here
        ]
      ]

  wrong_back : (q : ℕ) → Listed q → ¬ ¬ Wrong q
  wrong_back q h none =
      let c : Caught = h.0 in
      let in_atoms = contained_at atoms h.1 c h.2 in
      elim h.4 [
        | inl not_so ↦ none (any_from_contained (λ (c : Caught). (c.q ≡ q) × IsWrongPick a s aod new_rows new_columns rows columns counts c) atoms c in_atoms (h.3, inl not_so))
        | inr other ↦ elim other.4 [
          | inr same ↦ shared q h.1 other.1 c other.0 none h.2 other.2 other.3 h.3 in_atoms same.0 same.1
          | inl same ↦
              let d : Caught = other.0 in
              none (any_from_contained (λ (c : Caught). (c.q ≡ q) × IsWrongPick a s aod new_rows new_columns rows columns counts c) atoms c in_atoms (
                h.3,
                inl (λ p.
                    none (any_from_contained (λ (c : Caught). (c.q ≡ q) × IsWrongPick a s aod new_rows new_columns rows columns counts c) atoms d (contained_at atoms other.1 d other.2) (
                      sym same ∙ h.3,
                      inl (λ r.
                          let one = one_crossing c d p r same in
                          shared q h.1 other.1 c d none h.2 other.2 other.3 h.3 in_atoms one.0 one.1),
                    ))),
              ))
        ]
      ]

  pub picks_wrong : (o : Option ℕ) → IsLeastOf (λ q. Any (λ (c : Caught). (c.q ≡ q) × IsWrongPick a s aod new_rows new_columns rows columns counts c) atoms) o → IsLeastOf (λ q. (c : Caught) × (i : ℕ) × (slice_get atoms i ≡ Some c) × (c.q ≡ q) × (¬ Picks a s aod new_rows new_columns rows columns c ⊎ ((d : Caught) × (j : ℕ) × (slice_get atoms j ≡ Some d) × (i ≢ j) × AreSameCatch c d))) o
  picks_wrong o h = least_as Wrong Listed o wrong_there wrong_back h
