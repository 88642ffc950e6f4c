-- A legal step breaks no condition.
use Rattle.std.proofs.Common.{◌≡◌, ◌≢◌, ℕ, ◌+◌, ◌<◌, ◌≤◌, ◌⊎◌, inl, inr, List, [], ◌∷◌, Some, length, get_or, map, refl, sym, ◌∙◌, subst, arith, slice_get, leb}
use Rattle.std.specs.List.{All, Contains, flat_map}
use Rattle.std.proofs.lemmas.Bool.{cases_order}
use Rattle.std.proofs.lemmas.List.Elements.{All-contains}
use Rattle.std.proofs.lemmas.List.Sums.{count_by-le-length}
use Rattle.std.proofs.lemmas.Option.{slice_get_within, get_or_from_slice_get}
use Rattle.zac_arch.specs.Architecture.{Architecture, StandsAt, trap_points}
use Rattle.zac_arch.specs.declared.place.Point.{Point}
use Rattle.zac_arch.specs.declared.place.TrapId.{TrapId}
use Rattle.zair_form.specs.declared.step.Beam.{Beam}
use Rattle.zair_form.specs.declared.step.Caught.{Caught}
use Rattle.zair_form.specs.declared.step.Dropped.{Dropped}
use Rattle.zair_form.specs.declared.step.OneGate.{OneGate}
use Rattle.zair_form.specs.declared.step.PairOf.{PairOf}
use Rattle.zair_form.specs.declared.step.ReadOf.{ReadOf}
use Rattle.zair_form.specs.declared.step.Step.{Step}
use Rattle.zair_form.specs.declared.step.Step.TheVariants.{Activate, Move, Deactivate, One, Pulse, Readout}
use Rattle.zair_state.specs.declared.fault.Axis.{Axis}
use Rattle.zair_state.specs.declared.fault.Axis.TheVariants.{Row, Column}
use Rattle.zair_state.specs.declared.fault.MachineFault.{MachineFault}
use Rattle.zair_state.specs.declared.fault.MachineFault.TheVariants.{Unknown, Busy, NotActive, Limit, Order, Gap, Touch, PickWrong, DropWrong, TrapFull, PairWrong, LitAlone, NotAtRest, Crossing}
use Rattle.zair_state.specs.declared.place.Place.TheVariants.{Trap, Held}
use Rattle.zair_state.specs.State.{State, IsAt, HasId, crossing, ArePlaced, AreInRange, RestsLit}
use Rattle.zair_state.specs.Legal.{IsLegal, AreOnce, AreFresh, ListsActive, Picks, Drops, Rests, IsPairOf}
use Rattle.zair_state.specs.Result.{with_beams}
use Rattle.zair_state.specs.Faults.{along, active, ids, IsTwice, IsOneTooMany, IsOffField, AreSameCatch, named_beam}
use Rattle.zair_state.specs.FirstFault.{Breaks}
use Rattle.zair_state.proofs.Membership.{contains_none, contains_cases, contains_here, contains_later, contained_in_map, any_contained}
use Rattle.zair_state.proofs.BeamLists.{has_id}
use Rattle.zair_state.proofs.Changing.{clear_of_trap, within_back}
use Rattle.zair_state.proofs.SoundActivate.{not_two}
use Rattle.zair_state.proofs.SoundDeactivate.{same_trap}

pub only_one : {X : Type 0} (x y : X) → Contains (x ∷ []) y → x ≡ y
only_one x y h = elim (contains_cases x y [] h) [ inl e ↦ e | inr none ↦ absurd (contains_none y none) ]

-- what stands at a place of a list is contained in it
pub contained_at : {X : Type 0} (xs : List X) (k : ℕ) (x : X) → slice_get xs k ≡ Some x → Contains xs x
contained_at xs k x h = (k, slice_get_within xs k x h, get_or_from_slice_get xs k x x h)

never_twice : (ns : List ℕ) (n : ℕ) → AreOnce ns → ¬ IsTwice ns n
never_twice ns n once h =
    once h.0 h.1 0 h.2 (slice_get_within ns h.1 n h.4) (get_or_from_slice_get ns h.0 n 0 h.3 ∙ sym (get_or_from_slice_get ns h.1 n 0 h.4))

fresh_not_busy : (new old : List Beam) (id : ℕ) → AreFresh new old → ¬ (IsTwice (ids new) id ⊎ (HasId new id × HasId old id))
fresh_not_busy new old id fresh h = elim h [
  | inl twice ↦ never_twice (ids new) id fresh.once twice
  | inr both ↦
      let r = contained_in_map (λ (b : Beam). b.id) new id both.0 in
      All-contains (λ (b : Beam). ¬ HasId old b.id) new r.0 fresh.inactive r.1 (subst (HasId old) (sym r.2) both.1)
]

few_not_too_many : (most : ℕ) (beams : List Beam) (id : ℕ) → length beams ≤ most → ¬ IsOneTooMany most beams id
few_not_too_many most beams id few h = let count = count_by-le-length (λ (b : Beam). leb b.id id) beams in let more = h.1 in absurd (omega arith)

placed_on_field : (gap : ℕ) (beams : List Beam) (id : ℕ) → ArePlaced gap beams → ¬ IsOffField beams id
placed_on_field gap beams id placed h =
    let r = any_contained (λ (b : Beam). (b.id ≡ id) × (1000000 < b.at)) beams h in
    let on = All-contains (λ (b : Beam). b.at ≤ 1000000) beams r.0 placed.on_the_field r.1 in
    let off : 1000000 < r.0.at = r.2.1 in
    absurd (omega arith)

placed_apart : (gap : ℕ) (beams : List Beam) (k : ℕ) (lower upper : Beam) → ArePlaced gap beams → slice_get beams k ≡ Some lower → slice_get beams (k + 1) ≡ Some upper → lower.at + gap ≤ upper.at
placed_apart gap beams k lower upper placed at_lower at_upper =
    let below = slice_get_within beams (k + 1) upper at_upper in
    let apart = placed.spaced k lower below in
    subst (λ (b : Beam). b.at + gap ≤ upper.at) (get_or_from_slice_get beams k lower lower at_lower)
    (subst (λ (b : Beam). (get_or beams k lower).at + gap ≤ b.at) (get_or_from_slice_get beams (k + 1) upper lower at_upper) apart)

in_order : (gap : ℕ) (beams : List Beam) (k : ℕ) (lower upper : Beam) → 1 ≤ gap → ArePlaced gap beams → slice_get beams k ≡ Some lower → slice_get beams (k + 1) ≡ Some upper → ¬ (upper.at ≤ lower.at)
in_order gap beams k lower upper least placed at_lower at_upper h = let apart = placed_apart gap beams k lower upper placed at_lower at_upper in absurd (omega arith)

not_too_near : (gap : ℕ) (beams : List Beam) (k : ℕ) (lower upper : Beam) → ArePlaced gap beams → slice_get beams k ≡ Some lower → slice_get beams (k + 1) ≡ Some upper → ¬ (upper.at < lower.at + gap)
not_too_near gap beams k lower upper placed at_lower at_upper h = let apart = placed_apart gap beams k lower upper placed at_lower at_upper in absurd (omega arith)

-- what holds of rows and of columns holds along each axis
pub each_axis : (P : Axis → Type 0) → P Row → P Column → (axis : Axis) → P axis
each_axis P row column Row = row
each_axis P row column Column = column

no_list : (k : ℕ) (b : Beam) → slice_get [] k ≡ Some b → ⊥
no_list k b e = cc

-- a qubit that the pairs name is one of a pair's two
contained_in_pairs : (pairs : List PairOf) (n : ℕ) → Contains (flat_map (λ (p : PairOf). p.a ∷ p.b ∷ []) pairs) n → (p : PairOf) × Contains pairs p × ((p.a ≡ n) ⊎ (p.b ≡ n))
contained_in_pairs [] n h = absurd (contains_none n h)
contained_in_pairs (p ∷ ps) n h = elim (contains_cases p.a n (p.b ∷ flat_map (λ (p : PairOf). p.a ∷ p.b ∷ []) ps) h) [
  | inl e ↦ (p, contains_here p ps, inl e)
  | inr later ↦ elim (contains_cases p.b n (flat_map (λ (p : PairOf). p.a ∷ p.b ∷ []) ps) later) [
    | inl e ↦ (p, contains_here p ps, inr e)
    | inr rest ↦ let r = contained_in_pairs ps n rest in (r.0, contains_later p r.0 ps r.1, r.2)
  ]
]

module _ (a : Architecture) (s : State) (gap_least : 1 ≤ a.figures.gap) (one_trap : (t u : ℕ) (p : Point) → StandsAt a t p → StandsAt a u p → t ≡ u) where
  module _ (aod : ℕ) (rows columns : List Beam) (atoms : List Caught) (legal : IsLegal a s (Activate aod rows columns atoms)) where
    abbrev after_along : Axis → List Beam
    after_along axis = with_beams (along axis rows columns) (active s aod axis)

    placed_along : (axis : Axis) → ArePlaced a.figures.gap (after_along axis)
    placed_along = each_axis (λ axis. ArePlaced a.figures.gap (after_along axis)) legal.rows_placed legal.columns_placed

    few_along : (axis : Axis) → length (after_along axis) ≤ along axis a.figures.rows a.figures.columns
    few_along = each_axis (λ axis. length (after_along axis) ≤ along axis a.figures.rows a.figures.columns) legal.few_rows legal.few_columns

    fresh_along : (axis : Axis) → AreFresh (along axis rows columns) (active s aod axis)
    fresh_along = each_axis (λ axis. AreFresh (along axis rows columns) (active s aod axis)) legal.rows_fresh legal.columns_fresh

    picked : (c : Caught) → Contains atoms c → Picks a s aod rows columns (after_along Row) (after_along Column) c
    picked c in_atoms = All-contains (Picks a s aod rows columns (after_along Row) (after_along Column)) atoms c legal.picks in_atoms

    named_along : (c : Caught) → Contains atoms c → (axis : Axis) → HasId (after_along axis) (named_beam axis c)
    named_along c in_atoms =
        let p = picked c in_atoms in
        each_axis (λ axis. HasId (after_along axis) (named_beam axis c))
        (subst (HasId (after_along Row)) p.row_named (has_id (after_along Row) p.row p.row_active))
        (subst (HasId (after_along Column)) p.column_named (has_id (after_along Column) p.column p.column_active))

    caught_once : (c d : Caught) (i j : ℕ) → i < j → slice_get atoms i ≡ Some c → slice_get atoms j ≡ Some d → ¬ AreSameCatch c d
    caught_once c d i j before at_c at_d same =
        let r = legal.once i j c before (slice_get_within atoms j d at_d) in
        let ec : get_or atoms i c ≡ c = get_or_from_slice_get atoms i c c at_c in
        let ed : get_or atoms j c ≡ d = get_or_from_slice_get atoms j d c at_d in
        let other : (c.q ≢ d.q) × ¬ ((c.row ≡ d.row) × (c.column ≡ d.column)) =
        subst (λ (x : Caught). (x.q ≢ d.q) × ¬ ((x.row ≡ d.row) × (x.column ≡ d.column))) ec
        (subst (λ (y : Caught). ((get_or atoms i c).q ≢ y.q) × ¬ (((get_or atoms i c).row ≡ y.row) × ((get_or atoms i c).column ≡ y.column))) ed r) in
        elim same [ inl e ↦ other.0 e | inr e ↦ other.1 e ]

    turned : (c d : Caught) → AreSameCatch c d → AreSameCatch d c
    turned c d h = elim h [ inl e ↦ inl (sym e) | inr e ↦ inr (sym e.0, sym e.1) ]

    pub activate_unbroken : (fault : MachineFault) → ¬ Breaks a s (Activate aod rows columns atoms) fault
    activate_unbroken (Unknown n) h = elim h [
      | inl x ↦ let e = only_one aod n x.0 in let most = x.1 in let known = legal.known in absurd (omega arith)
      | inr y ↦ elim y [
        | inl x ↦
            let r = contained_in_map (λ (c : Caught). c.q) atoms n x.0 in
            let p = picked r.0 r.1 in
            let lt = slice_get_within s.places r.0.q (Trap p.trap) p.rests in
            let e = r.2 in
            let most = x.1 in
            absurd (omega arith)
        | inr x ↦ absurd (contains_none n x.0)
      ]
    ]
    activate_unbroken (Busy b) h = fresh_not_busy (along b.axis rows columns) (active s aod b.axis) b.id (fresh_along b.axis) h
    activate_unbroken (NotActive b) h =
        let r = any_contained (λ (c : Caught). named_beam b.axis c ≡ b.id) atoms h.0 in
        h.1 (subst (HasId (after_along b.axis)) r.2 (named_along r.0 r.1 b.axis))
    activate_unbroken (Limit b) h = elim h [
      | inl x ↦ few_not_too_many (along b.axis a.figures.rows a.figures.columns) (after_along b.axis) b.id (few_along b.axis) x
      | inr x ↦ placed_on_field a.figures.gap (after_along b.axis) b.id (placed_along b.axis) x
    ]
    activate_unbroken (Order b) h = in_order a.figures.gap (after_along b.axis) h.2.0 h.0 h.1 gap_least (placed_along b.axis) h.2.1 h.2.2 h.3
    activate_unbroken (Gap b) h = not_too_near a.figures.gap (after_along b.axis) h.2.0 h.0 h.1 (placed_along b.axis) h.2.1 h.2.2 h.4
    activate_unbroken (Touch r c) h = let t = h.6 in t.2 (legal.clear h.0 h.1 h.2 h.3 t.0 t.1)
    activate_unbroken (PickWrong q) h = elim (h.4) [
      | inl wrong ↦ wrong (picked h.0 (contained_at atoms h.1 h.0 h.2))
      | inr again ↦ elim (cases_order h.1 again.1) [
        | inl e ↦ again.3 e
        | inr other ↦ elim other [
          | inl before ↦ caught_once h.0 again.0 h.1 again.1 before h.2 again.2 again.4
          | inr behind ↦ caught_once again.0 h.0 again.1 h.1 behind again.2 h.2 (turned h.0 again.0 again.4)
        ]
      ]
    ]
    activate_unbroken (DropWrong q) h = h
    activate_unbroken (TrapFull q trap) h = h
    activate_unbroken (PairWrong q r) h = h
    activate_unbroken (LitAlone q) h = h
    activate_unbroken (NotAtRest q) h = h
    activate_unbroken (Crossing k r c) h = h

  module _ (aod : ℕ) (rows columns : List Beam) (legal : IsLegal a s (Move aod rows columns)) where
    moved_placed : (axis : Axis) → ArePlaced a.figures.gap (with_beams (along axis rows columns) [])
    moved_placed = each_axis (λ axis. ArePlaced a.figures.gap (with_beams (along axis rows columns) [])) legal.rows_placed legal.columns_placed

    listed_along : (axis : Axis) → ListsActive (along axis rows columns) (active s aod axis)
    listed_along = each_axis (λ axis. ListsActive (along axis rows columns) (active s aod axis)) legal.rows_listed legal.columns_listed

    pub move_unbroken : (fault : MachineFault) → ¬ Breaks a s (Move aod rows columns) fault
    move_unbroken (Unknown n) h = elim h [
      | inl x ↦ let e = only_one aod n x.0 in let most = x.1 in let known = legal.known in absurd (omega arith)
      | inr y ↦ elim y [ inl x ↦ absurd (contains_none n x.0) | inr x ↦ absurd (contains_none n x.0) ]
    ]
    move_unbroken (Busy b) h = never_twice (ids (along b.axis rows columns)) b.id (listed_along b.axis).once h
    move_unbroken (NotActive b) h = elim h [
      | inl x ↦
          let r = contained_in_map (λ (b : Beam). b.id) (along b.axis rows columns) b.id x.0 in
          x.1 (subst (HasId (active s aod b.axis)) r.2 (All-contains (λ (x : Beam). HasId (active s aod b.axis) x.id) (along b.axis rows columns) r.0 (listed_along b.axis).only r.1))
      | inr x ↦
          let r = contained_in_map (λ (b : Beam). b.id) (active s aod b.axis) b.id x.0 in
          x.1 (subst (HasId (along b.axis rows columns)) r.2 (All-contains (λ (x : Beam). HasId (along b.axis rows columns) x.id) (active s aod b.axis) r.0 (listed_along b.axis).all r.1))
    ]
    move_unbroken (Limit b) h = placed_on_field a.figures.gap (with_beams (along b.axis rows columns) []) b.id (moved_placed b.axis) h
    move_unbroken (Order b) h = in_order a.figures.gap (with_beams (along b.axis rows columns) []) h.2.0 h.0 h.1 gap_least (moved_placed b.axis) h.2.1 h.2.2 h.3
    move_unbroken (Gap b) h = not_too_near a.figures.gap (with_beams (along b.axis rows columns) []) h.2.0 h.0 h.1 (moved_placed b.axis) h.2.1 h.2.2 h.4
    move_unbroken (Touch r c) h =
        let t = h.6 in
        elim (legal.crossings h.0 h.1 h.2 h.3) [
          | inl clear ↦ t.0 clear
          | inr carries ↦ t.1 (record { q = carries.q; holds = carries.holds; trap = carries.trap.0; exact = carries.exact; free = carries.free })
        ]
    move_unbroken (PickWrong q) h = h
    move_unbroken (DropWrong q) h = h
    move_unbroken (TrapFull q trap) h = elim (legal.crossings h.0 h.1 h.2 h.3) [
      | inl clear ↦ clear_of_trap a s aod trap.0 (crossing h.0 h.1) clear h.5
      | inr carries ↦
          let same : trap ≡ carries.trap = same_trap trap carries.trap (one_trap trap.0 carries.trap.0 (crossing h.0 h.1) h.5 carries.exact) in
          carries.empty h.6.0 (subst (λ (t : TrapId). IsAt s h.6.0 (Trap t)) same h.6.1)
    ]
    move_unbroken (PairWrong q r) h = h
    move_unbroken (LitAlone q) h = h
    move_unbroken (NotAtRest q) h = h
    move_unbroken (Crossing k r c) h = h

  module _ (aod : ℕ) (rows columns : List ℕ) (atoms : List Dropped) (legal : IsLegal a s (Deactivate aod rows columns atoms)) where
    dropped : (d : Dropped) → Contains atoms d → Drops a s aod rows columns d
    dropped d in_atoms = All-contains (Drops a s aod rows columns) atoms d legal.drops in_atoms

    once_along : (axis : Axis) → AreOnce (along axis rows columns)
    once_along = each_axis (λ axis. AreOnce (along axis rows columns)) legal.rows_once legal.columns_once

    active_along : (axis : Axis) → All (HasId (active s aod axis)) (along axis rows columns)
    active_along = each_axis (λ axis. All (HasId (active s aod axis)) (along axis rows columns)) legal.rows_active legal.columns_active

    pub deactivate_unbroken : (fault : MachineFault) → ¬ Breaks a s (Deactivate aod rows columns atoms) fault
    deactivate_unbroken (Unknown n) h = elim h [
      | inl x ↦ let e = only_one aod n x.0 in let most = x.1 in let known = legal.known in absurd (omega arith)
      | inr y ↦ elim y [
        | inl x ↦
            let r = contained_in_map (λ (d : Dropped). d.q) atoms n x.0 in
            let p = dropped r.0 r.1 in
            let lt = slice_get_within s.places r.0.q (Held aod p.row.id p.column.id) p.held in
            let e = r.2 in
            let most = x.1 in
            absurd (omega arith)
        | inr x ↦
            let r = contained_in_map (λ (d : Dropped). d.trap.0) atoms n x.0 in
            let p = dropped r.0 r.1 in
            let lt = slice_get_within (trap_points a) r.0.trap.0 (crossing p.row p.column) p.exact in
            let e = r.2 in
            let most = x.1 in
            absurd (omega arith)
      ]
    ]
    deactivate_unbroken (Busy b) h = never_twice (along b.axis rows columns) b.id (once_along b.axis) h
    deactivate_unbroken (NotActive b) h = h.1 (All-contains (HasId (active s aod b.axis)) (along b.axis rows columns) b.id (active_along b.axis) h.0)
    deactivate_unbroken (Limit b) h = h
    deactivate_unbroken (Order b) h = no_list h.2.0 h.0 h.2.1
    deactivate_unbroken (Gap b) h = no_list h.2.0 h.0 h.2.1
    deactivate_unbroken (Touch r c) h = h.6
    deactivate_unbroken (PickWrong q) h = h
    deactivate_unbroken (DropWrong q) h = elim h [
      | inl x ↦ x.4 (legal.all q x.0 x.1 x.2 x.3)
      | inr y ↦ elim y [
        | inl x ↦ let r = any_contained (λ (d : Dropped). (d.q ≡ q) × ¬ Drops a s aod rows columns d) atoms x in r.2.1 (dropped r.0 r.1)
        | inr x ↦ never_twice (map (λ (d : Dropped). d.q) atoms) q legal.once x
      ]
    ]
    deactivate_unbroken (TrapFull q trap) h = h
    deactivate_unbroken (PairWrong q r) h = h
    deactivate_unbroken (LitAlone q) h = h
    deactivate_unbroken (NotAtRest q) h = h
    deactivate_unbroken (Crossing k r c) h = h

  pub one_unbroken : (gate : OneGate) → IsLegal a s (One gate) → (fault : MachineFault) → ¬ Breaks a s (One gate) fault
  one_unbroken gate legal (Unknown n) h = elim h [
    | inl x ↦ absurd (contains_none n x.0)
    | inr y ↦ elim y [
      | inl x ↦
          let e = only_one gate.q n x.0 in
          let lt = slice_get_within s.places gate.q (Trap legal.0) legal.1 in
          let most = x.1 in
          absurd (omega arith)
      | inr x ↦ absurd (contains_none n x.0)
    ]
  ]
  one_unbroken gate legal (Busy b) h = h
  one_unbroken gate legal (NotActive b) h = h
  one_unbroken gate legal (Limit b) h = h
  one_unbroken gate legal (Order b) h = no_list h.2.0 h.0 h.2.1
  one_unbroken gate legal (Gap b) h = no_list h.2.0 h.0 h.2.1
  one_unbroken gate legal (Touch r c) h = h.6
  one_unbroken gate legal (PickWrong q) h = h
  one_unbroken gate legal (DropWrong q) h = h
  one_unbroken gate legal (TrapFull q trap) h = h
  one_unbroken gate legal (PairWrong q r) h = h
  one_unbroken gate legal (LitAlone q) h = h
  one_unbroken gate legal (NotAtRest q) h =
      let held : slice_get s.places gate.q ≡ Some (Held h.1.0 h.1.1 h.1.2) = subst (λ (n : ℕ). slice_get s.places n ≡ Some (Held h.1.0 h.1.1 h.1.2)) (sym h.0) h.1.3 in
      not_two (Trap legal.0) h.1.0 h.1.1 h.1.2 legal.0 ⊥ (sym legal.1 ∙ held) refl
  one_unbroken gate legal (Crossing k r c) h = h

  pub readout_unbroken : (reads : List ReadOf) → IsLegal a s (Readout reads) → (fault : MachineFault) → ¬ Breaks a s (Readout reads) fault
  readout_unbroken reads legal (Unknown n) h = elim h [
    | inl x ↦ absurd (contains_none n x.0)
    | inr y ↦ elim y [
      | inl x ↦
          let r = contained_in_map (λ (r : ReadOf). r.q) reads n x.0 in
          let rests = All-contains (λ (r : ReadOf). Rests s r.q) reads r.0 legal r.1 in
          let lt = slice_get_within s.places r.0.q (Trap rests.0) rests.1 in
          let e = r.2 in
          let most = x.1 in
          absurd (omega arith)
      | inr x ↦ absurd (contains_none n x.0)
    ]
  ]
  readout_unbroken reads legal (Busy b) h = h
  readout_unbroken reads legal (NotActive b) h = h
  readout_unbroken reads legal (Limit b) h = h
  readout_unbroken reads legal (Order b) h = no_list h.2.0 h.0 h.2.1
  readout_unbroken reads legal (Gap b) h = no_list h.2.0 h.0 h.2.1
  readout_unbroken reads legal (Touch r c) h = h.6
  readout_unbroken reads legal (PickWrong q) h = h
  readout_unbroken reads legal (DropWrong q) h = h
  readout_unbroken reads legal (TrapFull q trap) h = h
  readout_unbroken reads legal (PairWrong q r) h = h
  readout_unbroken reads legal (LitAlone q) h = h
  readout_unbroken reads legal (NotAtRest q) h =
      let r = any_contained (λ (r : ReadOf). r.q ≡ q) reads h.0 in
      let rests = All-contains (λ (r : ReadOf). Rests s r.q) reads r.0 legal r.1 in
      let held : slice_get s.places r.0.q ≡ Some (Held h.1.0 h.1.1 h.1.2) = subst (λ (n : ℕ). slice_get s.places n ≡ Some (Held h.1.0 h.1.1 h.1.2)) (sym r.2) h.1.3 in
      not_two (Trap rests.0) h.1.0 h.1.1 h.1.2 rests.0 ⊥ (sym rests.1 ∙ held) refl
  readout_unbroken reads legal (Crossing k r c) h = h

  module _ (pairs : List PairOf) (legal : IsLegal a s (Pulse pairs)) where
    turned_range : (q r : ℕ) → AreInRange a s q r → AreInRange a s r q
    turned_range q r h = record {
      two = λ e. h.two (sym e);
      q_at = h.r_at;
      r_at = h.q_at;
      q_rests = h.r_rests;
      r_rests = h.q_rests;
      near = within_back a.figures.radius h.q_at h.r_at h.near;
    }

    of_pair : (p : PairOf) (q r : ℕ) → IsPairOf p q r → AreInRange a s p.a p.b → AreInRange a s q r
    of_pair p q r h range = elim h [
      | inl e ↦ subst (λ (n : ℕ). AreInRange a s n r) e.0 (subst (λ (m : ℕ). AreInRange a s p.a m) e.1 range)
      | inr e ↦ turned_range r q (subst (λ (n : ℕ). AreInRange a s n q) e.0 (subst (λ (m : ℕ). AreInRange a s p.a m) e.1 range))
    ]

    -- two entries that are the pair q and r in some order are the same pair
    same_pair : (p p' : PairOf) (q r : ℕ) → IsPairOf p q r → IsPairOf p' q r → IsPairOf p' p.a p.b
    same_pair p p' q r h h' = elim h [
      | inl e ↦ elim h' [ inl f ↦ inl (f.0 ∙ sym e.0, f.1 ∙ sym e.1) | inr f ↦ inr (f.0 ∙ sym e.1, f.1 ∙ sym e.0) ]
      | inr e ↦ elim h' [ inl f ↦ inr (f.0 ∙ sym e.1, f.1 ∙ sym e.0) | inr f ↦ inl (f.0 ∙ sym e.0, f.1 ∙ sym e.1) ]
    ]

    lit_known : (q : ℕ) (p : Point) → RestsLit a s q p → q < length s.places
    lit_known q p h = slice_get_within s.places q (Trap h.0) h.1

    pair_once : (p p' : PairOf) (i j : ℕ) → i < j → slice_get pairs i ≡ Some p → slice_get pairs j ≡ Some p' → ¬ IsPairOf p' p.a p.b
    pair_once p p' i j before at_p at_p' same =
        let r = legal.in_range.once i j p before (slice_get_within pairs j p' at_p') in
        let ep : get_or pairs i p ≡ p = get_or_from_slice_get pairs i p p at_p in
        let ep' : get_or pairs j p ≡ p' = get_or_from_slice_get pairs j p' p at_p' in
        r (subst (λ (x : PairOf). IsPairOf x (get_or pairs i p).a (get_or pairs i p).b) (sym ep') (subst (λ (x : PairOf). IsPairOf p' x.a x.b) (sym ep) same))

    pub pulse_unbroken : (fault : MachineFault) → ¬ Breaks a s (Pulse pairs) fault
    pulse_unbroken (Unknown n) h = elim h [
      | inl x ↦ absurd (contains_none n x.0)
      | inr y ↦ elim y [
        | inl x ↦
            let r = contained_in_pairs pairs n x.0 in
            let range = All-contains (λ (p : PairOf). AreInRange a s p.a p.b) pairs r.0 legal.in_range.only r.1 in
            let lt_a = lit_known r.0.a range.q_at range.q_rests in
            let lt_b = lit_known r.0.b range.r_at range.r_rests in
            let most = x.1 in
            elim (r.2) [ inl e ↦ absurd (omega arith) | inr e ↦ absurd (omega arith) ]
        | inr x ↦ absurd (contains_none n x.0)
      ]
    ]
    pulse_unbroken (Busy b) h = h
    pulse_unbroken (NotActive b) h = h
    pulse_unbroken (Limit b) h = h
    pulse_unbroken (Order b) h = no_list h.2.0 h.0 h.2.1
    pulse_unbroken (Gap b) h = no_list h.2.0 h.0 h.2.1
    pulse_unbroken (Touch r c) h = h.6
    pulse_unbroken (PickWrong q) h = h
    pulse_unbroken (DropWrong q) h = h
    pulse_unbroken (TrapFull q trap) h = h
    pulse_unbroken (PairWrong q r) h = elim (h.1) [
      | inl x ↦ pair_once x.2 x.3 x.0 x.1 x.4 x.5 x.6 (same_pair x.2 x.3 q r x.7 x.8)
      | inr y ↦ elim y [
        | inl x ↦
            let l = any_contained (λ (p : PairOf). IsPairOf p q r) pairs x.0 in
            x.1 (of_pair l.0 q r l.2 (All-contains (λ (p : PairOf). AreInRange a s p.a p.b) pairs l.0 legal.in_range.only l.1))
        | inr x ↦ x.1 (legal.in_range.all q r x.0)
      ]
    ]
    pulse_unbroken (LitAlone q) h = h.1 (legal.none_alone q h.0.0 h.0.1)
    pulse_unbroken (NotAtRest q) h = h
    pulse_unbroken (Crossing k r c) h = legal.dark k h.0 h.1 h.2 h.3 h.6

  pub unbroken : (step : Step) → IsLegal a s step → (fault : MachineFault) → ¬ Breaks a s step fault
  unbroken (Activate aod rows columns atoms) legal = activate_unbroken aod rows columns atoms legal
  unbroken (Move aod rows columns) legal = move_unbroken aod rows columns legal
  unbroken (Deactivate aod rows columns atoms) legal = deactivate_unbroken aod rows columns atoms legal
  unbroken (One gate) legal = one_unbroken gate legal
  unbroken (Pulse pairs) legal = pulse_unbroken pairs legal
  unbroken (Readout reads) legal = readout_unbroken reads legal
