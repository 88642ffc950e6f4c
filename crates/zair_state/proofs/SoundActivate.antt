-- A legal activate keeps a state sound.
use Rattle.std.proofs.Common.{◌≡◌, ◌≢◌, ℕ, ◌<◌, ◌≤◌, ◌⊎◌, inl, inr, List, Some, length, refl, sym, ap, ◌∙◌, subst, slice_get, length-set}
use Rattle.std.specs.List.{AllPairs, Contains}
use Rattle.std.proofs.lemmas.Bool.{cases_eq}
use Rattle.std.proofs.lemmas.List.Elements.{All-contains}
use Rattle.zac_arch.specs.Architecture.{Architecture, trap_count}
use Rattle.zac_arch.specs.declared.place.TrapId.{TrapId}
use Rattle.zair_form.specs.declared.step.Beam.{Beam}
use Rattle.zair_form.specs.declared.step.Caught.{Caught}
use Rattle.zair_form.specs.declared.step.Step.TheVariants.{Activate}
use Rattle.zair_state.specs.declared.place.Place.{Place}
use Rattle.zair_state.specs.declared.place.Place.TheVariants.{Trap, Held}
use Rattle.zair_state.specs.State.{State, Beams, beams_of, IsAt, HasId, crossing, EachCrossing, IsFreeOfOthers, ArePlaced}
use Rattle.zair_state.specs.Legal.{IsLegal, AreFresh, Picks, CarriesOverEmptyTrap}
use Rattle.zair_state.specs.Result.{after, with_beams}
use Rattle.zair_state.specs.Invariant.{IsSound, IsOutOfReach, IsActive, AreInOrder}
use Rattle.zair_state.proofs.Membership.{any_or_none, any_contained, one_or_related}
use Rattle.zair_state.proofs.BeamLists.{contained_in_with_beams, with_beams_old, rising_with_beams, has_id, beam_of_id, one_of_id}
use Rattle.zair_state.proofs.Placing.{IsCaught, after_catching_at, not_caught_stays, caught_is_held}
use Rattle.zair_state.proofs.Changing.{Changes, changes_of, each_aod, stays_free, stays_clear, others_stay_free}

-- what a place asks of the beams
abbrev pub IsActiveAt : State → Place → Type 0
IsActiveAt s (Trap t) = Unit {0}
IsActiveAt s (Held aod row column) = IsActive s aod row column

in_order : (gap most : ℕ) (new old : List Beam) → AreFresh new old → AreInOrder gap most old → length (with_beams new old) ≤ most → ArePlaced gap (with_beams new old) → AreInOrder gap most (with_beams new old)
in_order gap most new old fresh h few placed = record {
  few = few;
  rising = rising_with_beams new old fresh.once (λ b in_new. All-contains (λ (b : Beam). ¬ HasId old b.id) new b fresh.inactive in_new) h.rising;
  placed = placed;
}

id_not_active : (new old : List Beam) (id : ℕ) → AreFresh new old → HasId new id → ¬ HasId old id
id_not_active new old id fresh h active =
    let r = beam_of_id new id h in
    All-contains (λ (b : Beam). ¬ HasId old b.id) new r.0 fresh.inactive r.1 (subst (HasId old) (sym r.2) active)

id_stays : (new old : List Beam) (id : ℕ) → HasId old id → HasId (with_beams new old) id
id_stays new old id h =
    let r = beam_of_id old id h in
    subst (HasId (with_beams new old)) r.2 (has_id (with_beams new old) r.0 (with_beams_old new old r.0 r.1))

-- the atom's crossing is that of these beams
abbrev IsAtCrossing : Beam → Beam → Caught → Type 0
IsAtCrossing row column c = (c.row ≡ row.id) × (c.column ≡ column.id)

is_or_not : (row column : Beam) (c : Caught) → IsAtCrossing row column c ⊎ ¬ IsAtCrossing row column c
is_or_not row column c = elim (cases_eq c.row row.id) [
  | inl e ↦ elim (cases_eq c.column column.id) [ inl f ↦ inl (e, f) | inr ne ↦ inr (λ h. ne h.1) ]
  | inr ne ↦ inr (λ h. ne h.0)
]

not_both : (aod row column : ℕ) (t : TrapId) (P : Type 0) → Held aod row column ≡ Trap t → P
not_both aod row column t P e = absurd (cc)

pub not_two : (p : Place) (aod row column : ℕ) (t : TrapId) (P : Type 0) → Some p ≡ Some (Held aod row column) → Some p ≡ Some (Trap t) → P
not_two p aod row column t P e f = absurd (cc)

same_row : (aod row column aod' row' column' : ℕ) → Held aod row column ≡ Held aod' row' column' → row ≡ row'
same_row aod row column aod' row' column' e = cc

same_column : (aod row column aod' row' column' : ℕ) → Held aod row column ≡ Held aod' row' column' → column ≡ column'
same_column aod row column aod' row' column' e = cc

-- of two listed atoms no two name one crossing
abbrev AreDistinct : Caught → Caught → Type 0
AreDistinct c d = (c.q ≢ d.q) × ¬ ((c.row ≡ d.row) × (c.column ≡ d.column))

module _ (a : Architecture) (s : State) (aod : ℕ) (rows columns : List Beam) (atoms : List Caught) (sound : IsSound a s) (legal : IsLegal a s (Activate aod rows columns atoms)) where
  abbrev all_rows : List Beam
  all_rows = with_beams rows (beams_of s aod).rows

  abbrev all_columns : List Beam
  all_columns = with_beams columns (beams_of s aod).columns

  abbrev target : Beams
  target = record { rows = all_rows; columns = all_columns }

  abbrev next : State
  next = after s (Activate aod rows columns atoms)

  change : Changes s next aod target
  change = changes_of s next aod target legal.known refl

  rows_in_order : AreInOrder a.figures.gap a.figures.rows all_rows
  rows_in_order = in_order a.figures.gap a.figures.rows rows (beams_of s aod).rows legal.rows_fresh (sound.rows aod) legal.few_rows legal.rows_placed

  columns_in_order : AreInOrder a.figures.gap a.figures.columns all_columns
  columns_in_order = in_order a.figures.gap a.figures.columns columns (beams_of s aod).columns legal.columns_fresh (sound.columns aod) legal.few_columns legal.columns_placed

  picked : (c : Caught) → Contains atoms c → Picks a s aod rows columns all_rows all_columns c
  picked c in_atoms = All-contains (Picks a s aod rows columns all_rows all_columns) atoms c legal.picks in_atoms

  -- no atom was held at a crossing that is new
  was_inactive : (c : Caught) → Contains atoms c → ¬ IsActive s aod c.row c.column
  was_inactive c in_atoms active = elim ((picked c in_atoms).new) [
    | inl h ↦ id_not_active rows (beams_of s aod).rows c.row legal.rows_fresh h active.0
    | inr h ↦ id_not_active columns (beams_of s aod).columns c.column legal.columns_fresh h active.1
  ]

  in_traps : (q : ℕ) (t : TrapId) → IsAt next q (Trap t) → t.0 < trap_count a
  in_traps q t h = elim (after_catching_at aod atoms s.places q (Trap t) h) [
    | inl r ↦ not_both aod r.0.row r.0.column t (t.0 < trap_count a) r.3
    | inr r ↦ sound.in_traps q t r.1
  ]

  one_caught : (c d : Caught) → Contains atoms c → Contains atoms d → Held aod c.row c.column ≡ Held aod d.row d.column → c.q ≡ d.q
  one_caught c d in_c in_d e =
      let row = same_row aod c.row c.column aod d.row d.column e in
      let column = same_column aod c.row c.column aod d.row d.column e in
      elim (one_or_related AreDistinct atoms c d legal.once in_c in_d) [
        | inl same ↦ ap (λ (x : Caught). x.q) same
        | inr related ↦ elim related [ inl r ↦ absurd (r.1 (row, column)) | inr r ↦ absurd (r.1 (sym row, sym column)) ]
      ]

  -- no atom that stays is at a listed atom's crossing
  none_stays : (c : Caught) (r : ℕ) (place : Place) → Contains atoms c → Held aod c.row c.column ≡ place → ¬ IsAt s r place
  none_stays c r place in_atoms e h =
      was_inactive c in_atoms (sound.held r aod c.row c.column (subst (λ (p : Place). IsAt s r p) (sym e) h))

  apart : (q r : ℕ) (place : Place) → IsAt next q place → IsAt next r place → q ≡ r
  apart q r place at_q at_r = elim (after_catching_at aod atoms s.places q place at_q) [
    | inl x ↦ elim (after_catching_at aod atoms s.places r place at_r) [
      | inl y ↦ sym x.2 ∙ one_caught x.0 y.0 x.1 y.1 (x.3 ∙ sym y.3) ∙ y.2
      | inr y ↦ absurd (none_stays x.0 r place x.1 x.3 y.1)
    ]
    | inr x ↦ elim (after_catching_at aod atoms s.places r place at_r) [
      | inl y ↦ absurd (none_stays y.0 q place y.1 y.3 x.1)
      | inr y ↦ sound.apart q r place x.1 y.1
    ]
  ]

  caught_active : (c : Caught) → Contains atoms c → IsActive next aod c.row c.column
  caught_active c in_atoms =
      let p = picked c in_atoms in
      subst (λ (b : Beams). HasId b.rows c.row × HasId b.columns c.column) (sym change.there)
      (subst (HasId all_rows) p.row_named (has_id all_rows p.row p.row_active), subst (HasId all_columns) p.column_named (has_id all_columns p.column p.column_active))

  stays_active : (k row column : ℕ) → IsActive s k row column → IsActive next k row column
  stays_active k row column active = elim (cases_eq k aod) [
    | inl e ↦
        let now : beams_of next k ≡ target = ap (λ (n : ℕ). beams_of next n) e ∙ change.there in
        let was : IsActive s aod row column = subst (λ (n : ℕ). IsActive s n row column) e active in
        subst (λ (b : Beams). HasId b.rows row × HasId b.columns column) (sym now)
        (id_stays rows (beams_of s aod).rows row was.0, id_stays columns (beams_of s aod).columns column was.1)
    | inr ne ↦ subst (λ (b : Beams). HasId b.rows row × HasId b.columns column) (sym (change.elsewhere k ne)) active
  ]

  held : (q k row column : ℕ) → IsAt next q (Held k row column) → IsActive next k row column
  held q k row column h = elim (after_catching_at aod atoms s.places q (Held k row column) h) [
    | inl r ↦ subst (IsActiveAt next) r.3 (caught_active r.0 r.1)
    | inr r ↦ stays_active k row column (sound.held q k row column r.1)
  ]

  -- what a crossing carried it carries still
  carries_still : (k : ℕ) (row column : Beam) → IsFreeOfOthers a next k (crossing row column) → CarriesOverEmptyTrap a s k row column → CarriesOverEmptyTrap a next k row column
  carries_still k row column free h = record {
    q = h.q;
    holds =
        let unlisted : ¬ IsCaught atoms h.q = λ c.
        let rests : slice_get s.places h.q ≡ Some (Trap (picked c.0 c.1).trap) = subst (λ (n : ℕ). slice_get s.places n ≡ Some (Trap (picked c.0 c.1).trap)) c.2 (picked c.0 c.1).rests in
        not_two (Held k row.id column.id) k row.id column.id (picked c.0 c.1).trap ⊥ refl (sym h.holds ∙ rests) in
        not_caught_stays aod atoms s.places h.q unlisted ∙ h.holds;
    trap = h.trap;
    exact = h.exact;
    empty = λ r there. elim (after_catching_at aod atoms s.places r (Trap h.trap) there) [
      | inl x ↦ not_both aod x.0.row x.0.column h.trap ⊥ x.3
      | inr x ↦ h.empty r x.1
    ];
    free = free;
  }

  -- a listed atom's crossing carries it over the trap that it leaves
  carries_now : (c : Caught) → (in_atoms : Contains atoms c) → CarriesOverEmptyTrap a next aod (picked c in_atoms).row (picked c in_atoms).column
  carries_now c in_atoms =
      let p = picked c in_atoms in
      let once : AllPairs (λ (c d : Caught). c.q ≢ d.q) atoms = λ i j d before within. (legal.once i j d before within).0 in
      let there : slice_get next.places c.q ≡ Some (Held aod c.row c.column) = caught_is_held aod atoms s.places c (Trap p.trap) once in_atoms p.rests in
      record {
        q = c.q;
        holds = subst (λ (n : ℕ). slice_get next.places c.q ≡ Some (Held aod n p.column.id)) (sym p.row_named)
            (subst (λ (n : ℕ). slice_get next.places c.q ≡ Some (Held aod c.row n)) (sym p.column_named) there);
        trap = p.trap;
        exact = p.exact;
        empty = λ r rests. elim (after_catching_at aod atoms s.places r (Trap p.trap) rests) [
          | inl x ↦ not_both aod x.0.row x.0.column p.trap ⊥ x.3
          | inr x ↦ x.0 (c, in_atoms, sound.apart c.q r (Trap p.trap) p.rests x.1)
        ];
        free = stays_free a s next aod target (crossing p.row p.column) change p.free;
      }

  -- a new crossing is free of others, and clear or over the trap of the atom that it caught
  new_crossing : (row column : Beam) → Contains all_rows row → Contains all_columns column → HasId rows row.id ⊎ HasId columns column.id →
      IsFreeOfOthers a s aod (crossing row column) × IsOutOfReach a next aod row column
  new_crossing row column in_rows in_columns new = elim (any_or_none (IsAtCrossing row column) atoms (is_or_not row column)) [
    | inl listed ↦
        let r = any_contained (IsAtCrossing row column) atoms listed in
        let p = picked r.0 r.1 in
        let this_row : p.row ≡ row = one_of_id all_rows p.row row rows_in_order.rising p.row_active in_rows (p.row_named ∙ r.2.0) in
        let this_column : p.column ≡ column = one_of_id all_columns p.column column columns_in_order.rising p.column_active in_columns (p.column_named ∙ r.2.1) in
        subst (λ (x : Beam). IsFreeOfOthers a s aod (crossing x column) × IsOutOfReach a next aod x column) this_row
        (subst (λ (y : Beam). IsFreeOfOthers a s aod (crossing p.row y) × IsOutOfReach a next aod p.row y) this_column (p.free, inr (carries_now r.0 r.1)))
    | inr unlisted ↦
        let clear = legal.clear row column in_rows in_columns new unlisted in
        (clear.free, inl (stays_clear a s next aod target (crossing row column) change clear))
  ]

  old_crossing : (row column : Beam) → Contains (beams_of s aod).rows row → Contains (beams_of s aod).columns column →
      IsFreeOfOthers a s aod (crossing row column) × IsOutOfReach a next aod row column
  old_crossing row column in_rows in_columns = elim (sound.crossings aod row column in_rows in_columns) [
    | inl clear ↦ (clear.free, inl (stays_clear a s next aod target (crossing row column) change clear))
    | inr carries ↦ (carries.free, inr (carries_still aod row column (stays_free a s next aod target (crossing row column) change carries.free) carries))
  ]

  each_here : EachCrossing all_rows all_columns (λ row column. IsFreeOfOthers a s aod (crossing row column) × IsOutOfReach a next aod row column)
  each_here row column in_rows in_columns = elim (contained_in_with_beams rows (beams_of s aod).rows row in_rows) [
    | inl new ↦ new_crossing row column in_rows in_columns (inl (has_id rows row new))
    | inr old_row ↦ elim (contained_in_with_beams columns (beams_of s aod).columns column in_columns) [
      | inl new ↦ new_crossing row column in_rows in_columns (inr (has_id columns column new))
      | inr old_column ↦ old_crossing row column old_row old_column
    ]
  ]

  each_there : (k : ℕ) → k ≢ aod → EachCrossing (beams_of s k).rows (beams_of s k).columns (IsOutOfReach a next k)
  each_there k ne row column in_rows in_columns =
      let still = others_stay_free a s next aod target change (λ r c in_r in_c. (each_here r c in_r in_c).0) k ne row column in_rows in_columns in
      elim (sound.crossings k row column in_rows in_columns) [
        | inl clear ↦ inl (record { free = still clear.free; off_traps = clear.off_traps })
        | inr carries ↦ inr (carries_still k row column (still carries.free) carries)
      ]

  crossings : (k : ℕ) → EachCrossing (beams_of next k).rows (beams_of next k).columns (IsOutOfReach a next k)
  crossings k = elim (cases_eq k aod) [
    | inl e ↦
        let now : beams_of next k ≡ target = ap (λ (n : ℕ). beams_of next n) e ∙ change.there in
        let here : EachCrossing all_rows all_columns (IsOutOfReach a next aod) = λ r c in_r in_c. (each_here r c in_r in_c).1 in
        subst (λ (b : Beams). EachCrossing b.rows b.columns (IsOutOfReach a next k)) (sym now)
        (subst (λ (n : ℕ). EachCrossing all_rows all_columns (IsOutOfReach a next n)) (sym e) here)
    | inr ne ↦ subst (λ (b : Beams). EachCrossing b.rows b.columns (IsOutOfReach a next k)) (sym (change.elsewhere k ne)) (each_there k ne)
  ]

  pub activate_sound : IsSound a next
  activate_sound = record {
    all_aods = length-set s.aods aod target ∙ sound.all_aods;
    in_traps = in_traps;
    apart = apart;
    held = held;
    rows = each_aod s next aod target (λ (b : Beams). AreInOrder a.figures.gap a.figures.rows b.rows) change rows_in_order sound.rows;
    columns = each_aod s next aod target (λ (b : Beams). AreInOrder a.figures.gap a.figures.columns b.columns) change columns_in_order sound.columns;
    crossings = crossings;
  }
