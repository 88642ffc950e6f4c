-- A legal deactivate keeps a state sound, and drops atoms into empty traps alone.
use Rattle.std.proofs.Common.{◌≡◌, ◌≢◌, ℕ, ◌<◌, ◌≤◌, inl, inr, List, Some, refl, sym, ap, ◌∙◌, subst, slice_get, length-set}
use Rattle.std.specs.List.{All, Contains}
use Rattle.std.proofs.lemmas.Bool.{cases_eq}
use Rattle.std.proofs.lemmas.List.Elements.{All-contains}
use Rattle.std.proofs.lemmas.Option.{slice_get_within}
use Rattle.zac_arch.specs.Architecture.{Architecture, StandsAt, trap_count, trap_points}
use Rattle.zac_arch.specs.declared.place.Point.{Point}
use Rattle.zac_arch.specs.declared.place.TrapId.{TrapId}
use Rattle.zair_form.specs.declared.step.Beam.{Beam}
use Rattle.zair_form.specs.declared.step.Dropped.{Dropped}
use Rattle.zair_form.specs.declared.step.Step.TheVariants.{Deactivate}
use Rattle.zair_state.specs.declared.place.Place.{Place}
use Rattle.zair_state.specs.declared.place.Place.TheVariants.{Trap, Held}
use Rattle.zair_state.specs.State.{State, Beams, beams_of, IsAt, HasId, crossing, EachCrossing, IsFreeOfOthers}
use Rattle.zair_state.specs.Legal.{IsLegal, Drops, CarriesOverEmptyTrap}
use Rattle.zair_state.specs.Result.{after, without_beams}
use Rattle.zair_state.specs.Invariant.{IsSound, IsOutOfReach, IsActive, AreInOrder}
use Rattle.zair_state.proofs.Membership.{all_from_contains, any_contained}
use Rattle.zair_state.proofs.BeamLists.{contained_in_without, contains_without, in_order_without, has_id, beam_of_id, one_at}
use Rattle.zair_state.proofs.Placing.{IsDropped, after_dropping_at, not_dropped_stays}
use Rattle.zair_state.proofs.Changing.{Changes, changes_of, each_aod, stays_free, stays_clear, others_stay_free, clear_of_trap, not_farther_there}

same_point : (p q : Point) → Some p ≡ Some q → p ≡ q
same_point p q e = cc

one_point : (a : Architecture) (t u : ℕ) (p q : Point) → t ≡ u → StandsAt a t p → StandsAt a u q → p ≡ q
one_point a t u p q e h k = same_point p q (sym (subst (λ (n : ℕ). StandsAt a n p) e h) ∙ k)

pub same_trap : (t u : TrapId) → t.0 ≡ u.0 → t ≡ u
same_trap t u e = let same : t ≡ u = ap (λ (n : ℕ). record { 0 = n }) e in same

one_trap_id : (t u : TrapId) → Trap t ≡ Trap u → t ≡ u
one_trap_id t u e = cc

trap_not_held : (t : TrapId) (aod row column : ℕ) (P : Type 0) → Trap t ≡ Held aod row column → P
trap_not_held t aod row column P e = absurd (cc)

held_parts : (aod row column aod' row' column' : ℕ) → Some (Held aod row column) ≡ Some (Held aod' row' column') → (aod ≡ aod') × (row ≡ row') × (column ≡ column')
held_parts aod row column aod' row' column' e =
    let same : Held aod row column ≡ Held aod' row' column' = cc in
    (cc, cc, cc)

module _ (a : Architecture) (s : State) (aod : ℕ) (rows columns : List ℕ) (atoms : List Dropped)
    (gap_least : 1 ≤ a.figures.gap) (one_trap : (t u : ℕ) (p : Point) → StandsAt a t p → StandsAt a u p → t ≡ u)
    (sound : IsSound a s) (legal : IsLegal a s (Deactivate aod rows columns atoms)) where
  abbrev left_rows : List Beam
  left_rows = without_beams rows (beams_of s aod).rows

  abbrev left_columns : List Beam
  left_columns = without_beams columns (beams_of s aod).columns

  abbrev target : Beams
  target = record { rows = left_rows; columns = left_columns }

  abbrev next : State
  next = after s (Deactivate aod rows columns atoms)

  change : Changes s next aod target
  change = changes_of s next aod target legal.known refl

  dropped : (d : Dropped) → Contains atoms d → Drops a s aod rows columns d
  dropped d in_atoms = All-contains (Drops a s aod rows columns) atoms d legal.drops in_atoms

  -- the trap under a dropped atom is empty
  lands_empty : (d : Dropped) → Contains atoms d → (r : ℕ) → ¬ IsAt s r (Trap d.trap)
  lands_empty d in_atoms r there =
      let p = dropped d in_atoms in
      elim (sound.crossings aod p.row p.column p.row_active p.column_active) [
        | inl clear ↦ clear_of_trap a s aod d.trap.0 (crossing p.row p.column) clear p.exact
        | inr carries ↦
            let same : d.trap ≡ carries.trap = same_trap d.trap carries.trap (one_trap d.trap.0 carries.trap.0 (crossing p.row p.column) p.exact carries.exact) in
            carries.empty r (subst (λ (t : TrapId). IsAt s r (Trap t)) same there)
      ]

  pub all_land_empty : All (λ (d : Dropped). (r : ℕ) → ¬ IsAt s r (Trap d.trap)) atoms
  all_land_empty = all_from_contains (λ (d : Dropped). (r : ℕ) → ¬ IsAt s r (Trap d.trap)) atoms lands_empty

  -- two crossings of this AOD at one point are one crossing
  one_row : (b c : Beam) → Contains (beams_of s aod).rows b → Contains (beams_of s aod).rows c → b.at ≡ c.at → b ≡ c
  one_row b c in_b in_c e = one_at a.figures.gap (beams_of s aod).rows b c gap_least (sound.rows aod).placed in_b in_c e

  one_column : (b c : Beam) → Contains (beams_of s aod).columns b → Contains (beams_of s aod).columns c → b.at ≡ c.at → b ≡ c
  one_column b c in_b in_c e = one_at a.figures.gap (beams_of s aod).columns b c gap_least (sound.columns aod).placed in_b in_c e

  one_dropped : (d e : Dropped) → Contains atoms d → Contains atoms e → d.trap ≡ e.trap → d.q ≡ e.q
  one_dropped d e in_d in_e same =
      let p = dropped d in_d in
      let r = dropped e in_e in
      let there : crossing p.row p.column ≡ crossing r.row r.column = one_point a d.trap.0 e.trap.0 (crossing p.row p.column) (crossing r.row r.column) (ap (λ (t : TrapId). t.0) same) p.exact r.exact in
      let row : r.row ≡ p.row = one_row r.row p.row r.row_active p.row_active (ap (λ (x : Point). x.y) (sym there)) in
      let column : r.column ≡ p.column = one_column r.column p.column r.column_active p.column_active (ap (λ (x : Point). x.x) (sym there)) in
      let place : Held aod r.row.id r.column.id ≡ Held aod p.row.id p.column.id = cc in
      sound.apart d.q e.q (Held aod p.row.id p.column.id) p.held (subst (λ (x : Place). IsAt s e.q x) place r.held)

  in_traps : (q : ℕ) (t : TrapId) → IsAt next q (Trap t) → t.0 < trap_count a
  in_traps q t h = elim (after_dropping_at atoms s.places q (Trap t) h) [
    | inl r ↦
        let p = dropped r.0 r.1 in
        subst (λ (u : TrapId). u.0 < trap_count a) (one_trap_id r.0.trap t r.3) (slice_get_within (trap_points a) r.0.trap.0 (crossing p.row p.column) p.exact)
    | inr r ↦ sound.in_traps q t r.1
  ]

  none_rests : (d : Dropped) (r : ℕ) (place : Place) → Contains atoms d → Trap d.trap ≡ place → ¬ IsAt s r place
  none_rests d r place in_atoms e h = lands_empty d in_atoms r (subst (λ (p : Place). IsAt s r p) (sym e) h)

  apart : (q r : ℕ) (place : Place) → IsAt next q place → IsAt next r place → q ≡ r
  apart q r place at_q at_r = elim (after_dropping_at atoms s.places q place at_q) [
    | inl x ↦ elim (after_dropping_at atoms s.places r place at_r) [
      | inl y ↦ sym x.2 ∙ one_dropped x.0 y.0 x.1 y.1 (one_trap_id x.0.trap y.0.trap (x.3 ∙ sym y.3)) ∙ y.2
      | inr y ↦ absurd (none_rests x.0 r place x.1 x.3 y.1)
    ]
    | inr x ↦ elim (after_dropping_at atoms s.places r place at_r) [
      | inl y ↦ absurd (none_rests y.0 q place y.1 y.3 x.1)
      | inr y ↦ sound.apart q r place x.1 y.1
    ]
  ]

  -- an atom that isn't dropped is held at beams that stay
  row_stays : (q row column : ℕ) → IsAt s q (Held aod row column) → ¬ IsDropped atoms q → ¬ Contains rows row
  row_stays q row column h none listed =
      none (let r = any_contained (λ (d : Dropped). d.q ≡ q) atoms (legal.all q row column h (inl listed)) in (r.0, r.1, r.2))

  column_stays : (q row column : ℕ) → IsAt s q (Held aod row column) → ¬ IsDropped atoms q → ¬ Contains columns column
  column_stays q row column h none listed =
      none (let r = any_contained (λ (d : Dropped). d.q ≡ q) atoms (legal.all q row column h (inr listed)) in (r.0, r.1, r.2))

  id_left : (ids : List ℕ) (beams : List Beam) (id : ℕ) → HasId beams id → ¬ Contains ids id → HasId (without_beams ids beams) id
  id_left ids beams id h unlisted =
      let r = beam_of_id beams id h in
      subst (HasId (without_beams ids beams)) r.2
      (has_id (without_beams ids beams) r.0 (contains_without ids beams r.0 r.1 (λ listed. unlisted (subst (λ (n : ℕ). Contains ids n) r.2 listed))))

  held : (q k row column : ℕ) → IsAt next q (Held k row column) → IsActive next k row column
  held q k row column h = elim (after_dropping_at atoms s.places q (Held k row column) h) [
    | inl r ↦ trap_not_held r.0.trap k row column (IsActive next k row column) r.3
    | inr r ↦
        let active = sound.held q k row column r.1 in
        elim (cases_eq k aod) [
          | inl e ↦
              let now : beams_of next k ≡ target = ap (λ (n : ℕ). beams_of next n) e ∙ change.there in
              let was : IsActive s aod row column = subst (λ (n : ℕ). IsActive s n row column) e active in
              let held_here : IsAt s q (Held aod row column) = subst (λ (n : ℕ). IsAt s q (Held n row column)) e r.1 in
              subst (λ (b : Beams). HasId b.rows row × HasId b.columns column) (sym now) (
                id_left rows (beams_of s aod).rows row was.0 (row_stays q row column held_here r.0),
                id_left columns (beams_of s aod).columns column was.1 (column_stays q row column held_here r.0),
              )
          | inr ne ↦ subst (λ (b : Beams). HasId b.rows row × HasId b.columns column) (sym (change.elsewhere k ne)) active
        ]
  ]

  -- what a crossing carried it carries still, where no dropped atom was at it and none stood where it stands
  carries_still : (k : ℕ) (row column : Beam) → IsFreeOfOthers a next k (crossing row column) → (h : CarriesOverEmptyTrap a s k row column) → ¬ IsDropped atoms h.q →
      ((d : Dropped) → Contains atoms d → d.trap ≢ h.trap) → CarriesOverEmptyTrap a next k row column
  carries_still k row column free h unlisted elsewhere = record {
    q = h.q;
    holds = not_dropped_stays atoms s.places h.q unlisted ∙ h.holds;
    trap = h.trap;
    exact = h.exact;
    empty = λ r there. elim (after_dropping_at atoms s.places r (Trap h.trap) there) [
      | inl x ↦ elsewhere x.0 x.1 (one_trap_id x.0.trap h.trap x.3)
      | inr x ↦ h.empty r x.1
    ];
    free = free;
  }

  -- a crossing that stays isn't that of a dropped atom
  other_atom : (row column : Beam) → Contains left_rows row → Contains left_columns column → (h : CarriesOverEmptyTrap a s aod row column) → ¬ IsDropped atoms h.q
  other_atom row column in_rows in_columns h d =
      let p = dropped d.0 d.1 in
      let there : slice_get s.places h.q ≡ Some (Held aod p.row.id p.column.id) = subst (λ (n : ℕ). slice_get s.places n ≡ Some (Held aod p.row.id p.column.id)) d.2 p.held in
      let same = held_parts aod p.row.id p.column.id aod row.id column.id (sym there ∙ h.holds) in
      let row_in = contained_in_without rows (beams_of s aod).rows row in_rows in
      let column_in = contained_in_without columns (beams_of s aod).columns column in_columns in
      elim (p.vanishes) [
        | inl listed ↦ row_in.1 (subst (λ (n : ℕ). Contains rows n) same.1 listed)
        | inr listed ↦ column_in.1 (subst (λ (n : ℕ). Contains columns n) same.2 listed)
      ]

  other_trap : (row column : Beam) → Contains left_rows row → Contains left_columns column → (h : CarriesOverEmptyTrap a s aod row column) → (d : Dropped) → Contains atoms d → d.trap ≢ h.trap
  other_trap row column in_rows in_columns h d in_atoms same =
      let p = dropped d in_atoms in
      let row_in = contained_in_without rows (beams_of s aod).rows row in_rows in
      let column_in = contained_in_without columns (beams_of s aod).columns column in_columns in
      let there : crossing p.row p.column ≡ crossing row column = one_point a d.trap.0 h.trap.0 (crossing p.row p.column) (crossing row column) (ap (λ (t : TrapId). t.0) same) p.exact h.exact in
      let this_row : p.row ≡ row = one_row p.row row p.row_active row_in.0 (ap (λ (x : Point). x.y) there) in
      let this_column : p.column ≡ column = one_column p.column column p.column_active column_in.0 (ap (λ (x : Point). x.x) there) in
      elim (p.vanishes) [
        | inl listed ↦ row_in.1 (subst (λ (b : Beam). Contains rows b.id) this_row listed)
        | inr listed ↦ column_in.1 (subst (λ (b : Beam). Contains columns b.id) this_column listed)
      ]

  free_here : EachCrossing left_rows left_columns (λ row column. IsFreeOfOthers a s aod (crossing row column))
  free_here row column in_rows in_columns =
      let row_in = contained_in_without rows (beams_of s aod).rows row in_rows in
      let column_in = contained_in_without columns (beams_of s aod).columns column in_columns in
      elim (sound.crossings aod row column row_in.0 column_in.0) [ inl clear ↦ clear.free | inr carries ↦ carries.free ]

  reached_here : EachCrossing left_rows left_columns (IsOutOfReach a next aod)
  reached_here row column in_rows in_columns =
      let row_in = contained_in_without rows (beams_of s aod).rows row in_rows in
      let column_in = contained_in_without columns (beams_of s aod).columns column in_columns in
      elim (sound.crossings aod row column row_in.0 column_in.0) [
        | inl clear ↦ inl (stays_clear a s next aod target (crossing row column) change clear)
        | inr carries ↦ inr (carries_still aod row column (stays_free a s next aod target (crossing row column) change carries.free) carries
            (other_atom row column in_rows in_columns carries) (other_trap row column in_rows in_columns carries))
      ]

  -- an atom that another AOD holds isn't dropped
  held_elsewhere : (k q row column : ℕ) → k ≢ aod → IsAt s q (Held k row column) → ¬ IsDropped atoms q
  held_elsewhere k q row column ne h d =
      let p = dropped d.0 d.1 in
      let there : slice_get s.places q ≡ Some (Held aod p.row.id p.column.id) = subst (λ (n : ℕ). slice_get s.places n ≡ Some (Held aod p.row.id p.column.id)) d.2 p.held in
      let same = held_parts aod p.row.id p.column.id k row column (sym there ∙ h) in
      ne (sym same.0)

  -- nor does it stand where an atom is dropped
  trap_elsewhere : (k : ℕ) (row column : Beam) → k ≢ aod → (h : CarriesOverEmptyTrap a s k row column) → (d : Dropped) → Contains atoms d → d.trap ≢ h.trap
  trap_elsewhere k row column ne h d in_atoms same =
      let p = dropped d in_atoms in
      let there : crossing row column ≡ crossing p.row p.column = one_point a h.trap.0 d.trap.0 (crossing row column) (crossing p.row p.column) (sym (ap (λ (t : TrapId). t.0) same)) h.exact p.exact in
      not_farther_there a.figures.reach (crossing row column) (crossing p.row p.column) there (h.free aod (λ e. ne (sym e)) p.row p.column p.row_active p.column_active)

  reached_there : (k : ℕ) → k ≢ aod → EachCrossing (beams_of s k).rows (beams_of s k).columns (IsOutOfReach a next k)
  reached_there k ne row column in_rows in_columns =
      let still = others_stay_free a s next aod target change free_here k ne row column in_rows in_columns in
      elim (sound.crossings k row column in_rows in_columns) [
        | inl clear ↦ inl (record { free = still clear.free; off_traps = clear.off_traps })
        | inr carries ↦ inr (carries_still k row column (still carries.free) carries
            (held_elsewhere k carries.q row.id column.id ne carries.holds) (trap_elsewhere k row column ne carries))
      ]

  reached : (k : ℕ) → EachCrossing (beams_of next k).rows (beams_of next k).columns (IsOutOfReach a next k)
  reached k = elim (cases_eq k aod) [
    | inl e ↦
        let now : beams_of next k ≡ target = ap (λ (n : ℕ). beams_of next n) e ∙ change.there in
        subst (λ (b : Beams). EachCrossing b.rows b.columns (IsOutOfReach a next k)) (sym now)
        (subst (λ (n : ℕ). EachCrossing left_rows left_columns (IsOutOfReach a next n)) (sym e) reached_here)
    | inr ne ↦ subst (λ (b : Beams). EachCrossing b.rows b.columns (IsOutOfReach a next k)) (sym (change.elsewhere k ne)) (reached_there k ne)
  ]

  pub deactivate_sound : IsSound a next
  deactivate_sound = record {
    all_aods = length-set s.aods aod target ∙ sound.all_aods;
    in_traps = in_traps;
    apart = apart;
    held = held;
    rows = each_aod s next aod target (λ (b : Beams). AreInOrder a.figures.gap a.figures.rows b.rows) change
        (in_order_without a.figures.gap a.figures.rows rows (beams_of s aod).rows (sound.rows aod)) sound.rows;
    columns = each_aod s next aod target (λ (b : Beams). AreInOrder a.figures.gap a.figures.columns b.columns) change
        (in_order_without a.figures.gap a.figures.columns columns (beams_of s aod).columns (sound.columns aod)) sound.columns;
    crossings = reached;
  }
