-- The grids of a group: each row crosses each column at a trap, at the sources and at the targets; and there is room
-- for parked beams between the lines.
use Rattle.std.proofs.Common.{◌≡◌, ◌≢◌, ℕ, ◌+◌, ◌<◌, ◌≤◌, ◌⊎◌, inl, inr, List, Option, Some, sym, ap, ◌∙◌, subst, arith}
use Rattle.std.specs.List.{Contains}
use Rattle.std.proofs.lemmas.List.Elements.{All-contains}
use Rattle.std.proofs.lemmas.Option.{slice_get-get_or}
use Rattle.zac_arch.specs.Architecture.{Architecture, StandsAt, IsInZone, trap_points}
use Rattle.zac_arch.specs.declared.place.Point.{Point}
use Rattle.zac_arch.specs.declared.place.TrapId.{TrapId}
use Rattle.zac_group.specs.Moves.{AreInOneZone, HasTraps, IsBetweenKinds, source_x, source_y, target_x, target_y}
use Rattle.zac_group.specs.declared.shift.Shift.{Shift}
use Rattle.zair_state.proofs.Membership.{contains_map}
use Rattle.zac_aod.specs.Lines.{rows_of, columns_of}
use Rattle.zac_aod.specs.declared.line.Line.{Line}
use Rattle.zac_aod.specs.Soundness.{IsOnGrids}
use Rattle.zac_aod.specs.CardLaws.{CardLaws, Grouped}
use Rattle.zac_aod.proofs.LineFacts.{atom_of_row, atom_of_column, one_or_compatible, row_lands_below, column_lands_below}

between : (a : Architecture) (shifts : List Shift) → Grouped a shifts → (s : Shift) → Contains shifts s → IsBetweenKinds a s
between a shifts g s c = All-contains (IsBetweenKinds a) shifts s g.phase.between c

pub has_traps : (a : Architecture) (shifts : List Shift) → CardLaws a → Grouped a shifts → (s : Shift) → Contains shifts s → HasTraps a s
has_traps a shifts laws g s c =
    let most = laws.counts in
    elim (between a shifts g s c) [
      | inl h ↦ let low = h.0 in let high = h.1.1 in record { from_in = omega arith; to_in = high }
      | inr h ↦ let high = h.0.1 in let low = h.1 in record { from_in = high; to_in = omega arith }
    ]

pub source_stands : (a : Architecture) (shifts : List Shift) → CardLaws a → Grouped a shifts → (s : Shift) → Contains shifts s → StandsAt a s.from.0 (record { x = source_x a s; y = source_y a s })
source_stands a shifts laws g s c = slice_get-get_or (trap_points a) s.from.0 (record { x = 0; y = 0 }) (has_traps a shifts laws g s c).from_in

pub target_stands : (a : Architecture) (shifts : List Shift) → CardLaws a → Grouped a shifts → (s : Shift) → Contains shifts s → StandsAt a s.to.0 (record { x = target_x a s; y = target_y a s })
target_stands a shifts laws g s c = slice_get-get_or (trap_points a) s.to.0 (record { x = 0; y = 0 }) (has_traps a shifts laws g s c).to_in

-- the sources of any two moves are one or in one zone
sources_in_one_zone : (a : Architecture) (shifts : List Shift) → Grouped a shifts → (s t : Shift) → Contains shifts s → Contains shifts t
    → (s ≡ t) ⊎ AreInOneZone a s.from t.from
sources_in_one_zone a shifts g s t c d = elim (one_or_compatible a shifts g s t c d) [
  | inl same ↦ inl same
  | inr w ↦ elim w [ inl h ↦ inr h.one_source | inr h ↦ inr (h.one_source.0, h.one_source.2, h.one_source.1) ]
]

-- so are their targets
targets_in_one_zone : (a : Architecture) (shifts : List Shift) → Grouped a shifts → (s t : Shift) → Contains shifts s → Contains shifts t
    → (s ≡ t) ⊎ AreInOneZone a s.to t.to
targets_in_one_zone a shifts g s t c d = elim (one_or_compatible a shifts g s t c d) [
  | inl same ↦ inl same
  | inr w ↦ elim w [ inl h ↦ inr h.one_target | inr h ↦ inr (h.one_target.0, h.one_target.2, h.one_target.1) ]
]

-- a move leaves its zone
not_in_one_zone : (a : Architecture) (shifts : List Shift) → CardLaws a → Grouped a shifts → (s : Shift) → Contains shifts s → (zone : ℕ) → IsInZone a s.from.0 zone → ¬ IsInZone a s.to.0 zone
not_in_one_zone a shifts laws g s c zone i j =
    let p : Point = record { x = source_x a s; y = source_y a s } in
    let q : Point = record { x = target_x a s; y = target_y a s } in
    let from = source_stands a shifts laws g s c in
    let to = target_stands a shifts laws g s c in
    elim (between a shifts g s c) [
      | inl h ↦ let high = h.1.0 in let low = laws.one_kind zone s.from.0 s.to.0 p q i j from to h.0 in absurd (omega arith)
      | inr h ↦ let high = h.0.0 in let low = laws.one_kind zone s.to.0 s.from.0 q p j i to from h.1 in absurd (omega arith)
    ]

-- no source of a group is a target of it
pub source_is_no_target : (a : Architecture) (shifts : List Shift) → CardLaws a → Grouped a shifts → (s t : Shift) → Contains shifts s → Contains shifts t → s.from ≢ t.to
source_is_no_target a shifts laws g s t c d e =
    elim (sources_in_one_zone a shifts g s t c d) [
      | inl same ↦
          let own : s.from.0 ≡ s.to.0 = ap (λ (n : TrapId). n.0) (e ∙ ap (λ (x : Shift). x.to) (sym same)) in
          elim (between a shifts g s c) [
            | inl h ↦ let low = h.0 in let high = h.1.0 in absurd (omega arith)
            | inr h ↦ let high = h.0.0 in let low = h.1 in absurd (omega arith)
          ]
      | inr sources ↦ elim (targets_in_one_zone a shifts g s t c d) [
        | inl same ↦
            let own : s.from.0 ≡ s.to.0 = ap (λ (n : TrapId). n.0) (e ∙ ap (λ (x : Shift). x.to) (sym same)) in
            elim (between a shifts g s c) [
              | inl h ↦ let low = h.0 in let high = h.1.0 in absurd (omega arith)
              | inr h ↦ let high = h.0.0 in let low = h.1 in absurd (omega arith)
            ]
        | inr targets ↦
            let here : IsInZone a s.from.0 targets.0 = subst (λ (n : TrapId). IsInZone a n.0 targets.0) (sym e) targets.2 in
            let zone : targets.0 ≡ sources.0 = laws.one_zone s.from.0 targets.0 sources.0 here sources.1 in
            not_in_one_zone a shifts laws g s c sources.0 sources.1 (subst (λ (z : ℕ). IsInZone a s.to.0 z) zone targets.1)
      ]
    ]

-- a trap of the grids that stands there
pub record GridTrap (a : Architecture) (shifts : List Shift) (x y : ℕ) : Type 0 where
  pub trap : ℕ
  pub stands : StandsAt a trap (record { x = x; y = y })
  pub on_grids : IsOnGrids a shifts trap

point_path : {x y z w : ℕ} → x ≡ z → y ≡ w → ◌≡◌ {A = Option Point} (Some (record { x = x; y = y })) (Some (record { x = z; y = w }))
point_path e f = λ i. Some (record { x = e i; y = f i })

-- a trap is in the column of the one move's source and the row of the other's
source_crossing : (a : Architecture) (shifts : List Shift) → CardLaws a → Grouped a shifts → (s t : Shift) → Contains shifts s → Contains shifts t
    → (v : ℕ) × StandsAt a v (record { x = source_x a t; y = source_y a s })
source_crossing a shifts laws g s t c d =
    let p = source_stands a shifts laws g s c in
    let q = source_stands a shifts laws g t d in
    elim (sources_in_one_zone a shifts g s t c d) [
      | inl same ↦ (s.from.0, subst (λ (z : Shift). StandsAt a s.from.0 (record { x = source_x a z; y = source_y a s })) same p)
      | inr zone ↦ let v = laws.grid zone.0 t.from.0 s.from.0 (record { x = source_x a t; y = source_y a t }) (record { x = source_x a s; y = source_y a s }) zone.2 zone.1 q p in (v.0, v.2)
    ]

-- the same at the targets
target_crossing : (a : Architecture) (shifts : List Shift) → CardLaws a → Grouped a shifts → (s t : Shift) → Contains shifts s → Contains shifts t
    → (v : ℕ) × StandsAt a v (record { x = target_x a t; y = target_y a s })
target_crossing a shifts laws g s t c d =
    let p = target_stands a shifts laws g s c in
    let q = target_stands a shifts laws g t d in
    elim (targets_in_one_zone a shifts g s t c d) [
      | inl same ↦ (s.to.0, subst (λ (z : Shift). StandsAt a s.to.0 (record { x = target_x a z; y = target_y a s })) same p)
      | inr zone ↦ let v = laws.grid zone.0 t.to.0 s.to.0 (record { x = target_x a t; y = target_y a t }) (record { x = target_x a s; y = target_y a s }) zone.2 zone.1 q p in (v.0, v.2)
    ]

pub source_trap : (a : Architecture) (shifts : List Shift) → CardLaws a → Grouped a shifts → (row column : Line) → Contains (rows_of a shifts) row → Contains (columns_of a shifts) column → GridTrap a shifts column.from row.from
source_trap a shifts laws g row column r c =
    let s = atom_of_row a shifts row r in
    let t = atom_of_column a shifts column c in
    let v = source_crossing a shifts laws g s.0 t.0 s.1 t.1 in
    let x : source_x a t.0 ≡ column.from = ap (λ (l : Line). l.from) t.2 in
    let y : source_y a s.0 ≡ row.from = ap (λ (l : Line). l.from) s.2 in
    let stands : StandsAt a v.0 (record { x = column.from; y = row.from }) = v.1 ∙ point_path x y in
    record {
      trap = v.0;
      stands = stands;
      on_grids = inl (record { x = column.from; y = row.from }, stands, contains_map (λ (l : Line). l.from) (columns_of a shifts) column c, contains_map (λ (l : Line). l.from) (rows_of a shifts) row r);
    }

pub target_trap : (a : Architecture) (shifts : List Shift) → CardLaws a → Grouped a shifts → (row column : Line) → Contains (rows_of a shifts) row → Contains (columns_of a shifts) column → GridTrap a shifts column.to row.to
target_trap a shifts laws g row column r c =
    let s = atom_of_row a shifts row r in
    let t = atom_of_column a shifts column c in
    let v = target_crossing a shifts laws g s.0 t.0 s.1 t.1 in
    let x : target_x a t.0 ≡ column.to = ap (λ (l : Line). l.to) t.2 in
    let y : target_y a s.0 ≡ row.to = ap (λ (l : Line). l.to) s.2 in
    let stands : StandsAt a v.0 (record { x = column.to; y = row.to }) = v.1 ∙ point_path x y in
    record {
      trap = v.0;
      stands = stands;
      on_grids = inr (record { x = column.to; y = row.to }, stands, contains_map (λ (l : Line). l.to) (columns_of a shifts) column c, contains_map (λ (l : Line). l.to) (rows_of a shifts) row r);
    }

-- there is room for a parked beam and the gap between two lines
pub record HasRoom (a : Architecture) (l m : Line) : Type 0 where
  pub at_sources : l.from + a.figures.park + a.figures.gap ≤ m.from
  pub at_targets : l.to + a.figures.park + a.figures.gap ≤ m.to

pub rows_have_room : (a : Architecture) (shifts : List Shift) → CardLaws a → Grouped a shifts → (l m : Line) → Contains (rows_of a shifts) l → Contains (rows_of a shifts) m → l.from < m.from → HasRoom a l m
rows_have_room a shifts laws g l m c d lt =
    let s = atom_of_row a shifts l c in
    let t = atom_of_row a shifts m d in
    let sf : source_y a s.0 ≡ l.from = ap (λ (l : Line). l.from) s.2 in
    let st : target_y a s.0 ≡ l.to = ap (λ (l : Line). l.to) s.2 in
    let tf : source_y a t.0 ≡ m.from = ap (λ (l : Line). l.from) t.2 in
    let to : target_y a t.0 ≡ m.to = ap (λ (l : Line). l.to) t.2 in
    let lands = row_lands_below a shifts g l m c d lt in
    let sources : source_y a s.0 + a.figures.park + a.figures.gap ≤ source_y a t.0 = elim (sources_in_one_zone a shifts g s.0 t.0 s.1 t.1) [
      | inl same ↦ let e : source_y a s.0 ≡ source_y a t.0 = ap (source_y a) same in absurd (omega arith)
      | inr zone ↦ laws.rows zone.0 s.0.from.0 t.0.from.0 (record { x = source_x a s.0; y = source_y a s.0 }) (record { x = source_x a t.0; y = source_y a t.0 }) zone.1 zone.2
          (source_stands a shifts laws g s.0 s.1) (source_stands a shifts laws g t.0 t.1) (omega arith)
    ] in
    let targets : target_y a s.0 + a.figures.park + a.figures.gap ≤ target_y a t.0 = elim (targets_in_one_zone a shifts g s.0 t.0 s.1 t.1) [
      | inl same ↦ let e : target_y a s.0 ≡ target_y a t.0 = ap (target_y a) same in absurd (omega arith)
      | inr zone ↦ laws.rows zone.0 s.0.to.0 t.0.to.0 (record { x = target_x a s.0; y = target_y a s.0 }) (record { x = target_x a t.0; y = target_y a t.0 }) zone.1 zone.2
          (target_stands a shifts laws g s.0 s.1) (target_stands a shifts laws g t.0 t.1) (omega arith)
    ] in
    record { at_sources = omega arith; at_targets = omega arith }

pub columns_have_room : (a : Architecture) (shifts : List Shift) → CardLaws a → Grouped a shifts → (l m : Line) → Contains (columns_of a shifts) l → Contains (columns_of a shifts) m → l.from < m.from → HasRoom a l m
columns_have_room a shifts laws g l m c d lt =
    let s = atom_of_column a shifts l c in
    let t = atom_of_column a shifts m d in
    let sf : source_x a s.0 ≡ l.from = ap (λ (l : Line). l.from) s.2 in
    let st : target_x a s.0 ≡ l.to = ap (λ (l : Line). l.to) s.2 in
    let tf : source_x a t.0 ≡ m.from = ap (λ (l : Line). l.from) t.2 in
    let to : target_x a t.0 ≡ m.to = ap (λ (l : Line). l.to) t.2 in
    let lands = column_lands_below a shifts g l m c d lt in
    let sources : source_x a s.0 + a.figures.park + a.figures.gap ≤ source_x a t.0 = elim (sources_in_one_zone a shifts g s.0 t.0 s.1 t.1) [
      | inl same ↦ let e : source_x a s.0 ≡ source_x a t.0 = ap (source_x a) same in absurd (omega arith)
      | inr zone ↦ laws.columns zone.0 s.0.from.0 t.0.from.0 (record { x = source_x a s.0; y = source_y a s.0 }) (record { x = source_x a t.0; y = source_y a t.0 }) zone.1 zone.2
          (source_stands a shifts laws g s.0 s.1) (source_stands a shifts laws g t.0 t.1) (omega arith)
    ] in
    let targets : target_x a s.0 + a.figures.park + a.figures.gap ≤ target_x a t.0 = elim (targets_in_one_zone a shifts g s.0 t.0 s.1 t.1) [
      | inl same ↦ let e : target_x a s.0 ≡ target_x a t.0 = ap (target_x a) same in absurd (omega arith)
      | inr zone ↦ laws.columns zone.0 s.0.to.0 t.0.to.0 (record { x = target_x a s.0; y = target_y a s.0 }) (record { x = target_x a t.0; y = target_y a t.0 }) zone.1 zone.2
          (target_stands a shifts laws g s.0 s.1) (target_stands a shifts laws g t.0 t.1) (omega arith)
    ] in
    record { at_sources = omega arith; at_targets = omega arith }

-- a line and a beam parked beyond it are on the field
pub record IsOnField (a : Architecture) (l : Line) : Type 0 where
  pub at_source : l.from + a.figures.park ≤ 1000000
  pub at_target : l.to + a.figures.park ≤ 1000000

pub rows_on_field : (a : Architecture) (shifts : List Shift) → CardLaws a → Grouped a shifts → (l : Line) → Contains (rows_of a shifts) l → IsOnField a l
rows_on_field a shifts laws g l c =
    let s = atom_of_row a shifts l c in
    let f : source_y a s.0 ≡ l.from = ap (λ (l : Line). l.from) s.2 in
    let t : target_y a s.0 ≡ l.to = ap (λ (l : Line). l.to) s.2 in
    let source = (laws.on_the_field s.0.from.0 (record { x = source_x a s.0; y = source_y a s.0 }) (source_stands a shifts laws g s.0 s.1)).1 in
    let target = (laws.on_the_field s.0.to.0 (record { x = target_x a s.0; y = target_y a s.0 }) (target_stands a shifts laws g s.0 s.1)).1 in
    record { at_source = omega arith; at_target = omega arith }

pub columns_on_field : (a : Architecture) (shifts : List Shift) → CardLaws a → Grouped a shifts → (l : Line) → Contains (columns_of a shifts) l → IsOnField a l
columns_on_field a shifts laws g l c =
    let s = atom_of_column a shifts l c in
    let f : source_x a s.0 ≡ l.from = ap (λ (l : Line). l.from) s.2 in
    let t : target_x a s.0 ≡ l.to = ap (λ (l : Line). l.to) s.2 in
    let source = (laws.on_the_field s.0.from.0 (record { x = source_x a s.0; y = source_y a s.0 }) (source_stands a shifts laws g s.0 s.1)).0 in
    let target = (laws.on_the_field s.0.to.0 (record { x = target_x a s.0; y = target_y a s.0 }) (target_stands a shifts laws g s.0 s.1)).0 in
    record { at_source = omega arith; at_target = omega arith }
