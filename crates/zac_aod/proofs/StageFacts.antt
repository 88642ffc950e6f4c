-- Where the crossings of a job stand at each stage.
use Rattle.std.proofs.Common.{◌≡◌, ℕ, ◌+◌, ◌≤◌, ◌⊎◌, inl, inr, true, if◌then◌else◌, List, sym, ap, subst, arith}
use Rattle.std.specs.List.{Contains}
use Rattle.std.specs.Prelude.{◌==◌, ◌&&◌}
use Rattle.std.proofs.lemmas.Bool.{cases_Bool, eqb-true, and_parts}
use Rattle.zac_arch.specs.Architecture.{Architecture, StandsAt}
use Rattle.zac_arch.specs.Parking.{IsCorner, IsParkedBeside}
use Rattle.zac_arch.specs.declared.place.Point.{Point}
use Rattle.zac_arch.specs.declared.place.TrapId.{TrapId}
use Rattle.zac_group.specs.Moves.{source_x, source_y}
use Rattle.zac_group.specs.declared.shift.Shift.{Shift}
use Rattle.zair_form.specs.declared.step.Beam.{Beam}
use Rattle.zair_state.specs.State.{crossing, EachCrossing}
use Rattle.zair_state.proofs.Membership.{one_by_key}
use Rattle.zac_aod.specs.Lines.{rows_of, columns_of, number_of, has_atom}
use Rattle.zac_aod.specs.Soundness.{IsAtGrids}
use Rattle.zac_aod.specs.Stages.{is_loaded, is_in_place, is_over_targets, is_column_active, place_of, row_at, column_at, rows_at, columns_at, row_in_turn}
use Rattle.zac_aod.specs.declared.stage.Stage.TheVariants.{Waiting, Caught, Parked, Landed, Dropped}
use Rattle.zac_aod.proofs.BeamFacts.{beam_of, from_line}
use Rattle.zac_aod.specs.CardLaws.{CardLaws, Grouped}
use Rattle.zac_aod.proofs.GridFacts.{GridTrap, source_trap, target_trap, source_stands, target_stands}
use Rattle.zac_aod.proofs.LineFacts.{rows_rise, columns_rise, row_of, column_of, has_row, has_column}
use Rattle.zac_aod.proofs.Tests.{passing, at_or_parked, in_its_place, beyond_its_place}
use Rattle.zac_aod.specs.declared.line.Line.{Line}
use Rattle.zac_aod.specs.declared.stage.Stage.{Stage}

-- where the atom of a move rests when it isn't held
abbrev pub trap_at : Stage → Shift → TrapId
trap_at stage s = if is_over_targets stage then s.to else s.from

-- the crossing stands exactly on the source or the target of a move, whose atom is held at it
pub record CarriesOne (a : Architecture) (shifts : List Shift) (stage : Stage) (row column : Beam) : Type 0 where
  pub move : Shift
  pub among : Contains shifts move
  pub row_is : number_of (rows_of a shifts) (source_y a move) ≡ row.id
  pub column_is : number_of (columns_of a shifts) (source_x a move) ≡ column.id
  pub in_place : is_in_place stage (source_y a move) ≡ true
  pub loaded : is_loaded stage (source_y a move) ≡ true
  pub exact : StandsAt a (trap_at stage move).0 (crossing row column)

-- the crossing is at a trap of the grids: parked beside it, or it carries an atom
pub record AtCrossing (a : Architecture) (shifts : List Shift) (stage : Stage) (row column : Beam) : Type 0 where
  pub at_grids : IsAtGrids a shifts (crossing row column)
  pub how : IsParkedBeside a.figures.park at_grids.stands (crossing row column) ⊎ CarriesOne a shifts stage row column

-- the row that stands at its place is the one in turn
pub in_turn : (stage : Stage) (y : ℕ) → is_in_place stage y ≡ true → row_in_turn stage ≡ y
in_turn Waiting y e = cc
in_turn (Caught turn) y e = sym (eqb-true y turn e)
in_turn (Parked turn next) y e = cc
in_turn (Landed turn) y e = sym (eqb-true y turn e)
in_turn (Dropped turn) y e = cc

pub stage_trap : (a : Architecture) (shifts : List Shift) → CardLaws a → Grouped a shifts → (stage : Stage) (row column : Line) → Contains (rows_of a shifts) row → Contains (columns_of a shifts) column → GridTrap a shifts (place_of stage column) (place_of stage row)
stage_trap a shifts laws g Waiting row column r c = source_trap a shifts laws g row column r c
stage_trap a shifts laws g (Caught turn) row column r c = source_trap a shifts laws g row column r c
stage_trap a shifts laws g (Parked turn next) row column r c = source_trap a shifts laws g row column r c
stage_trap a shifts laws g (Landed turn) row column r c = target_trap a shifts laws g row column r c
stage_trap a shifts laws g (Dropped turn) row column r c = target_trap a shifts laws g row column r c

-- a move's trap stands where its row and its column are at this stage
pub move_stands : (a : Architecture) (shifts : List Shift) → CardLaws a → Grouped a shifts → (stage : Stage) (s : Shift) → Contains shifts s → StandsAt a (trap_at stage s).0 (record { x = place_of stage (column_of a s); y = place_of stage (row_of a s) })
move_stands a shifts laws g Waiting s c = source_stands a shifts laws g s c
move_stands a shifts laws g (Caught turn) s c = source_stands a shifts laws g s c
move_stands a shifts laws g (Parked turn next) s c = source_stands a shifts laws g s c
move_stands a shifts laws g (Landed turn) s c = target_stands a shifts laws g s c
move_stands a shifts laws g (Dropped turn) s c = target_stands a shifts laws g s c

-- the move that starts where a row and a column of the group start
pub record Starting (a : Architecture) (shifts : List Shift) (row column : Line) : Type 0 where
  pub move : Shift
  pub among : Contains shifts move
  pub row_is : row_of a move ≡ row
  pub column_is : column_of a move ≡ column

pub one_row : (a : Architecture) (shifts : List Shift) (l m : Line) → Contains (rows_of a shifts) l → Contains (rows_of a shifts) m → l.from ≡ m.from → l ≡ m
one_row a shifts l m c d e = one_by_key (λ (x : Line). x.from) (rows_of a shifts) l m (rows_rise a shifts) c d e

pub one_column : (a : Architecture) (shifts : List Shift) (l m : Line) → Contains (columns_of a shifts) l → Contains (columns_of a shifts) m → l.from ≡ m.from → l ≡ m
one_column a shifts l m c d e = one_by_key (λ (x : Line). x.from) (columns_of a shifts) l m (columns_rise a shifts) c d e

pub starting : (a : Architecture) (shifts : List Shift) → Grouped a shifts → (row column : Line) → Contains (rows_of a shifts) row → Contains (columns_of a shifts) column → has_atom a shifts row.from column.from ≡ true → Starting a shifts row column
starting a shifts g row column r c e =
    let found = passing (λ (s : Shift). source_y a s == row.from && source_x a s == column.from) shifts e in
    let parts = and_parts (source_y a found.0 == row.from) (source_x a found.0 == column.from) found.2 in
    record {
      move = found.0;
      among = found.1;
      row_is = one_row a shifts (row_of a found.0) row (has_row a shifts g found.0 found.1) r (eqb-true (source_y a found.0) row.from parts.0);
      column_is = one_column a shifts (column_of a found.0) column (has_column a shifts g found.0 found.1) c (eqb-true (source_x a found.0) column.from parts.1);
    }

carries : (a : Architecture) (shifts : List Shift) → CardLaws a → Grouped a shifts → (stage : Stage) (row column : Line) → Contains (rows_of a shifts) row → Contains (columns_of a shifts) column → is_loaded stage row.from ≡ true
    → has_atom a shifts (row_in_turn stage) column.from ≡ true → is_in_place stage row.from ≡ true
    → CarriesOne a shifts stage (beam_of (rows_of a shifts) (row_at a stage) row) (beam_of (columns_of a shifts) (column_at a shifts stage) column)
carries a shifts laws g stage row column r c loaded atom place =
    let turn : row_in_turn stage ≡ row.from = in_turn stage row.from place in
    let s = starting a shifts g row column r c (subst (λ (y : ℕ). has_atom a shifts y column.from ≡ true) turn atom) in
    let ey : source_y a s.move ≡ row.from = ap (λ (l : Line). l.from) s.row_is in
    let ex : source_x a s.move ≡ column.from = ap (λ (l : Line). l.from) s.column_is in
    let stands : StandsAt a (trap_at stage s.move).0 (record { x = place_of stage column; y = place_of stage row }) =
    subst (λ (m : Line). StandsAt a (trap_at stage s.move).0 (record { x = place_of stage m; y = place_of stage row })) s.column_is
    (subst (λ (l : Line). StandsAt a (trap_at stage s.move).0 (record { x = place_of stage (column_of a s.move); y = place_of stage l })) s.row_is
    (move_stands a shifts laws g stage s.move s.among)) in
    let at_x = in_its_place (place_of stage column) a.figures.park (has_atom a shifts (row_in_turn stage) column.from) atom in
    let at_y = in_its_place (place_of stage row) a.figures.park (is_in_place stage row.from) place in
    record {
      move = s.move;
      among = s.among;
      row_is = ap (number_of (rows_of a shifts)) ey;
      column_is = ap (number_of (columns_of a shifts)) ex;
      in_place = subst (λ (y : ℕ). is_in_place stage y ≡ true) (sym ey) place;
      loaded = subst (λ (y : ℕ). is_loaded stage y ≡ true) (sym ey) loaded;
      exact = subst (λ (x : ℕ). StandsAt a (trap_at stage s.move).0 (record { x = x; y = row_at a stage row })) (sym at_x)
          (subst (λ (y : ℕ). StandsAt a (trap_at stage s.move).0 (record { x = place_of stage column; y = y })) (sym at_y) stands);
    }

at_lines : (a : Architecture) (shifts : List Shift) → CardLaws a → Grouped a shifts → (stage : Stage) (row column : Line) → Contains (rows_of a shifts) row → Contains (columns_of a shifts) column → is_loaded stage row.from ≡ true
    → AtCrossing a shifts stage (beam_of (rows_of a shifts) (row_at a stage) row) (beam_of (columns_of a shifts) (column_at a shifts stage) column)
at_lines a shifts laws g stage row column r c loaded =
    let trap = stage_trap a shifts laws g stage row column r c in
    let corner : IsCorner a.figures.park (record { x = place_of stage column; y = place_of stage row }) (record { x = column_at a shifts stage column; y = row_at a stage row }) = record {
      along_x = at_or_parked (place_of stage column) a.figures.park (has_atom a shifts (row_in_turn stage) column.from);
      along_y = at_or_parked (place_of stage row) a.figures.park (is_in_place stage row.from);
    } in
    let park_least : 1 ≤ a.figures.park = laws.park_least in
    record {
      at_grids = record { trap = trap.trap; stands = record { x = place_of stage column; y = place_of stage row }; on_grids = trap.on_grids; stands_at = trap.stands; corner = corner };
      how = elim (cases_Bool (has_atom a shifts (row_in_turn stage) column.from)) [
        | inr off ↦ inl (record {
          corner = corner;
          elsewhere = λ e.
              let beyond = beyond_its_place (place_of stage column) a.figures.park (has_atom a shifts (row_in_turn stage) column.from) off in
              let same : column_at a shifts stage column ≡ place_of stage column = ap (λ (p : Point). p.x) e in
              moved (place_of stage column) a.figures.park (column_at a shifts stage column) park_least beyond same;
        })
        | inl atom ↦ elim (cases_Bool (is_in_place stage row.from)) [
          | inr off ↦ inl (record {
            corner = corner;
            elsewhere = λ e.
                let beyond = beyond_its_place (place_of stage row) a.figures.park (is_in_place stage row.from) off in
                let same : row_at a stage row ≡ place_of stage row = ap (λ (p : Point). p.y) e in
                moved (place_of stage row) a.figures.park (row_at a stage row) park_least beyond same;
          })
          | inl place ↦ inr (carries a shifts laws g stage row column r c loaded atom place)
        ]
      ];
    }
  where
    moved : (base park at : ℕ) → 1 ≤ park → at ≡ base + park → at ≡ base → ⊥
    moved base park at least beyond same = absurd (omega arith)

-- each crossing of the stage's beams
pub at_crossings : (a : Architecture) (shifts : List Shift) → CardLaws a → Grouped a shifts → (stage : Stage) → EachCrossing (rows_at a shifts stage) (columns_at a shifts stage) (AtCrossing a shifts stage)
at_crossings a shifts laws g stage row column in_rows in_columns =
    let r = from_line (λ (l : Line). is_loaded stage l.from) (row_at a stage) (rows_of a shifts) (rows_rise a shifts) row in_rows in
    let c = from_line (is_column_active a shifts stage) (column_at a shifts stage) (columns_of a shifts) (columns_rise a shifts) column in_columns in
    subst (λ (b : Beam). AtCrossing a shifts stage b column) (sym r.is)
    (subst (λ (b : Beam). AtCrossing a shifts stage (beam_of (rows_of a shifts) (row_at a stage) r.line) b) (sym c.is)
    (at_lines a shifts laws g stage r.line c.line r.among c.among r.is_active))
