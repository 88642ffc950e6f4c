-- Inside: a group of moves while it is lowered.
use Rattle.std.specs.Prelude.{◌≡◌, ℕ, ◌<◌, ◌≤◌, ◌⊎◌, Bool, true, List, length, Option, Some, None, if◌then◌else◌}
use Rattle.std.specs.List.{All, Any, slice_index_or}
use Rattle.zac_arch.specs.Architecture.{Architecture}
use Rattle.zac_group.specs.Moves.{source_x, source_y, target_x, target_y}
use Rattle.zac_group.specs.declared.shift.Shift.{Shift}
use Rattle.zair_form.specs.declared.step.Caught.{Caught}
use Rattle.zair_form.specs.declared.step.Dropped.{Dropped}
use Rattle.zac_aod.specs.Lines.{columns_of, has_atom, number_of}
use Rattle.zac_aod.specs.declared.atom.Atom.{Atom}
use Rattle.zac_aod.specs.declared.line.Line.{Line}
use Rattle.zac_aod.specs.declared.route.Route.{Route}
use Rattle.zac_aod.specs.declared.span.Span.{Span}

-- the row and the column of a move
abbrev pub route_of : Architecture → Shift → Route
route_of a s = record {
  q = s.q;
  to = s.to;
  row = record { from = source_y a s; to = target_y a s };
  column = record { from = source_x a s; to = target_x a s };
}

-- the atom of a route, with the number of its column among these
abbrev pub atom_among : List Line → Route → Atom
atom_among columns r = record { q = r.q; to = r.to; row = r.row.from; column = number_of columns r.column.from }

-- the atom of a move of the group
abbrev pub atom_of : Architecture → List Shift → Shift → Atom
atom_of a shifts s = atom_among (columns_of a shifts) (route_of a s)

-- the first atom's row comes before that of the second, or the rows are one and its column comes before
abbrev pub ComesBefore : Atom → Atom → Type 0
ComesBefore s t = (s.row ≤ t.row) × (s.row ≡ t.row → s.column < t.column)

-- the atom as an activate lists it, in the row of this number
abbrev pub caught_as : ℕ → Atom → Caught
caught_as row atom = record { q = atom.q; row = row; column = atom.column }

-- the atom as a deactivate lists it
abbrev pub dropped_as : Atom → Dropped
dropped_as atom = record { q = atom.q; trap = atom.to }

-- the span has the rows of the column's atoms; its ends are rows of such atoms, where there are any
pub record Covers (atoms : List Atom) (column : ℕ) (span : Span) : Type 0 where
  pub within : All (λ atom. atom.column ≡ column → (span.first ≤ atom.row) × (atom.row ≤ span.last)) atoms
  pub first : (span.first ≡ 4294967295) ⊎ Any (λ atom. (atom.column ≡ column) × (atom.row ≡ span.first)) atoms
  pub last : (span.last ≡ 0) ⊎ Any (λ atom. (atom.column ≡ column) × (atom.row ≡ span.last)) atoms

-- there are spans for so many columns, each with the rows of its column's atoms
pub record AreCovered (atoms : List Atom) (columns : ℕ) (spans : List Span) : Type 0 where
  pub as_many : length spans ≡ columns
  pub each : (k : ℕ) (d : Span) → k < columns → Covers atoms k (slice_index_or spans k d)

-- the span goes from the first row in which the column has an atom to the last
pub record IsSpan (a : Architecture) (shifts : List Shift) (column : Line) (span : Span) : Type 0 where
  pub first : has_atom a shifts span.first column.from ≡ true
  pub last : has_atom a shifts span.last column.from ≡ true
  pub within : All (λ s. source_x a s ≡ column.from → (span.first ≤ source_y a s) × (source_y a s ≤ span.last)) shifts

-- each column has its span
pub record AreSpans (a : Architecture) (shifts : List Shift) (columns : List Line) (spans : List Span) : Type 0 where
  pub as_many : length spans ≡ length columns
  pub each : (k : ℕ) (d : Line) (z : Span) → k < length columns → IsSpan a shifts (slice_index_or columns k d) (slice_index_or spans k z)

-- the place of a line, if it is active
abbrev pub place_over : (Line → Bool) → (Line → ℕ) → Line → Option ℕ
place_over active at l = if active l then Some (at l) else None
