-- When a step is legal in a state.
use Rattle.std.specs.Prelude.{◌≡◌, ◌≢◌, ℕ, ◌<◌, ◌≤◌, ◌⊎◌, List, [], length, map}
use Rattle.std.specs.List.{All, AllPairs, Any, Contains}
use Rattle.zac_arch.specs.Architecture.{Architecture, StandsAt, IsLit}
use Rattle.zac_arch.specs.declared.place.Point.{Point}
use Rattle.zac_arch.specs.declared.place.TrapId.{TrapId}
use Rattle.zair_form.specs.declared.step.Beam.{Beam}
use Rattle.zair_form.specs.declared.step.Caught.{Caught}
use Rattle.zair_form.specs.declared.step.Dropped.{Dropped}
use Rattle.zair_form.specs.declared.step.PairOf.{PairOf}
use Rattle.zair_form.specs.declared.step.Step.{Step}
use Rattle.zair_form.specs.declared.step.Step.TheVariants.{Activate, Move, Deactivate, One, Pulse, Readout}
use Rattle.zair_state.specs.declared.place.Place.TheVariants.{Trap, Held}
use Rattle.zair_state.specs.State.{State, beams_of, IsAt, HasId, crossing, EachCrossing, IsFreeOfOthers, IsClear, ArePlaced, RestsLit, AreInRange}
use Rattle.zair_state.specs.Result.{with_beams}

-- No id is listed twice.
abbrev pub AreOnce : List ℕ → Type 0
AreOnce ids = AllPairs (λ i j. i ≢ j) ids

-- the beams that are switched on have distinct ids, none of which is active
pub record AreFresh (listed active : List Beam) : Type 0 where
  pub once : AreOnce (map (λ b. b.id) listed)
  pub inactive : All (λ b. ¬ HasId active b.id) listed

-- The listed beams have distinct ids, which are exactly those of the active beams.
pub record ListsActive (listed active : List Beam) : Type 0 where
  pub once : AreOnce (map (λ b. b.id) listed)
  pub only : All (λ b. HasId active b.id) listed
  pub all : All (λ b. HasId listed b.id) active

-- A listed atom's crossing is of an active row and an active column, of which at least one is new; it stands exactly
-- on the trap in which the atom rests, and is free of others.
pub record Picks (a : Architecture) (s : State) (aod : ℕ) (new_rows new_columns rows columns : List Beam) (c : Caught) : Type 0 where
  pub row : Beam
  pub column : Beam
  pub row_active : Contains rows row
  pub column_active : Contains columns column
  pub row_named : row.id ≡ c.row
  pub column_named : column.id ≡ c.column
  pub new : HasId new_rows c.row ⊎ HasId new_columns c.column
  pub trap : TrapId
  pub rests : IsAt s c.q (Trap trap)
  pub exact : StandsAt a trap.0 (crossing row column)
  pub free : IsFreeOfOthers a s aod (crossing row column)

-- The AOD exists; its new beams are fresh; after the step it has at most as many rows and columns as the figures
-- allow, all of them placed; each listed atom is picked; no atom and no crossing is listed twice; and every new
-- crossing without a listed atom is clear.
pub record IsLegalActivate (a : Architecture) (s : State) (aod : ℕ) (new_rows new_columns rows columns : List Beam) (atoms : List Caught) : Type 0 where
  pub known : aod < length s.aods
  pub rows_fresh : AreFresh new_rows (beams_of s aod).rows
  pub columns_fresh : AreFresh new_columns (beams_of s aod).columns
  pub few_rows : length rows ≤ a.figures.rows
  pub few_columns : length columns ≤ a.figures.columns
  pub rows_placed : ArePlaced a.figures.gap rows
  pub columns_placed : ArePlaced a.figures.gap columns
  pub picks : All (Picks a s aod new_rows new_columns rows columns) atoms
  -- no atom and no crossing is listed twice
  pub once : AllPairs (λ c d. (c.q ≢ d.q) × ¬ ((c.row ≡ d.row) × (c.column ≡ d.column))) atoms
  -- every other new crossing is clear
  pub clear : EachCrossing rows columns (λ row column. HasId new_rows row.id ⊎ HasId new_columns column.id →
      ¬ Any (λ c. (c.row ≡ row.id) × (c.column ≡ column.id)) atoms → IsClear a s aod (crossing row column))

-- The crossing holds an atom, stands exactly on a trap in which no qubit rests, and is free of others.
pub record CarriesOverEmptyTrap (a : Architecture) (s : State) (aod : ℕ) (row column : Beam) : Type 0 where
  pub q : ℕ
  pub holds : IsAt s q (Held aod row.id column.id)
  pub trap : TrapId
  pub exact : StandsAt a trap.0 (crossing row column)
  pub empty : (r : ℕ) → ¬ IsAt s r (Trap trap)
  pub free : IsFreeOfOthers a s aod (crossing row column)

-- The AOD exists; exactly its active beams are listed; they are placed; and each crossing is clear, or carries an atom
-- over an empty trap.
pub record IsLegalMove (a : Architecture) (s : State) (aod : ℕ) (listed_rows listed_columns rows columns : List Beam) : Type 0 where
  pub known : aod < length s.aods
  pub rows_listed : ListsActive listed_rows (beams_of s aod).rows
  pub columns_listed : ListsActive listed_columns (beams_of s aod).columns
  pub rows_placed : ArePlaced a.figures.gap rows
  pub columns_placed : ArePlaced a.figures.gap columns
  pub crossings : EachCrossing rows columns (λ row column.
      IsClear a s aod (crossing row column) ⊎ CarriesOverEmptyTrap a s aod row column)

-- A listed atom is held at a crossing of active beams, of which at least one is switched off, and the crossing stands
-- exactly on the listed trap.
pub record Drops (a : Architecture) (s : State) (aod : ℕ) (rows columns : List ℕ) (d : Dropped) : Type 0 where
  pub row : Beam
  pub column : Beam
  pub row_active : Contains (beams_of s aod).rows row
  pub column_active : Contains (beams_of s aod).columns column
  pub held : IsAt s d.q (Held aod row.id column.id)
  pub vanishes : Contains rows row.id ⊎ Contains columns column.id
  pub exact : StandsAt a d.trap.0 (crossing row column)

-- The AOD exists; the listed ids are active and none is listed twice; each listed atom is dropped so, and once; and
-- each atom that is held at a row or a column that is switched off is listed.
pub record IsLegalDeactivate (a : Architecture) (s : State) (aod : ℕ) (rows columns : List ℕ) (atoms : List Dropped) : Type 0 where
  pub known : aod < length s.aods
  pub rows_once : AreOnce rows
  pub columns_once : AreOnce columns
  pub rows_active : All (HasId (beams_of s aod).rows) rows
  pub columns_active : All (HasId (beams_of s aod).columns) columns
  pub drops : All (Drops a s aod rows columns) atoms
  pub once : AreOnce (map (λ d. d.q) atoms)
  -- each atom that is held at a crossing of a listed beam is listed
  pub all : (q row column : ℕ) → IsAt s q (Held aod row column) → Contains rows row ⊎ Contains columns column →
      Any (λ d. d.q ≡ q) atoms

-- The qubit rests in a trap.
abbrev pub Rests : State → ℕ → Type 0
Rests s q = (t : TrapId) × IsAt s q (Trap t)

-- The pair has these two qubits, in either order.
abbrev pub IsPairOf : PairOf → ℕ → ℕ → Type 0
IsPairOf p q r = ((p.a ≡ q) × (p.b ≡ r)) ⊎ ((p.a ≡ r) × (p.b ≡ q))

-- Each listed pair is in range, each two qubits in range are a listed pair, and no pair is listed twice in either
-- order.
pub record ListsPairsInRange (a : Architecture) (s : State) (pairs : List PairOf) : Type 0 where
  pub only : All (λ p. AreInRange a s p.a p.b) pairs
  pub all : (q r : ℕ) → AreInRange a s q r → Any (λ p. IsPairOf p q r) pairs
  pub once : AllPairs (λ p p'. ¬ IsPairOf p' p.a p.b) pairs

-- Exactly the pairs in range are listed; each qubit that rests in a lit trap is in a listed pair; and no crossing of
-- any AOD is lit.
pub record IsLegalPulse (a : Architecture) (s : State) (pairs : List PairOf) : Type 0 where
  pub in_range : ListsPairsInRange a s pairs
  -- no atom is lit alone
  pub none_alone : (q : ℕ) (p : Point) → RestsLit a s q p → Any (λ pair. (pair.a ≡ q) ⊎ (pair.b ≡ q)) pairs
  -- no crossing stands inside a lit box
  pub dark : (aod : ℕ) → EachCrossing (beams_of s aod).rows (beams_of s aod).columns (λ row column. ¬ IsLit a (crossing row column))

-- A step is legal in a state: an activate, a move, a deactivate or a pulse as above; a one-qubit gate where its qubit
-- rests in a trap; a readout where each of its qubits does.
abbrev pub IsLegal : Architecture → State → Step → Type 0
IsLegal a s (Activate aod rows columns atoms) =
    IsLegalActivate a s aod rows columns (with_beams rows (beams_of s aod).rows) (with_beams columns (beams_of s aod).columns) atoms
IsLegal a s (Move aod rows columns) = IsLegalMove a s aod rows columns (with_beams rows []) (with_beams columns [])
IsLegal a s (Deactivate aod rows columns atoms) = IsLegalDeactivate a s aod rows columns atoms
IsLegal a s (One gate) = Rests s gate.q
IsLegal a s (Pulse pairs) = IsLegalPulse a s pairs
IsLegal a s (Readout reads) = All (λ read. Rests s read.q) reads
