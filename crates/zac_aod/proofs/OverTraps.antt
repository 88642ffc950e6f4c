-- A job that nothing disturbs: its crossings are clear, or carry an atom over an empty trap.
use Rattle.std.proofs.Common.{◌≡◌, ◌≢◌, ℕ, ◌*◌, ◌⊎◌, inl, inr, true, false, List, Some, get_or, refl, sym, ap, ◌∙◌, subst}
use Rattle.std.specs.List.{AllPairs, Contains}
use Rattle.std.proofs.lemmas.Bool.{cases_Bool, cases_eq, cases_lt, false≢true, cond-true, cond-false}
use Rattle.std.proofs.lemmas.List.Elements.{All-contains}
use Rattle.std.proofs.lemmas.Option.{slice_get-get_or}
use Rattle.zac_arch.specs.Architecture.{Architecture, trap_points}
use Rattle.zac_arch.specs.Distances.{squared_distance}
use Rattle.zac_arch.specs.Parking.{IsParkedBeside}
use Rattle.zac_arch.specs.declared.place.Point.{Point}
use Rattle.zac_arch.specs.declared.place.TrapId.{TrapId}
use Rattle.zac_group.specs.Moves.{source_x, source_y}
use Rattle.zac_group.specs.declared.shift.Shift.{Shift}
use Rattle.zair_state.specs.Legal.{CarriesOverEmptyTrap}
use Rattle.zair_state.specs.State.{State, IsAt, IsFreeOfOthers, IsClear, crossing, EachCrossing}
use Rattle.zair_state.specs.declared.place.Place.{Place}
use Rattle.zair_state.specs.declared.place.Place.TheVariants.{Trap, Held}
use Rattle.zair_state.proofs.Membership.{one_or_related, any_or_none, any_contained}
use Rattle.zac_aod.specs.Lines.{rows_of, columns_of, number_of}
use Rattle.zac_aod.specs.Soundness.{IsAtGrids, IsApartFromOthers, IsUndisturbed, IsAtStage}
use Rattle.zac_aod.specs.Stages.{is_loaded, place_at, rows_at, columns_at}
use Rattle.zac_aod.specs.declared.stage.Stage.TheVariants.{Waiting, Caught, Parked, Landed, Dropped}
use Rattle.zac_aod.specs.CardLaws.{CardLaws, Grouped}
use Rattle.zac_aod.proofs.GridFacts.{source_is_no_target}
use Rattle.zac_aod.proofs.StageFacts.{trap_at, at_crossings}
use Rattle.zac_aod.specs.declared.stage.Stage.{Stage}

pub free_at : (a : Architecture) (shifts : List Shift) (aod : ℕ) (s : State) → IsApartFromOthers a shifts aod s → (p : Point) → IsAtGrids a shifts p → IsFreeOfOthers a s aod p
free_at a shifts aod s apart p at other ne row column in_rows in_columns =
    elim (cases_lt (a.figures.reach * a.figures.reach) (squared_distance p (crossing row column))) [
      | inl lt ↦ lt
      | inr le ↦ absurd (apart other ne row column in_rows in_columns (record { corner = p; at_grids = at; near = le }))
    ]

pub clear_at : (a : Architecture) (shifts : List Shift) → CardLaws a → (aod : ℕ) (s : State) → IsApartFromOthers a shifts aod s → (p : Point) (at : IsAtGrids a shifts p) → IsParkedBeside a.figures.park at.stands p → IsClear a s aod p
clear_at a shifts laws aod s apart p at parked = record {
  free = free_at a shifts aod s apart p at;
  off_traps = λ k d within. laws.parked_apart at.trap k at.stands (get_or (trap_points a) k d) p at.stands_at (slice_get-get_or (trap_points a) k d within) parked;
}

-- no two moves of a group have one qubit, one source or one target
one_by : (R : Shift → Shift → Type 0) (shifts : List Shift) → AllPairs R shifts → (s t : Shift) → Contains shifts s → Contains shifts t → ¬ R s t → ¬ R t s → s ≡ t
one_by R shifts pairs s t c d not_there not_back = elim (one_or_related R shifts s t pairs c d) [
  | inl e ↦ e
  | inr other ↦ elim other [ inl r ↦ absurd (not_there r) | inr r ↦ absurd (not_back r) ]
]

pub same_qubit : (a : Architecture) (shifts : List Shift) → Grouped a shifts → (s t : Shift) → Contains shifts s → Contains shifts t → s.q ≡ t.q → s ≡ t
same_qubit a shifts g s t c d e = one_by (λ (x y : Shift). x.q ≢ y.q) shifts g.phase.qubits s t c d (λ ne. ne e) (λ ne. ne (sym e))

pub same_source : (a : Architecture) (shifts : List Shift) → Grouped a shifts → (s t : Shift) → Contains shifts s → Contains shifts t → s.from ≡ t.from → s ≡ t
same_source a shifts g s t c d e = one_by (λ (x y : Shift). x.from ≢ y.from) shifts g.phase.sources s t c d (λ ne. ne e) (λ ne. ne (sym e))

pub same_target : (a : Architecture) (shifts : List Shift) → Grouped a shifts → (s t : Shift) → Contains shifts s → Contains shifts t → s.to ≡ t.to → s ≡ t
same_target a shifts g s t c d e = one_by (λ (x y : Shift). x.to ≢ y.to) shifts g.phase.targets s t c d (λ ne. ne e) (λ ne. ne (sym e))

trap_cases : (stage : Stage) (s : Shift) → (trap_at stage s ≡ s.from) ⊎ (trap_at stage s ≡ s.to)
trap_cases Waiting s = inl refl
trap_cases (Caught turn) s = inl refl
trap_cases (Parked turn next) s = inl refl
trap_cases (Landed turn) s = inr refl
trap_cases (Dropped turn) s = inr refl

-- a trap belongs to one move
one_of_trap : (a : Architecture) (shifts : List Shift) → CardLaws a → Grouped a shifts → (s m : Shift) → Contains shifts s → Contains shifts m → (t : TrapId) → (s.from ≡ t) ⊎ (s.to ≡ t) → (t ≡ m.from) ⊎ (t ≡ m.to) → s ≡ m
one_of_trap a shifts laws g s m c d t which other = elim which [
  | inl e ↦ elim other [
    | inl f ↦ same_source a shifts g s m c d (e ∙ f)
    | inr f ↦ absurd (source_is_no_target a shifts laws g s m c d (e ∙ f))
  ]
  | inr e ↦ elim other [
    | inl f ↦ absurd (source_is_no_target a shifts laws g m s d c (sym f ∙ sym e))
    | inr f ↦ same_target a shifts g s m c d (e ∙ f)
  ]
]

pub held_at : (a : Architecture) (shifts : List Shift) (aod : ℕ) (stage : Stage) (s : Shift) → is_loaded stage (source_y a s) ≡ true
    → place_at a shifts aod stage s ≡ Held aod (number_of (rows_of a shifts) (source_y a s)) (number_of (columns_of a shifts) (source_x a s))
held_at a shifts aod stage s e = cond-true (is_loaded stage (source_y a s)) (Held aod (number_of (rows_of a shifts) (source_y a s)) (number_of (columns_of a shifts) (source_x a s))) (Trap (trap_at stage s)) e

pub rests_at : (a : Architecture) (shifts : List Shift) (aod : ℕ) (stage : Stage) (s : Shift) → is_loaded stage (source_y a s) ≡ false → place_at a shifts aod stage s ≡ Trap (trap_at stage s)
rests_at a shifts aod stage s e = cond-false (is_loaded stage (source_y a s)) (Held aod (number_of (rows_of a shifts) (source_y a s)) (number_of (columns_of a shifts) (source_x a s))) (Trap (trap_at stage s)) e

pub held_is_no_trap : (n row column : ℕ) (t : TrapId) → Held n row column ≡ Trap t → ⊥
held_is_no_trap n row column t e = cc

one_trap_place : (t u : TrapId) → Trap t ≡ Trap u → t ≡ u
one_trap_place t u e = cc

same_held : (n row column m row' column' : ℕ) → Held n row column ≡ Held m row' column' → (row ≡ row') × (column ≡ column')
same_held n row column m row' column' e = (cc, cc)

pub one_place : (s : State) (q : ℕ) (p p' : Place) → IsAt s q p → IsAt s q p' → p ≡ p'
one_place s q p p' h k = cc

-- an atom of the group that rests in a trap isn't loaded, and the trap is its own
pub record Resting (a : Architecture) (stage : Stage) (s : Shift) (t : TrapId) : Type 0 where
  pub unloaded : is_loaded stage (source_y a s) ≡ false
  pub own : trap_at stage s ≡ t

pub resting : (a : Architecture) (shifts : List Shift) (aod : ℕ) (stage : Stage) (s : Shift) (t : TrapId) → place_at a shifts aod stage s ≡ Trap t → Resting a stage s t
resting a shifts aod stage s t e = elim (cases_Bool (is_loaded stage (source_y a s))) [
  | inl on ↦ absurd (held_is_no_trap aod (number_of (rows_of a shifts) (source_y a s)) (number_of (columns_of a shifts) (source_x a s)) t (sym (held_at a shifts aod stage s on) ∙ e))
  | inr off ↦ record { unloaded = off; own = one_trap_place (trap_at stage s) t (sym (rests_at a shifts aod stage s off) ∙ e) }
]

-- an atom of the group that is held is loaded, and held by its row and its column
pub record Holding (a : Architecture) (shifts : List Shift) (stage : Stage) (s : Shift) (row column : ℕ) : Type 0 where
  pub loaded : is_loaded stage (source_y a s) ≡ true
  pub row_is : number_of (rows_of a shifts) (source_y a s) ≡ row
  pub column_is : number_of (columns_of a shifts) (source_x a s) ≡ column

pub holding : (a : Architecture) (shifts : List Shift) (aod : ℕ) (stage : Stage) (s : Shift) (row column : ℕ) → place_at a shifts aod stage s ≡ Held aod row column → Holding a shifts stage s row column
holding a shifts aod stage s row column e = elim (cases_Bool (is_loaded stage (source_y a s))) [
  | inl on ↦
      let same = same_held aod (number_of (rows_of a shifts) (source_y a s)) (number_of (columns_of a shifts) (source_x a s)) aod row column (sym (held_at a shifts aod stage s on) ∙ e) in
      record { loaded = on; row_is = same.0; column_is = same.1 }
  | inr off ↦ absurd (held_is_no_trap aod row column (trap_at stage s) (sym e ∙ rests_at a shifts aod stage s off))
]

-- where the atom of a move of the group is
pub atom_at : (a : Architecture) (shifts : List Shift) (aod : ℕ) (stage : Stage) (s : State) → IsAtStage a shifts aod stage s → (m : Shift) → Contains shifts m → IsAt s m.q (place_at a shifts aod stage m)
atom_at a shifts aod stage s h m c = All-contains (λ (n : Shift). IsAt s n.q (place_at a shifts aod stage n)) shifts m h.atoms c

-- nothing rests in the source and the target of a move whose atom is held
pub empty_under : (a : Architecture) (shifts : List Shift) → CardLaws a → Grouped a shifts → (aod : ℕ) (stage : Stage) (s : State) → IsUndisturbed a shifts aod s → IsAtStage a shifts aod stage s
    → (m : Shift) → Contains shifts m → is_loaded stage (source_y a m) ≡ true → (t : TrapId) → (t ≡ m.from) ⊎ (t ≡ m.to) → (q : ℕ) → ¬ IsAt s q (Trap t)
empty_under a shifts laws g aod stage s u h m c loaded t which q rests =
    elim (any_or_none (λ (n : Shift). n.q ≡ q) shifts (λ n. cases_eq n.q q)) [
      | inr stranger ↦
          let none = All-contains (λ (n : Shift). (t ≢ n.from) × (t ≢ n.to)) shifts m (u.strangers q t rests stranger) c in
          elim which [ inl e ↦ none.0 e | inr e ↦ none.1 e ]
      | inl own ↦
          let n = any_contained (λ (n : Shift). n.q ≡ q) shifts own in
          let at_trap : IsAt s n.0.q (Trap t) = subst (λ (k : ℕ). IsAt s k (Trap t)) (sym n.2) rests in
          let at_rest = resting a shifts aod stage n.0 t (one_place s n.0.q (place_at a shifts aod stage n.0) (Trap t) (atom_at a shifts aod stage s h n.0 n.1) at_trap) in
          let trap : (n.0.from ≡ t) ⊎ (n.0.to ≡ t) = elim (trap_cases stage n.0) [ inl e ↦ inl (sym e ∙ at_rest.own) | inr e ↦ inr (sym e ∙ at_rest.own) ] in
          let same : n.0 ≡ m = one_of_trap a shifts laws g n.0 m n.1 c t trap which in
          false≢true (sym (subst (λ (x : Shift). is_loaded stage (source_y a x) ≡ false) same at_rest.unloaded) ∙ loaded)
    ]

-- each crossing at a stage is clear or carries its atom, where the same atoms are held before
pub crossings_legal : (a : Architecture) (shifts : List Shift) → CardLaws a → Grouped a shifts → (aod : ℕ) (before next : Stage) (s : State) → IsUndisturbed a shifts aod s → IsAtStage a shifts aod before s
    → ((m : Shift) → Contains shifts m → is_loaded before (source_y a m) ≡ is_loaded next (source_y a m))
    → EachCrossing (rows_at a shifts next) (columns_at a shifts next) (λ row column. IsClear a s aod (crossing row column) ⊎ CarriesOverEmptyTrap a s aod row column)
crossings_legal a shifts laws g aod before next s u h same row column in_rows in_columns =
    let at = at_crossings a shifts laws g next row column in_rows in_columns in
    elim at.how [
      | inl parked ↦ inl (clear_at a shifts laws aod s u.apart (crossing row column) at.at_grids parked)
      | inr one ↦
          let loaded : is_loaded before (source_y a one.move) ≡ true = same one.move one.among ∙ one.loaded in
          let place : place_at a shifts aod before one.move ≡ Held aod row.id column.id =
          held_at a shifts aod before one.move loaded ∙ (λ i. Held aod (one.row_is i) (one.column_is i)) in
          inr (record {
            q = one.move.q;
            holds = atom_at a shifts aod before s h one.move one.among ∙ ap Some place;
            trap = trap_at next one.move;
            exact = one.exact;
            empty = empty_under a shifts laws g aod before s u h one.move one.among loaded (trap_at next one.move) (trap_cases next one.move);
            free = free_at a shifts aod s u.apart (crossing row column) at.at_grids;
          })
    ]
