-- Traps that hold an atom where a move takes another one.
use Rattle.std.proofs.Common.{◌≡◌, ℕ, ◌<◌, ◌≤◌, ◌⊎◌, inl, inr, Bool, IsTrue, Option, Some, None, MatchOption, List, length, sym, ap, ◌∙◌, subst, arith}
use Rattle.std.proofs.lemmas.Bool.{cases_order}
use Rattle.std.proofs.lemmas.Option.{slice_get_within}
use Rattle.std.specs.List.{Contains}
use Rattle.zac_arch.specs.Architecture.{Architecture, StandsAt}
use Rattle.zac_arch.specs.declared.place.Point.{Point}
use Rattle.zac_arch.specs.declared.place.TrapId.{TrapId}
use Rattle.zair_form.specs.declared.step.Beam.{Beam}
use Rattle.zair_state.specs.declared.place.Place.{Place}
use Rattle.zair_state.specs.declared.place.Place.TheVariants.{Trap, Held}
use Rattle.zair_state.specs.State.{State, IsAt, crossing}
use Rattle.zair_machine.specs.Crossings.{CarriesOntoFull}
use Rattle.zair_state.proofs.BeamLists.{Rising, one_of_id}
use Rattle.zair_state.specs.Least.{IsLeastOf}
use Rattle.zair_state.proofs.Minima.{Same, least_same}
use Rattle.zair_state.proofs.Picking.{held_same, place_same}

abbrev pub NoMove : ℕ → List Beam → List Beam → Place → Type 0
NoMove aod rows columns place = (r c : Beam) → Contains rows r → Contains columns c → ¬ (place ≡ Held aod r.id c.id)

abbrev pub Moved : ℕ → List Beam → List Beam → Place → Point → Type 0
Moved aod rows columns place p = (r : Beam) × (c : Beam) × Contains rows r × Contains columns c × (place ≡ Held aod r.id c.id) × (p ≡ crossing r c)

abbrev pub Full : Architecture → State → ℕ → List Beam → List Beam → Place → TrapId → Type 0
Full a s aod rows columns place t =
    (r : Beam) × (c : Beam) × Contains rows r × Contains columns c × (place ≡ Held aod r.id c.id) × StandsAt a t.0 (crossing r c) × ((p : ℕ) × IsAt s p (Trap t))

abbrev pub FullTrap : Architecture → State → ℕ → List Beam → List Beam → Place → Option TrapId → Type 0
FullTrap a s aod rows columns place o =
    MatchOption o ((t : TrapId) → ¬ Full a s aod rows columns place t) (λ t. Full a s aod rows columns place t × ((u : TrapId) → Full a s aod rows columns place u → u ≡ t))

pub same_trap_number : (t u : TrapId) → t.0 ≡ u.0 → t ≡ u
same_trap_number t u e = ap (λ (n : ℕ). record { 0 = n }) e

pub only_trap : (a : Architecture) (p : Point) (t : TrapId) → ((t u : ℕ) (p : Point) → StandsAt a t p → StandsAt a u p → t ≡ u) → StandsAt a t.0 p → (u : TrapId) → StandsAt a u.0 p → u ≡ t
only_trap a p t one at u au = same_trap_number u t (one u.0 t.0 p au at)

moved_there : (aod : ℕ) (rows columns : List Beam) (place : Place) (p : Point) → Rising rows → Rising columns → Moved aod rows columns place p → (r c : Beam) → Contains rows r → Contains columns c → place ≡ Held aod r.id c.id → crossing r c ≡ p
moved_there aod rows columns place p up across m r c in_rows in_columns e =
    let same = held_same aod r.id c.id aod m.0.id m.1.id (sym e ∙ m.4) in
    let er : r ≡ m.0 = one_of_id rows r m.0 up in_rows m.2 same.1 in
    let ec : c ≡ m.1 = one_of_id columns c m.1 across in_columns m.3 same.2 in
    ap (λ (b : Beam). crossing b c) er ∙ ap (λ (b : Beam). crossing m.0 b) ec ∙ sym m.5

pub full_told : (a : Architecture) (s : State) (aod : ℕ) (rows columns : List Beam) (place : Place) (p : Point) (o : Option TrapId) → Rising rows → Rising columns → Moved aod rows columns place p
    → MatchOption o ((t : TrapId) → StandsAt a t.0 p → ¬ ((q : ℕ) × IsAt s q (Trap t))) (λ t. StandsAt a t.0 p × ((q : ℕ) × IsAt s q (Trap t)) × ((u : TrapId) → StandsAt a u.0 p → u ≡ t)) → FullTrap a s aod rows columns place o
full_told a s aod rows columns place p None up across m told = λ t f.
    told t (subst (λ (q : Point). StandsAt a t.0 q) (moved_there aod rows columns place p up across m f.0 f.1 f.2 f.3 f.4) f.5) f.6
full_told a s aod rows columns place p (Some t) up across m told = (
  (m.0, m.1, m.2, m.3, m.4, subst (λ (q : Point). StandsAt a t.0 q) m.5 told.0, told.1),
  λ u f.
      told.2 u (subst (λ (q : Point). StandsAt a u.0 q) (moved_there aod rows columns place p up across m f.0 f.1 f.2 f.3 f.4) f.5),
)

pub unmoved_full : (a : Architecture) (s : State) (aod : ℕ) (rows columns : List Beam) (place : Place) → NoMove aod rows columns place → (t : TrapId) → ¬ Full a s aod rows columns place t
unmoved_full a s aod rows columns place none t f = none f.0 f.1 f.2 f.3 f.4

pub never_full : (a : Architecture) (s : State) (t : TrapId) → ((q : ℕ) → ¬ IsAt s q (Trap t)) → ¬ ((q : ℕ) × IsAt s q (Trap t))
never_full a s t none h = none h.0 h.1

-- a qubit's atom that a move takes onto a trap with an atom
abbrev pub FullAt : Architecture → State → ℕ → List Beam → List Beam → ℕ → TrapId → Type 0
FullAt a s aod rows columns q t =
    (r : Beam) × (c : Beam) × Contains rows r × Contains columns c × IsAt s q (Held aod r.id c.id) × StandsAt a t.0 (crossing r c) × ((p : ℕ) × IsAt s p (Trap t))

at_place : (a : Architecture) (s : State) (aod : ℕ) (rows columns : List Beam) (q : ℕ) (place : Place) (t : TrapId) → IsAt s q place → FullAt a s aod rows columns q t → Full a s aod rows columns place t
at_place a s aod rows columns q place t at h = (h.0, h.1, h.2, h.3, place_same s q place (Held aod h.0.id h.1.id) at h.4, h.5, h.6)

of_place : (a : Architecture) (s : State) (aod : ℕ) (rows columns : List Beam) (q : ℕ) (place : Place) (t : TrapId) → IsAt s q place → Full a s aod rows columns place t → FullAt a s aod rows columns q t
of_place a s aod rows columns q place t at h = (h.0, h.1, h.2, h.3, subst (λ (x : Place). IsAt s q x) h.4 at, h.5, h.6)

pub full_if : (a : Architecture) (s : State) (aod : ℕ) (r c : Beam) (test : Bool) (o : Option ℕ) → Same (IsTrue test) ((t : TrapId) × StandsAt a t.0 (crossing r c) × ((p : ℕ) × IsAt s p (Trap t))) → IsLeastOf (λ q. IsTrue test × IsAt s q (Held aod r.id c.id)) o → IsLeastOf (CarriesOntoFull a s aod r c) o
full_if a s aod r c test o same h =
    least_same (λ q. IsTrue test × IsAt s q (Held aod r.id c.id)) (CarriesOntoFull a s aod r c) o (λ q. (λ k. (k.1, same.0 k.0), λ k. (same.1 k.1, k.0))) h

abbrev pub FullInRow : Architecture → State → ℕ → Beam → List Beam → ℕ → Type 0
FullInRow a s aod r columns q = (c : Beam) × Contains columns c × CarriesOntoFull a s aod r c q

-- the least qubit over crossings of rows and columns, and the trap that it is taken onto
abbrev pub FullQubit : Architecture → State → ℕ → List Beam → List Beam → ℕ → Type 0
FullQubit a s aod rows columns q = (r : Beam) × (c : Beam) × Contains rows r × Contains columns c × CarriesOntoFull a s aod r c q

full_of : (a : Architecture) (s : State) (aod : ℕ) (rows columns : List Beam) (q : ℕ) → FullQubit a s aod rows columns q → (t : TrapId) × FullAt a s aod rows columns q t
full_of a s aod rows columns q h = let k = h.4 in let w = k.1 in (w.0, (h.0, h.1, h.2, h.3, k.0, w.1, w.2))

of_full : (a : Architecture) (s : State) (aod : ℕ) (rows columns : List Beam) (q : ℕ) (t : TrapId) → FullAt a s aod rows columns q t → FullQubit a s aod rows columns q
of_full a s aod rows columns q t h = (h.0, h.1, h.2, h.3, (h.4, (t, h.5, h.6)))

pub never_full_at : (a : Architecture) (s : State) (aod : ℕ) (rows columns : List Beam) → ((q : ℕ) → ¬ FullQubit a s aod rows columns q) → (q : ℕ) (t : TrapId) → ¬ FullAt a s aod rows columns q t
never_full_at a s aod rows columns none q t h = none q (of_full a s aod rows columns q t h)

pub full_within : (a : Architecture) (s : State) (aod : ℕ) (rows columns : List Beam) (q : ℕ) → FullQubit a s aod rows columns q → q < length s.places
full_within a s aod rows columns q h = slice_get_within s.places q (Held aod h.0.id h.1.id) h.4.0

pub not_missing : (a : Architecture) (s : State) (aod : ℕ) (rows columns : List Beam) (q : ℕ) (place : Place) → IsAt s q place → FullQubit a s aod rows columns q → ¬ FullTrap a s aod rows columns place None
not_missing a s aod rows columns q place at h none = let f = full_of a s aod rows columns q h in none f.0 (at_place a s aod rows columns q place f.0 at f.1)

pub full_least : (a : Architecture) (s : State) (aod : ℕ) (rows columns : List Beam) (q : ℕ) (place : Place) (t : TrapId) → ((m : ℕ) → FullQubit a s aod rows columns m → q ≤ m) → IsAt s q place → FullTrap a s aod rows columns place (Some t) → FullAt a s aod rows columns q t × ((m : ℕ) (u : TrapId) → FullAt a s aod rows columns m u → (q < m) ⊎ ((q ≡ m) × (u ≡ t)))
full_least a s aod rows columns q place t least at told = (
  of_place a s aod rows columns q place t at told.0,
  λ m u h. elim (cases_order q m) [
    | inl e ↦ inr (e, told.1 u (at_place a s aod rows columns q place u at (subst (λ (k : ℕ). FullAt a s aod rows columns k u) (sym e) h)))
    | inr other ↦ elim other [ inl less ↦ inl less | inr more ↦ (let le = least m (of_full a s aod rows columns m u h) in absurd (omega arith)) ]
  ],
)
