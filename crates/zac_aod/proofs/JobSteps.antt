-- Which steps a job has: it catches each row and drops each row, and else moves.
use Rattle.std.proofs.Common.{◌≡◌, ℕ, inl, inr, List, [], ◌∷◌, ◌++◌, map, ap, subst}
use Rattle.std.specs.List.{Contains}
use Rattle.zac_arch.specs.Architecture.{Architecture}
use Rattle.zac_group.specs.declared.shift.Shift.{Shift}
use Rattle.zair_form.specs.declared.step.Step.{Step}
use Rattle.zair_state.proofs.Membership.{contains_none, contains_here, contains_later, contains_cases, contains_map, contained_in_map}
use Rattle.zac_aod.specs.Lines.{rows_of}
use Rattle.zac_aod.specs.Lowering.{Leg, legs, loading, flight, unloading, job_steps, catch_row, move_to, drop_row}
use Rattle.zac_aod.specs.declared.line.Line.{Line}
use Rattle.zac_aod.specs.declared.stage.Stage.{Stage}
use Rattle.zac_aod.specs.declared.stage.Stage.TheVariants as stage
use Rattle.zac_aod.proofs.ListParts.{contained_in_append, contains_left}

-- a step catches one of these rows, moves, or drops one of these rows
pub data Kind (a : Architecture) (shifts : List Shift) (aod : ℕ) (lines : List Line) (step : Step) : Type 0 where
  catches : (r : Line) → Contains lines r → catch_row a shifts aod r.from ≡ step → Kind a shifts aod lines step
  moves : (stage : Stage) → move_to a shifts aod stage ≡ step → Kind a shifts aod lines step
  drops : (r : Line) → Contains lines r → drop_row a shifts aod r.from ≡ step → Kind a shifts aod lines step

wider : (a : Architecture) (shifts : List Shift) (aod : ℕ) (l : Line) (lines : List Line) (step : Step) → Kind a shifts aod lines step → Kind a shifts aod (l ∷ lines) step
wider a shifts aod l lines step (catches r c e) = catches r (contains_later l r lines c) e
wider a shifts aod l lines step (moves stage e) = moves stage e
wider a shifts aod l lines step (drops r c e) = drops r (contains_later l r lines c) e

-- the steps of legs
abbrev pub steps_in : List Leg → List Step
steps_in ls = map (λ leg. leg.step) ls

step_of : (leg other : Leg) → leg ≡ other → leg.step ≡ other.step
step_of leg other e = ap (λ (x : Leg). x.step) e

in_loading : (a : Architecture) (shifts : List Shift) (aod : ℕ) (lines : List Line) (leg : Leg) → Contains (loading a shifts aod lines) leg → Kind a shifts aod lines leg.step
in_loading a shifts aod [] leg c = absurd (contains_none leg c)
in_loading a shifts aod (r ∷ []) leg c =
    let first : Leg = record { step = catch_row a shifts aod r.from; stage = stage.Caught r.from } in
    elim (contains_cases first leg [] c) [
      | inl e ↦ catches r (contains_here r []) (step_of first leg e)
      | inr none ↦ absurd (contains_none leg none)
    ]
in_loading a shifts aod (r ∷ s ∷ rs) leg c =
    let first : Leg = record { step = catch_row a shifts aod r.from; stage = stage.Caught r.from } in
    let second : Leg = record { step = move_to a shifts aod (stage.Parked r.from s.from); stage = stage.Parked r.from s.from } in
    let rest = loading a shifts aod (s ∷ rs) in
    elim (contains_cases first leg (second ∷ rest) c) [
      | inl e ↦ catches r (contains_here r (s ∷ rs)) (step_of first leg e)
      | inr d ↦ elim (contains_cases second leg rest d) [
        | inl e ↦ moves (stage.Parked r.from s.from) (step_of second leg e)
        | inr later ↦ wider a shifts aod r (s ∷ rs) leg.step (in_loading a shifts aod (s ∷ rs) leg later)
      ]
    ]

in_flight : (a : Architecture) (shifts : List Shift) (aod : ℕ) (lines : List Line) (leg : Leg) → Contains (flight a shifts aod lines) leg → Kind a shifts aod lines leg.step
in_flight a shifts aod [] leg c = absurd (contains_none leg c)
in_flight a shifts aod (r ∷ rs) leg c =
    let first : Leg = record { step = move_to a shifts aod (stage.Landed r.from); stage = stage.Landed r.from } in
    elim (contains_cases first leg [] c) [
      | inl e ↦ moves (stage.Landed r.from) (step_of first leg e)
      | inr none ↦ absurd (contains_none leg none)
    ]

in_unloading : (a : Architecture) (shifts : List Shift) (aod : ℕ) (lines : List Line) (leg : Leg) → Contains (unloading a shifts aod lines) leg → Kind a shifts aod lines leg.step
in_unloading a shifts aod [] leg c = absurd (contains_none leg c)
in_unloading a shifts aod (r ∷ []) leg c =
    let first : Leg = record { step = drop_row a shifts aod r.from; stage = stage.Dropped r.from } in
    elim (contains_cases first leg [] c) [
      | inl e ↦ drops r (contains_here r []) (step_of first leg e)
      | inr none ↦ absurd (contains_none leg none)
    ]
in_unloading a shifts aod (r ∷ s ∷ rs) leg c =
    let first : Leg = record { step = drop_row a shifts aod r.from; stage = stage.Dropped r.from } in
    let second : Leg = record { step = move_to a shifts aod (stage.Landed s.from); stage = stage.Landed s.from } in
    let rest = unloading a shifts aod (s ∷ rs) in
    elim (contains_cases first leg (second ∷ rest) c) [
      | inl e ↦ drops r (contains_here r (s ∷ rs)) (step_of first leg e)
      | inr d ↦ elim (contains_cases second leg rest d) [
        | inl e ↦ moves (stage.Landed s.from) (step_of second leg e)
        | inr later ↦ wider a shifts aod r (s ∷ rs) leg.step (in_unloading a shifts aod (s ∷ rs) leg later)
      ]
    ]

-- each step of a job is of one of the three kinds
pub kind_of : (a : Architecture) (shifts : List Shift) (aod : ℕ) (step : Step) → Contains (job_steps a shifts aod) step → Kind a shifts aod (rows_of a shifts) step
kind_of a shifts aod step c =
    let rows = rows_of a shifts in
    let found = contained_in_map (λ (leg : Leg). leg.step) (legs a shifts aod) step c in
    subst (Kind a shifts aod rows) found.2
    (elim (contained_in_append (loading a shifts aod rows ++ flight a shifts aod rows) (unloading a shifts aod rows) found.0 found.1) [
      | inl before ↦ elim (contained_in_append (loading a shifts aod rows) (flight a shifts aod rows) found.0 before) [
        | inl loads ↦ in_loading a shifts aod rows found.0 loads
        | inr flies ↦ in_flight a shifts aod rows found.0 flies
      ]
      | inr unloads ↦ in_unloading a shifts aod rows found.0 unloads
    ])

-- each row has a leg that catches it
catch_leg : (a : Architecture) (shifts : List Shift) (aod : ℕ) (lines : List Line) (l : Line) → Contains lines l →
    Contains (loading a shifts aod lines) (record { step = catch_row a shifts aod l.from; stage = stage.Caught l.from })
catch_leg a shifts aod [] l c = absurd (contains_none l c)
catch_leg a shifts aod (r ∷ []) l c = elim (contains_cases r l [] c) [
  | inl e ↦ subst (λ (m : Line). Contains (loading a shifts aod (r ∷ [])) (record { step = catch_row a shifts aod m.from; stage = stage.Caught m.from })) e
      (contains_here (record { step = catch_row a shifts aod r.from; stage = stage.Caught r.from }) [])
  | inr none ↦ absurd (contains_none l none)
]
catch_leg a shifts aod (r ∷ s ∷ rs) l c =
    let first : Leg = record { step = catch_row a shifts aod r.from; stage = stage.Caught r.from } in
    let second : Leg = record { step = move_to a shifts aod (stage.Parked r.from s.from); stage = stage.Parked r.from s.from } in
    let rest = loading a shifts aod (s ∷ rs) in
    let wanted : Leg = record { step = catch_row a shifts aod l.from; stage = stage.Caught l.from } in
    elim (contains_cases r l (s ∷ rs) c) [
      | inl e ↦ subst (λ (m : Line). Contains (loading a shifts aod (r ∷ s ∷ rs)) (record { step = catch_row a shifts aod m.from; stage = stage.Caught m.from })) e
          (contains_here first (second ∷ rest))
      | inr later ↦ contains_later first wanted (second ∷ rest) (contains_later second wanted rest (catch_leg a shifts aod (s ∷ rs) l later))
    ]

pub catches_row : (a : Architecture) (shifts : List Shift) (aod : ℕ) (l : Line) → Contains (rows_of a shifts) l → Contains (job_steps a shifts aod) (catch_row a shifts aod l.from)
catches_row a shifts aod l c =
    let rows = rows_of a shifts in
    let leg : Leg = record { step = catch_row a shifts aod l.from; stage = stage.Caught l.from } in
    contains_map (λ (leg : Leg). leg.step) (legs a shifts aod) leg
    (contains_left (loading a shifts aod rows ++ flight a shifts aod rows) (unloading a shifts aod rows) leg
    (contains_left (loading a shifts aod rows) (flight a shifts aod rows) leg (catch_leg a shifts aod rows l c)))
