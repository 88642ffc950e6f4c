-- The steps of a job are sound: they advance from stage to stage, and behind the last one the atoms have arrived.
use Rattle.std.proofs.Common.{◌≡◌, ◌≢◌, ℕ, zero, suc, ◌+◌, ◌<◌, ◌≤◌, inl, inr, Bool, true, false, cond, List, [], ◌∷◌, ◌++◌, Some, length, map, get_or, refl, sym, ap, ◌∙◌, subst, arith, slice_get}
use Rattle.std.specs.Prelude.{take, ◌==◌, ◌&&◌}
use Rattle.std.specs.List.{Contains, list_any}
use Rattle.std.proofs.lemmas.Bool.{cond-true, cond-false, cases_eq, le-ltb}
use Rattle.std.proofs.lemmas.List.{same_lists, get_or_default}
use Rattle.std.proofs.lemmas.List.Elements.{All-contains}
use Rattle.std.proofs.lemmas.Option.{slice_get-get_or, get_or_from_slice_get, slice_get_within}
use Rattle.zac_arch.specs.Architecture.{Architecture}
use Rattle.zac_arch.specs.declared.place.TrapId.{TrapId}
use Rattle.zac_group.specs.Moves.{source_x, source_y}
use Rattle.zac_group.specs.declared.shift.Shift.{Shift}
use Rattle.zair_form.specs.declared.step.Dropped.{Dropped}
use Rattle.zair_form.specs.declared.step.Step.{Step}
use Rattle.zair_state.specs.Result.{after, after_dropping}
use Rattle.zair_state.specs.Run.{IsLegalRun, after_all}
use Rattle.zair_state.specs.State.{State, Beams, beams_of, idle, IsAt, HasId, crossing, EachCrossing}
use Rattle.zair_state.specs.declared.place.Place.{Place}
use Rattle.zair_state.specs.declared.place.Place.TheVariants.{Trap, Held}
use Rattle.zair_state.proofs.Membership.{contains_none, contains_here, contains_later, contains_cases, all_from_contains, any_from_contained, any_contained, any_or_none, contains_map, contained_in_map, one_by_distinct_key, pairs_head, pairs_tail}
use Rattle.zair_state.proofs.Placing.{after_dropping_at, not_dropped_stays}
use Rattle.zac_aod.specs.Lines.{rows_of, columns_of, number_of}
use Rattle.zac_aod.specs.Lowering.{Leg, legs, loading, flight, unloading, dropped, job_steps}
use Rattle.zac_aod.specs.Soundness.{IsReady, IsUndisturbed, IsAtStage, Advances, IsAtGrids, IsSoundJob}
use Rattle.zac_aod.specs.Stages.{is_loaded, is_over_targets, is_column_active, beams_over, row_at, column_at, rows_at, columns_at, beams_at, place_at}
use Rattle.zac_aod.specs.declared.line.Line.{Line}
use Rattle.zac_aod.specs.declared.stage.Stage.{Stage}
use Rattle.zac_aod.specs.declared.stage.Stage.TheVariants as stage
use Rattle.zac_aod.specs.CardLaws.{Grouped}
use Rattle.zac_aod.proofs.JobSteps.{steps_in}
use Rattle.zac_aod.proofs.LineFacts.{Rise, rows_rise, has_row, row_of, atom_of_row}
use Rattle.zac_aod.proofs.Undisturbed.{Keeps, keeps_itself, keeps_further, length_dropping, step_keeps, stays_undisturbed}

none_over : (active : Line → Bool) (at : Line → ℕ) (id : ℕ) (lines : List Line) → ((l : Line) → Contains lines l → active l ≡ false) → beams_over active at id lines ≡ []
none_over active at id [] none = refl
none_over active at id (l ∷ ls) none =
    cond-false (active l) (record { id = id; at = at l } ∷ beams_over active at (id + 1) ls) (beams_over active at (id + 1) ls) (none l (contains_here l ls))
    ∙ none_over active at (id + 1) ls (λ m c. none m (contains_later l m ls c))

none_passes : {X : Type 0} (test : X → Bool) (xs : List X) → ((x : X) → Contains xs x → test x ≡ false) → list_any test xs ≡ false
none_passes test [] none = refl
none_passes test (x ∷ xs) none =
    let here : test x ≡ false = none x (contains_here x xs) in
    let later : list_any test xs ≡ false = none_passes test xs (λ y c. none y (contains_later x y xs c)) in
    cc

-- where no atom is held no beam is active
pub idle_at : (a : Architecture) (shifts : List Shift) (stage : Stage) → ((s : Shift) → Contains shifts s → is_loaded stage (source_y a s) ≡ false) → beams_at a shifts stage ≡ idle
idle_at a shifts stage none =
    let rows : rows_at a shifts stage ≡ [] = none_over (λ l. is_loaded stage l.from) (row_at a stage) 0 (rows_of a shifts) (λ l c.
    let s = atom_of_row a shifts l c in
    ap (λ (m : Line). is_loaded stage m.from) (sym s.2) ∙ none s.0 s.1) in
    let columns : columns_at a shifts stage ≡ [] = none_over (is_column_active a shifts stage) (column_at a shifts stage) 0 (columns_of a shifts) (λ l c.
    none_passes (λ s. is_loaded stage (source_y a s) && source_x a s == l.from) shifts (λ s d.
    ap (λ t. t && source_x a s == l.from) (none s d))) in
    λ i. record { rows = rows i; columns = columns i }

-- a state in which a job can begin is at the first stage
waits : (a : Architecture) (shifts : List Shift) (aod : ℕ) (s : State) → IsReady a shifts aod s → IsAtStage a shifts aod stage.Waiting s
waits a shifts aod s ready = record {
  beams = ready.idle_aod ∙ sym (idle_at a shifts stage.Waiting (λ s c. refl));
  atoms = ready.at_sources;
  own = λ q row column at.
      absurd (contains_none row (subst (λ (b : Beams). HasId b.rows row) ready.idle_aod (ready.sound.held q aod row column at).0));
}

undisturbed : (a : Architecture) (shifts : List Shift) (aod : ℕ) (s : State) → IsReady a shifts aod s → IsUndisturbed a shifts aod s
undisturbed a shifts aod s ready = record {
  known = let lt = ready.known in let e = ready.sound.all_aods in omega arith;
  strangers = λ q t at none. all_from_contains (λ (shift : Shift). (t ≢ shift.from) × (t ≢ shift.to)) shifts (λ shift c. (
    λ e. none (any_from_contained (λ (x : Shift). x.q ≡ q) shifts shift c
        (ready.sound.apart shift.q q (Trap t) (All-contains (λ (x : Shift). IsAt s x.q (Trap x.from)) shifts shift ready.at_sources c ∙ ap (λ (u : TrapId). Some (Trap u)) (sym e)) at)),
    λ e. All-contains (λ (x : Shift). (r : ℕ) → ¬ IsAt s r (Trap x.to)) shifts shift ready.empty_targets c q (at ∙ ap (λ (u : TrapId). Some (Trap u)) e),
  ));
  apart = ready.apart;
}

-- each step of these keeps the rest of the state
abbrev KeepRest : List Shift → ℕ → List Step → Type 0
KeepRest shifts aod steps = (step : Step) → Contains steps step → (s : State) → Keeps shifts aod s (after s step)

first_keeps : (shifts : List Shift) (aod : ℕ) (step : Step) (steps : List Step) → KeepRest shifts aod (step ∷ steps) → (s : State) → Keeps shifts aod s (after s step)
first_keeps shifts aod step steps keep s = keep step (contains_here step steps) s

later_keep : (shifts : List Shift) (aod : ℕ) (step : Step) (steps : List Step) → KeepRest shifts aod (step ∷ steps) → KeepRest shifts aod steps
later_keep shifts aod step steps keep later c = keep later (contains_later step later steps c)

-- legs that advance are legal, one after another
runs : (a : Architecture) (shifts : List Shift) (aod : ℕ) (stage : Stage) (ls : List Leg) → Advances a shifts aod stage ls → KeepRest shifts aod (steps_in ls)
    → (s : State) → IsUndisturbed a shifts aod s → IsAtStage a shifts aod stage s → IsLegalRun a s (steps_in ls)
runs a shifts aod stage [] advance keep s quiet at = tt
runs a shifts aod stage (leg ∷ ls) advance keep s quiet at =
    let next = advance.0 s quiet at in (
      next.0,
      runs a shifts aod leg.stage ls advance.1 (later_keep shifts aod leg.step (steps_in ls) keep) (after s leg.step)
          (stays_undisturbed a shifts aod s (after s leg.step) (first_keeps shifts aod leg.step (steps_in ls) keep s) quiet) next.1,
    )

-- the stage after all the legs
abbrev last_stage : Stage → List Leg → Stage
last_stage stage [] = stage
last_stage stage (leg ∷ ls) = last_stage leg.stage ls

-- a state at a stage, in which all else is as in another state
record Reached (a : Architecture) (shifts : List Shift) (aod : ℕ) (stage : Stage) (s s' : State) : Type 0 where
  at : IsAtStage a shifts aod stage s'
  rest : Keeps shifts aod s s'

reaches : (a : Architecture) (shifts : List Shift) (aod : ℕ) (stage : Stage) (ls : List Leg) → Advances a shifts aod stage ls → KeepRest shifts aod (steps_in ls)
    → (s : State) → IsUndisturbed a shifts aod s → IsAtStage a shifts aod stage s → Reached a shifts aod (last_stage stage ls) s (after_all s (steps_in ls))
reaches a shifts aod stage [] advance keep s quiet at = record { at = at; rest = keeps_itself shifts aod s }
reaches a shifts aod stage (leg ∷ ls) advance keep s quiet at =
    let next = advance.0 s quiet at in
    let kept = first_keeps shifts aod leg.step (steps_in ls) keep s in
    let r = reaches a shifts aod leg.stage ls advance.1 (later_keep shifts aod leg.step (steps_in ls) keep) (after s leg.step)
    (stays_undisturbed a shifts aod s (after s leg.step) kept quiet) next.1 in
    record { at = r.at; rest = keeps_further shifts aod s (after s leg.step) (after_all (after s leg.step) (steps_in ls)) kept r.rest }

-- after some of the steps the beams are those of a stage
stage_after : (a : Architecture) (shifts : List Shift) (aod : ℕ) (stage : Stage) (ls : List Leg) → Advances a shifts aod stage ls → KeepRest shifts aod (steps_in ls)
    → (s : State) → IsUndisturbed a shifts aod s → IsAtStage a shifts aod stage s → (k : ℕ)
    → (now : Stage) × (beams_of (after_all s (take k (steps_in ls))) aod ≡ beams_at a shifts now)
stage_after a shifts aod stage [] advance keep s quiet at zero = (stage, at.beams)
stage_after a shifts aod stage [] advance keep s quiet at (suc k) = (stage, at.beams)
stage_after a shifts aod stage (leg ∷ ls) advance keep s quiet at zero = (stage, at.beams)
stage_after a shifts aod stage (leg ∷ ls) advance keep s quiet at (suc k) =
    let next = advance.0 s quiet at in
    stage_after a shifts aod leg.stage ls advance.1 (later_keep shifts aod leg.step (steps_in ls) keep) (after s leg.step)
    (stays_undisturbed a shifts aod s (after s leg.step) (first_keeps shifts aod leg.step (steps_in ls) keep s) quiet) next.1 k

-- the stage behind a job: no atom is held, and the beams were at the targets
record IsLast (a : Architecture) (shifts : List Shift) (stage : Stage) : Type 0 where
  unloaded : (s : Shift) → Contains shifts s → is_loaded stage (source_y a s) ≡ false
  landed : is_over_targets stage ≡ true

-- the place of a move's atom at the last stage is its target
rests_in_target : (a : Architecture) (shifts : List Shift) (aod : ℕ) (stage : Stage) → IsLast a shifts stage → (m : Shift) → Contains shifts m → place_at a shifts aod stage m ≡ Trap m.to
rests_in_target a shifts aod stage last m c =
    cond-false (is_loaded stage (source_y a m)) (Held aod (number_of (rows_of a shifts) (source_y a m)) (number_of (columns_of a shifts) (source_x a m)))
    (Trap (cond (is_over_targets stage) m.to m.from)) (last.unloaded m c)
    ∙ ap Trap (cond-true (is_over_targets stage) m.to m.from last.landed)

-- dropping the atoms of the moves puts each into its target
drops_into_target : (a : Architecture) (shifts : List Shift) → Grouped a shifts → (places : List Place) (m : Shift) (place : Place) → Contains shifts m → slice_get places m.q ≡ Some place
    → slice_get (after_dropping (map dropped shifts) places) m.q ≡ Some (Trap m.to)
drops_into_target a shifts g places m place c there =
    let all = after_dropping (map dropped shifts) places in
    let same = length_dropping (map dropped shifts) places in
    let within = slice_get_within places m.q place there in
    let now : slice_get all m.q ≡ Some (get_or all m.q place) = slice_get-get_or all m.q place (omega arith) in
    elim (after_dropping_at (map dropped shifts) places m.q (get_or all m.q place) now) [
      | inl d ↦
          let n = contained_in_map dropped shifts d.0 d.1 in
          let q : n.0.q ≡ m.q = ap (λ (x : Dropped). x.q) n.2 ∙ d.2 in
          let one : n.0 ≡ m = one_by_distinct_key (λ (x : Shift). x.q) shifts n.0 m g.phase.qubits n.1 c q in
          let trap : d.0.trap ≡ m.to = ap (λ (x : Dropped). x.trap) (sym n.2) ∙ ap (λ (x : Shift). x.to) one in
          now ∙ ap Some (sym d.3 ∙ ap Trap trap)
      | inr d ↦ absurd (d.0 (dropped m, contains_map dropped shifts m c, refl))
    ]

-- each place of a state in which the atoms have arrived
same_place : (a : Architecture) (shifts : List Shift) → Grouped a shifts → (aod : ℕ) (stage : Stage) (s s' : State) → IsReady a shifts aod s → IsLast a shifts stage
    → Reached a shifts aod stage s s' → (q : ℕ) → slice_get s'.places q ≡ slice_get (after_dropping (map dropped shifts) s.places) q
same_place a shifts g aod stage s s' ready last r q =
    elim (any_or_none (λ (x : Shift). x.q ≡ q) shifts (λ x. cases_eq x.q q)) [
      | inl some ↦
          let m = any_contained (λ (x : Shift). x.q ≡ q) shifts some in
          let here : slice_get s'.places m.0.q ≡ Some (Trap m.0.to) =
          All-contains (λ (x : Shift). IsAt s' x.q (place_at a shifts aod stage x)) shifts m.0 r.at.atoms m.1 ∙ ap Some (rests_in_target a shifts aod stage last m.0 m.1) in
          let there = drops_into_target a shifts g s.places m.0 (Trap m.0.from) m.1 (All-contains (λ (x : Shift). IsAt s x.q (Trap x.from)) shifts m.0 ready.at_sources m.1) in
          subst (λ (n : ℕ). slice_get s'.places n ≡ slice_get (after_dropping (map dropped shifts) s.places) n) m.2 (here ∙ sym there)
      | inr none ↦
          r.rest.places q none
          ∙ sym (not_dropped_stays (map dropped shifts) s.places q (λ h.
          let m = contained_in_map dropped shifts h.0 h.1 in
          none (any_from_contained (λ (x : Shift). x.q ≡ q) shifts m.0 m.1 (ap (λ (x : Dropped). x.q) m.2 ∙ h.2))))
    ]

same_by_slots : {X : Type 0} (xs ys : List X) → length xs ≡ length ys → ((k : ℕ) → slice_get xs k ≡ slice_get ys k) → xs ≡ ys
same_by_slots xs ys e same = same_lists xs ys e (λ k d within. sym (get_or_from_slice_get ys k (get_or xs k d) d (sym (same k) ∙ slice_get-get_or xs k d within)))

-- all places
same_places : (a : Architecture) (shifts : List Shift) → Grouped a shifts → (aod : ℕ) (stage : Stage) (s s' : State) → IsReady a shifts aod s → IsLast a shifts stage
    → Reached a shifts aod stage s s' → s'.places ≡ after_dropping (map dropped shifts) s.places
same_places a shifts g aod stage s s' ready last r =
    same_by_slots s'.places (after_dropping (map dropped shifts) s.places) (r.rest.qubits ∙ sym (length_dropping (map dropped shifts) s.places))
    (same_place a shifts g aod stage s s' ready last r)

same_beams_of : (a : Architecture) (shifts : List Shift) (aod : ℕ) (stage : Stage) (s s' : State) → IsReady a shifts aod s → IsLast a shifts stage
    → Reached a shifts aod stage s s' → (k : ℕ) → beams_of s' k ≡ beams_of s k
same_beams_of a shifts aod stage s s' ready last r k = elim (cases_eq k aod) [
  | inl e ↦ subst (λ (n : ℕ). beams_of s' n ≡ beams_of s n) (sym e) (r.at.beams ∙ idle_at a shifts stage last.unloaded ∙ sym ready.idle_aod)
  | inr ne ↦ r.rest.others k ne
]

-- the AOD is idle again, and the others are as they were
same_aods : (a : Architecture) (shifts : List Shift) (aod : ℕ) (stage : Stage) (s s' : State) → IsReady a shifts aod s → IsLast a shifts stage
    → Reached a shifts aod stage s s' → s'.aods ≡ s.aods
same_aods a shifts aod stage s s' ready last r =
    same_lists s'.aods s.aods r.rest.aods (λ k d within.
    let fewer = r.rest.aods in
    get_or_default s'.aods k d idle within
    ∙ same_beams_of a shifts aod stage s s' ready last r k
    ∙ sym (get_or_default s.aods k d idle (omega arith)))

last_of_both : (stage : Stage) (xs ys : List Leg) → last_stage stage (xs ++ ys) ≡ last_stage (last_stage stage xs) ys
last_of_both stage [] ys = refl
last_of_both stage (x ∷ xs) ys = last_of_both x.stage xs ys

-- the stage at which a row is unloaded that is above all others
record IsTop (lines : List Line) (last : Stage) : Type 0 where
  top : ℕ
  is : last ≡ stage.Dropped top
  above : (l : Line) → Contains lines l → l.from ≤ top

unloading_ends : (a : Architecture) (shifts : List Shift) (aod : ℕ) (before : Stage) (r : Line) (rs : List Line) → Rise (r ∷ rs) → IsTop (r ∷ rs) (last_stage before (unloading a shifts aod (r ∷ rs)))
unloading_ends a shifts aod before r [] rise = record {
  top = r.from;
  is = refl;
  above = λ l c. elim (contains_cases r l [] c) [
    | inl e ↦ let same : r.from ≡ l.from = ap (λ (m : Line). m.from) e in omega arith
    | inr none ↦ absurd (contains_none l none)
  ];
}
unloading_ends a shifts aod before r (s ∷ rs) rise =
    let later = unloading_ends a shifts aod (stage.Landed s.from) s rs (pairs_tail (λ (l m : Line). l.from < m.from) r (s ∷ rs) rise) in
    record {
      top = later.top;
      is = later.is;
      above = λ l c. elim (contains_cases r l (s ∷ rs) c) [
        | inl e ↦
            let same : r.from ≡ l.from = ap (λ (m : Line). m.from) e in
            let lt : r.from < s.from = All-contains (λ (m : Line). r.from < m.from) (s ∷ rs) s (pairs_head (λ (l m : Line). l.from < m.from) r (s ∷ rs) rise) (contains_here s rs) in
            let le = later.above s (contains_here s rs) in
            omega arith
        | inr d ↦ later.above l d
      ];
    }

some_move : (shifts : List Shift) → 1 ≤ length shifts → (s : Shift) × Contains shifts s
some_move [] h = absurd (omega arith)
some_move (s ∷ ss) h = (s, contains_here s ss)

ends_over : (a : Architecture) (shifts : List Shift) → Grouped a shifts → (aod : ℕ) (lines : List Line) → rows_of a shifts ≡ lines
    → IsLast a shifts (last_stage stage.Waiting ((loading a shifts aod lines ++ flight a shifts aod lines) ++ unloading a shifts aod lines))
ends_over a shifts g aod [] e =
    let s = some_move shifts g.some in
    absurd (contains_none (row_of a s.0) (subst (λ (ls : List Line). Contains ls (row_of a s.0)) e (has_row a shifts g s.0 s.1)))
ends_over a shifts g aod (r ∷ rs) e =
    let before = loading a shifts aod (r ∷ rs) ++ flight a shifts aod (r ∷ rs) in
    let t = unloading_ends a shifts aod (last_stage stage.Waiting before) r rs (subst Rise e (rows_rise a shifts)) in
    subst (IsLast a shifts) (sym (last_of_both stage.Waiting before (unloading a shifts aod (r ∷ rs)) ∙ t.is))
    (record {
      unloaded = λ s c. le-ltb t.top (source_y a s) (t.above (row_of a s) (subst (λ (ls : List Line). Contains ls (row_of a s)) e (has_row a shifts g s c)));
      landed = refl;
    })

ends_last : (a : Architecture) (shifts : List Shift) → Grouped a shifts → (aod : ℕ) → IsLast a shifts (last_stage stage.Waiting (legs a shifts aod))
ends_last a shifts g aod = ends_over a shifts g aod (rows_of a shifts) refl

-- the steps of a job that advances, and whose beams stand at its grids at each stage, are sound
pub sound_job : (a : Architecture) (shifts : List Shift) → Grouped a shifts → (aod : ℕ) → Advances a shifts aod stage.Waiting (legs a shifts aod)
    → ((stage : Stage) → EachCrossing (rows_at a shifts stage) (columns_at a shifts stage) (λ row column. IsAtGrids a shifts (crossing row column)))
    → IsSoundJob a shifts aod (job_steps a shifts aod)
sound_job a shifts g aod advance over = record {
  legal = λ s ready. runs a shifts aod stage.Waiting (legs a shifts aod) advance (step_keeps a shifts aod) s (undisturbed a shifts aod s ready) (waits a shifts aod s ready);
  ends = λ s ready.
      let last = last_stage stage.Waiting (legs a shifts aod) in
      let s' = after_all s (job_steps a shifts aod) in
      let r = reaches a shifts aod stage.Waiting (legs a shifts aod) advance (step_keeps a shifts aod) s (undisturbed a shifts aod s ready) (waits a shifts aod s ready) in
      let done = ends_last a shifts g aod in
      let places = same_places a shifts g aod last s s' ready done r in
      let aods = same_aods a shifts aod last s s' ready done r in
      λ i. record { places = places i; aods = aods i };
  at_grids = λ s k ready within.
      let now = stage_after a shifts aod stage.Waiting (legs a shifts aod) advance (step_keeps a shifts aod) s (undisturbed a shifts aod s ready) (waits a shifts aod s ready) k in
      subst (λ (b : Beams). EachCrossing b.rows b.columns (λ row column. IsAtGrids a shifts (crossing row column))) (sym now.1) (over now.0);
}
