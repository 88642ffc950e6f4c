-- A tidy step is tidy in every state that shows its act the same.
use Rattle.std.proofs.Common.{◌≡◌, ◌≢◌, ℕ, ◌<◌, inl, inr, true, List, [], length, get_or, set, get_or-set_same, eqb-true, refl, sym, ap, ◌∙◌, subst}
use Rattle.std.specs.List.{All, Contains}
use Rattle.std.proofs.lemmas.Bool.{cases_eq}
use Rattle.std.proofs.lemmas.List.Elements.{All-contains}
use Rattle.zac_arch.specs.Architecture.{Architecture, StandsAt}
use Rattle.zac_arch.specs.declared.place.Point.{Point}
use Rattle.zair_form.specs.Steps.{is_step_of}
use Rattle.zair_form.specs.declared.program.Act.{Act}
use Rattle.zair_form.specs.declared.program.Act.TheVariants.{Init, Gates, Rydberg, Job, Readout}
use Rattle.zair_form.specs.declared.step.Beam.{Beam}
use Rattle.zair_form.specs.declared.step.Caught.{Caught}
use Rattle.zair_form.specs.declared.step.Dropped.{Dropped}
use Rattle.zair_form.specs.declared.step.OneGate.{OneGate}
use Rattle.zair_form.specs.declared.step.PairOf.{PairOf}
use Rattle.zair_form.specs.declared.step.ReadOf.{ReadOf}
use Rattle.zair_form.specs.declared.step.Step.{Step}
use Rattle.zair_form.specs.declared.step.Step.TheVariants.{Activate, Move, Deactivate, One, Pulse}
use Rattle.zair_form.specs.declared.step.Step.TheVariants as kind
use Rattle.zair_state.specs.Legal.{AreFresh, CarriesOverEmptyTrap, Drops, IsLegalActivate, IsLegalDeactivate, IsLegalMove, IsLegalPulse, ListsActive, Picks, Rests}
use Rattle.zair_state.specs.Resources.{Carries, Uses}
use Rattle.zair_state.specs.Resources.{Resource as resource}
use Rattle.zair_state.specs.Result.{with_beams, without_beams}
use Rattle.zair_state.specs.State.{State, Beams, idle, beams_of, crossing, AreInRange, EachCrossing, HasId, IsClear, RestsLit}
use Rattle.zair_state.specs.declared.place.Place.TheVariants.{Trap}
use Rattle.zair_state.proofs.Changing.{not_farther_there}
use Rattle.zair_state.proofs.Membership.{all_from_contains, any_from_contained, contained_in_map, contains_none}
use Rattle.zac_sched.specs.Exchange.{IsAtTrapsOf, IsTidyStep}
use Rattle.zac_sched.proofs.JobSteps.{one_of}
use Rattle.zac_sched.proofs.Surroundings.{CardLaws, Shows}
use Rattle.zac_sched.proofs.Writes.{own_step}

same_point : (p q : Point) → p.x ≡ q.x → p.y ≡ q.y → p ≡ q
same_point p q ex ey = ap (λ u. let r : Point = record { x = u; y = p.y } in r) ex ∙ ap (λ v. let r : Point = record { x = q.x; y = v } in r) ey

-- the trap that stands exactly at a crossing of an act's traps is one of them
pub exact_is_used : (a : Architecture) → CardLaws a → (act : Act) (t : ℕ) (p : Point) → IsAtTrapsOf a act p → StandsAt a t p → Uses a act (resource.Trap t)
exact_is_used a laws act t p at stands = elim (cases_eq p.x at.stands.x) [
  | inl ex ↦ elim (cases_eq p.y at.stands.y) [
    | inl ey ↦
        let here : StandsAt a at.trap p = subst (λ (r : Point). StandsAt a at.trap r) (sym (same_point p at.stands ex ey)) at.stands_at in
        subst (λ (n : ℕ). Uses a act (resource.Trap n)) (laws.one_trap at.trap t p here stands) at.used
    | inr ne ↦ elsewhere (λ e. ne (ap (λ (r : Point). r.y) e))
  ]
  | inr ne ↦ elsewhere (λ e. ne (ap (λ (r : Point). r.x) e))
]
  where
    elsewhere : p ≢ at.stands → Uses a act (resource.Trap t)
    elsewhere ne = absurd (not_farther_there a.figures.reach p p refl (laws.parked_apart at.trap t at.stands p p at.stands_at stands (record { corner = at.corner; elsewhere = ne })))

-- Two states whose beams of an AOD are the same have the same ones behind a step that sets them from what they were.
beams_behind : (s s' : State) (aod : ℕ) (b : Beams → Beams) → aod < length s.aods → length s.aods ≡ length s'.aods → beams_of s aod ≡ beams_of s' aod →
    get_or (set s.aods aod (b (beams_of s aod))) aod idle ≡ get_or (set s'.aods aod (b (beams_of s' aod))) aod idle
beams_behind s s' aod b known count same =
    let known' : aod < length s'.aods = subst (λ (n : ℕ). aod < n) count known in
    get_or-set_same s.aods aod (b (beams_of s aod)) idle known ∙ ap b same ∙ sym (get_or-set_same s'.aods aod (b (beams_of s' aod)) idle known')

-- each crossing of these beams is at traps of the act
abbrev AtTraps : Architecture → Act → Beams → Type 0
AtTraps a act b = EachCrossing b.rows b.columns (λ row column. IsAtTrapsOf a act (crossing row column))

still_clear : (a : Architecture) (s s' : State) (act : Act) (aod : ℕ) (p : Point) → Shows a s s' act → Uses a act (resource.Aod aod) → IsAtTrapsOf a act p → IsClear a s aod p → IsClear a s' aod p
still_clear a s s' act aod p shows own at clear = record { free = shows.free aod p own at clear.free; off_traps = clear.off_traps }

module _ (a : Architecture) (laws : CardLaws a) (s s' : State) (aod : ℕ) (steps : List Step) (shows : Shows a s s' (Job aod steps)) where
  same : beams_of s aod ≡ beams_of s' aod
  same = shows.beams aod refl

  known_too : aod < length s.aods → aod < length s'.aods
  known_too known = subst (λ (n : ℕ). aod < n) shows.count known

  before_too : AtTraps a (Job aod steps) (beams_of s aod) → AtTraps a (Job aod steps) (beams_of s' aod)
  before_too h = subst (AtTraps a (Job aod steps)) same h

  carried : (step : Step) (q : ℕ) → Contains steps step → Carries step q → Uses a (Job aod steps) (resource.Qubit q)
  carried step q c h = any_from_contained (λ (t : Step). Carries t q) steps step c h

  module _ (rows columns : List Beam) (atoms : List Caught) (tidy : IsTidyStep a s (Job aod steps) (Activate aod rows columns atoms)) where
    abbrev switched_on : Beams → Beams
    switched_on old = record { rows = with_beams rows old.rows; columns = with_beams columns old.columns }

    on_traps : AtTraps a (Job aod steps) (switched_on (beams_of s aod))
    on_traps = subst (AtTraps a (Job aod steps)) (get_or-set_same s.aods aod (switched_on (beams_of s aod)) idle tidy.legal.known) tidy.behind

    picks_too : (c : Caught) → Contains atoms c →
        Picks a s aod rows columns (with_beams rows (beams_of s aod).rows) (with_beams columns (beams_of s aod).columns) c →
        Picks a s' aod rows columns (with_beams rows (beams_of s aod).rows) (with_beams columns (beams_of s aod).columns) c
    picks_too c listed h = record {
      row = h.row;
      column = h.column;
      row_active = h.row_active;
      column_active = h.column_active;
      row_named = h.row_named;
      column_named = h.column_named;
      new = h.new;
      trap = h.trap;
      rests = shows.places c.q (Trap h.trap) (carried (Activate aod rows columns atoms) c.q tidy.of_act (any_from_contained (λ (d : Caught). d.q ≡ c.q) atoms c listed refl)) h.rests;
      exact = h.exact;
      free = shows.free aod (crossing h.row h.column) refl (on_traps h.row h.column h.row_active h.column_active) h.free;
    }

    activate_legal_with : IsLegalActivate a s' aod rows columns (with_beams rows (beams_of s aod).rows) (with_beams columns (beams_of s aod).columns) atoms
    activate_legal_with = let old = tidy.legal in record {
      known = known_too old.known;
      rows_fresh = subst (λ (b : Beams). AreFresh rows b.rows) same old.rows_fresh;
      columns_fresh = subst (λ (b : Beams). AreFresh columns b.columns) same old.columns_fresh;
      few_rows = old.few_rows;
      few_columns = old.few_columns;
      rows_placed = old.rows_placed;
      columns_placed = old.columns_placed;
      picks = all_from_contains (Picks a s' aod rows columns (with_beams rows (beams_of s aod).rows) (with_beams columns (beams_of s aod).columns)) atoms
          (λ c listed. picks_too c listed (All-contains (Picks a s aod rows columns (with_beams rows (beams_of s aod).rows) (with_beams columns (beams_of s aod).columns)) atoms c old.picks listed));
      once = old.once;
      clear = λ row column in_rows in_columns new unlisted.
          still_clear a s s' (Job aod steps) aod (crossing row column) shows refl (on_traps row column in_rows in_columns) (old.clear row column in_rows in_columns new unlisted);
    }

    activate_tidy : IsTidyStep a s' (Job aod steps) (Activate aod rows columns atoms)
    activate_tidy = record {
      of_act = tidy.of_act;
      own = tidy.own;
      legal = subst (λ (b : Beams). IsLegalActivate a s' aod rows columns (with_beams rows b.rows) (with_beams columns b.columns) atoms) same activate_legal_with;
      before = before_too tidy.before;
      behind = subst (AtTraps a (Job aod steps)) (beams_behind s s' aod switched_on tidy.legal.known shows.count same) tidy.behind;
    }

  module _ (rows columns : List Beam) (tidy : IsTidyStep a s (Job aod steps) (Move aod rows columns)) where
    abbrev moved : Beams → Beams
    moved old = record { rows = with_beams rows []; columns = with_beams columns [] }

    moved_traps : AtTraps a (Job aod steps) (moved (beams_of s aod))
    moved_traps = subst (AtTraps a (Job aod steps)) (get_or-set_same s.aods aod (moved (beams_of s aod)) idle tidy.legal.known) tidy.behind

    carries_too : (row column : Beam) → IsAtTrapsOf a (Job aod steps) (crossing row column) → CarriesOverEmptyTrap a s aod row column → CarriesOverEmptyTrap a s' aod row column
    carries_too row column at h = record {
      q = h.q;
      holds = shows.held aod h.q row.id column.id refl h.holds;
      trap = h.trap;
      exact = h.exact;
      empty = shows.empty h.trap (exact_is_used a laws (Job aod steps) h.trap.0 (crossing row column) at h.exact) h.empty;
      free = shows.free aod (crossing row column) refl at h.free;
    }

    move_legal : IsLegalMove a s' aod rows columns (with_beams rows []) (with_beams columns [])
    move_legal = let old = tidy.legal in record {
      known = known_too old.known;
      rows_listed = subst (λ (b : Beams). ListsActive rows b.rows) same old.rows_listed;
      columns_listed = subst (λ (b : Beams). ListsActive columns b.columns) same old.columns_listed;
      rows_placed = old.rows_placed;
      columns_placed = old.columns_placed;
      crossings = λ row column in_rows in_columns.
          let at = moved_traps row column in_rows in_columns in
          elim (old.crossings row column in_rows in_columns) [
            | inl clear ↦ inl (still_clear a s s' (Job aod steps) aod (crossing row column) shows refl at clear)
            | inr carries ↦ inr (carries_too row column at carries)
          ];
    }

    move_tidy : IsTidyStep a s' (Job aod steps) (Move aod rows columns)
    move_tidy = record {
      of_act = tidy.of_act;
      own = tidy.own;
      legal = move_legal;
      before = before_too tidy.before;
      behind = subst (AtTraps a (Job aod steps)) (beams_behind s s' aod moved tidy.legal.known shows.count same) tidy.behind;
    }

  module _ (rows columns : List ℕ) (atoms : List Dropped) (tidy : IsTidyStep a s (Job aod steps) (Deactivate aod rows columns atoms)) where
    abbrev switched_off : Beams → Beams
    switched_off old = record { rows = without_beams rows old.rows; columns = without_beams columns old.columns }

    drops_too : (d : Dropped) → Drops a s aod rows columns d → Drops a s' aod rows columns d
    drops_too d h = record {
      row = h.row;
      column = h.column;
      row_active = subst (λ (b : Beams). Contains b.rows h.row) same h.row_active;
      column_active = subst (λ (b : Beams). Contains b.columns h.column) same h.column_active;
      held = shows.held aod d.q h.row.id h.column.id refl h.held;
      vanishes = h.vanishes;
      exact = h.exact;
    }

    deactivate_legal : IsLegalDeactivate a s' aod rows columns atoms
    deactivate_legal = let old = tidy.legal in record {
      known = known_too old.known;
      rows_once = old.rows_once;
      columns_once = old.columns_once;
      rows_active = subst (λ (b : Beams). All (HasId b.rows) rows) same old.rows_active;
      columns_active = subst (λ (b : Beams). All (HasId b.columns) columns) same old.columns_active;
      drops = all_from_contains (Drops a s' aod rows columns) atoms (λ d listed. drops_too d (All-contains (Drops a s aod rows columns) atoms d old.drops listed));
      once = old.once;
      all = λ q row column held off. old.all q row column (shows.held_before aod q row column refl held) off;
    }

    deactivate_tidy : IsTidyStep a s' (Job aod steps) (Deactivate aod rows columns atoms)
    deactivate_tidy = record {
      of_act = tidy.of_act;
      own = tidy.own;
      legal = deactivate_legal;
      before = before_too tidy.before;
      behind = subst (AtTraps a (Job aod steps)) (beams_behind s s' aod switched_off tidy.legal.known shows.count same) tidy.behind;
    }

-- what is shown of a step of a job on each AOD
abbrev GoesOver : Architecture → State → State → Step → List Step → ℕ → Type 0
GoesOver a s s' step steps aod = Shows a s s' (Job aod steps) → IsTidyStep a s (Job aod steps) step → IsTidyStep a s' (Job aod steps) step

job_step : (a : Architecture) → CardLaws a → (s s' : State) (aod : ℕ) (steps : List Step) (step : Step) → is_step_of aod step ≡ true → GoesOver a s s' step steps aod
job_step a laws s s' aod steps (Activate b rows columns atoms) own =
    subst (GoesOver a s s' (Activate b rows columns atoms) steps) (eqb-true b aod own) (λ shows tidy. activate_tidy a laws s s' b steps shows rows columns atoms tidy)
job_step a laws s s' aod steps (Move b rows columns) own =
    subst (GoesOver a s s' (Move b rows columns) steps) (eqb-true b aod own) (λ shows tidy. move_tidy a laws s s' b steps shows rows columns tidy)
job_step a laws s s' aod steps (Deactivate b rows columns atoms) own =
    subst (GoesOver a s s' (Deactivate b rows columns atoms) steps) (eqb-true b aod own) (λ shows tidy. deactivate_tidy a laws s s' b steps shows rows columns atoms tidy)
job_step a laws s s' aod steps (One gate) own = absurd cc
job_step a laws s s' aod steps (Pulse pairs) own = absurd cc
job_step a laws s s' aod steps (kind.Readout reads) own = absurd cc

-- two qubits that are in range in one state are so in a state that shows the same atoms lit
in_range_too : (a : Architecture) (s s' : State) → ((q : ℕ) (p : Point) → RestsLit a s q p → RestsLit a s' q p) → (q r : ℕ) → AreInRange a s q r → AreInRange a s' q r
in_range_too a s s' lit q r h = record {
  two = h.two;
  q_at = h.q_at;
  r_at = h.r_at;
  q_rests = lit q h.q_at h.q_rests;
  r_rests = lit r h.r_at h.r_rests;
  near = h.near;
}

pulse_legal : (a : Architecture) (s s' : State) (pairs : List PairOf) → Shows a s s' (Rydberg pairs) → IsLegalPulse a s pairs → IsLegalPulse a s' pairs
pulse_legal a s s' pairs shows h = record {
  in_range = record {
    only = all_from_contains (λ (p : PairOf). AreInRange a s' p.a p.b) pairs
        (λ p listed. in_range_too a s s' (shows.lit tt) p.a p.b (All-contains (λ (p : PairOf). AreInRange a s p.a p.b) pairs p h.in_range.only listed));
    all = λ q r near. h.in_range.all q r (in_range_too a s' s (shows.lit_before tt) q r near);
    once = h.in_range.once;
  };
  none_alone = λ q p lit. h.none_alone q p (shows.lit_before tt q p lit);
  dark = shows.dark tt h.dark;
}

rests_too : (a : Architecture) (s s' : State) (act : Act) (q : ℕ) → Shows a s s' act → Uses a act (resource.Qubit q) → Rests s q → Rests s' q
rests_too a s s' act q shows used h = (h.0, shows.places q (Trap h.0) used h.1)

gates_step : (a : Architecture) (s s' : State) (ones : List OneGate) (gate : OneGate) → Contains ones gate → Shows a s s' (Gates ones) → IsTidyStep a s (Gates ones) (One gate) → IsTidyStep a s' (Gates ones) (One gate)
gates_step a s s' ones gate listed shows tidy = record {
  of_act = tidy.of_act;
  own = tidy.own;
  legal = rests_too a s s' (Gates ones) gate.q shows (any_from_contained (λ (g : OneGate). g.q ≡ gate.q) ones gate listed refl) tidy.legal;
  before = tt;
  behind = tt;
}

pulse_step : (a : Architecture) (s s' : State) (pairs : List PairOf) → Shows a s s' (Rydberg pairs) → IsTidyStep a s (Rydberg pairs) (Pulse pairs) → IsTidyStep a s' (Rydberg pairs) (Pulse pairs)
pulse_step a s s' pairs shows tidy = record { of_act = tidy.of_act; own = tidy.own; legal = pulse_legal a s s' pairs shows tidy.legal; before = tt; behind = tt }

readout_step : (a : Architecture) (s s' : State) (reads : List ReadOf) → Shows a s s' (Readout reads) → IsTidyStep a s (Readout reads) (kind.Readout reads) → IsTidyStep a s' (Readout reads) (kind.Readout reads)
readout_step a s s' reads shows tidy = record {
  of_act = tidy.of_act;
  own = tidy.own;
  legal = all_from_contains (λ (r : ReadOf). Rests s' r.q) reads (λ r listed.
      rests_too a s s' (Readout reads) r.q shows (any_from_contained (λ (o : ReadOf). o.q ≡ r.q) reads r listed refl)
      (All-contains (λ (o : ReadOf). Rests s o.q) reads r tidy.legal listed));
  before = tt;
  behind = tt;
}

pub tidy_where_shown : (a : Architecture) → CardLaws a → (s s' : State) (act : Act) (step : Step) → Shows a s s' act → IsTidyStep a s act step → IsTidyStep a s' act step
tidy_where_shown a laws s s' (Init homes) step shows tidy = absurd (contains_none step tidy.of_act)
tidy_where_shown a laws s s' (Gates ones) step shows tidy =
    let gate = contained_in_map (λ (g : OneGate). One g) ones step tidy.of_act in
    subst (λ (t : Step). IsTidyStep a s' (Gates ones) t) gate.2
    (gates_step a s s' ones gate.0 gate.1 shows (subst (λ (t : Step). IsTidyStep a s (Gates ones) t) (sym gate.2) tidy))
tidy_where_shown a laws s s' (Rydberg pairs) step shows tidy =
    let pulse = one_of (Pulse pairs) step tidy.of_act in
    subst (λ (t : Step). IsTidyStep a s' (Rydberg pairs) t) pulse
    (pulse_step a s s' pairs shows (subst (λ (t : Step). IsTidyStep a s (Rydberg pairs) t) (sym pulse) tidy))
tidy_where_shown a laws s s' (Job aod steps) step shows tidy =
    job_step a laws s s' aod steps step (own_step aod steps step tidy.own tidy.of_act) shows tidy
tidy_where_shown a laws s s' (Readout reads) step shows tidy =
    let readout = one_of (kind.Readout reads) step tidy.of_act in
    subst (λ (t : Step). IsTidyStep a s' (Readout reads) t) readout
    (readout_step a s s' reads shows (subst (λ (t : Step). IsTidyStep a s (Readout reads) t) (sym readout) tidy))
