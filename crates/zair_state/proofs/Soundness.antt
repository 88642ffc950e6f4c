-- Openings are sound, and legal steps keep states sound.
use Rattle.std.proofs.Common.{◌≡◌, ℕ, zero, suc, ◌<◌, ◌≤◌, inl, inr, List, [], ◌∷◌, Some, get_or, replicate, map, refl, sym, ap, ◌∙◌, subst, arith, slice_get}
use Rattle.std.specs.List.{All, Contains}
use Rattle.std.proofs.lemmas.Bool.{cases_order}
use Rattle.std.proofs.lemmas.List.{length-replicate}
use Rattle.std.proofs.lemmas.List.Elements.{All-nil, All-contains}
use Rattle.std.proofs.lemmas.Option.{slice_get_within, get_or_from_slice_get}
use Rattle.zac_arch.specs.Architecture.{Architecture, StandsAt, trap_count}
use Rattle.zac_arch.specs.declared.place.Point.{Point}
use Rattle.zac_arch.specs.declared.place.TrapId.{TrapId}
use Rattle.zair_form.specs.declared.step.Beam.{Beam}
use Rattle.zair_form.specs.declared.step.Step.{Step}
use Rattle.zair_form.specs.declared.step.Step.TheVariants.{Activate, Move, Deactivate, One, Pulse, Readout}
use Rattle.zair_state.specs.declared.place.Place.{Place}
use Rattle.zair_state.specs.declared.place.Place.TheVariants.{Trap, Held}
use Rattle.zair_state.specs.State.{State, Beams, idle, opening, beams_of}
use Rattle.zair_state.specs.Legal.{IsLegal, AreOnce}
use Rattle.zair_state.specs.Result.{after}
use Rattle.zair_state.specs.Run.{IsLegalRun, after_all}
use Rattle.zair_state.specs.Invariant.{IsSound, AreInOrder, IsActive}
use Rattle.zair_state.proofs.Membership.{contains_none, pairs_none}
use Rattle.zair_state.proofs.SoundActivate.{activate_sound}
use Rattle.zair_state.proofs.SoundMove.{move_sound}
use Rattle.zair_state.proofs.SoundDeactivate.{deactivate_sound}

idle_at : (n k : ℕ) → get_or (replicate n idle) k idle ≡ idle
idle_at zero k = refl
idle_at (suc n) zero = refl
idle_at (suc n) (suc k) = idle_at n k

home_of : (homes : List TrapId) (q : ℕ) (place : Place) → slice_get (map (λ (t : TrapId). Trap t) homes) q ≡ Some place → (t : TrapId) × (slice_get homes q ≡ Some t) × (Trap t ≡ place)
home_of [] q place h = absurd (cc)
home_of (t ∷ ts) zero place h = (t, refl, cc)
home_of (t ∷ ts) (suc q) place h = home_of ts q place h

number_of : (homes : List TrapId) (q : ℕ) (t : TrapId) → slice_get homes q ≡ Some t → slice_get (map (λ (home : TrapId). home.0) homes) q ≡ Some t.0
number_of [] q t h = absurd (cc)
number_of (u ∷ us) zero t h = let same : u ≡ t = cc in ap (λ (x : TrapId). Some x.0) same
number_of (u ∷ us) (suc q) t h = number_of us q t h

trap_same : (t u : TrapId) → Trap t ≡ Trap u → t.0 ≡ u.0
trap_same t u e = let same : t ≡ u = cc in ap (λ (x : TrapId). x.0) same

not_held : (t : TrapId) (aod row column : ℕ) (P : Type 0) → Trap t ≡ Held aod row column → P
not_held t aod row column P e = absurd (cc)

-- a number that stands in a list at two places, where none stands twice
one_place : (ns : List ℕ) (q r n : ℕ) → AreOnce ns → slice_get ns q ≡ Some n → slice_get ns r ≡ Some n → q ≡ r
one_place ns q r n once at_q at_r =
    let eq : get_or ns q 0 ≡ n = get_or_from_slice_get ns q n 0 at_q in
    let er : get_or ns r 0 ≡ n = get_or_from_slice_get ns r n 0 at_r in
    elim (cases_order q r) [
      | inl e ↦ e
      | inr other ↦ elim other [
        | inl before ↦ absurd (once q r 0 before (slice_get_within ns r n at_r) (eq ∙ sym er))
        | inr behind ↦ absurd (once r q 0 behind (slice_get_within ns q n at_q) (er ∙ sym eq))
      ]
    ]

no_beams : (gap most : ℕ) → AreInOrder gap most []
no_beams gap most = record {
  few = omega arith;
  rising = pairs_none (λ (b c : Beam). b.id < c.id);
  placed = record { on_the_field = All-nil (λ (b : Beam). b.at ≤ 1000000); spaced = λ k d lt. absurd (omega arith) };
}

pub opening_sound : (a : Architecture) (homes : List TrapId) → All (λ (home : TrapId). home.0 < trap_count a) homes → AreOnce (map (λ (home : TrapId). home.0) homes) → IsSound a (opening a homes)
opening_sound a homes on_card once =
    let s : State = opening a homes in
    let none : (k : ℕ) → beams_of s k ≡ idle = idle_at a.figures.aods in
    record {
      all_aods = length-replicate a.figures.aods idle;
      in_traps = λ q t h.
          let r = home_of homes q (Trap t) h in
          let lt = All-contains (λ (home : TrapId). home.0 < trap_count a) homes r.0 on_card (q, slice_get_within homes q r.0 r.1, get_or_from_slice_get homes q r.0 r.0 r.1) in
          subst (λ (n : ℕ). n < trap_count a) (trap_same r.0 t r.2) lt;
      apart = λ q r place at_q at_r.
          let x = home_of homes q place at_q in
          let y = home_of homes r place at_r in
          let same : y.0.0 ≡ x.0.0 = trap_same y.0 x.0 (y.2 ∙ sym x.2) in
          one_place (map (λ (home : TrapId). home.0) homes) q r x.0.0 once (number_of homes q x.0 x.1)
          (subst (λ (n : ℕ). slice_get (map (λ (home : TrapId). home.0) homes) r ≡ Some n) same (number_of homes r y.0 y.1));
      held = λ q k row column h. let r = home_of homes q (Held k row column) h in not_held r.0 k row column (IsActive s k row column) r.2;
      rows = λ k. subst (λ (b : Beams). AreInOrder a.figures.gap a.figures.rows b.rows) (sym (none k)) (no_beams a.figures.gap a.figures.rows);
      columns = λ k. subst (λ (b : Beams). AreInOrder a.figures.gap a.figures.columns b.columns) (sym (none k)) (no_beams a.figures.gap a.figures.columns);
      crossings = λ k row column in_rows in_columns. absurd (contains_none row (subst (λ (b : Beams). Contains b.rows row) (none k) in_rows));
    }

module _ (a : Architecture) (gap_least : 1 ≤ a.figures.gap) (one_trap : (t u : ℕ) (p : Point) → StandsAt a t p → StandsAt a u p → t ≡ u) where
  pub step_sound : (s : State) (step : Step) → IsSound a s → IsLegal a s step → IsSound a (after s step)
  step_sound s (Activate aod rows columns atoms) sound legal = activate_sound a s aod rows columns atoms sound legal
  step_sound s (Move aod rows columns) sound legal = move_sound a s aod rows columns sound legal
  step_sound s (Deactivate aod rows columns atoms) sound legal = deactivate_sound a s aod rows columns atoms gap_least one_trap sound legal
  step_sound s (One gate) sound legal = sound
  step_sound s (Pulse pairs) sound legal = sound
  step_sound s (Readout reads) sound legal = sound

  pub run_sound : (s : State) (steps : List Step) → IsSound a s → IsLegalRun a s steps → IsSound a (after_all s steps)
  run_sound s [] sound legal = sound
  run_sound s (step ∷ steps) sound legal = run_sound (after s step) steps (step_sound s step sound legal.0) legal.1
