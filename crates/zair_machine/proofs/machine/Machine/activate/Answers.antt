use Rattle.std.proofs.Common.{◌≡◌, ◌<◌, ◌≤◌, ◌∙◌, ℕ, List, length, refl, sym, ap, subst, arith, length-set}
use Rattle.std.specs.List.{All}
use Rattle.zac_arch.specs.declared.card.Figures.{Figures}
use Rattle.zair_form.specs.declared.step.Beam.{Beam}
use Rattle.zair_form.specs.declared.step.Caught.{Caught}
use Rattle.zair_form.specs.declared.step.Step.{Step}
use Rattle.zair_form.specs.declared.step.Step.TheVariants.{Activate}
use Rattle.zair_state.specs.declared.place.Place.{Place}
use Rattle.zair_state.specs.State.{State, Beams, beams_of}
use Rattle.zair_machine.specs.Machine.{Running, TellsCrossings, after_writing}
use Rattle.zair_machine.specs.Crossings.{crossing_number}
use Rattle.zair_state.specs.Legal.{IsLegal}
use Rattle.zair_state.specs.Result.{after, after_catching, with_beams}
use Rattle.zair_machine.proofs.Applying.{set_same, kept_so, written_back, read_beams, few_added, length_caught, picked_within}
use Rattle.zair_machine.proofs.Noting.{told_caught, length_written}
use Rattle.zair_machine.proofs.Holding.{crossings_caught}
use Rattle.zair_machine.proofs.machine.Machine.activate.Goals as goal

pub with_all-requires : goal.with_all-requires
with_all-requires c =
    let s : State = record { places = c.self.inside.places.items; aods = c.self.inside.aods.items } in
    let step : Step = Activate c.args.aod c.args.rows.now c.args.columns.now c.args.atoms.now in
    let legal : IsLegal c.self.inside.card.now s step = subst (λ (r : Running). IsLegal r.card r.state step) (sym c.self.view_is) c.requires in
    let on : c.rows.result.now ≡ (beams_of s c.args.aod).rows = c.rows.ensures ∙ ap (λ (b : Beams). b.rows) (read_beams s c.args.aod c.index.result.now legal.known c.index.ensures) in
    let few : length (with_beams c.args.rows.now c.rows.result.now) ≤ c.self.inside.card.now.figures.rows = subst (λ (l : List Beam). length (with_beams c.args.rows.now l) ≤ c.self.inside.card.now.figures.rows) (sym on) legal.few_rows in
    few_added c.self.inside.card.now.figures.rows c.args.rows.now c.rows.result.now few (subst (λ (f : Figures). f.rows ≤ 64) c.figures-figures.ensures.figures c.figures-figures.ensures.ranges.rows_most)

pub with_all-requires-2 : goal.with_all-requires-2
with_all-requires-2 c =
    let s : State = record { places = c.self.inside.places.items; aods = c.self.inside.aods.items } in
    let step : Step = Activate c.args.aod c.args.rows.now c.args.columns.now c.args.atoms.now in
    let legal : IsLegal c.self.inside.card.now s step = subst (λ (r : Running). IsLegal r.card r.state step) (sym c.self.view_is) c.requires in
    let across : c.columns.result.now ≡ (beams_of s c.args.aod).columns = c.columns.ensures ∙ ap (λ (b : Beams). b.columns) (read_beams s c.args.aod c.index-2.result.now legal.known c.index-2.ensures) in
    let few : length (with_beams c.args.columns.now c.columns.result.now) ≤ c.self.inside.card.now.figures.columns = subst (λ (l : List Beam). length (with_beams c.args.columns.now l) ≤ c.self.inside.card.now.figures.columns) (sym across) legal.few_columns in
    few_added c.self.inside.card.now.figures.columns c.args.columns.now c.columns.result.now few (subst (λ (f : Figures). f.columns ≤ 64) c.figures-figures.ensures.figures c.figures-figures.ensures.ranges.columns_most)

pub catch_all-requires : goal.catch_all-requires
catch_all-requires c =
    let s : State = record { places = c.self.inside.places.items; aods = c.self.inside.aods.items } in
    let step : Step = Activate c.args.aod c.args.rows.now c.args.columns.now c.args.atoms.now in
    let legal : IsLegal c.self.inside.card.now s step = subst (λ (r : Running). IsLegal r.card r.state step) (sym c.self.view_is) c.requires in
    subst (λ (l : List Place). All (λ (x : Caught). x.q < length l) c.args.atoms.now) (sym c.deref_mut.ensures.value)
    (picked_within c.self.inside.card.now s c.args.aod c.args.rows.now c.args.columns.now (with_beams c.args.rows.now (beams_of s c.args.aod).rows) (with_beams c.args.columns.now (beams_of s c.args.aod).columns) c.args.atoms.now legal.picks)

pub note_caught-requires : goal.note_caught-requires
note_caught-requires c =
    let s : State = record { places = c.self.inside.places.items; aods = c.self.inside.aods.items } in
    let step : Step = Activate c.args.aod c.args.rows.now c.args.columns.now c.args.atoms.now in
    let legal : IsLegal c.self.inside.card.now s step = subst (λ (r : Running). IsLegal r.card r.state step) (sym c.self.view_is) c.requires in
    omega (arith, legal.known, c.self.invariant.all_crossings, ap length c.deref_mut-2.ensures.value)

pub invariant_of-self : goal.invariant_of-self
invariant_of-self c =
    let s : State = record { places = c.self.inside.places.items; aods = c.self.inside.aods.items } in
    let step : Step = Activate c.args.aod c.args.rows.now c.args.columns.now c.args.atoms.now in
    let legal : IsLegal c.self.inside.card.now s step = subst (λ (r : Running). IsLegal r.card r.state step) (sym c.self.view_is) c.requires in
    let on : c.rows.result.now ≡ (beams_of s c.args.aod).rows = c.rows.ensures ∙ ap (λ (b : Beams). b.rows) (read_beams s c.args.aod c.index.result.now legal.known c.index.ensures) in
    let across : c.columns.result.now ≡ (beams_of s c.args.aod).columns = c.columns.ensures ∙ ap (λ (b : Beams). b.columns) (read_beams s c.args.aod c.index-2.result.now legal.known c.index-2.ensures) in
    let next : State = after s step in
    let put : c.catch_all.new.places ≡ next.places = c.catch_all.ensures ∙ ap (λ (l : List Place). after_catching c.args.aod c.args.atoms.now l) c.deref_mut.ensures.value in
    let long : length next.places ≡ length s.places = length_caught c.args.aod c.args.atoms.now s.places in
    let crossings : List ℕ = c.self.inside.at_crossings.items in
    let number : Caught → ℕ = λ (x : Caught). crossing_number c.args.aod x.row x.column in
    let caught : Caught → ℕ = λ (x : Caught). x.q in
    let noted : c.note_caught.new.index ≡ after_writing number caught c.args.atoms.now crossings = c.note_caught.ensures.noted ∙ ap (λ (l : List ℕ). after_writing number caught c.args.atoms.now l) c.deref_mut-2.ensures.value in
    let as_long : length (after_writing number caught c.args.atoms.now crossings) ≡ length crossings = length_written number caught c.args.atoms.now crossings in
    let back : _ ≡ after_writing number caught c.args.atoms.now crossings = written_back c.self.inside.at_crossings.len c.note_caught.new.index crossings (sym (ap length c.deref_mut-2.ensures.value) ∙ c.deref_mut-2.ensures.len) (ap length noted ∙ as_long) ∙ noted in
    let sound = c.legal_steps_keep_states_sound.ensures.one s step c.self.invariant.sound legal in
    kept_so c.self.inside.card.now s _ next c.self.inside.in_traps.items c.self.inside.in_traps.items crossings _ c.self.invariant
    sound long (length-set s.aods c.args.aod _) refl (ap length back ∙ as_long)
    (told_caught c.args.aod c.args.atoms.now s.places c.self.inside.in_traps.items c.self.invariant.traps_told)
    (subst (TellsCrossings next.places) (sym back) (crossings_caught c.self.inside.card.now s c.args.aod c.args.rows.now c.args.columns.now c.args.atoms.now legal sound c.note_caught.ensures.ids crossings c.self.invariant.all_crossings c.self.invariant.crossings_told))
    (set_same s c.args.aod _ next.places c.with_all.result.items _ c.with_all-2.result.items _
    (written_back c.self.inside.places.len c.catch_all.new.places s.places (sym (ap length c.deref_mut.ensures.value) ∙ c.deref_mut.ensures.len) (ap length put ∙ long) ∙ put)
    (c.with_all.ensures ∙ ap (with_beams c.args.rows.now) on)
    (c.with_all-2.ensures ∙ ap (with_beams c.args.columns.now) across))
