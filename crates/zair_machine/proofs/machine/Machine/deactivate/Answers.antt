use Rattle.std.proofs.Common.{◌≡◌, ℕ, ◌<◌, ◌≤◌, ◌∙◌, List, length, refl, sym, ap, subst, length-set}
use Rattle.std.specs.List.{All}
use Rattle.zac_arch.specs.declared.card.Figures.{Figures}
use Rattle.zair_form.specs.declared.step.Dropped.{Dropped}
use Rattle.zair_form.specs.declared.step.Step.{Step}
use Rattle.zair_form.specs.declared.step.Step.TheVariants.{Deactivate}
use Rattle.zair_state.specs.declared.place.Place.{Place}
use Rattle.zair_state.specs.State.{State, Beams, beams_of}
use Rattle.zair_machine.specs.Machine.{Running, TellsTraps, after_writing}
use Rattle.zair_state.specs.Legal.{IsLegal}
use Rattle.zair_state.specs.Result.{after, after_dropping, without_beams}
use Rattle.zair_machine.proofs.Applying.{set_same, kept_so, written_back, read_beams, few_on, length_dropped, dropped_within}
use Rattle.zair_machine.proofs.Noting.{length_written, traps_within, told_dropped}
use Rattle.zair_machine.proofs.Holding.{crossings_dropped}
use Rattle.zair_machine.proofs.machine.Machine.deactivate.Goals as goal

pub without_all-requires : goal.without_all-requires
without_all-requires c =
    let s : State = record { places = c.self.inside.places.items; aods = c.self.inside.aods.items } in
    let step : Step = Deactivate c.args.aod c.args.rows.now c.args.columns.now c.args.atoms.now in
    let legal : IsLegal c.self.inside.card.now s step = subst (λ (r : Running). IsLegal r.card r.state step) (sym c.self.view_is) c.requires in
    let on : c.rows.result.now ≡ (beams_of s c.args.aod).rows = c.rows.ensures ∙ ap (λ (b : Beams). b.rows) (read_beams s c.args.aod c.index.result.now legal.known c.index.ensures) in
    few_on c.self.inside.card.now.figures.rows c.rows.result.now (beams_of s c.args.aod).rows on (c.self.invariant.sound.rows c.args.aod).few (subst (λ (f : Figures). f.rows ≤ 64) c.figures-figures.ensures.figures c.figures-figures.ensures.ranges.rows_most)

pub without_all-requires-2 : goal.without_all-requires-2
without_all-requires-2 c =
    let s : State = record { places = c.self.inside.places.items; aods = c.self.inside.aods.items } in
    let step : Step = Deactivate c.args.aod c.args.rows.now c.args.columns.now c.args.atoms.now in
    let legal : IsLegal c.self.inside.card.now s step = subst (λ (r : Running). IsLegal r.card r.state step) (sym c.self.view_is) c.requires in
    let across : c.columns.result.now ≡ (beams_of s c.args.aod).columns = c.columns.ensures ∙ ap (λ (b : Beams). b.columns) (read_beams s c.args.aod c.index-2.result.now legal.known c.index-2.ensures) in
    few_on c.self.inside.card.now.figures.columns c.columns.result.now (beams_of s c.args.aod).columns across (c.self.invariant.sound.columns c.args.aod).few (subst (λ (f : Figures). f.columns ≤ 64) c.figures-figures.ensures.figures c.figures-figures.ensures.ranges.columns_most)

pub drop_all-requires : goal.drop_all-requires
drop_all-requires c =
    let s : State = record { places = c.self.inside.places.items; aods = c.self.inside.aods.items } in
    let step : Step = Deactivate c.args.aod c.args.rows.now c.args.columns.now c.args.atoms.now in
    let legal : IsLegal c.self.inside.card.now s step = subst (λ (r : Running). IsLegal r.card r.state step) (sym c.self.view_is) c.requires in
    subst (λ (l : List Place). All (λ (x : Dropped). x.q < length l) c.args.atoms.now) (sym c.deref_mut.ensures.value)
    (dropped_within c.self.inside.card.now s c.args.aod c.args.rows.now c.args.columns.now c.args.atoms.now legal.drops)

pub note_dropped-requires : goal.note_dropped-requires
note_dropped-requires c =
    let s : State = record { places = c.self.inside.places.items; aods = c.self.inside.aods.items } in
    let step : Step = Deactivate c.args.aod c.args.rows.now c.args.columns.now c.args.atoms.now in
    let legal : IsLegal c.self.inside.card.now s step = subst (λ (r : Running). IsLegal r.card r.state step) (sym c.self.view_is) c.requires in
    subst (λ (l : List ℕ). All (λ (x : Dropped). x.trap.0 < length l) c.args.atoms.now) (sym c.deref_mut-2.ensures.value)
    (traps_within c.self.inside.card.now s c.args.aod c.args.rows.now c.args.columns.now c.args.atoms.now (subst (λ (f : Figures). 1 ≤ f.gap) c.figures-figures.ensures.figures c.figures-figures.ensures.ranges.gap_least) c.self.invariant.sound legal (c.drops_find_empty_traps.ensures s c.args.aod c.args.rows.now c.args.columns.now c.args.atoms.now c.self.invariant.sound legal) c.self.inside.in_traps.items c.self.invariant.all_traps)

pub invariant_of-self : goal.invariant_of-self
invariant_of-self c =
    let s : State = record { places = c.self.inside.places.items; aods = c.self.inside.aods.items } in
    let step : Step = Deactivate c.args.aod c.args.rows.now c.args.columns.now c.args.atoms.now in
    let legal : IsLegal c.self.inside.card.now s step = subst (λ (r : Running). IsLegal r.card r.state step) (sym c.self.view_is) c.requires in
    let on : c.rows.result.now ≡ (beams_of s c.args.aod).rows = c.rows.ensures ∙ ap (λ (b : Beams). b.rows) (read_beams s c.args.aod c.index.result.now legal.known c.index.ensures) in
    let across : c.columns.result.now ≡ (beams_of s c.args.aod).columns = c.columns.ensures ∙ ap (λ (b : Beams). b.columns) (read_beams s c.args.aod c.index-2.result.now legal.known c.index-2.ensures) in
    let next : State = after s step in
    let put : c.drop_all.new.places ≡ next.places = c.drop_all.ensures ∙ ap (λ (l : List Place). after_dropping c.args.atoms.now l) c.deref_mut.ensures.value in
    let long : length next.places ≡ length s.places = length_dropped c.args.atoms.now s.places in
    let index : List ℕ = c.self.inside.in_traps.items in
    let place : Dropped → ℕ = λ (x : Dropped). x.trap.0 in
    let dropped : Dropped → ℕ = λ (x : Dropped). x.q in
    let noted : c.note_dropped.new.index ≡ after_writing place dropped c.args.atoms.now index = c.note_dropped.ensures ∙ ap (λ (l : List ℕ). after_writing place dropped c.args.atoms.now l) c.deref_mut-2.ensures.value in
    let as_long : length (after_writing place dropped c.args.atoms.now index) ≡ length index = length_written place dropped c.args.atoms.now index in
    let back : _ ≡ after_writing place dropped c.args.atoms.now index = written_back c.self.inside.in_traps.len c.note_dropped.new.index index (sym (ap length c.deref_mut-2.ensures.value) ∙ c.deref_mut-2.ensures.len) (ap length noted ∙ as_long) ∙ noted in
    kept_so c.self.inside.card.now s _ next index _ c.self.inside.at_crossings.items c.self.inside.at_crossings.items c.self.invariant
    (c.legal_steps_keep_states_sound.ensures.one s step c.self.invariant.sound legal) long (length-set s.aods c.args.aod _) (ap length back ∙ as_long) refl
    (subst (TellsTraps next.places) (sym back) (told_dropped c.self.inside.card.now s c.args.aod c.args.rows.now c.args.columns.now c.args.atoms.now (subst (λ (f : Figures). 1 ≤ f.gap) c.figures-figures.ensures.figures c.figures-figures.ensures.ranges.gap_least) c.self.invariant.sound legal (c.drops_find_empty_traps.ensures s c.args.aod c.args.rows.now c.args.columns.now c.args.atoms.now c.self.invariant.sound legal) index c.self.invariant.all_traps c.self.invariant.traps_told))
    (crossings_dropped c.args.atoms.now s.places c.self.inside.at_crossings.items c.self.invariant.crossings_told)
    (set_same s c.args.aod _ next.places c.without_all.result.items _ c.without_all-2.result.items _
    (written_back c.self.inside.places.len c.drop_all.new.places s.places (sym (ap length c.deref_mut.ensures.value) ∙ c.deref_mut.ensures.len) (ap length put ∙ long) ∙ put)
    (c.without_all.ensures ∙ ap (without_beams c.args.rows.now) on)
    (c.without_all-2.ensures ∙ ap (without_beams c.args.columns.now) across))
