use Rattle.std.proofs.Common.{◌≤◌, [], refl, sym, subst, length-set}
use Rattle.zac_arch.specs.declared.card.Figures.{Figures}
use Rattle.zair_form.specs.declared.step.Step.TheVariants.{Move}
use Rattle.zair_state.specs.State.{State}
use Rattle.zair_machine.specs.Machine.{Running}
use Rattle.zair_state.specs.Legal.{IsLegal}
use Rattle.zair_state.specs.Result.{after, with_beams}
use Rattle.zair_machine.proofs.Applying.{set_same, kept_so, few_rows_moved, few_columns_moved}
use Rattle.zair_machine.proofs.machine.Machine.move_beams.Goals as goal

pub with_all-requires : goal.with_all-requires
with_all-requires c =
    let s : State = record { places = c.self.inside.places.items; aods = c.self.inside.aods.items } in
    let legal : IsLegal c.self.inside.card.now s (Move c.args.aod c.args.rows.now c.args.columns.now) = subst (λ (r : Running). IsLegal r.card r.state (Move c.args.aod c.args.rows.now c.args.columns.now)) (sym c.self.view_is) c.requires in
    few_rows_moved c.self.inside.card.now s c.args.aod c.args.rows.now c.args.columns.now legal.known
    (c.legal_steps_keep_states_sound.ensures.one s (Move c.args.aod c.args.rows.now c.args.columns.now) c.self.invariant.sound legal)
    (subst (λ (f : Figures). f.rows ≤ 64) c.figures-figures.ensures.figures c.figures-figures.ensures.ranges.rows_most)

pub with_all-requires-2 : goal.with_all-requires-2
with_all-requires-2 c =
    let s : State = record { places = c.self.inside.places.items; aods = c.self.inside.aods.items } in
    let legal : IsLegal c.self.inside.card.now s (Move c.args.aod c.args.rows.now c.args.columns.now) = subst (λ (r : Running). IsLegal r.card r.state (Move c.args.aod c.args.rows.now c.args.columns.now)) (sym c.self.view_is) c.requires in
    few_columns_moved c.self.inside.card.now s c.args.aod c.args.rows.now c.args.columns.now legal.known
    (c.legal_steps_keep_states_sound.ensures.one s (Move c.args.aod c.args.rows.now c.args.columns.now) c.self.invariant.sound legal)
    (subst (λ (f : Figures). f.columns ≤ 64) c.figures-figures.ensures.figures c.figures-figures.ensures.ranges.columns_most)

pub invariant_of-self : goal.invariant_of-self
invariant_of-self c =
    let s : State = record { places = c.self.inside.places.items; aods = c.self.inside.aods.items } in
    let legal : IsLegal c.self.inside.card.now s (Move c.args.aod c.args.rows.now c.args.columns.now) = subst (λ (r : Running). IsLegal r.card r.state (Move c.args.aod c.args.rows.now c.args.columns.now)) (sym c.self.view_is) c.requires in
    kept_so c.self.inside.card.now s _ (after s (Move c.args.aod c.args.rows.now c.args.columns.now)) c.self.inside.in_traps.items c.self.inside.in_traps.items c.self.inside.at_crossings.items c.self.inside.at_crossings.items c.self.invariant
    (c.legal_steps_keep_states_sound.ensures.one s (Move c.args.aod c.args.rows.now c.args.columns.now) c.self.invariant.sound legal)
    refl (length-set s.aods c.args.aod _) refl refl c.self.invariant.traps_told c.self.invariant.crossings_told
    (set_same s c.args.aod s.places s.places c.with_all.result.items (with_beams c.args.rows.now []) c.with_all-2.result.items (with_beams c.args.columns.now []) refl c.with_all.ensures c.with_all-2.ensures)
