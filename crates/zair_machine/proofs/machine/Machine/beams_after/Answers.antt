use Rattle.std.proofs.Common.{◌≡◌, List, [], length, sym, ap, ◌∙◌, subst, arith}
use Rattle.zair_form.specs.declared.step.Beam.{Beam}
use Rattle.zair_state.specs.Result.{with_beams}
use Rattle.zair_state.specs.Faults.{along, active}
use Rattle.zair_state.proofs.BeamLists.{Rising}
use Rattle.zair_machine.proofs.AfterBeams.{few_activated, rising_activated, rising_moved, few_moved}
use Rattle.zair_machine.proofs.machine.Machine.beams_after.Goals as goal

pub with_all-requires : goal.with_all-requires
with_all-requires c =
    let listed : c.along.result.now ≡ along c.args.axis c.in-Activate.rows c.in-Activate.columns = cc in
    let few = few_activated c.args.self.now.card c.args.self.now.state c.most_beams-most.ensures.sound c.most_beams-most.ensures.rows c.most_beams-most.ensures.columns c.args.step.now c.requires c.args.axis c.in-Activate.aod c.in-Activate.rows c.in-Activate.columns c.in-Activate.atoms c.in-Activate.is in
    omega (arith, few, ap length listed, ap length c.active.ensures)

pub with_all-requires-in-Move : goal.with_all-requires-in-Move
with_all-requires-in-Move c =
    let listed : c.along-in-Move.result.now ≡ along c.args.axis c.in-Move.rows c.in-Move.columns = cc in
    omega (arith, few_moved c.args.self.now.card c.args.self.now.state c.most_beams-most.ensures.sound c.most_beams-most.ensures.rows c.most_beams-most.ensures.columns c.args.step.now c.requires c.args.axis c.in-Move.aod c.in-Move.rows c.in-Move.columns c.in-Move.is, ap length listed)

pub returns-in-Activate-clause-rising : goal.returns-in-Activate-clause-rising
returns-in-Activate-clause-rising c =
    let listed : c.along.result.now ≡ along c.args.axis c.in-Activate.rows c.in-Activate.columns = cc in
    let same : with_beams (along c.args.axis c.in-Activate.rows c.in-Activate.columns) (active c.args.self.now.state c.in-Activate.aod c.args.axis) ≡ c.with_all.result.items = sym (c.with_all.ensures ∙ ap (λ (l : List Beam). with_beams l c.active.result.now) listed ∙ ap (λ (l : List Beam). with_beams (along c.args.axis c.in-Activate.rows c.in-Activate.columns) l) c.active.ensures) in
    subst Rising same (rising_activated c.args.self.now.card c.args.self.now.state c.most_beams-most.ensures.sound c.most_beams-most.ensures.rows c.most_beams-most.ensures.columns c.args.step.now c.requires c.args.axis c.in-Activate.aod c.in-Activate.rows c.in-Activate.columns c.in-Activate.atoms c.in-Activate.is)

pub returns-in-Move-clause-rising : goal.returns-in-Move-clause-rising
returns-in-Move-clause-rising c =
    let listed : c.along-in-Move.result.now ≡ along c.args.axis c.in-Move.rows c.in-Move.columns = cc in
    let same : with_beams (along c.args.axis c.in-Move.rows c.in-Move.columns) [] ≡ c.with_all-in-Move.result.items = sym (c.with_all-in-Move.ensures ∙ ap (λ (l : List Beam). with_beams l []) listed) in
    subst Rising same (rising_moved c.args.self.now.card c.args.self.now.state c.most_beams-most.ensures.sound c.most_beams-most.ensures.rows c.most_beams-most.ensures.columns c.args.step.now c.requires c.args.axis c.in-Move.aod c.in-Move.rows c.in-Move.columns c.in-Move.is)
