use Rattle.std.proofs.Common.{◌≡◌, ◌≢◌, ◌<◌, IsTrue, length, sym, subst}
use Rattle.zac_arch.specs.Distances.{IsFarther}
use Rattle.zair_form.specs.declared.step.Beam.{Beam}
use Rattle.zair_state.specs.State.{State, beams_of, crossing}
use Rattle.zair_machine.specs.Machine.{Running}
use Rattle.zair_machine.proofs.Applying.{read_beams, told_of_aod}
use Rattle.zair_machine.proofs.machine.Machine.is_out_of_reach.Goals as goal

pub returns-else-k-aod : goal.returns-else-k-aod
returns-else-k-aod c =
    let s : State = record { places = c.self.inside.places.items; aods = c.self.inside.aods.items } in
    let known : c.args.k < length s.aods = subst (λ (r : Running). c.args.k < length r.state.aods) (sym c.self.view_is) c.requires in
    let inside = read_beams s c.args.k c.index.result.now known c.index.ensures in
    let here : c.index.result.now ≡ beams_of c.args.self.now.state c.args.k = subst (λ (r : Running). c.index.result.now ≡ beams_of r.state c.args.k) c.self.view_is inside in
    told_of_aod c.index.result.now (beams_of c.args.self.now.state c.args.k) (λ (row column : Beam). IsFarther c.args.reach c.args.p (crossing row column)) (c.args.k ≢ c.args.aod) (IsTrue c.is_far_from.result) here c.is_far_from.ensures c.if-k-aod.false
