use Rattle.std.proofs.Common.{◌≡◌, MatchOption, List, subst}
use Rattle.std.specs.List.{Contains}
use Rattle.std.proofs.lemmas.Bool.{false≢true}
use Rattle.zac_arch.specs.declared.place.Point.{Point}
use Rattle.zair_form.specs.declared.step.Beam.{Beam}
use Rattle.zair_state.specs.State.{HasId, beams_of}
use Rattle.zair_state.proofs.Minima.{at_some, at_none}
use Rattle.zair_machine.proofs.Dropping.{trap_not_hanging, hangs_told, hangs_nowhere}
use Rattle.zair_machine.proofs.machine.Machine.hangs_over.Goals as goal

pub returns-in-Trap : goal.returns-in-Trap
returns-in-Trap c =
    (λ t. absurd (false≢true t), λ h. absurd (trap_not_hanging c.args.self.now.card c.args.self.now.state c.args.place _ c.args.trap c.in-Trap.is h))

pub returns-in-Some : goal.returns-in-Some
returns-in-Some c =
    let rows : c.active.result.now ≡ (beams_of c.args.self.now.state c.in-Held.aod).rows = c.active.ensures in
    let columns : c.active-in-Held.result.now ≡ (beams_of c.args.self.now.state c.in-Held.aod).columns = c.active-in-Held.ensures in
    let P : List Beam → List Beam → Type 0 = λ rs cs. MatchOption c.point_of.result (¬ (HasId rs c.in-Held.row × HasId cs c.in-Held.column)) (λ (p : Point). Contains rs (record { id = c.in-Held.row; at = p.y }) × Contains cs (record { id = c.in-Held.column; at = p.x })) in
    let told = subst (λ (rs : List Beam). P rs (beams_of c.args.self.now.state c.in-Held.aod).columns) rows (subst (λ (cs : List Beam). P c.active.result.now cs) columns c.point_of.ensures) in
    let at = at_some (¬ (HasId (beams_of c.args.self.now.state c.in-Held.aod).rows c.in-Held.row × HasId (beams_of c.args.self.now.state c.in-Held.aod).columns c.in-Held.column)) (λ (p : Point). Contains (beams_of c.args.self.now.state c.in-Held.aod).rows (record { id = c.in-Held.row; at = p.y }) × Contains (beams_of c.args.self.now.state c.in-Held.aod).columns (record { id = c.in-Held.column; at = p.x })) c.point_of.result c.in-Some.p c.in-Some.is told in
    hangs_told c.args.self.now.card c.args.self.now.state c.args.place c.args.trap c.in-Held.aod c.in-Held.row c.in-Held.column c.in-Some.p c.stands_at.result c.in-Held.is (c.most_beams-sound.ensures.sound.rows c.in-Held.aod).rising (c.most_beams-sound.ensures.sound.columns c.in-Held.aod).rising at c.stands_at.ensures

pub returns-in-None : goal.returns-in-None
returns-in-None c =
    let rows : c.active.result.now ≡ (beams_of c.args.self.now.state c.in-Held.aod).rows = c.active.ensures in
    let columns : c.active-in-Held.result.now ≡ (beams_of c.args.self.now.state c.in-Held.aod).columns = c.active-in-Held.ensures in
    let P : List Beam → List Beam → Type 0 = λ rs cs. MatchOption c.point_of.result (¬ (HasId rs c.in-Held.row × HasId cs c.in-Held.column)) (λ (p : Point). Contains rs (record { id = c.in-Held.row; at = p.y }) × Contains cs (record { id = c.in-Held.column; at = p.x })) in
    let told = subst (λ (rs : List Beam). P rs (beams_of c.args.self.now.state c.in-Held.aod).columns) rows (subst (λ (cs : List Beam). P c.active.result.now cs) columns c.point_of.ensures) in
    let none = at_none (¬ (HasId (beams_of c.args.self.now.state c.in-Held.aod).rows c.in-Held.row × HasId (beams_of c.args.self.now.state c.in-Held.aod).columns c.in-Held.column)) (λ (p : Point). Contains (beams_of c.args.self.now.state c.in-Held.aod).rows (record { id = c.in-Held.row; at = p.y }) × Contains (beams_of c.args.self.now.state c.in-Held.aod).columns (record { id = c.in-Held.column; at = p.x })) c.point_of.result c.in-None.is told in
    (λ t. absurd (false≢true t), λ h. absurd (hangs_nowhere c.args.self.now.card c.args.self.now.state c.args.place c.args.trap c.in-Held.aod c.in-Held.row c.in-Held.column c.in-Held.is none h))
